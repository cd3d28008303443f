use native.Mathlib.Omega.{arith}
use mathlib.Core.Path.{sym}
use Rattle.binary_writer.proofs.Steps.{scheme-http, scheme-https}
use Rattle.binary_writer.proofs.measure.scheme_size.Goals as goal

pub returns-then-scheme-eq0 : goal.returns-then-scheme-eq0
returns-then-scheme-eq0 c = (sym (scheme-http _ c.if-scheme-eq0.true), omega arith)

pub returns : goal.returns
returns c = (sym (scheme-https _ c.if-scheme-eq0.false), omega arith)
