use native.Mathlib.Omega.{arith}
use Rattle.octets.specs.Class.{is_blank}
use Rattle.octets.proofs.Texts.{run-within}
use Rattle.http1_lines.proofs.Judges.{value-trimmed}
use Rattle.http1_lines.proofs.lines.trimmed.Goals as goal

pub slice_bounds-trim_len-count : goal.slice_bounds-trim_len-count
slice_bounds-trim_len-count c = omega (arith, run-within is_blank c.args.w.now c.args.from c.requires)

pub slice_bounds-trim_len-start : goal.slice_bounds-trim_len-start
slice_bounds-trim_len-start c = omega (arith, run-within is_blank c.args.w.now c.args.from c.requires)

pub returns : goal.returns
returns c = search value-trimmed
