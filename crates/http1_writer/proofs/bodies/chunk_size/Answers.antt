use native.Mathlib.Omega.{arith}
use mathlib.Core.Path.{sym}
use mathlib.Core.List.{[]}
use Rattle.numbers.proofs.DigitLaws.{count_most}
use Rattle.output.specs.Splice.{part}
use Rattle.output.proofs.Laws.{elements-length}
use Rattle.http1_writer.proofs.Body.{chunk-empty, chunk-some}
use Rattle.http1_writer.proofs.bodies.chunk_size.Goals as goal

pub returns-then-size-eq0 : goal.returns-then-size-eq0
returns-then-size-eq0 c = (sym (chunk-empty (part [] 0 c.args.size) c.args.size (elements-length 0 [] 0 c.args.size) c.if-size-eq0.true).1, omega arith)

pub overflow_add-result : goal.overflow_add-result
overflow_add-result c = omega (arith, c.digit_count.ensures, count_most 16 c.args.size, c.requires)

pub overflow_add-result-2 : goal.overflow_add-result-2
overflow_add-result-2 c = omega (arith, c.digit_count.ensures, count_most 16 c.args.size, c.requires)

pub returns : goal.returns
returns c = (omega (arith, (chunk-some (part [] 0 c.args.size) c.args.size (elements-length 0 [] 0 c.args.size) c.if-size-eq0.false).1, c.digit_count.ensures), omega (arith, c.digit_count.ensures, count_most 16 c.args.size, c.requires))
