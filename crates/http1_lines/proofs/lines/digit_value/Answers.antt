use borrow.Author.Rules.{rules}
use Rattle.octets.proofs.Kit.{kit}
use Rattle.http1_lines.proofs.Judges.{digit-most}
use Rattle.http1_lines.proofs.lines.digit_value.Goals as goal

pub returns : goal.returns
returns c = (search kit, search (rules, digit-most))
