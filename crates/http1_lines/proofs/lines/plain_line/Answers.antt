use native.Mathlib.Omega.{arith}
use mathlib.Core.Path.{sym, ◌∙◌}
use Rattle.octets.proofs.Texts.{all_in}
use Rattle.http1_lines.proofs.Judges.{value-plain}
use Rattle.http1_lines.proofs.lines.plain_line.Goals as goal

pub returns : goal.returns
returns c = λ h. value-plain c.args.w.now _ _ (omega (arith, c.name_len-n.ensures.0, c.if-n-eq0.false)) (sym (all_in h _ _) ∙ c.requires) c.trimmed.ensures ∙ sym ((c.name_len-n.ensures.1 h).some c.if-n-eq0.false)
