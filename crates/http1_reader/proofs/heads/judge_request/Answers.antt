use mathlib.Core.Path.{sym, ◌∙◌}
use Rattle.std.proofs.lemmas.Result.{err_from_is_err_and}
use Rattle.http1_reader.proofs.HeadLaws.{answer-host, answer-length, answer-good, judged-host, judged-length, judged-good}
use Rattle.http1_reader.proofs.heads.judge_request.Goals as goal

pub returns-in-None : goal.returns-in-None
returns-in-None c = rw c.at.ensures (record { by = λ q x y lines e lie. judged-host c.args.s.now _ _ lines e lie q x y (sym (c.target_authority-a.ensures c.args.t.now.whole) ∙ c.in-None.is); answer = answer-host _ _ (sym (c.target_authority-a.ensures c.args.t.now.whole) ∙ c.in-None.is) })

pub returns-in_err-body-in-Some : goal.returns-in_err-body-in-Some
returns-in_err-body-in-Some c = let p = err_from_is_err_and c.from_residual.result c.from_residual.ensures.1 in rw (p.1, p.2) (record { by = λ q x y lines e lie. judged-length c.args.s.now _ _ lines e lie q x y (sym (c.target_authority-a.ensures c.args.t.now.whole) ∙ c.in-Some.is) (sym c.in_err-body-in-Some.ensures); answer = answer-length _ (sym (c.target_authority-a.ensures c.args.t.now.whole) ∙ c.in-Some.is) (sym c.in_err-body-in-Some.ensures) })

pub returns-in_ok-body-in-Some : goal.returns-in_ok-body-in-Some
returns-in_ok-body-in-Some c = record { by = λ q x y lines e lie. judged-good c.args.s.now _ _ lines e lie q x y (sym (c.target_authority-a.ensures c.args.t.now.whole) ∙ c.in-Some.is) (sym c.in_ok-body-in-Some.ensures); answer = answer-good _ (sym (c.target_authority-a.ensures c.args.t.now.whole) ∙ c.in-Some.is) (sym c.in_ok-body-in-Some.ensures) }
