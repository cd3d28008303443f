use Rattle.std.proofs.lemmas.Result.{err_from_is_err_and}
use mathlib.Core.Path.{refl}
use Rattle.binary_reader.proofs.ResponseLaws.{responded-no, responded-final, final-within, final-few}
use Rattle.binary_reader.proofs.response.response_in.Goals as goal

pub returns-in_err-heads : goal.returns-in_err-heads
returns-in_err-heads c = let p = err_from_is_err_and c.from_residual.result c.from_residual.ensures.1 in rw (p.1, p.2) (responded-no c.in_err-heads.ensures c.args.told refl)

pub after_final-requires : goal.after_final-requires
after_final-requires c = (final-within c.in_ok-heads.ensures refl, c.requires.0, c.requires.3, c.requires.4, final-few c.in_ok-heads.ensures refl)

pub returns : goal.returns
returns c = responded-final c.in_ok-heads.ensures refl c.args.told c.after_final.ensures
