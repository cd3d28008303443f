use Rattle.std.proofs.lemmas.Result.{err_from_is_err_and}
use Rattle.http1_reader.proofs.ResponseLaws.{responded-stopped, responded-final}
use Rattle.http1_reader.proofs.response.response_in.Goals as goal

pub returns-in_err-heads : goal.returns-in_err-heads
returns-in_err-heads c = let p = err_from_is_err_and c.from_residual.result c.from_residual.ensures.1 in rw (p.1, p.2) (responded-stopped c.args.told c.in_err-heads.ensures)

pub returns : goal.returns
returns c = responded-final c.args.told c.in_ok-heads.ensures c.after_final.ensures
