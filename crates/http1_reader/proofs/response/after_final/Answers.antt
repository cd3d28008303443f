use Rattle.std.proofs.lemmas.Result.{err_from_is_err_and}
use Rattle.http1_lines.specs.Read.{response_call}
use lib.ListN.{length}
use Rattle.http1_reader.proofs.ResponseLaws.{final-refused, final-within, final-stopped, final-read}
use Rattle.http1_reader.proofs.response.after_final.Goals as goal

pub returns-in_err-body : goal.returns-in_err-body
returns-in_err-body c = let p = err_from_is_err_and c.from_residual.result c.from_residual.ensures.1 in rw (p.1, p.2) (final-refused (response_call c.args.told (length c.args.s.now)) c.args.s.now c.args.heads c.ending_of-ending.ensures c.in_err-body.ensures)

pub read_content-requires : goal.read_content-requires
read_content-requires c = (c.requires.0, c.requires.1, final-within (response_call c.args.told (length c.args.s.now)) c.args.s.now c.args.heads c.ending_of-ending.ensures c.in_ok-body.ensures, c.requires.2, c.requires.3)

pub returns-in_err-content : goal.returns-in_err-content
returns-in_err-content c = let p = err_from_is_err_and c.from_residual-in_err-content.result c.from_residual-in_err-content.ensures.1 in rw (p.1, p.2) (final-stopped (response_call c.args.told (length c.args.s.now)) c.args.s.now c.args.heads c.ending_of-ending.ensures c.in_ok-body.ensures c.in_err-content.ensures)

pub returns : goal.returns
returns c = rw c.response_found.ensures (final-read (response_call c.args.told (length c.args.s.now)) c.args.s.now c.args.heads c.ending_of-ending.ensures c.in_ok-body.ensures c.stated_in-stated.ensures c.in_ok-content.ensures)
