use native.Mathlib.Omega.{arith}
use Rattle.std.proofs.lemmas.Result.{err_from_is_err_and}
use Rattle.http1_reader.proofs.Requests.{rest-wrong, rest-stopped, rest-good, rest-bounds}
use Rattle.http1_reader.proofs.request.read_rest.Goals as goal

pub returns-in_err-head : goal.returns-in_err-head
returns-in_err-head c = let p = err_from_is_err_and c.from_residual.result c.from_residual.ensures.1 in rw (p.1, p.2) (rest-wrong c.args.s.now c.args.told c.args.line c.args.section c.in_err-head.ensures)

pub read_content-requires : goal.read_content-requires
read_content-requires c = (c.requires.0, c.requires.1, (rest-bounds c.args.s.now c.args.told c.args.line c.args.section c.in_ok-head.ensures c.requires.5.0 c.requires.5.1 c.requires.5.2).0, c.requires.3, c.requires.4)

pub returns-in_err-content : goal.returns-in_err-content
returns-in_err-content c = let p = err_from_is_err_and c.from_residual-in_err-content.result c.from_residual-in_err-content.ensures.1 in rw (p.1, p.2) (rest-stopped c.args.s.now c.args.told c.args.line c.args.section c.in_ok-head.ensures c.in_err-content.ensures)

pub request_found-requires : goal.request_found-requires
request_found-requires c = (omega (arith, c.requires.2), omega (arith, c.requires.1, (rest-bounds c.args.s.now c.args.told c.args.line c.args.section c.in_ok-head.ensures c.requires.5.0 c.requires.5.1 c.requires.5.2).1))

pub returns : goal.returns
returns c = rw c.request_found.ensures (rest-good c.args.s.now c.args.told c.args.line c.args.section c.in_ok-head.ensures c.in_ok-content.ensures)
