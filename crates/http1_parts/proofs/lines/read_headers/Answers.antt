use native.Mathlib.Omega.{arith}
use Rattle.std.proofs.lemmas.Result.{err_from_is_err_and}
use Rattle.http1_parts.proofs.Outcomes.{section-done}
use Rattle.http1_parts.proofs.Headers.{headers-stopped, headers-gathered, headers-done}
use Rattle.http1_parts.proofs.lines.read_headers.Goals as goal

pub returns-in_err-section : goal.returns-in_err-section
returns-in_err-section c = let p = err_from_is_err_and c.from_residual.result c.from_residual.ensures.1 in rw (p.1, p.2) (headers-stopped c.in_err-section.ensures)

pub drop_named-kept-requires : goal.drop_named-kept-requires
drop_named-kept-requires c = let d = section-done c.in_ok-section.ensures in (headers-gathered c.args.s.now c.args.from c.args.allowance c.requires.0 d, omega (arith, c.requires.2, d.stored.fields.altered.size))

pub returns : goal.returns
returns c = headers-done c.args.s.now c.args.from c.args.allowance c.requires.0 (section-done c.in_ok-section.ensures) c.drop_named-kept.ensures
