use mathlib.Core.Path.{sym, ◌∙◌}
use native.Mathlib.Omega.{arith}
use Prim.Native.Nat.{◌-◌}
use Rattle.std.proofs.lemmas.Result.{err_from_is_err_and}
use Rattle.http1_lines.proofs.Judges.{front-count}
use Rattle.script.proofs.Places.{line-within}
use Rattle.octets.specs.Limits.{head_most}
use Rattle.http1_parts.proofs.Stops.{line-found, refusing}
use Rattle.http1_reader.proofs.Requests.{scheme-other, first-stopped, first-wrong, first_rest, first-in}
use Rattle.http1_reader.proofs.RequestHeads.{outcomed-as, outcomed-is, outcomed-stopped}
use Rattle.http1_reader.proofs.request.request_in.Goals as goal

pub returns-in_err-next : goal.returns-in_err-next
returns-in_err-next c = let p = err_from_is_err_and c.from_residual.result c.from_residual.ensures.1 in rw (p.1, p.2) (outcomed-stopped _ (first-stopped c.args.told c.args.s.now (sym c.is_scheme.ensures ∙ c.if-is_scheme.true) c.in_err-next.ensures))

pub overflow_sub-e : goal.overflow_sub-e
overflow_sub-e c = omega (arith, line-within c.args.s.now head_most 0 _ (omega arith) (line-found 0 _ c.in_ok-next.ensures))

pub slice_bounds-request_line-end : goal.slice_bounds-request_line-end
slice_bounds-request_line-end c = front-count c.args.s.now (c.in_ok-next.next - 2) (omega (arith, line-within c.args.s.now head_most 0 _ (omega arith) (line-found 0 _ c.in_ok-next.ensures)))

pub returns-in-Err : goal.returns-in-Err
returns-in-Err c = outcomed-as (first-wrong c.args.told c.args.s.now (sym c.is_scheme.ensures ∙ c.if-is_scheme.true) _ (line-found 0 _ c.in_ok-next.ensures) _ (sym (c.request_line.ensures c.args.t.now.whole) ∙ c.in-Err.is)) (refusing c.at.ensures)

pub read_head-requires : goal.read_head-requires
read_head-requires c = let f = first-in c.args.told.scheme c.args.s.now _ _ (line-found 0 _ c.in_ok-next.ensures) (sym (c.request_line.ensures c.args.t.now.whole) ∙ c.in-Ok.is) in (f.0, f.1, f.2, f.3, c.requires.0, c.requires.1, c.requires.2)

pub returns-in-Ok : goal.returns-in-Ok
returns-in-Ok c = outcomed-is (first_rest c.args.told c.args.s.now (sym c.is_scheme.ensures ∙ c.if-is_scheme.true) _ (line-found 0 _ c.in_ok-next.ensures) _ (sym (c.request_line.ensures c.args.t.now.whole) ∙ c.in-Ok.is)) c.read_head.ensures

pub returns : goal.returns
returns c = outcomed-as (scheme-other c.args.told c.args.s.now (sym c.is_scheme.ensures ∙ c.if-is_scheme.false)) (refusing c.at-2.ensures)
