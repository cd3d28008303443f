-- A list of calls of the C entry is a list of demand 3's calls.
use Prim.Native.Nat.{ℕ}
use mathlib.Core.Path.{◌≡◌, refl, sym, ap, ◌∙◌}
use mathlib.Core.Bool.{cond}
use mathlib.Core.List.{List, [], ◌∷◌}
use native.Mathlib.Omega.{arith}
use borrow.Author.Tests.{ne_eqb}
use lib.Dec.{eqb}
use lib.ListN.{length}
use Rattle.output.specs.Reply.{written_of, written_number, written_place, Written}
use Rattle.demands.specs.Demand3.{Call, told_of, reply_of, Space, fresh, lent_in, long_of, call, calls}
use Rattle.demands.proofs.Demand1.{demand1}
use Rattle.demands.proofs.Demand3.{demand3}
use Rattle.boundary.specs.Stream.{told_to, Calls, CallsAll, StreamOfEntries}
use Rattle.std.proofs.Common.{Ok, Err}

module _ (scheme former : ℕ) where
  -- where the number is 0 the octets written are the place's
  advances : (z : Space) (c : Call) (w : Written) → written_of (reply_of (told_to scheme former) c) (length (lent_in z)) ≡ w
      → cond (eqb (written_number w) 0) (written_place w) 0 ≡ long_of w
  advances z c (Ok n) e = refl
  advances z c (Err r) e =
      let d = (demand1.binaries_turned (told_of (told_to scheme former) c)).writes c.input (length (lent_in z)) in
      rw (ne_eqb r.number 0 (λ q. let g = d.0 (ap written_number e ∙ q) in let f = g.1 in let y : ◌≡◌ {A = ℕ} 0 1 = cc in absurd (omega arith))) refl

  one-call : (z : Space) (c : Call) (z' : Space) → Calls scheme former z c z' → z' ≡ call (told_to scheme former) z c
  one-call z c z' h =
      let t = told_to scheme former in
      let w : Written = written_of (reply_of t c) (length (lent_in z)) in
      let d = (demand3 t).called z c h.output w (record { answer = refl; after = h.promised.after }) in
      let a = advances z c w refl in
      h.behind ∙ rw (h.promised.answers, h.promised.places, a) (sym d.1)

  all-calls : (z : Space) (cs : List Call) (z' : Space) → CallsAll scheme former z cs z' → z' ≡ calls (told_to scheme former) z cs
  unfolding calls
  all-calls z [] z' h = h
  all-calls z (c ∷ cs) z' h = all-calls h.0 cs z' h.2 ∙ ap (λ (y : Space). calls (told_to scheme former) y cs) (one-call z c h.0 h.1)

pub stream-of-entries : StreamOfEntries
stream-of-entries scheme former o cs z h = all-calls scheme former (fresh o) cs z h
