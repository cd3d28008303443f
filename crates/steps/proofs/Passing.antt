-- Octets of content and of chunks, passed over in one go: the same as their steps.
use Prim.Native.Nat.{ℕ, zero, suc, ◌+◌, ◌-◌, ◌<◌, ◌≤◌, min}
use mathlib.Core.Path.{◌≡◌, refl, sym, ap, ◌∙◌, subst}
use mathlib.Core.Bool.{Bool, true, false, cond}
use mathlib.Core.Logic.{◌⊎◌, inl, inr}
use mathlib.Core.List.{List, [], ◌∷◌}
use native.Mathlib.Omega.{arith}
use borrow.Author.Tests.{ne_eqb, le-leb, lt-ltb, leb-true, ltb-true}
use lib.ListN.{length, drop}
use Rattle.octets.specs.Limits.{content_most}
use Rattle.steps.specs.States.{Held, held, reading, is_data, is_counted, SaneData, place_most}
use Rattle.steps.specs.Bodies.{content_octet, data_cr, chunk_octet}
use Rattle.steps.specs.Steps.{data_by, data_taken, taken_by, taken}
use Rattle.steps.specs.Runs.{is_settled, ran_held, ran_count, passed, Passes, MayPass}
use Rattle.steps.specs.declared.Phase.{Phase}
use Rattle.steps.specs.declared.Phase.TheVariants as phase
use Rattle.steps.specs.declared.State.{State}
use Rattle.steps.proofs.Turns.{data_is}

pub sane-data : (st : State) → is_data st.present ≡ true → SaneData st.present
sane-data st e = data_is st.present refl e

data-more : (st : State) (n : ℕ) → is_data st.present ≡ true → st.present.have + n < st.present.left → is_data (passed st n).present ≡ true
unfolding is_data
data-more st n e h =
    let d = sane-data st e in
    rw (le-leb st.present.at place_most d.place, lt-ltb (st.present.have + n) st.present.left h, le-leb st.present.left (content_most + 2) d.size)

counted-more : (st : State) (n : ℕ) → is_counted st ≡ true → is_counted (passed st n) ≡ true
unfolding is_counted
counted-more st n e = e

-- one octet
content-one : (st : State) → (st.present.have + 1 < st.present.left) → content_octet st ≡ passed st 1
unfolding content_octet
content-one st h = rw (ne_eqb (st.present.have + 1) st.present.left (λ e. omega arith))

chunk-one : (st : State) (b : ℕ) → (st.present.have + 1 < st.present.left) → st.present.have < st.tally.size → chunk_octet st b ≡ passed st 1
unfolding chunk_octet data_cr
chunk-one st b h k = rw (ne_eqb (st.present.have + 1) st.present.left (λ e. omega arith), ne_eqb st.present.have st.tally.size (λ e. omega arith))

module _ (room : List ℕ) where
  one : (st : State) (n b : ℕ) → Passes st (suc n) → taken st room b ≡ held (passed st 1) room
  unfolding taken data_taken
  one st n b p = by p.where-is
    where
      taken_is : data_taken st b ≡ data_by st.phase st b
      taken_is = rw (p.data_is, p.counted)

      by : (st.phase ≡ phase.Content) ⊎ ((st.phase ≡ phase.Chunk) × (st.present.have + suc n ≤ st.tally.size)) → taken_by st.phase st room b ≡ held (passed st 1) room
      by (inl e) =
          ap (λ (x : Phase). taken_by x st room b) e
          ∙ ap (λ (z : State). held z room) (taken_is ∙ ap (λ (x : Phase). data_by x st b) e ∙ content-one st (omega (arith, p.short)))
      by (inr e) =
          ap (λ (x : Phase). taken_by x st room b) e.0
          ∙ ap (λ (z : State). held z room) (taken_is ∙ ap (λ (x : Phase). data_by x st b) e.0 ∙ chunk-one st b (omega (arith, p.short)) (omega (arith, e.1)))

  open-still : (st : State) (n : ℕ) → Passes st n → is_settled st.phase ≡ false
  open-still st n p = by p.where-is
    where
      by : (st.phase ≡ phase.Content) ⊎ ((st.phase ≡ phase.Chunk) × (st.present.have + n ≤ st.tally.size)) → is_settled st.phase ≡ false
      by (inl e) = ap is_settled e
      by (inr e) = ap is_settled e.0

  rest : (st : State) (n : ℕ) → Passes st (suc n) → Passes (passed st 1) n
  rest st n p = record {
    data_is = data-more st 1 p.data_is (omega (arith, p.short));
    counted = counted-more st 1 p.counted;
    short = omega (arith, p.short);
    where-is = by p.where-is;
  }
    where
      by : (st.phase ≡ phase.Content) ⊎ ((st.phase ≡ phase.Chunk) × (st.present.have + suc n ≤ st.tally.size))
          → (st.phase ≡ phase.Content) ⊎ ((st.phase ≡ phase.Chunk) × (st.present.have + 1 + n ≤ st.tally.size))
      by (inl e) = inl e
      by (inr e) = inr (e.0, omega (arith, e.1))

  -- all of them
  pub pass_all : (n : ℕ) (st : State) (s : List ℕ) → n ≤ length s → Passes st n
      → (ran_held (held st room) s ≡ ran_held (held (passed st n) room) (drop n s)) × (ran_count (held st room) s ≡ n + ran_count (held (passed st n) room) (drop n s))
  unfolding ran_held ran_count
  pass_all zero st s h p =
      let e : st.present.have + 0 ≡ st.present.have = omega arith in
      (rw e refl, rw e (omega arith))
  pass_all (suc n) st [] h p = absurd (omega arith)
  pass_all (suc n) st (b ∷ s) h p =
      let z : is_settled st.phase ≡ false = open-still st (suc n) p in
      let k : taken st room b ≡ held (passed st 1) room = one st n b p in
      let ih = pass_all n (passed st 1) s (omega arith) (rest st n p) in
      let e : st.present.have + 1 + n ≡ st.present.have + suc n = omega arith in (
        rw (z, k) (ih.0 ∙ ap (λ (i : ℕ). ran_held (held (reading st st.phase (record { at = st.present.at; have = i; left = st.present.left; cr = st.present.cr; from = st.present.from })) room) (drop n s)) e),
        rw (z, k) (ap suc ih.1 ∙ ap (λ (i : ℕ). suc (n + ran_count (held (reading st st.phase (record { at = st.present.at; have = i; left = st.present.left; cr = st.present.cr; from = st.present.from })) room) (drop n s))) e
            ∙ omega arith),
      )

-- ---- as the code counts them

module _ (st : State) (m : ℕ) {x y : Bool} (dx : x ≡ is_data st.present) (hx : x ≡ true) (cy : y ≡ is_counted st) (hy : y ≡ true) where
  pub pass-content : {r k : ℕ} → st.phase ≡ phase.Content → k ≡ st.present.left - st.present.have - 1 → r ≡ min k m → MayPass st m r
  pass-content e p q = record {
    few = omega (arith, q);
    may = λ z. record { data_is = sym dx ∙ hx; counted = sym cy ∙ hy; short = omega (arith, p, q); where-is = inl e };
  }

  pub pass-chunk : {r k : ℕ} → st.phase ≡ phase.Chunk → k ≡ min (st.tally.size - st.present.have) (st.present.left - st.present.have - 1) → r ≡ min k m → MayPass st m r
  pass-chunk e p q = record {
    few = omega (arith, q);
    may = λ z. record { data_is = sym dx ∙ hx; counted = sym cy ∙ hy; short = omega (arith, p, q); where-is = inr (e, omega (arith, p, q)) };
  }

pub pass-none : (st : State) (m : ℕ) → MayPass st m 0
pass-none st m = record { few = omega arith; may = λ z. absurd (z refl) }
