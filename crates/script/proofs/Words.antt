-- One octet more of a word, as a stepper has it: of a line by its state and the count of its octets, of octets by their count.
use Prim.Native.Nat.{ℕ, zero, suc, ◌+◌, ◌-◌, ◌<◌, ◌≤◌}
use mathlib.Core.Path.{◌≡◌, refl, sym, ap, ◌∙◌}
use mathlib.Core.Bool.{true, cond, not}
use mathlib.Core.List.{List, [], ◌∷◌, ◌++◌, append-nil}
use native.Mathlib.Omega.{arith}
use borrow.Author.Tests.{ne_eqb, not-true, lt-ltb, le-ltb}
use lib.Dec.{eqb}
use lib.ListN.{length, take, drop, length-append, drop_of_length-le}
use lib.Seq.{take-append-le, take_all}
use Rattle.octets.proofs.Kit.{and_split}
use Rattle.script.specs.Script.{a_line, some_octets, Script, need, cr_state, line_of, cut_by, free}
use Rattle.script.specs.declared.Line.TheVariants.{Ends, Bad, Long, More}
use Rattle.script.proofs.Lines.{free-append}
use Rattle.script.specs.Feed.{failed, waits, after, state_from, Open}
use Rattle.script.proofs.Feeding.{after-need}

-- ---- lines

-- a search goes past octets that hold no LF
line-past : (w u : List ℕ) (n at st : ℕ) → free 10 w ≡ true → length w ≤ n → line_of (w ++ u) n at st ≡ line_of u (n - length w) (at + length w) (state_from st w)
unfolding line_of free state_from
line-past [] u n at st c h = let a : at ≡ at + 0 = omega arith in let m : n ≡ n - 0 = omega arith in rw (← a, ← m)
line-past (x ∷ w) u zero at st c h = absurd (omega arith)
line-past (x ∷ w) u (suc n) at st c h =
    let k = and_split (not (eqb x 10)) (free 10 w) c in
    let m : suc n - suc (length w) ≡ n - length w = omega arith in
    let a : at + 1 + length w ≡ at + suc (length w) = omega arith in
    rw (not-true (eqb x 10) k.0, m, ← a) (line-past w u n (at + 1) (cr_state st x) k.1 (omega arith))

state-more : (w : List ℕ) (b st : ℕ) → state_from st (w ++ b ∷ []) ≡ cr_state (state_from st w) b
unfolding state_from
state-more [] b st = refl
state-more (x ∷ w) b st = state-more w b (cr_state st x)

length_more : (w : List ℕ) (b : ℕ) → length (w ++ b ∷ []) ≡ length w + 1
length_more w b = length-append w (b ∷ [])

-- no octet yet
pub open_none : (n : ℕ) → 0 < n → Open n 0 []
unfolding free state_from
open_none n h = record { clear = refl; fits = h; state = refl }

-- an octet that is no LF
pub open_more : (n st b : ℕ) (w : List ℕ) → Open n st w → (b ≡ 10 → ⊥) → length w + 1 < n → Open n (cr_state st b) (w ++ b ∷ [])
unfolding free
open_more n st b w o e h = record {
  clear = free-append 10 w (b ∷ []) o.clear (rw (ne_eqb b 10 e));
  fits = rw (length_more w b) h;
  state = rw (state-more w b 0, o.state);
}

-- an octet that a CR was before
pub open-some : (n : ℕ) (w : List ℕ) → Open n 1 w → 1 ≤ length w
unfolding state_from
open-some n [] o = let z = o.state in absurd (omega arith)
open-some n (x ∷ w) o = omega arith

-- what is known of a line with one octet more
module _ (n at st b : ℕ) (w : List ℕ) (o : Open n st w) where
  line-with : line_of (w ++ b ∷ []) n at 0 ≡ line_of (b ∷ []) (n - length w) (at + length w) st
  line-with = let l = o.fits in line-past w (b ∷ []) n at 0 o.clear (omega arith) ∙ ap (line_of (b ∷ []) (n - length w) (at + length w)) o.state

  line-lf : b ≡ 10 → line_of (w ++ b ∷ []) n at 0 ≡ cond (eqb st 1) (Ends (at + length w + 1)) Bad
  unfolding line_of
  line-lf e = let l = o.fits in let m : n - length w ≡ suc (n - length w - 1) = omega arith in rw (line-with, m, e)

  line-full : (b ≡ 10 → ⊥) → length w + 1 ≡ n → line_of (w ++ b ∷ []) n at 0 ≡ Long
  unfolding line_of
  line-full e h = let m : n - length w ≡ suc zero = omega arith in rw (line-with, m, ne_eqb b 10 e)

line-so-far : (n at st : ℕ) (w : List ℕ) → Open n st w → line_of w n at 0 ≡ More
unfolding line_of
line-so-far n at st w o =
    let l = o.fits in
    let m : n - length w ≡ suc (n - length w - 1) = omega arith in
    ap (λ (s : List ℕ). line_of s n at 0) (sym (append-nil w)) ∙ line-past w [] n at 0 o.clear (omega arith) ∙ rw m

module _ {A : Type 0} (n p q : ℕ) (f : ℕ → List ℕ → Script A) (at : ℕ) where
  -- a line that has no allowance is too long at once; any other is waited for
  pub no_line : n ≡ 0 → after (need (a_line n p q) f) at [] ≡ failed q at
  unfolding cut_by line_of
  no_line h = rw (after-need, h)

  pub line-waits : (st : ℕ) (w : List ℕ) → Open n st w → after (need (a_line n p q) f) at w ≡ waits (a_line n p q) f at w
  unfolding cut_by
  line-waits st w o = rw (after-need, line-so-far n at st w o)

  -- one octet more: no LF, where more may come or not; a LF behind a CR or not
  module _ (st b : ℕ) (w : List ℕ) (o : Open n st w) where
    pub line-goes-on : (b ≡ 10 → ⊥) → length w + 1 < n → after (need (a_line n p q) f) at (w ++ b ∷ []) ≡ waits (a_line n p q) f at (w ++ b ∷ [])
    line-goes-on e h = line-waits (cr_state st b) (w ++ b ∷ []) (open_more n st b w o e h)

    pub line-too-long : (b ≡ 10 → ⊥) → length w + 1 ≡ n → after (need (a_line n p q) f) at (w ++ b ∷ []) ≡ failed q at
    unfolding cut_by
    line-too-long e h = rw (after-need, line-full n at st b w o e h)

    pub line-wrong : b ≡ 10 → (st ≡ 1 → ⊥) → after (need (a_line n p q) f) at (w ++ b ∷ []) ≡ failed p at
    unfolding cut_by
    line-wrong e h = rw (after-need, line-lf n at st b w o e, ne_eqb st 1 h)

    pub line-ends : b ≡ 10 → st ≡ 1 → after (need (a_line n p q) f) at (w ++ b ∷ []) ≡ after (f at (take (length w - 1) w)) (at + length w + 1) []
    unfolding cut_by
    line-ends e h =
        let k : at + length w + 1 - 2 - at ≡ length w - 1 = omega arith in
        let m : at + length w + 1 - at ≡ length w + 1 = omega arith in
        let l : length (w ++ b ∷ []) ≡ length w + 1 = length_more w b in
        let d : drop (length w + 1) (w ++ b ∷ []) ≡ [] = drop_of_length-le (w ++ b ∷ []) {i = length w + 1} (omega arith) in
        rw (after-need, line-lf n at st b w o e, h, k, m, d, take-append-le (length w - 1) w (b ∷ []) (omega arith))

-- ---- octets

module _ {A : Type 0} (n : ℕ) (f : ℕ → List ℕ → Script A) (at : ℕ) (w : List ℕ) where
  pub octets-wait : length w < n → after (need (some_octets n) f) at w ≡ waits (some_octets n) f at w
  unfolding cut_by
  octets-wait h = rw (after-need, lt-ltb (length w) n h)

  -- none at all are in at once
  pub octets-end : length w ≡ n → after (need (some_octets n) f) at w ≡ after (f at w) (at + n) []
  unfolding cut_by
  octets-end h =
      let l : n ≤ length w = omega arith in
      let d : drop n w ≡ [] = drop_of_length-le w {i = n} (omega arith) in
      rw (after-need, le-ltb (length w) n l, take_all n w (omega arith), d)
