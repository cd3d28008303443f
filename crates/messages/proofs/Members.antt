-- The members of a list, as the code steps through them.
use Prim.Native.Nat.{ℕ, suc, ◌+◌, ◌-◌, ◌<◌, ◌≤◌}
use mathlib.Core.Path.{◌≡◌, refl, sym, ap, ap₂, ◌∙◌}
use mathlib.Core.Logic.{⊎_elim}
use mathlib.Core.Bool.{Bool, true, false}
use mathlib.Core.List.{List, [], ◌∷◌, ◌++◌, map}
use native.Mathlib.Nat.{add-sub_cancel_left}
use native.Mathlib.Omega.{arith}
use borrow.Author.Tests.{not-true}
use lib.Dec.{eqb}
use lib.ListN.{length, get_or, take, drop, length-drop, length-take, drop_of_length-le}
use lib.Seq.{take_all, take-take, take-nil, drop-drop, split_at}
use Rattle.octets.specs.Class.{is_blank}
use Rattle.octets.specs.Text.{span_len, all, is_other, lower_of, same_text, trim_back}
use Rattle.octets.proofs.Kit.{and_split, split}
use Rattle.octets.proofs.Texts.{drop-take, other_at, span-within, span-next, all-take-span, span-full, same-sym}
use Rattle.messages.specs.Connection.{comma, members, trimmed_end, trimmed, is_member, any_member, MemberFrom}
use Rattle.messages.specs.declared.Member.{Member}
use Rattle.messages.proofs.Picks.{pick-itself}

-- ---- a member without a comma in it, before a comma and at the end

pub members-on : (w rest : List ℕ) → all (is_other comma) w ≡ true → members (w ++ comma ∷ rest) ≡ w ∷ members rest
unfolding members all is_other
members-on [] rest h = refl
members-on (x ∷ w) rest h =
    let e = and_split (is_other comma x) (all (is_other comma) w) h in
    rw (not-true (eqb x comma) e.0, members-on w rest e.1) refl

pub members-last : (w : List ℕ) → all (is_other comma) w ≡ true → members w ≡ w ∷ []
unfolding members all is_other
members-last [] h = refl
members-last (x ∷ w) h =
    let e = and_split (is_other comma x) (all (is_other comma) w) h in
    rw (not-true (eqb x comma) e.0, members-last w e.1) refl

-- ---- what the code finds from a place on

module _ (v : List ℕ) (from : ℕ) {end : ℕ} (e : end ≡ from + span_len (is_other comma) (drop from v)) (h : end ≤ from + (length v - from)) where
  pub member-past : length v < from → MemberFrom v from (record { start = end; len = 0; end = end })
  unfolding trimmed trimmed_end span_len trim_back
  member-past g =
      let g' : length v ≤ from = omega (arith, g) in
      let d : drop from v ≡ [] = drop_of_length-le v g' in
      record { end = e; text = rw (d, take-nil (end - from)); inside = omega arith; within = h }

  module _ {start : ℕ} (b : start ≡ from + span_len is_blank (drop from (take end v))) where
    bare-part : drop (span_len is_blank (take (end - from) (drop from v))) (take (end - from) (drop from v)) ≡ take (end - start) (drop start v)
    bare-part =
        let k : ℕ = span_len is_blank (take (end - from) (drop from v)) in
        let q : start ≡ from + k = b ∙ ap (λ (w : List ℕ). from + span_len is_blank w) (drop-take from end v) in
        let z : end - from - k ≡ end - start = omega (arith, q) in
        drop-take k (end - from) (drop from v) ∙ ap₂ (λ (a : ℕ) (w : List ℕ). take a w) z (drop-drop k from v ∙ ap (λ (i : ℕ). drop i v) (sym q))

    pub start-before : from ≤ length v → start ≤ end
    start-before g =
        let s = span-within is_blank (drop from (take end v)) in
        let l = length-drop from (take end v) in
        let t = length-take end v in
        omega (arith, b, s, l, t, e, g)

    pub member-found : {len : ℕ} → from ≤ length v → len ≡ trim_back is_blank (take (end - start) (drop start v)) (length (take (end - start) (drop start v)))
        → len ≤ length (take (end - start) (drop start v)) → MemberFrom v from (record { start = start; len = len; end = end })
    unfolding trimmed trimmed_end
    member-found {len} g t l =
        let s = length-take (end - start) (drop start v) in
        let k : len ≤ end - start = omega (arith, l, s) in
        record {
          end = e;
          text = sym (rw (bare-part, ← t) (take-take len (end - start) (drop start v) k));
          inside = omega (arith, k, start-before g);
          within = h;
        }

-- ---- the same by places: m is the member of v from `from` on

module _ {v : List ℕ} {from : ℕ} {m : Member} (f : MemberFrom v from m) where
  size : m.end - from ≡ span_len (is_other comma) (drop from v)
  size = rw f.end (add-sub_cancel_left from (span_len (is_other comma) (drop from v)))

  pub from_on : m.end < length v → members (drop from v) ≡ take (m.end - from) (drop from v) ∷ members (drop (m.end + 1) v)
  from_on h =
      let n : ℕ = span_len (is_other comma) (drop from v) in
      let l = length-drop from v in
      let e = f.end in
      let b : n < length (drop from v) = omega (arith, l, e, h) in
      let c : get_or (drop from v) n 0 ≡ comma = other_at comma (get_or (drop from v) n 0) (span-next (is_other comma) (drop from v) b) in
      let k : from + suc n ≡ m.end + 1 = omega (arith, e) in
      ap members (split_at (drop from v) n 0 b ∙ ap (λ (x : ℕ). take n (drop from v) ++ x ∷ drop (suc n) (drop from v)) c)
      ∙ members-on (take n (drop from v)) (drop (suc n) (drop from v)) (all-take-span (is_other comma) (drop from v))
      ∙ ap₂ (λ (a : ℕ) (w : List ℕ). take a (drop from v) ∷ members w) (sym size) (drop-drop (suc n) from v ∙ ap (λ (i : ℕ). drop i v) k)

  pub from_last : length v ≤ m.end → members (drop from v) ≡ take (m.end - from) (drop from v) ∷ []
  from_last h =
      let w = length-drop from v in
      let g : length (drop from v) ≤ m.end - from = omega (arith, w, h) in
      let b : span_len (is_other comma) (drop from v) ≡ length (drop from v) = omega (arith, w, h, size, span-within (is_other comma) (drop from v)) in
      rw (take_all (m.end - from) (drop from v) g) (members-last (drop from v) (span-full (is_other comma) (drop from v) b))

  -- what a member is compared with
  pub is-member : (n : List ℕ) → is_member n (take (m.end - from) (drop from v)) ≡ same_text (map lower_of (take m.len (drop m.start v))) n
  unfolding is_member
  is-member n = rw f.text

  pub is-named : (n : List ℕ) → is_member (map lower_of n) (take (m.end - from) (drop from v)) ≡ same_text (map lower_of n) (map lower_of (take m.len (drop m.start v)))
  is-named n = is-member (map lower_of n) ∙ same-sym _ _

-- ---- whether one of the members is a name

module _ (n : List ℕ) {v : List ℕ} {from : ℕ} {m : Member} (f : MemberFrom v from m) {w : Bool} (inv : w ≡ any_member n (members (drop from v)))
    {r : Bool} (e : r ≡ same_text (map lower_of (take m.len (drop m.start v))) n) where
  pub any-more : m.end < length v → r ≡ false → w ≡ any_member n (members (drop (m.end + 1) v))
  unfolding any_member
  any-more h t = inv ∙ rw (from_on f h, is-member f n, ← e, t)

  pub any_last : length v ≤ m.end → r ≡ w
  unfolding any_member
  any_last h = sym (inv ∙ rw (from_last f h, is-member f n, ← e) (pick-itself r))

  pub any_found : r ≡ true → true ≡ w
  unfolding any_member
  any_found t = ⊎_elim before (λ (h : length v ≤ m.end). sym t ∙ any_last h) (split m.end (length v))
    where
      before : m.end < length v → true ≡ w
      before h = sym (inv ∙ rw (from_on f h, is-member f n, ← e, t))
