-- The claims on salvage, by `walk-front` and `walk-back`.
use Prim.Native.Nat.{ℕ, ◌+◌, ◌-◌, ◌≤◌, ◌<◌}
use mathlib.Core.Path.{◌≡◌, refl, sym, ap, subst, ◌∙◌}
use mathlib.Core.Bool.{Bool, true, false, cond}
use mathlib.Core.Logic.{◌↔◌}
use mathlib.Core.List.{List, [], ◌∷◌, ◌++◌, append-nil}
use native.Mathlib.Omega.{arith}
use borrow.Author.Tests.{le-leb, lt-leb, leb-true, leb-false, eqb-true, eqb-false}
use lib.Dec.{leb, eqb}
use lib.ListN.{length, take, length-append}
use lib.Seq.{take_all, take-append-le, take-append-add, take-take, take_at, length-take-le}
use Rattle.octets.specs.Ascii.{ascii}
use Rattle.octets.specs.Refusals.{cut_off}
use Rattle.numbers.specs.Places.{push}
use Rattle.numbers.specs.Digits.{char_of, more_of, count_of, digits}
use Rattle.sound.specs.Placed.{Each}
use Rattle.messages.specs.Message.{is_response}
use Rattle.bundle.specs.Bundle.{word_of, kind_of, Entry, entry_octets, entries_octets, next_at, Walk, walk_from, walk, pick_if}
use Rattle.bundle.specs.Salvage.{salvage_of}
use Rattle.bundle.specs.declared.Next.TheVariants as next
use Rattle.bundle.proofs.Heads.{next-end, next-cut, next-headed, head-cut}
use Rattle.bundle.proofs.Walks.{word-taken, walk-stop, walk-end, few-entries}
use Rattle.salvaging.specs.Line.{input_most, salvage_line}
use Rattle.bundle_laws.specs.Reading.{InForm, IsBundle}
use Rattle.bundle_laws.specs.Salvaging.{LongestFront, ended_by, ended_in, KeptBefore, Salvaging}
use Rattle.bundle_laws.proofs.Walks.{kind-two, long, prepend, walk-back, walk-front}
use Rattle.bundle_laws.proofs.Reading.{front, octets-of, back}

-- ---- the longest front

-- what is kept is the octets of the entries that the walk took off
pub kept-octets : (s : List ℕ) → (salvage_of s).octets ≡ entries_octets (walk s).entries
unfolding salvage_of
kept-octets s =
    let f = front s in
    let es = entries_octets (walk s).entries in
    ap (take (walk s).end) f.split ∙ take_at es f.rest (walk s).end (omega (arith, f.place))

pub kept-bundle : (s : List ℕ) → IsBundle (salvage_of s).octets (walk s).entries
kept-bundle s = rw (kept-octets s) (back (walk s).entries (front s).good (few-entries s))

kept-rest : (s : List ℕ) → (salvage_of s).left ≡ length (front s).rest
unfolding salvage_of
kept-rest s =
    let f = front s in
    let l = ap length f.split ∙ length-append (entries_octets (walk s).entries) f.rest in
    omega (arith, l, f.place)

kept-size : (s : List ℕ) → length (salvage_of s).octets ≡ (walk s).end
kept-size s = rw (kept-octets s) (omega (arith, (front s).place))

prepend-end : (es : List Entry) (w : Walk) → (prepend es w).end ≡ w.end
prepend-end [] w = refl
prepend-end (e ∷ es) w = prepend-end es w

pub longest-by : (s f r : List ℕ) → s ≡ f ++ r → (walk f).stop ≡ 0 → length f ≤ length (salvage_of s).octets
unfolding walk
longest-by s f r e z =
    let fs = (walk f).entries in
    let n = 256 - length fs in
    let at = 0 + length (entries_octets fs) in
    let q = walk-back fs (front f).good 256 0 r (few-entries f) in
    let o : f ≡ entries_octets fs = octets-of f z in
    let w : (walk s).end ≡ (walk_from n at r).end =
    ap (λ (x : List ℕ). (walk_from 256 0 x).end) (e ∙ ap (λ (x : List ℕ). x ++ r) o) ∙ ap (λ (x : Walk). x.end) q ∙ prepend-end fs (walk_from n at r) in
    omega (arith, w, (walk-front n at r).place, ap length o, kept-size s)

none_left : (l : List ℕ) → length l ≡ 0 → l ≡ []
none_left [] e = refl
none_left (x ∷ l) e = absurd (omega (arith, e))

stopped_by : (s : List ℕ) → ((salvage_of s).stop ≡ 0) ↔ ((salvage_of s).left ≡ 0)
unfolding salvage_of
stopped_by s = (to, from)
  where
    to : (walk s).stop ≡ 0 → length s - (walk s).end ≡ 0
    to z = let l = ap length ((front s).ended z) in omega (arith, kept-rest s, l)

    from : length s - (walk s).end ≡ 0 → (walk s).stop ≡ 0
    from z =
        let f = front s in
        let n : f.rest ≡ [] = none_left f.rest (sym (kept-rest s) ∙ z) in
        let o : s ≡ entries_octets (walk s).entries = f.split ∙ rw n (append-nil (entries_octets (walk s).entries)) in
        ap (λ (x : List ℕ). (walk x).stop) o ∙ ap (λ (w : Walk). w.stop) (back (walk s).entries f.good (few-entries s))

pub longest : (s : List ℕ) → LongestFront s
unfolding salvage_of
longest s =
    record {
      rest = (front s).rest;
      front = (front s).split ∙ ap (λ (x : List ℕ). x ++ (front s).rest) (sym (kept-octets s));
      left = kept-rest s;
      accepted = kept-bundle s;
      counted = refl;
      longest = longest-by s;
      stopped = stopped_by s;
    }

-- ---- an accepted bundle cut anywhere

-- what stands at the front of an entry that is cut
module _ (e : Entry) (g : InForm e) (c left : ℕ) (h : c < length (entry_octets e)) (some : 0 < left) where
  cut-length : length (take c (entry_octets e)) ≡ c
  cut-length = length-take-le c (entry_octets e) (omega (arith, h))

  cut_word : 4 ≤ c → word_of e.head ≡ word_of (take c (entry_octets e))
  cut_word k =
      sym
      (sym (word-taken (take c (entry_octets e)))
      ∙ ap word_of (take-take 4 c (entry_octets e) k ∙ take_at e.head e.text 4 g.head))

  pub cut-stop : 0 < c → next.Stop cut_off ≡ next_at left (take c (entry_octets e))
  cut-stop p = go (leb 4 c) refl
    where
      s : List ℕ
      s = take c (entry_octets e)

      go : (b : Bool) → leb 4 c ≡ b → next.Stop cut_off ≡ next_at left s
      go true q =
          let k = leb-true 4 c q in
          let w = word_of e.head in
          let d : kind_of w < 2 = rw g.kind (kind-two (is_response g.message.start)) in
          let z = head-cut s w g.flock d (rw (← g.size) g.small) (omega (arith, cut-length, h, long e g [])) in
          next-headed s 0 left (omega (arith, cut-length, p)) (omega (arith, cut-length, k)) (λ x. omega (arith, x, some)) (cut_word k) z
      go false q = next-cut s 0 left (omega (arith, cut-length, p)) (omega (arith, cut-length, leb-false 4 c q))

-- a walk that has these entries, and stops by nothing or by 9
pub record CutTo (w : Walk) (es : List Entry) : Type 0 where
  pub entries : w.entries ≡ es
  pub stop : (w.stop ≡ 0 → ⊥) → w.stop ≡ cut_off

ended-none : (cut at : ℕ) (es : List Entry) → cut < at → ended_by cut at es ≡ []
unfolding ended_by
ended-none cut at [] h = refl
ended-none cut at (e ∷ es) h =
    let n = at + length (entry_octets e) in
    rw (lt-leb n cut (omega (arith, h)), ended-none cut n es (omega (arith, h)))

cut-here : (e : Entry) → InForm e → (left at c : ℕ) → 0 < left → c < length (entry_octets e) → CutTo (walk_from left at (take c (entry_octets e))) []
cut-here e g left at c some h = go (leb c 0) refl
  where
    go : (b : Bool) → leb c 0 ≡ b → CutTo (walk_from left at (take c (entry_octets e))) []
    go true q =
        let s = take c (entry_octets e) in
        let z = walk-end left at s (next-end s 0 left (omega (arith, cut-length e g c left h some, leb-true c 0 q))) in
        rw z (record { entries = refl; stop = λ n. absurd (n refl) })
    go false q =
        let s = take c (entry_octets e) in
        let z = walk-stop left at s cut_off (cut-stop e g c left h some (leb-false c 0 q)) in
        rw z (record { entries = refl; stop = λ n. refl })

pub cut-walk : (es : List Entry) → Each InForm es → (left at c : ℕ) → length es ≤ left
    → CutTo (walk_from left at (take c (entries_octets es))) (ended_by (at + c) at es)
unfolding entries_octets ended_by
cut-walk [] g left at c h =
    let t : take {A = ℕ} c [] ≡ [] = take_all c [] (omega arith) in
    rw (t, walk-end left at [] (next-end [] 0 left (omega arith))) (record { entries = refl; stop = λ n. absurd (n refl) })
cut-walk (e ∷ es) g left at c h =
    go (leb (length (entry_octets e)) c) refl (cut-walk es g.1 (left - 1) (at + length (entry_octets e)) (c - length (entry_octets e)) (omega (arith, h)))
  where
    n : ℕ
    n = length (entry_octets e)

    go : (b : Bool) → leb n c ≡ b → CutTo (walk_from (left - 1) (at + n) (take (c - n) (entries_octets es))) (ended_by (at + n + (c - n)) (at + n) es)
        → CutTo (walk_from left at (take c (entry_octets e ++ entries_octets es))) (pick_if (leb (at + n) (at + c)) e (ended_by (at + c) (at + n) es))
    go true q i =
        let k : n ≤ c = leb-true n c q in
        let d = c - n in
        let s = take d (entries_octets es) in
        let m : c ≡ n + d = omega (arith, k) in
        let t : take c (entry_octets e ++ entries_octets es) ≡ (entry_octets e ++ []) ++ s =
        ap (λ (x : ℕ). take x (entry_octets e ++ entries_octets es)) m ∙ take-append-add (entry_octets e) (entries_octets es) d
        ∙ ap (λ (x : List ℕ). x ++ s) (sym (append-nil (entry_octets e))) in
        let w = walk-back (e ∷ []) (g.0, tt) left at s (omega (arith, h)) in
        let a : at + n + d ≡ at + c = omega (arith, k) in
        let l : length (entry_octets e ++ []) ≡ n = ap length (append-nil (entry_octets e)) in
        let j = rw a at i in
        rw (t, w, l, le-leb (at + n) (at + c) (omega (arith, k))) (record { entries = ap (λ (x : List Entry). e ∷ x) j.entries; stop = j.stop })
    go false q i =
        let k : c < n = leb-false n c q in
        let t = take-append-le c (entry_octets e) (entries_octets es) (omega (arith, k)) in
        rw (t, lt-leb (at + n) (at + c) (omega (arith, k)), ended-none (at + c) (at + n) es (omega (arith, k)))
        (cut-here e g.0 left at c (omega (arith, h)) k)

module _ (b : List ℕ) (c : ℕ) (z : (walk b).stop ≡ 0) where
  cut-to : CutTo (walk (take c b)) (ended_in b c)
  unfolding walk
  cut-to =
      let es = (walk b).entries in
      let i = cut-walk es (front b).good 256 0 c (few-entries b) in
      let a : 0 + c ≡ c = omega arith in
      subst (λ (x : List ℕ). CutTo (walk (take c x)) (ended_in b c)) (sym (octets-of b z)) (rw a at i)

  cut-number : (salvage_of (take c b)).stop ≡ cond (eqb (salvage_of (take c b)).left 0) 0 cut_off
  unfolding salvage_of
  cut-number = go (eqb (salvage_of (take c b)).left 0) refl
    where
      go : (x : Bool) → eqb (salvage_of (take c b)).left 0 ≡ x → (salvage_of (take c b)).stop ≡ cond x 0 cut_off
      go true q = (stopped_by (take c b)).1 (eqb-true (salvage_of (take c b)).left 0 q)
      go false q = cut-to.stop (λ y. eqb-false (salvage_of (take c b)).left 0 q ((stopped_by (take c b)).0 y))

  pub kept-before : KeptBefore b c
  unfolding salvage_of
  kept-before =
      let e = cut-to.entries in
      record {
        octets = kept-octets (take c b) ∙ ap entries_octets e;
        accepted = rw e at (kept-bundle (take c b));
        counted = ap length e;
        stop = cut-number;
      }

-- ---- the line of an input that is too large

line-large : (s : List ℕ) → input_most < length s → salvage_line s ≡ ascii "kept 0 0 left 65536 stop 8\n"
unfolding salvage_line digits count_of more_of push char_of
line-large s h = rw (lt-leb (length s) input_most h)

pub salvaging : Salvaging
salvaging = record { longest = longest; cut = kept-before; large = line-large }
