-- An entry that stands at a place is a good one, and a good one at the front stands there: `walk-front` and `walk-back` carry the theorems.
use Prim.Native.Nat.{ℕ, zero, suc, ◌+◌, ◌-◌, ◌≤◌, ◌<◌}
use mathlib.Core.Path.{◌≡◌, refl, sym, ap, ◌∙◌}
use mathlib.Core.Bool.{Bool, true, false, cond}
use mathlib.Core.List.{List, [], ◌∷◌, ◌++◌, append_assoc}
use native.Mathlib.Omega.{arith}
use borrow.Author.Tests.{le-leb, eq-eqb, eqb-true, eqb-false}
use lib.Dec.{leb, ltb, eqb}
use lib.ListN.{length, take, drop, length-append, take-append-drop, get_or-append}
use lib.Seq.{length-take-le, take_at, drop_at, take-add}
use Rattle.octets.specs.Limits.{binary_most}
use Rattle.octets.specs.Refusals.{too_large, bad_entry}
use Rattle.octets.specs.Text.{is_empty, same_text}
use Rattle.octets.proofs.Kit.{no_true, either, into}
use Rattle.octets.proofs.Texts.{same-eq, same_refl}
use Rattle.script.specs.Script.{Answer, accepted, refused, more}
use Rattle.messages.specs.Message.{is_response, Message}
use Rattle.messages.specs.Meaning.{Meaning, meaning}
use Rattle.sound.specs.Placed.{Each}
use Rattle.messages.specs.Told.{plain}
use Rattle.binary.specs.Read.{read_binary}
use Rattle.binary_sound.proofs.Sound.{binary-sound}
use Rattle.binary_sound.proofs.Refusals.{binary-refused}
use Rattle.demands.proofs.Demand1.{binary-above}
use Rattle.binary_writer.specs.Write.{binary_of, binary_fits, to_binary}
use Rattle.output.specs.Reply.{writes, refuses}
use Rattle.bundle.specs.Bundle.{word_of, flock_of, kind_of, length_of, is_flock, Entry, entry_octets, entries_octets, read_message, kind_number, is_written, verdict_on, message_verdict, text_of, headed, next_at, Walk, ends_at, follows, entry_at, onward, walk_from}
use Rattle.bundle.specs.declared.Next.{Next}
use Rattle.bundle.specs.declared.Next.TheVariants as next
use Rattle.bundle.proofs.Heads.{next-headed, head-good}
use Rattle.bundle.proofs.Walks.{Stands, stands, word-taken, text-length, walk-entry}
use Rattle.bundle_laws.specs.Reading.{InForm, Fronted}

-- ---- a message of verdict 0

no_zero : {A : Type 0} {n : ℕ} → 0 < n → n ≡ 0 → A
no_zero h e = absurd (omega arith)

-- a message that was read, of this kind, and what its octets are
pub record Judged (kind : ℕ) (w : List ℕ) : Type 0 where
  pub message : Message
  pub read : read_message w ≡ accepted (length w) message
  pub same : kind ≡ kind_number (is_response message.start)
  pub form : w ≡ binary_of (meaning message)

is-written : (x : Meaning) (w : List ℕ) → is_written (to_binary x) w ≡ true → w ≡ binary_of x
unfolding to_binary
is-written x w e = go (binary_fits x) e
  where
    go : (b : Bool) → is_written (cond b (writes (binary_of x)) (refuses too_large 0)) w ≡ true → w ≡ binary_of x
    go true q = sym (same-eq (binary_of x) w q)
    go false q = absurd (no_true q)

fifteen : bad_entry ≡ 0 → ⊥
fifteen e = omega arith

pub verdict-zero : (kind : ℕ) (w : List ℕ) → message_verdict kind w ≡ 0 → Judged kind w
unfolding message_verdict
verdict-zero kind w e = go (read_binary (plain 0) w) refl e
  where
    go : (x : Answer Message) → read_binary (plain 0) w ≡ x → verdict_on kind w x ≡ 0 → Judged kind w
    go (accepted n m) q v =
        let a = into fifteen (eqb kind (kind_number (is_response m.start))) _ v in
        let b = into fifteen (is_written (to_binary (meaning m)) w) _ a.1 in
        let l : n ≡ length w = (binary-sound (plain 0) w n m q).whole in
        record {
          message = m;
          read = q ∙ rw l;
          same = eqb-true kind (kind_number (is_response m.start)) a.0;
          form = is-written (meaning m) w b.0;
        }
    go (refused k p) q v = let h = binary-above (binary-refused (plain 0) w k p q) in no_zero (omega (arith, h)) v
    go more q v = no_zero (omega arith) v

pub zero-verdict : (kind : ℕ) (w : List ℕ) (m : Message) → length w ≤ binary_most → read_message w ≡ accepted (length w) m → kind ≡ kind_number (is_response m.start)
    → w ≡ binary_of (meaning m) → message_verdict kind w ≡ 0
unfolding message_verdict to_binary binary_fits
zero-verdict kind w m h r k f =
    let l : leb (length (binary_of (meaning m))) binary_most ≡ true = le-leb (length (binary_of (meaning m))) binary_most (rw (← f) h) in
    let t : same_text (binary_of (meaning m)) w ≡ true = rw (← f) (same_refl w) in
    ap (verdict_on kind w) r ∙ rw (eq-eqb kind (kind_number (is_response m.start)) k, l, t)

-- ---- an entry that stands at a place is a good one

pub good-entry : (left : ℕ) (s : List ℕ) (w : ℕ) → Stands left s w → InForm (entry_at s w)
good-entry left s w h =
    let j = verdict-zero (kind_of w) (text_of s w) h.good in
    let q : word_of (take 4 s) ≡ w = word-taken s ∙ sym h.word in
    let l = text-length s w h.whole in
    record {
      head = length-take-le 4 s (omega (arith, h.whole));
      flock = rw q h.flock;
      size = rw q l;
      small = rw l h.small;
      message = j.message;
      read = j.read;
      kind = rw q j.same;
      form = j.form;
    }

-- ---- a good one at the front stands there

word-front : (a b : List ℕ) → length a ≡ 4 → word_of (a ++ b) ≡ word_of a
unfolding word_of
word-front a b h =
    rw (
      get_or-append a b 0 0 (omega (arith, h)),
      get_or-append a b 0 1 (omega (arith, h)),
      get_or-append a b 0 2 (omega (arith, h)),
      get_or-append a b 0 3 (omega (arith, h)),
    )

pub kind-two : (b : Bool) → kind_number b < 2
kind-two true = omega arith
kind-two false = omega arith

module _ (e : Entry) (g : InForm e) (r : List ℕ) where
  front : List ℕ
  front = entry_octets e ++ r

  word : ℕ
  word = word_of e.head

  assoc : entry_octets e ++ r ≡ e.head ++ (e.text ++ r)
  assoc = append_assoc e.head e.text r

  pub word-is : word_of (entry_octets e ++ r) ≡ word_of e.head
  word-is = ap word_of assoc ∙ word-front e.head (e.text ++ r) g.head

  pub long : length (entry_octets e) ≡ 4 + length_of (word_of e.head)
  long = length-append e.head e.text ∙ rw (g.head, g.size)

  pub head-is : take 4 (entry_octets e ++ r) ≡ e.head
  head-is = ap (take 4) assoc ∙ take_at e.head (e.text ++ r) 4 g.head

  pub text-is : text_of (entry_octets e ++ r) (word_of e.head) ≡ e.text
  text-is =
      ap (λ (x : List ℕ). take (length_of (word_of e.head)) x) (ap (drop 4) assoc ∙ drop_at e.head (e.text ++ r) 4 g.head)
      ∙ take_at e.text r (length_of (word_of e.head)) g.size

  pub rest-is : drop (4 + length_of (word_of e.head)) (entry_octets e ++ r) ≡ r
  rest-is = drop_at (entry_octets e) r (4 + length_of (word_of e.head)) long

  pub stands-there : (left : ℕ) → 0 < left → next.Entry (word_of e.head) ≡ next_at left (entry_octets e ++ r)
  stands-there left h =
      let s = entry_octets e ++ r in
      let w = word_of e.head in
      let l : length s ≡ 4 + length_of w + length r = length-append (entry_octets e) r ∙ rw long in
      let k : kind_of w < 2 = rw g.kind (kind-two (is_response g.message.start)) in
      let v : message_verdict (kind_of w) (text_of s w) ≡ 0 =
      rw text-is (zero-verdict (kind_of w) e.text g.message g.small g.read g.kind g.form) in
      let z : next.Entry w ≡ headed s w = head-good s w g.flock k (rw (← g.size) g.small) (omega (arith, l)) v in
      next-headed s 0 left (omega (arith, l)) (omega (arith, l)) (λ q. omega (arith, q, h)) (sym word-is) z

-- ---- over entries

abbrev pub prepend : List Entry → Walk → Walk
prepend [] w = w
prepend (e ∷ es) w = follows e (prepend es w)

pub walk-back : (es : List Entry) → Each InForm es → (left at : ℕ) (r : List ℕ) → length es ≤ left
    → walk_from left at (entries_octets es ++ r) ≡ prepend es (walk_from (left - length es) (at + length (entries_octets es)) r)
unfolding entries_octets
walk-back [] g left at r h =
    let a : left - 0 ≡ left = omega arith in
    let b : at + 0 ≡ at = omega arith in
    rw (a, b)
walk-back (e ∷ es) g left at r h =
    let n = 4 + length_of (word_of e.head) in
    let t = entries_octets es ++ r in
    let s : (entry_octets e ++ entries_octets es) ++ r ≡ entry_octets e ++ t = append_assoc (entry_octets e) (entries_octets es) r in
    let q = walk-entry left at (entry_octets e ++ t) (word_of e.head) (stands-there e g.0 t left (omega (arith, h))) in
    let same : entry_at (entry_octets e ++ t) (word_of e.head) ≡ e = rw (head-is e g.0 t, text-is e g.0 t) in
    let i = walk-back es g.1 (left - 1) (at + n) r (omega (arith, h)) in
    let a : left - 1 - length es ≡ left - suc (length es) = omega arith in
    let b : at + n + length (entries_octets es) ≡ at + length (entry_octets e ++ entries_octets es) =
    rw (length-append (entry_octets e) (entries_octets es), long e g.0 []) (omega arith) in
    ap (walk_from left at) s ∙ q ∙ rw (same, rest-is e g.0 t) (ap (follows e) (i ∙ rw (a, b)))

-- ---- what a walk takes off

off : {A : Type 0} {k : ℕ} → 0 < k → next.Stop 0 ≡ next.Stop k → A
off {k = k} h e = let z : 0 ≡ k = cc in absurd (omega arith)

no-entry : {A : Type 0} {w k : ℕ} → next.Stop k ≡ next.Entry w → A
no-entry e = let z : ◌≡◌ {A = ℕ} 0 1 = cc in absurd (omega arith)

no-end : {A : Type 0} {k : ℕ} → next.Stop k ≡ next.End → A
no-end e = let z : ◌≡◌ {A = ℕ} 0 1 = cc in absurd (omega arith)

end-entry : {A : Type 0} {w : ℕ} → next.End ≡ next.Entry w → A
end-entry e = let z : ◌≡◌ {A = ℕ} 0 1 = cc in absurd (omega arith)

-- what stops a walk has a number
stop-some : {A : Type 0} (left : ℕ) (s : List ℕ) → next.Stop 0 ≡ next_at left s → A
unfolding next_at headed
stop-some {A} left s e =
    let P : Next → Type 0 = λ (x : Next). next.Stop 0 ≡ x → A in
    let w = word_of s in
    let v = message_verdict (kind_of w) (text_of s w) in
    either P (is_empty s) _ _ (λ _. no-end)
    (λ _.
    either P (ltb (length s) 4) _ _ (λ _. off (omega arith))
    (λ _.
    either P (eqb left 0) _ _ (λ _. off (omega arith))
    (λ _.
    either P (is_flock (flock_of w)) _ _
    (λ _.
    either P (ltb (kind_of w) 2) _ _
    (λ _.
    either P (leb (length_of w) binary_most) _ _
    (λ _.
    either P (leb (4 + length_of w) (length s)) _ _
    (λ _.
    either P (eqb v 0) (next.Entry w) (next.Stop v) (λ _. no-entry)
    (λ h q. let z : 0 ≡ v = cc in absurd (eqb-false v 0 h (sym z))))
    (λ _. off (omega arith)))
    (λ _. off (omega arith)))
    (λ _. off (omega arith)))
    (λ _. off (omega arith)))))
    e

-- where the octets end there are none
end-empty : (left : ℕ) (s : List ℕ) → next.End ≡ next_at left s → is_empty s ≡ true
unfolding next_at headed
end-empty left s e =
    let P : Next → Type 0 = λ (x : Next). next.End ≡ x → is_empty s ≡ true in
    let w = word_of s in
    let v = message_verdict (kind_of w) (text_of s w) in
    either P (is_empty s) _ _ (λ h _. h)
    (λ _.
    either P (ltb (length s) 4) _ _ (λ _ q. no-end (sym q))
    (λ _.
    either P (eqb left 0) _ _ (λ _ q. no-end (sym q))
    (λ _.
    either P (is_flock (flock_of w)) _ _
    (λ _.
    either P (ltb (kind_of w) 2) _ _
    (λ _.
    either P (leb (length_of w) binary_most) _ _
    (λ _.
    either P (leb (4 + length_of w) (length s)) _ _
    (λ _. either P (eqb v 0) (next.Entry w) (next.Stop v) (λ _. end-entry) (λ _ q. no-end (sym q)))
    (λ _ q. no-end (sym q)))
    (λ _ q. no-end (sym q)))
    (λ _ q. no-end (sym q)))
    (λ _ q. no-end (sym q)))))
    e

empty-is : (s : List ℕ) → is_empty s ≡ true → s ≡ []
unfolding is_empty
empty-is [] e = refl
empty-is (x ∷ s) e = let z = eqb-true (suc (length s)) 0 e in absurd (omega arith)

front-stop : (left at : ℕ) (s : List ℕ) (k : ℕ) → next.Stop k ≡ next_at left s → Fronted (ends_at at k) at s
unfolding entries_octets
front-stop left at s k e =
    record {
      rest = s;
      split = refl;
      place = omega arith;
      good = tt;
      ended = λ z. stop-some left s (ap (λ (x : ℕ). next.Stop x) (sym z) ∙ e);
    }

front-end : (left at : ℕ) (s : List ℕ) → next.End ≡ next_at left s → Fronted (ends_at at 0) at s
unfolding entries_octets
front-end left at s e =
    record {
      rest = s;
      split = refl;
      place = omega arith;
      good = tt;
      ended = λ z. empty-is s (end-empty left s e);
    }

front-entry : (left at : ℕ) (s : List ℕ) (w : ℕ) (x : Walk) → next.Entry w ≡ next_at left s → Fronted x (at + (4 + length_of w)) (drop (4 + length_of w) s)
    → Fronted (follows (entry_at s w) x) at s
unfolding entries_octets
front-entry left at s w x e f =
    let h = stands left s w e in
    let es = entries_octets x.entries in
    let o = entry_octets (entry_at s w) in
    let c : o ≡ take (4 + length_of w) s = sym (take-add 4 (length_of w) s) in
    let l : length o ≡ 4 + length_of w = rw c (length-take-le (4 + length_of w) s h.whole) in
    record {
      rest = f.rest;
      split = sym (take-append-drop (4 + length_of w) s) ∙ rw (f.split, ← c) (sym (append_assoc o es f.rest));
      place = f.place ∙ rw (length-append o es, l) (omega arith);
      good = (good-entry left s w h, f.good);
      ended = f.ended;
    }

pub walk-front : (left at : ℕ) (s : List ℕ) → Fronted (walk_from left at s) at s
unfolding walk_from
walk-front zero at s = go (next_at zero s) refl
  where
    go : (x : Next) → x ≡ next_at zero s → Fronted (onward x at s (λ a r. ends_at a too_large)) at s
    go (next.Entry w) e = let h = (stands zero s w e).some in absurd (omega arith)
    go next.End e = front-end zero at s e
    go (next.Stop k) e = front-stop zero at s k e
walk-front (suc left) at s = go (next_at (suc left) s) refl (walk-front left)
  where
    go : (x : Next) → x ≡ next_at (suc left) s → ((a : ℕ) (r : List ℕ) → Fronted (walk_from left a r) a r) → Fronted (onward x at s (walk_from left)) at s
    go (next.Entry w) e f = front-entry (suc left) at s w (walk_from left (at + (4 + length_of w)) (drop (4 + length_of w) s)) e (f (at + (4 + length_of w)) (drop (4 + length_of w) s))
    go next.End e f = front-end (suc left) at s e
    go (next.Stop k) e f = front-stop (suc left) at s k e
