-- The rest of a line behind its name length, as the code reads it, and what a caller learns of a line.
use Prim.Native.Nat.{ℕ, ◌+◌, ◌-◌, ◌<◌, ◌≤◌}
use mathlib.Core.Path.{◌≡◌, refl, sym, subst}
use mathlib.Core.List.{List}
use mathlib.Core.Bool.{Bool, true, false, cond}
use native.Mathlib.Omega.{arith}
use lib.ListN.{length, take, drop, length-take, length-drop}
use lib.Seq.{length-take-le}
use Rattle.std.proofs.Common.{Some, None, Result, Err}
use Rattle.octets.specs.Refusals.{bad_syntax, refused_at}
use Rattle.octets.specs.declared.Refused.{Refused}
use Rattle.numbers.specs.Integer.{integer_of, read_int}
use Rattle.numbers.proofs.IntegerLaws.{int-within, int-once}
use Rattle.script.specs.Do.{Piece, piece, Judged, good, wrong}
use Rattle.messages.specs.Message.{FieldRead}
use Rattle.messages.specs.Control.{is_lower_name}
use Rattle.binary.specs.Reader.{Got, no, cursor, ◌>>=◌, tell}
use Rattle.binary.specs.declared.Form.{Form}
use Rattle.binary.specs.Read.{is_line_value, judged_line, cut_number, cut_place, after_name_length}
use Rattle.binary_parts.specs.Section.{JudgedSays, JudgedLine, EndsAt, LineSays, Lined}
use Rattle.binary_parts.specs.declared.LineRead.{LineRead}
use Rattle.binary_parts.proofs.Steps.{integer-cut, integer-in, octets-cut, octets-in}

-- ---- the value of a line

-- the judged line, where it is good, has the value v
abbrev OfValue : Piece → Judged FieldRead → Type 0
OfValue v (good f) = f.value ≡ v
OfValue v (wrong x p) = Unit {0}

line-value : (form : Form) (p : ℕ) (w v : Piece) → OfValue v (judged_line form p w v)
unfolding judged_line
line-value form p w v = go (is_lower_name w.text) (is_line_value form v.text)
  where
    go : (x y : Bool) → OfValue v (cond x (cond y (good (record { name = w; value = v; place = p })) (wrong bad_syntax p)) (wrong bad_syntax p))
    go true true = refl
    go true false = tt
    go false y = tt

value-ends : (s : List ℕ) (a next len : ℕ) → next + len ≤ length s → EndsAt s a (next + len) (piece (a + next) (take len (drop next s)))
value-ends s a next len h =
    let y : length (take len (drop next s)) ≡ len = length-take-le len (drop next s) (omega (arith, length-drop next s)) in
    let z : next + len - len ≡ next = omega arith in
    record { long = omega (arith, y); place = rw (y, z); text = rw (y, z) }

-- ---- what a line promises

module _ {s : List ℕ} {a : ℕ} {host : Bool} {k : ℕ} {o o' : List ℕ} {r : Result LineRead Refused} where
  -- an answer that equals another promises the same
  pub lined-as : {x y : Got FieldRead} → x ≡ y → Lined s a y host k o o' r → Lined s a x host k o o' r
  lined-as {x} {y} e h = record { says = subst (λ (z : Got FieldRead). LineSays s a z host k o o' r) (sym e) h.says }

  -- a line that was judged, read up to `end`
  lined-judged : (form : Form) (p : ℕ) (w v : Piece) {end : ℕ} → end ≤ length s → EndsAt s a end v → {long : ℕ} → long ≤ a + end → JudgedLine (judged_line form p w v) end host k long o o' r
      → Lined s a (tell (judged_line form p w v) (cursor (a + end) long) (drop end s)) host k o o' r
  lined-judged form p w v {end} b u {long} few h = record { says = go (judged_line form p w v) (line-value form p w v) h.says }
    where
      go : (j : Judged FieldRead) → OfValue v j → JudgedSays j end host k long o o' r → LineSays s a (tell j (cursor (a + end) long) (drop end s)) host k o o' r
      go (good f) e q = (end, q.0, q.1, q.2, subst (EndsAt s a end) (sym e) u, refl, b, refl, few)
      go (wrong x p) e q = q

-- a refusal, with nothing stored
pub lined-no : {s : List ℕ} {a : ℕ} {host : Bool} {k : ℕ} {o : List ℕ} {x : Got FieldRead} {number place : ℕ} {f : Refused} → x ≡ no number place → f ≡ refused_at number place
    → Lined s a x host k o o (Err f)
lined-no {number = number} {place = place} e h = lined-as {y = no number place} e (record { says = (rw h, refl) })

-- the part from i to e is no longer than that
pub part-short : (s : List ℕ) (i e : ℕ) → length (take (e - i) (drop i s)) ≤ e - i
part-short s i e = simp (length-take) (omega arith)

module _ (form : Form) (p a : ℕ) (s : List ℕ) (at n c : ℕ) where
  pub rest-name-cut : length s - at < n → after_name_length form p n (cursor (a + at) c) (drop at s) ≡ no (cut_number form) p
  unfolding after_name_length ◌>>=◌
  rest-name-cut h = rw (octets-cut a s at c (cut_number form) p n h)

  module _ (h : n ≤ length s - at) where
    pub rest-length-cut : read_int (at + n) (drop (at + n) s) ≡ None
        → after_name_length form p n (cursor (a + at) c) (drop at s) ≡ no (cut_number form) (cut_place form p (a + (at + n)))
    unfolding after_name_length ◌>>=◌
    rest-length-cut e =
        rw (octets-in a s at c (cut_number form) p n h, integer-cut a s (at + n) c (cut_number form) (cut_place form p (a + (at + n))) e)

    module _ {len next l : ℕ} (e : read_int (at + n) (drop (at + n) s) ≡ Some (integer_of len next l)) where
      pub rest-value-cut : length s - next < len → after_name_length form p n (cursor (a + at) c) (drop at s) ≡ no (cut_number form) (cut_place form p (a + (at + n)))
      unfolding after_name_length ◌>>=◌
      rest-value-cut g =
          let k = cut_number form in
          let q = cut_place form p (a + (at + n)) in
          rw (octets-in a s at c k p n h, integer-in a s (at + n) c k q e, octets-cut a s next (c + l) k q len g)

      pub rest_in : len ≤ length s - next
          → after_name_length form p n (cursor (a + at) c) (drop at s)
          ≡ tell (judged_line form p (piece (a + at) (take n (drop at s))) (piece (a + next) (take len (drop next s)))) (cursor (a + (next + len)) (c + l)) (drop (next + len) s)
      unfolding after_name_length ◌>>=◌
      rest_in g =
          let k = cut_number form in
          let q = cut_place form p (a + (at + n)) in
          rw (octets-in a s at c k p n h, integer-in a s (at + n) c k q e, octets-in a s next (c + l) k q len g)

      -- both halves are in
      pub rest-judged : {host : Bool} {k : ℕ} {o o' : List ℕ} {r : Result LineRead Refused} → c ≤ a + at → len ≤ length s - next
          → JudgedLine (judged_line form p (piece (a + at) (take (at + n - at) (drop at s))) (piece (a + next) (take (next + len - next) (drop next s)))) (next + len) host k (c + l) o o' r
          → Lined s a (after_name_length form p n (cursor (a + at) c) (drop at s)) host k o o' r
      rest-judged {host} {k} {o} {o'} {r} f g j =
          let x : at + n - at ≡ n = omega arith in
          let y : next + len - next ≡ len = omega arith in
          let b : next + len ≤ length s = omega (arith, int-within s (at + n) e) in
          let i : JudgedLine (judged_line form p (piece (a + at) (take n (drop at s))) (piece (a + next) (take len (drop next s)))) (next + len) host k (c + l) o o' r = rw (x, y) at j in
          lined-as (rest_in g)
          (lined-judged form p _ _ b (value-ends s a next len b) (omega (arith, f, int-within s (at + n) e, int-once (at + n) (drop (at + n) s) e)) i)
