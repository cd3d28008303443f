-- Readers of Binary HTTP at a place of the input, by what stands there; and parts, by their outcome.
use Prim.Native.Nat.{ℕ, ◌+◌, ◌-◌, ◌<◌, ◌≤◌}
use mathlib.Core.Path.{◌≡◌, refl, sym, ap, ap₂, subst}
use mathlib.Core.List.{List}
use mathlib.Core.Bool.{true, false}
use native.Mathlib.Omega.{arith}
use borrow.Author.Tests.{lt-ltb, le-ltb}
use lib.Dec.{leb}
use lib.ListN.{length, take, drop, length-drop}
use lib.Seq.{length-take-le, drop-drop}
use Rattle.std.proofs.Common.{Some, None, Result, Ok, Err}
use Rattle.octets.specs.Refusals.{cut_off, too_large, refused_at}
use Rattle.octets.specs.declared.Refused.{Refused}
use Rattle.numbers.specs.Integer.{integer_of, read_int}
use Rattle.numbers.proofs.IntegerLaws.{int-within, int-once}
use Rattle.script.specs.Do.{Piece, piece}
use Rattle.binary.specs.declared.Cursor.{Cursor}
use Rattle.binary.specs.Reader.{Got, got, no, cursor, ◌>>=◌, integer, string}
use Rattle.binary.specs.Read.{part, part_within}
use Rattle.messages.specs.declared.Span.{Span}
use Rattle.binary_parts.specs.Control.{StandsIn, span_of, PartSays, Parted, piece_of, Inside}
use Rattle.binary_parts.specs.declared.PartRead.{PartRead}

-- ---- integers and octets

module _ (s : List ℕ) (c : Cursor) where
  pub integer-cut : (k p : ℕ) → read_int c.at (drop c.at s) ≡ None → integer k p c (drop c.at s) ≡ no k p
  unfolding integer
  integer-cut k p e = rw e

  pub integer-got : (k p : ℕ) {v next long : ℕ} → read_int c.at (drop c.at s) ≡ Some (integer_of v next long)
      → integer k p c (drop c.at s) ≡ got v (cursor next (c.long + long)) (drop next s)
  unfolding integer
  integer-got k p {v} {next} e =
      let z : c.at + (next - c.at) ≡ next = omega (arith, int-within s c.at e) in
      rw (e, drop-drop (next - c.at) c.at s, z)

  -- it is counted once at most, and has at least an octet
  pub integer-few : {v next long : ℕ} → c.long ≤ c.at → read_int c.at (drop c.at s) ≡ Some (integer_of v next long) → c.long + long ≤ next
  integer-few h e = omega (arith, h, int-within s c.at e, int-once c.at (drop c.at s) e)

  pub octets-cut : (n k p : ℕ) → length s - c.at < n → string n k p c (drop c.at s) ≡ no k p
  unfolding string
  octets-cut n k p h = rw (length-drop c.at s, lt-ltb (length s - c.at) n h)

  pub octets-got : (n k p : ℕ) → n ≤ length s - c.at
      → string n k p c (drop c.at s) ≡ got (piece c.at (take n (drop c.at s))) (cursor (c.at + n) c.long) (drop (c.at + n) s)
  unfolding string
  octets-got n k p h = rw (length-drop c.at s, le-ltb (length s - c.at) n h, drop-drop n c.at s)

-- ---- a part, by what was found

pub parted-as : {s : List ℕ} {x y : Got Piece} {r : Result PartRead Refused} → x ≡ y → Parted s y r → Parted s x r
parted-as {s} {r = r} e h = subst (λ (z : Got Piece). Parted s z r) (sym e) h

pub parted-no : {s : List ℕ} {x : Got Piece} {n p : ℕ} {e : Refused} → e ≡ refused_at n p → x ≡ no n p → Parted s x (Err e)
parted-no q h = parted-as h (record { says = rw q })

module _ (s : List ℕ) (at n : ℕ) (h : at + n ≤ length s) where
  pub part_length : length (take n (drop at s)) ≡ n
  part_length = length-take-le n (drop at s) (omega (arith, length-drop at s))

  pub stands-in : StandsIn s (piece at (take n (drop at s)))
  stands-in = record { inside = rw part_length h; taken = rw part_length }

abbrev span-at : ℕ → ℕ → Span
span-at a n = record { start = a; len = n }

-- the span of the piece that a span names
pub span-back : (s : List ℕ) (a : Span) → Inside s a → span_of (piece_of s a) ≡ a
span-back s a h = ap (λ (n : ℕ). span-at a.start n) (part_length s a.start a.len h)

pub parted-found : {s : List ℕ} {x : Got Piece} {q : PartRead} → Inside s q.part → q.end.at ≡ q.part.start + q.part.len → q.end.long ≤ q.end.at
    → x ≡ got (piece_of s q.part) q.end (drop q.end.at s) → Parted s x (Ok q)
parted-found {s} {q = q} h b f e =
    parted-as e
    (record {
      says = (
        ap (λ (a : Span). Ok (record { part = a; end = q.end })) (sym (span-back s q.part h)),
        stands-in s q.part.start q.part.len h,
        rw (part_length s q.part.start q.part.len h) b,
        (omega (arith, h, b), refl, f),
      );
    })

-- a part from the place `at` on
abbrev pub part-is : ℕ → ℕ → ℕ → PartRead
part-is at n long = record { part = record { start = at; len = n }; end = cursor (at + n) long }

module _ (s : List ℕ) (place at n long : ℕ) (within : at ≤ length s) where
  pub octets-short : {e : Refused} → e ≡ refused_at cut_off place → length s - at < n → Parted s (string n cut_off place (cursor at long) (drop at s)) (Err e)
  octets-short q h = parted-no q (octets-cut s (cursor at long) n cut_off place h)

  pub octets-in : long ≤ at → n ≤ length s - at → Parted s (string n cut_off place (cursor at long) (drop at s)) (Ok (part-is at n long))
  octets-in f h = parted-found (omega arith) refl (omega (arith, f)) (octets-got s (cursor at long) n cut_off place h)

-- ---- parts of any size, and within one

module _ (s : List ℕ) (from : Cursor) where
  pub part_cut : {f : Refused} → f ≡ refused_at cut_off from.at → read_int from.at (drop from.at s) ≡ None → Parted s (part from (drop from.at s)) (Err f)
  unfolding part ◌>>=◌
  part_cut q e = parted-no q (rw (integer-cut s from cut_off from.at e))

  pub within-cut : (most : ℕ) {f : Refused} → f ≡ refused_at cut_off from.at → read_int from.at (drop from.at s) ≡ None → Parted s (part_within most from (drop from.at s)) (Err f)
  unfolding part_within ◌>>=◌
  within-cut most q e = parted-no q (rw (integer-cut s from cut_off from.at e))

  module _ {v next long : ℕ} (e : read_int from.at (drop from.at s) ≡ Some (integer_of v next long)) where
    pub part-octets : {r : Result PartRead Refused} → Parted s (string v cut_off from.at (cursor next (from.long + long)) (drop next s)) r → Parted s (part from (drop from.at s)) r
    unfolding part ◌>>=◌
    part-octets h = parted-as (rw (integer-got s from cut_off from.at e)) h

    pub within-octets : (most : ℕ) {r : Result PartRead Refused} → leb v most ≡ true → Parted s (string v cut_off from.at (cursor next (from.long + long)) (drop next s)) r
        → Parted s (part_within most from (drop from.at s)) r
    unfolding part_within ◌>>=◌
    within-octets most g h = parted-as (rw (integer-got s from cut_off from.at e, g)) h

    pub within-large : (most : ℕ) {f : Refused} → f ≡ refused_at too_large from.at → leb v most ≡ false → Parted s (part_within most from (drop from.at s)) (Err f)
    unfolding part_within ◌>>=◌
    within-large most q g = parted-no q (rw (integer-got s from cut_off from.at e, g))

-- ---- what the caller learns

-- a part that was read of s, where the reader answers x
pub record PartDone (s : List ℕ) (x : Got Piece) (q : PartRead) : Type 0 where
  pub taken : x ≡ got (piece_of s q.part) q.end (drop q.end.at s)
  pub inside : Inside s q.part
  pub behind : q.end.at ≡ q.part.start + q.part.len
  pub few : q.end.long ≤ q.end.at

module _ {s : List ℕ} {x : Got Piece} {r : Result PartRead Refused} (h : Parted s x r) where
  pub part_no : {e : Refused} → r ≡ Err e → x ≡ no e.number e.place
  part_no {e} q = go x h.says
    where
      go : (y : Got Piece) → PartSays s y r → y ≡ no e.number e.place
      go (got w i l) d = let f = d.0 in cc
      go (no m k) d = let z : refused_at m k ≡ e = cc in ap (λ (f : Refused). no f.number f.place) z

  pub part-got : {q : PartRead} → r ≡ Ok q → PartDone s x q
  part-got {q} e = go x h.says
    where
      go : (y : Got Piece) → PartSays s y r → PartDone s y q
      go (got w i l) d =
          let f = d.0 in
          let z : ◌≡◌ {A = PartRead} (record { part = span_of w; end = i }) q = cc in
          subst (λ (v : PartRead). PartDone s (got w i l) v) z
          (record {
            taken = ap₂ (λ (t m : List ℕ). got (piece w.place t) i m) d.1.taken d.3.1;
            inside = d.1.inside;
            behind = d.2;
            few = d.3.2;
          })
      go (no m k) d = let z : ◌≡◌ {A = ℕ} 0 1 = cc in absurd (omega arith)

  -- the octets that code takes out of s
  pub part-text : {q : PartRead} → r ≡ Ok q → take (q.end.at - q.part.start) (drop q.part.start s) ≡ (piece_of s q.part).text
  part-text {q} e = let n : q.end.at - q.part.start ≡ q.part.len = omega (arith, (part-got e).behind) in rw n
