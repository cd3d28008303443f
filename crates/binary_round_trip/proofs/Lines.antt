-- Field lines and sections are read back.
use mathlib.Core.Path.{◌≡◌, refl, sym, ap}
use mathlib.Core.Bool.{true, false}
use mathlib.Core.List.{List, [], ◌∷◌, ◌++◌, append_assoc, append-nil}
use Prim.Native.Nat.{ℕ, zero, suc, ◌+◌, ◌≤◌, ◌<◌}
use native.Mathlib.Omega.{arith}
use borrow.Author.Tests.{lt-leb, eqb-false, ne_eqb}
use lib.Dec.{leb, eqb}
use lib.ListN.{length, length-append}
use Rattle.octets.specs.Text.{is_empty}
use Rattle.octets.specs.Limits.{lines_most, binary_most}
use Rattle.octets.specs.Refusals.{bad_section}
use Rattle.octets.proofs.Texts.{not-empty}
use Rattle.numbers.specs.Integer.{int_bytes}
use Rattle.script.specs.Do.{piece, good}
use Rattle.messages.specs.Message.{FieldRead}
use Rattle.messages.specs.declared.Kind.TheVariants as kind
use Rattle.messages.specs.Meaning.{Field}
use Rattle.messages.proofs.Verdicts.{name-rule}
use Rattle.messages.proofs.Stating.{LineOk, LinesOk}
use Rattle.binary.specs.Reader.{Got, got, cursor}
use Rattle.binary.specs.Read.{rfc9292, is_line_value, judged_line, after_name_length, known_line, known_lines, on_body, body_lines, known_section, section}
use Rattle.binary_writer.specs.Write.{counted, field_bytes, fields_bytes, section_bytes}
use Rattle.binary_round_trip.specs.RoundTrip.{line_at, lines_at, section_at}
use Rattle.binary_round_trip.proofs.Judgement.{Reads, reads_none, reads-give, reads_here, reads-ended, reads-tell, reads-integer, reads-octets, reads-bind, before, behind, reads_as}
use Rattle.binary_round_trip.proofs.Parts.{reads-part}

-- ---- a line

-- both parts of what is written within a size are within it
pub both-fit : (x y : List ℕ) {n : ℕ} → length (x ++ y) ≤ n → (length x ≤ n) × (length y ≤ n)
both-fit x y h = let l : length (x ++ y) ≡ length x + length y = length-append x y in (omega arith, omega arith)

pub counted-fits : (w : List ℕ) {n : ℕ} → length (counted w) ≤ n → length w ≤ n
unfolding counted
counted-fits w h = (both-fit (int_bytes (length w)) w h).1

line-good : (f : Field) (p i j : ℕ) → LineOk f
    → judged_line (rfc9292 true) p (piece i f.name) (piece j f.value) ≡ good (record { name = piece i f.name; value = piece j f.value; place = p })
unfolding judged_line is_line_value
line-good f p i j ok = rw (ok.name, ok.value)

line-named : (f : Field) → LineOk f → eqb (length f.name) 0 ≡ false
unfolding is_empty
line-named f ok = not-empty f.name (name-rule f.name ok.name).0

reads-line : (f : Field) (at : ℕ) (rest : List ℕ) → LineOk f → length (field_bytes f) ≤ binary_most
    → Reads (known_line (rfc9292 true)) at (field_bytes f) rest (line_at at f)
unfolding known_line after_name_length field_bytes counted
reads-line f at rest ok h =
    let n : List ℕ = f.name in
    let v : List ℕ = f.value in
    let b = both-fit (counted n) (counted v) h in
    let bn = counted-fits n b.0 in
    let bv = counted-fits v b.1 in
    let l : length (int_bytes (length n) ++ n) ≡ length (int_bytes (length n)) + length n = length-append (int_bytes (length n)) n in
    let e : at + length (int_bytes (length n)) + length n ≡ at + length (int_bytes (length n) ++ n) = omega arith in
    rw (append_assoc (int_bytes (length n)) n (int_bytes (length v) ++ v), ← e)
    (before _ (reads_here at _)
    (reads-bind _ (reads-integer bad_section at at (length n) _ (omega arith))
    (rw (line-named f ok)
    (reads-bind _ (reads-octets bad_section at _ n _)
    (before _ (reads_here _ _)
    (reads-bind _ (reads-integer bad_section at _ (length v) _ (omega arith))
    (behind _ (reads-octets bad_section at _ v rest) (reads-tell _ rest _ _ (line-good f at _ _ ok)))))))))

-- ---- the lines of a section

line-some : (f : Field) (s : List ℕ) → eqb (length f.name) 0 ≡ false → is_empty (field_bytes f ++ s) ≡ false
unfolding is_empty field_bytes counted
line-some f s e =
    let n : List ℕ = f.name in
    let z : (length n ≡ 0 → ⊥) = eqb-false (length n) 0 e in
    let l1 : length (field_bytes f ++ s) ≡ length (field_bytes f) + length s = length-append (field_bytes f) s in
    let l2 : length (counted n ++ counted f.value) ≡ length (counted n) + length (counted f.value) = length-append (counted n) (counted f.value) in
    let l3 : length (int_bytes (length n) ++ n) ≡ length (int_bytes (length n)) + length n = length-append (int_bytes (length n)) n in
    ne_eqb _ 0 (λ (q : length (field_bytes f ++ s) ≡ 0). z (omega arith))

none_left : is_empty [] ≡ true
unfolding is_empty
none_left = refl

reads_lines : (hs : List Field) (f at : ℕ) (fs : List FieldRead) → LinesOk hs → length hs < f
    → length fs + length hs ≤ lines_most → length (fields_bytes hs) ≤ binary_most
    → Reads (known_lines (rfc9292 true) f fs) at (fields_bytes hs) [] (fs ++ lines_at at hs)
unfolding known_lines fields_bytes lines_at
reads_lines [] zero at fs v h g k = absurd (omega arith)
reads_lines (x ∷ hs) zero at fs v h g k = absurd (omega arith)
reads_lines [] (suc f) at fs v h g k =
    reads_as (sym (append-nil fs)) (before _ (reads-ended at [] true none_left) (before _ (reads_here at _) (reads-give at [] fs)))
reads_lines (x ∷ hs) (suc f) at fs v h g k =
    let b = both-fit (field_bytes x) (fields_bytes hs) k in
    let l : length (fs ++ line_at at x ∷ []) ≡ length fs + 1 = length-append fs (line_at at x ∷ []) in
    let t : leb lines_most (length fs) ≡ false = lt-leb lines_most (length fs) (omega arith) in
    let ih = reads_lines hs f (at + length (field_bytes x)) (fs ++ line_at at x ∷ []) v.1 (omega arith) (omega arith) b.1 in
    let e : is_empty ((field_bytes x ++ fields_bytes hs) ++ []) ≡ false = rw (append_assoc (field_bytes x) (fields_bytes hs) []) (line-some x _ (line-named x v.0)) in
    reads_as (append_assoc fs (line_at at x ∷ []) (lines_at (at + length (field_bytes x)) hs))
    (before _ (reads-ended at _ false e)
    (before _ (reads_here at _) (rw t (reads-bind _ (reads-line x at _ v.0 b.0) ih))))

-- ---- a section

pub reads_section : (fs : List Field) (at : ℕ) (rest : List ℕ) → LinesOk fs → length fs ≤ lines_most → length (section_bytes fs) ≤ binary_most
    → Reads (section (rfc9292 true)) at (section_bytes fs) rest (record { lines = section_at at fs; end = at + length (section_bytes fs) })
unfolding section known_section body_lines section_bytes
reads_section fs at rest v q h =
    let b = counted-fits (fields_bytes fs) h in
    let at2 : ℕ = at + length (int_bytes (length (fields_bytes fs))) in
    let r = reads_lines fs (suc lines_most) at2 [] v (omega arith) (omega arith) b in
    let e : known_lines (rfc9292 true) (suc lines_most) [] (cursor at2 0) (fields_bytes fs) ≡ got (lines_at at2 fs) (cursor (at2 + length (fields_bytes fs)) 0) [] = rw append-nil at r.go in
    behind _ (behind _ (reads-part at (fields_bytes fs) rest (omega arith)) (reads_none (ap (λ (z : Got (List FieldRead)). on_body z (cursor (at + length (counted (fields_bytes fs))) 0) rest) e)))
    (before _ (reads_here _ _) (reads-give _ rest _))
