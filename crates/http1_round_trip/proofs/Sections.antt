-- Sections are read back within an allowance.
use mathlib.Core.Path.{◌≡◌, refl, sym, ap}
use mathlib.Core.Bool.{true, false}
use mathlib.Core.List.{List, [], ◌∷◌, ◌++◌, append_assoc, append-nil}
use Prim.Native.Nat.{ℕ, zero, suc, ◌+◌, ◌-◌, ◌≤◌, ◌<◌}
use native.Mathlib.Omega.{arith}
use borrow.Author.Tests.{lt-leb, ne_eqb}
use lib.Dec.{leb}
use lib.ListN.{length, length-append}
use Rattle.octets.specs.Ascii.{ascii}
use Rattle.octets.specs.Text.{is_empty}
use Rattle.octets.specs.Limits.{lines_most}
use Rattle.script.specs.Script.{Script, free}
use Rattle.script.specs.Do.{Reads}
use Rattle.script.proofs.Do.{reads-done, reads_word, reads-tell, reads-bind, before, behind}
use Rattle.messages.specs.Message.{FieldRead}
use Rattle.messages.specs.Meaning.{Field}
use Rattle.http1_lines.specs.Read.{line_within, Lines, field_lines, section}
use Rattle.messages.proofs.Verdicts.{name-rule}
use Rattle.messages.proofs.Stating.{LineOk, LinesOk}
use Rattle.http1_writer.specs.Write.{crlf, field_text, section_text}
use Rattle.http1_round_trip.proofs.Placed.{line_at, lines_at}
use Rattle.http1_round_trip.proofs.Lines.{field_word, field-clean, field-good}

-- the same octets, and the same value, written otherwise
pub reads-from : {A : Type 0} {sc : Script A} {at : ℕ} {x y : List ℕ} {a : A} → y ≡ x → Reads sc at x a → Reads sc at y a
reads-from e h = rw e h

pub reads_as : {A : Type 0} {sc : Script A} {at : ℕ} {x : List ℕ} {a b : A} → a ≡ b → Reads sc at x a → Reads sc at x b
reads_as {sc = sc} {at} {x} {a} {b} e h = rw e at h

-- ---- a section

abbrev lines_to : List FieldRead → ℕ → ℕ → Lines
lines_to fs end left = record { lines = fs; end = end; left = left }

-- what a section within the allowance `left` is read as, behind the lines fs
abbrev pub section_to : ℕ → ℕ → List FieldRead → List Field → Lines
section_to left at fs hs = record { lines = fs ++ lines_at at hs; end = at + length (section_text hs); left = left - length (section_text hs) }

empty : is_empty [] ≡ true
unfolding is_empty
empty = refl

some-line : (f : Field) → LineOk f → is_empty (field_word f) ≡ false
unfolding is_empty
some-line f ok =
    let n = (name-rule f.name ok.name).0 in
    let l1 : length (f.name ++ ascii ": " ++ f.value) ≡ length (f.name ++ ascii ": ") + length f.value = length-append (f.name ++ ascii ": ") f.value in
    let l2 : length (f.name ++ ascii ": ") ≡ length f.name + 2 = length-append f.name (ascii ": ") in
    ne_eqb _ 0 (λ (q : length (field_word f) ≡ 0). omega arith)

reads_lines : (hs : List Field) (f left at : ℕ) (fs : List FieldRead) → LinesOk hs → length hs < f → length fs + length hs ≤ lines_most
    → length (section_text hs) ≤ left → Reads (field_lines f left fs) at (section_text hs) (section_to left at fs hs)
unfolding field_lines section_text lines_at field_text free
reads_lines [] zero left at fs ok h g k = absurd (omega arith)
reads_lines (x ∷ hs) zero left at fs ok h g k = absurd (omega arith)
reads_lines [] (suc f) left at fs ok h g k =
    reads_as (ap (λ (l : List FieldRead). lines_to l (at + 2) (left - 2)) (sym (append-nil fs)))
    (behind _ (reads_word (line_within left) at [] (refl, refl, omega arith)) (rw empty (reads-done _ _)))
reads_lines (x ∷ hs) (suc f) left at fs ok h g k =
    let w : List ℕ = field_word x in
    let s : List ℕ = section_text hs in
    let l1 : length ((w ++ crlf) ++ s) ≡ length (w ++ crlf) + length s = length-append (w ++ crlf) s in
    let l2 : length (w ++ crlf) ≡ length w + 2 = length-append w crlf in
    let l3 : length (fs ++ line_at at x ∷ []) ≡ length fs + 1 = length-append fs (line_at at x ∷ []) in
    let c = field-clean x ok.0 in
    let t : leb lines_most (length fs) ≡ false = lt-leb lines_most (length fs) (omega arith) in
    let ih = reads_lines hs f (left - (length w + 2)) (at + length (w ++ crlf)) (fs ++ line_at at x ∷ []) ok.1 (omega arith) (omega arith) (omega arith) in
    let e1 : (fs ++ line_at at x ∷ []) ++ lines_at (at + length (w ++ crlf)) hs ≡ fs ++ line_at at x ∷ lines_at (at + length (w ++ crlf)) hs =
    append_assoc fs (line_at at x ∷ []) (lines_at (at + length (w ++ crlf)) hs) in
    let e2 : at + length (w ++ crlf) + length s ≡ at + length ((w ++ crlf) ++ s) = omega arith in
    let e3 : left - (length w + 2) - length s ≡ left - length ((w ++ crlf) ++ s) = omega arith in
    let e : lines_to ((fs ++ line_at at x ∷ []) ++ lines_at (at + length (w ++ crlf)) hs) (at + length (w ++ crlf) + length s) (left - (length w + 2) - length s) ≡ section_to left at fs (x ∷ hs) = rw (e1, e2, e3) in
    reads_as e
    (reads-bind _ (reads_word (line_within left) at w (c.lf, c.cr, omega arith))
    (rw (some-line x ok.0, t) (before _ (reads-tell _ _ _ (field-good x ok.0 at)) ih)))

pub reads_section : (hs : List Field) (left at : ℕ) → LinesOk hs → length hs ≤ lines_most → length (section_text hs) ≤ left
    → Reads (section left) at (section_text hs) (section_to left at [] hs)
unfolding section
reads_section hs left at ok g k = reads_lines hs (suc lines_most) left at [] ok (omega arith) (omega arith) k
