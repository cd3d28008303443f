-- The lines of a section that were taken so far: counted, noted, and stored with the values of Connection lines beside them.
use Rattle.std.proofs.Common.{Result, Ok}
use Prim.Native.Nat.{ℕ, ◌+◌, ◌-◌, ◌*◌, ◌<◌, ◌≤◌}
use mathlib.Core.Path.{◌≡◌, refl, sym, ap, ◌∙◌, subst}
use mathlib.Core.Bool.{Bool, true, false, cond}
use mathlib.Core.List.{List, [], ◌∷◌, ◌++◌}
use native.Mathlib.Omega.{arith}
use lib.ListN.{length, take, drop, length-append, length-drop}
use lib.Seq.{length-take-le}
use Rattle.octets.specs.Limits.{lines_most}
use Rattle.output.specs.Splice.{splice}
use Rattle.output.proofs.Laws.{splice-length}
use Rattle.messages.specs.Message.{FieldRead}
use Rattle.messages.specs.Names.{lines_of, same_kind, end_to_end}
use Rattle.messages.specs.Notes.{is_noted, no_notes, note_of, note_line, notes_of}
use Rattle.messages.specs.declared.Kind.{Kind}
use Rattle.messages.specs.declared.Kind.TheVariants as kind
use Rattle.messages.specs.declared.Notes.{Notes}
use Rattle.messages.specs.declared.Stop.{Stop}
use Rattle.messages.proofs.Noting.{notes-none, notes-more, notes-connections}
use Rattle.ranges.specs.Ranges.{StoredIf, AlteredFrom}
use Rattle.ranges.specs.Connections.{connection_at, Gathered}
use Rattle.ranges.proofs.Gathering.{gathered_none, gathered-more, gathered-unnoted, gathered-count, gathered-room, connection-room}
use Rattle.http1_parts.specs.Section.{FieldRoom, SectionRoom, line_at, LineTaken}
use Rattle.http1_parts.specs.declared.LineRead.{LineRead}
use Rattle.http1_parts.specs.declared.Section.{Section}
use Rattle.http1_parts.proofs.Line.{note-taken, note-passed}

-- the lines fs, taken behind the `base` fields of o, which is o' then: how many they are, how many fields there are with them, what is noted of them
pub record LinesTaken (host : Bool) (base : ℕ) (fs : List FieldRead) (o o' : List ℕ) (lines count : ℕ) (notes : Notes) : Type 0 where
  pub number : length fs ≡ lines
  pub few : lines ≤ lines_most
  pub counted : base + length (end_to_end host fs) ≡ count
  pub noted : notes ≡ notes_of true fs
  pub gathered : Gathered host base fs o o'

pub taken_none : (host : Bool) (base : ℕ) (o : List ℕ) {notes : Notes} → SectionRoom base o → notes ≡ no_notes → LinesTaken host base [] o o 0 base notes
unfolding end_to_end
taken_none host base o room e = record {
  number = refl;
  few = omega arith;
  counted = omega arith;
  noted = e ∙ notes-none true;
  gathered = gathered_none host base o (omega arith);
}

stored-size : {b : Bool} {k r : ℕ} {l o o' : List ℕ} → StoredIf b k l o o' r → length o' ≡ length o
stored-size {b} {k} {r} {l} {o} {o'} h = go b h.stored
  where
    go : (t : Bool) → o' ≡ cond t (splice o (k * 4) l) o → length o' ≡ length o
    go true e = ap length e ∙ splice-length o (k * 4) l
    go false e = ap length e

module _ {host : Bool} {base : ℕ} {fs : List FieldRead} {o o₁ : List ℕ} {lines count : ℕ} {notes : Notes} (h : LinesTaken host base fs o o₁ lines count notes) where
  pub taken-altered : AlteredFrom (base * 4) o o₁
  taken-altered = h.gathered.fields.altered

  connections-are : length (lines_of kind.Connection fs) ≡ notes.connections
  connections-are = sym (ap (λ (n : Notes). n.connections) h.noted ∙ notes-connections true fs (omega (arith, h.number, h.few)))

  -- ---- one line more

  module _ (room : SectionRoom base o) (s : List ℕ) (i n v l : ℕ) (below : lines < lines_most) where
    abbrev line : FieldRead
    line = line_at s i n v l

    fewer : length fs < lines_most
    fewer = omega (arith, h.number)

    pub field_room : FieldRoom count o₁
    field_room = gathered-room host base fs line h.gathered fewer room h.counted

    module _ {o₂ : List ℕ} {r : LineRead} (t : LineTaken line host count o₁ o₂ r) where
      pub taken-room : (notes.connections < lines_most) × SectionRoom base o₂
      taken-room = (
        connection-room host base fs line h.gathered fewer room connections-are,
        omega (arith, room, stored-size t.stored, taken-altered.size),
      )

      with-line : {o₃ : List ℕ} {noted : Notes} → Gathered host base (fs ++ line ∷ []) o o₃ → noted ≡ note_line true notes line
          → LinesTaken host base (fs ++ line ∷ []) o o₃ (lines + 1) r.kept noted
      with-line g e = record {
        number = length-append fs (line ∷ []) ∙ omega (arith, h.number);
        few = omega arith;
        counted = gathered-count host base fs line h.gathered fewer room h.counted t.stored;
        noted = e ∙ ap (λ (x : Notes). note_line true x line) h.noted ∙ sym (notes-more true fs line);
        gathered = g;
      }

      pub taken-noted : {o₃ : List ℕ} {noted : Notes} → v + l ≤ length s
          → o₃ ≡ cond (same_kind r.kind kind.Connection) (splice o₂ (connection_at base notes.connections) (v ∷ l ∷ [])) o₂
          → noted ≡ note_of true notes r.kind i v (take (v + l - v) (drop v s)) → LinesTaken host base (fs ++ line ∷ []) o o₃ (lines + 1) r.kept noted
      taken-noted {o₃} within e q =
          let long : length (take l (drop v s)) ≡ l = length-take-le l (drop v s) (omega (arith, length-drop v s)) in
          with-line
          (gathered-more host base fs line h.gathered fewer room h.counted connections-are t.stored
          (subst (λ (k : Kind). o₃ ≡ cond (same_kind k kind.Connection) (splice o₂ (connection_at base notes.connections) (v ∷ length (take l (drop v s)) ∷ [])) o₂) t.kind (rw long e)))
          (note-taken s i n v l notes t.kind q)

      pub taken-passed : is_noted r.kind ≡ false → LinesTaken host base (fs ++ line ∷ []) o o₂ (lines + 1) r.kept notes
      taken-passed q = with-line
          (gathered-unnoted host base fs line h.gathered fewer room h.counted t.stored (sym (ap is_noted t.kind) ∙ q))
          (note-passed s i n v l notes t.kind q)

  -- ---- no line more

  pub taken-all : {next left rest : ℕ} → left ≡ rest
      → (◌≡◌ {A = Result Section Stop} (Ok (record { end = next; left = left; kept = count; notes = notes })) (Ok (record { end = next; left = rest; kept = base + length (end_to_end host fs); notes = notes_of true fs })))
      × Gathered host base fs o o₁
  taken-all e = (rw (e, h.counted, h.noted), h.gathered)
