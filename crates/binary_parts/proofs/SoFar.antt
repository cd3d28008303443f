-- The lines that a section loop has read so far: how many, and what is noted and stored of them.
use Prim.Native.Nat.{ℕ, ◌+◌, ◌-◌, ◌*◌, ◌≤◌, ◌<◌}
use mathlib.Core.Path.{◌≡◌, refl, sym, ap, ◌∙◌}
use mathlib.Core.Bool.{Bool, true, false, cond}
use mathlib.Core.List.{List, [], ◌∷◌, ◌++◌}
use native.Mathlib.Omega.{arith}
use borrow.Author.Tests.{leb-true, leb-false}
use lib.Dec.{leb}
use lib.ListN.{length, take, drop, length-append}
use Rattle.octets.specs.Limits.{lines_most}
use Rattle.output.specs.Splice.{splice}
use Rattle.messages.specs.Message.{FieldRead}
use Rattle.messages.specs.Names.{same_kind, lines_of, end_to_end}
use Rattle.messages.specs.Notes.{is_noted, notes_of, note_of, note_line, no_notes}
use Rattle.messages.specs.Room.{section_room}
use Rattle.messages.specs.declared.Kind.TheVariants as is
use Rattle.messages.specs.declared.Notes.{Notes}
use Rattle.messages.proofs.Noting.{notes-none, notes-more, notes-connections}
use Rattle.ranges.specs.Ranges.{AlteredFrom}
use Rattle.ranges.specs.Connections.{connection_at, Gathered}
use Rattle.ranges.proofs.Gathering.{gathered-few, gathered_none, gathered-more, gathered-unnoted, gathered-count}
use Rattle.binary.specs.Reader.{Got}
use Rattle.binary_parts.specs.declared.LineRead.{LineRead}
use Rattle.binary_parts.proofs.Turns.{NextLine, note-taken, note-passed}

-- behind the `base` entries of o
pub record SoFar (host : Bool) (base : ℕ) (o : List ℕ) (fs : List FieldRead) (l k : ℕ) (n : Notes) (o' : List ℕ) : Type 0 where
  pub lines : length fs ≡ l
  pub most : l ≤ lines_most
  pub count : base + length (end_to_end host fs) ≡ k
  pub notes : n ≡ notes_of false fs
  pub gathered : Gathered host base fs o o'

pub so-far-none : {host : Bool} {base : ℕ} {o : List ℕ} {n : Notes} → base * 4 + section_room ≤ length o → n ≡ no_notes → SoFar host base o [] 0 base n o
unfolding end_to_end
so-far-none {host} {base} {o} r e =
    record { lines = refl; most = omega arith; count = omega arith; notes = e ∙ notes-none false; gathered = gathered_none host base o (omega arith) }

module _ {host : Bool} {base : ℕ} {o : List ℕ} {fs : List FieldRead} {l k : ℕ} {n : Notes} {o' : List ℕ} (g : SoFar host base o fs l k n o') where
  pub so-far-altered : AlteredFrom (base * 4) o o'
  so-far-altered = g.gathered.fields.altered

  -- no line more fits
  pub so-far-full : leb (l + 1) lines_most ≡ false → lines_most ≤ length fs
  so-far-full e = omega (arith, g.lines, leb-false (l + 1) lines_most e)

  -- how many Connection lines there are
  connections : length (lines_of is.Connection fs) ≡ n.connections
  connections = sym (ap (λ (x : Notes). x.connections) g.notes ∙ notes-connections false fs (omega (arith, g.lines, g.most)))

  -- one line more fits
  module _ (fits : leb (l + 1) lines_most ≡ true) where
    pub so-far-less : l < lines_most
    so-far-less = omega (arith, leb-true (l + 1) lines_most fits)

    pub so-far-few : length fs < lines_most
    so-far-few = omega (arith, so-far-less, g.lines)

    module _ (room : base * 4 + section_room ≤ length o) where
      -- there is room for its numbers, and for those of its value
      pub so-far-room : k * 4 + 4 ≤ length o'
      so-far-room = omega (arith, so-far-few, gathered-few host fs, g.count, so-far-altered.size)

      pub so-far-value : n.connections < lines_most
      so-far-value = omega (arith, so-far-few, gathered-few host fs, connections)

      module _ {s : List ℕ} {a : ℕ} {x : Got FieldRead} {o₁ : List ℕ} {q : LineRead} (f : NextLine s a x host k o' o₁ q) where
        -- with the next line, which leaves the notes m and the numbers o₂
        with-line : {m : Notes} {o₂ : List ℕ} → m ≡ note_line false n f.line → Gathered host base (fs ++ f.line ∷ []) o o₂
            → SoFar host base o (fs ++ f.line ∷ []) (l + 1) q.kept m o₂
        with-line e y = record {
          lines = length-append fs (f.line ∷ []) ∙ omega (arith, g.lines);
          most = omega (arith, so-far-less);
          count = gathered-count host base fs f.line g.gathered so-far-few room g.count f.stored;
          notes = e ∙ ap (λ (n : Notes). note_line false n f.line) g.notes ∙ sym (notes-more false fs f.line);
          gathered = y;
        }

        -- of which something is noted
        pub so-far-noted : {m : Notes} {v : ℕ} {o₂ : List ℕ} → v ≡ a + (q.end - q.len)
            → m ≡ note_of false n q.kind q.place v (take (q.end - (q.end - q.len)) (drop (q.end - q.len) s))
            → o₂ ≡ cond (same_kind q.kind is.Connection) (splice o₁ (connection_at base n.connections) (v ∷ q.len ∷ [])) o₁
            → SoFar host base o (fs ++ f.line ∷ []) (l + 1) q.kept m o₂
        so-far-noted e u y = with-line (note-taken f n e u)
            (gathered-more host base fs f.line g.gathered so-far-few room g.count connections f.stored (rw (f.kind-is, e, ← f.value-at, ← f.size) at y))

        -- of which nothing is
        pub so-far-unnoted : is_noted q.kind ≡ false → SoFar host base o (fs ++ f.line ∷ []) (l + 1) q.kept n o₁
        so-far-unnoted u = with-line (note-passed f n u)
            (gathered-unnoted host base fs f.line g.gathered so-far-few room g.count f.stored (rw f.kind-is at u))
