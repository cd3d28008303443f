-- A header section: a section of which the fields that its Connection lines name are dropped.
use Rattle.std.proofs.Common.{Ok, Err}
use Prim.Native.Nat.{ℕ, ◌≤◌}
use mathlib.Core.Path.{◌≡◌, sym, ap, ◌∙◌}
use mathlib.Core.Bool.{Bool, true, false}
use mathlib.Core.List.{List}
use native.Mathlib.Omega.{arith}
use lib.ListN.{length, drop}
use Rattle.script.specs.Script.{Answer, accepted, refused, more, run}
use Rattle.messages.specs.declared.Notes.{Notes}
use Rattle.messages.specs.declared.Stop.{Stop}
use Rattle.messages.proofs.Noting.{notes-connections}
use Rattle.http1_lines.specs.Read.{Lines, section}
use Rattle.sound.proofs.Parts.{section-lies}
use Rattle.http1_sound.proofs.Sections.{section-at}
use Rattle.ranges.specs.Connections.{GatheredFacts, LinesGathered, Kept}
use Rattle.http1_parts.specs.Section.{SectionSays, Sectioned}
use Rattle.http1_parts.specs.declared.Section.{Section}
use Rattle.http1_parts.proofs.Turns.{sectioned-as}
use Rattle.http1_parts.proofs.Outcomes.{lines_with, SectionDone}

-- one that was not read to its end
pub headers-stopped : {x : Answer Lines} {host : Bool} {base : ℕ} {o o' : List ℕ} {e : Stop} → Sectioned x false host base o o' (Err e) → Sectioned x true host base o o' (Err e)
headers-stopped {x} {host} {base} {o} {o'} {e} h = record { says = go x h.says }
  where
    go : (y : Answer Lines) → SectionSays y false host base o o' (Err e) → SectionSays y true host base o o' (Err e)
    go (accepted n l) q = let d = q.0 in let z : ◌≡◌ {A = ℕ} 0 1 = cc in absurd (omega arith)
    go (refused n p) q = q
    go more q = q

-- one that was
module _ (s : List ℕ) (from allowance : ℕ) (within : from ≤ length s) {host : Bool} {base : ℕ} {o o₁ : List ℕ} {r : Section}
    (d : SectionDone (run (section allowance) from (drop from s)) false host base o o₁ r) where
  facts : GatheredFacts s host base d.lines r.kept r.notes.connections o o₁
  facts =
      let b = (section-at s allowance from d.place (lines_with d.lines r.end r.left) within d.taken).read.lines in
      record {
        gathered = d.stored;
        fields = sym d.counted;
        lines = sym (ap (λ (n : Notes). n.connections) d.noted ∙ notes-connections true d.lines b.few);
        few = b.few;
        lying = section-lies s d.lines b;
      }

  pub headers-gathered : LinesGathered s base r.kept r.notes.connections o₁
  headers-gathered = (host, d.lines, o, facts)

  pub headers-done : {o₂ : List ℕ} {k : ℕ} → Kept s true base r.kept r.notes.connections o₁ o₂ k
      → Sectioned (run (section allowance) from (drop from s)) true host base o o₂ (Ok (record { end = r.end; left = r.left; kept = k; notes = r.notes }))
  headers-done k = let y = k.by host d.lines o facts in sectioned-as d.taken (rw (y.0, d.noted), y.1)
