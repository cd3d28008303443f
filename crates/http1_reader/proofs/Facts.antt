-- What holds of a section that was read at a place of an input.
use Prim.Native.Nat.{ℕ, ◌+◌, ◌≤◌}
use mathlib.Core.Path.{◌≡◌, ap, ◌∙◌}
use mathlib.Core.Bool.{true}
use mathlib.Core.List.{List, [], ◌∷◌}
use lib.ListN.{length, drop}
use Rattle.octets.specs.Limits.{lines_most}
use Rattle.script.specs.Script.{accepted, run}
use Rattle.messages.specs.Message.{FieldRead}
use Rattle.messages.specs.Names.{closes}
use Rattle.messages.specs.Notes.{notes_of, AllLie}
use Rattle.messages.specs.declared.Notes.{Notes}
use Rattle.messages.proofs.Noting.{notes-closes}
use Rattle.messages.specs.declared.Body.{Body}
use Rattle.messages.specs.declared.Body.TheVariants.{Sized, InChunks, UntilClosed}
use Rattle.http1_lines.specs.Read.{Lines, section}
use Rattle.sound.specs.Placed.{Each}
use Rattle.sound.proofs.Parts.{LineAt}
use Rattle.http1_sound.proofs.Rules.{Fits}
use Rattle.http1_sound.proofs.Sections.{section-at}
use Rattle.http1_parts.specs.Content.{SizedWithin}
use Rattle.http1_parts.proofs.Outcomes.{Ended, section-end}

all_lie : (s : List ℕ) (fs : List FieldRead) → Each (LineAt s) fs → AllLie s fs
all_lie s [] h = tt
all_lie s (f ∷ fs) h = (h.0.lies.value, all_lie s fs h.1)

-- a section that was read from a place on
pub record SectionFacts (s : List ℕ) (from total n : ℕ) (h : Lines) : Type 0 where
  pub ended : Ended total n h
  pub within : n ≤ length s
  pub behind : from ≤ n
  pub few : length h.lines ≤ lines_most
  pub lie : AllLie s h.lines

pub section-facts : (s : List ℕ) (from left n : ℕ) (h : Lines) → from ≤ length s → run (section left) from (drop from s) ≡ accepted n h
    → SectionFacts s from (from + left) n h
section-facts s from left n h g e =
    let b = section-at s left from n h g e in
    record {
      ended = section-end left from (drop from s) e;
      within = b.within;
      behind = b.behind;
      few = b.read.lines.few;
      lie = all_lie s h.lines b.read.lines.lines;
    }

-- whether the sender means to close, by notes
pub closes-noted : (n : Notes) (h : Lines) → n ≡ notes_of true h.lines → n.closes ≡ closes h.lines
closes-noted n h e = ap (λ (n : Notes). n.closes) e ∙ notes-closes true h.lines

-- a body that is within its size
pub fits-within : (b : Body) → Fits b → SizedWithin b
fits-within (Sized n) h = h
fits-within InChunks h = tt
fits-within UntilClosed h = tt
