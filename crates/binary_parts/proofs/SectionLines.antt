-- The lines of a section that was read lie in the input and are not too many.
use Prim.Native.Nat.{ℕ, ◌+◌, ◌≤◌}
use mathlib.Core.Path.{◌≡◌, subst}
use mathlib.Core.List.{List}
use native.Mathlib.Omega.{arith}
use lib.ListN.{length, drop, length-drop}
use Rattle.script.specs.Script.{Lies}
use Rattle.script.proofs.Places.{lies-all, lies-rest}
use Rattle.messages.specs.Message.{Section}
use Rattle.binary.specs.declared.Cursor.{Cursor}
use Rattle.binary.specs.Reader.{Got}
use Rattle.binary.specs.declared.Form.{Form}
use Rattle.binary.specs.Read.{section, header_section}
use Rattle.binary_sound.proofs.Judgement.{Stands, Gets}
use Rattle.binary_sound.proofs.Lines.{LinesAt, every-section, every-header}

-- what was read of s is a section whose lines lie in s and are not too many
abbrev pub InLines : List ℕ → Got Section → Type 0
InLines s x = Gets (λ n k a. Stands s (length s) n k × LinesAt s a.lines) x

module _ (form : Form) (s : List ℕ) (from : Cursor) (w : from.at ≤ length s) (few : from.long ≤ from.at) where
  stands : Stands s (length s) from (drop from.at s)
  stands =
      let o : 0 + from.at ≡ from.at = omega arith in
      record { lies = subst (λ (i : ℕ). Lies s i (drop from.at s)) o (lies-rest from.at w (lies-all s)); ends = omega (arith, length-drop from.at s, w); few = few }

  pub section-lines : InLines s (section form from (drop from.at s))
  section-lines = (every-section {s = s} {e = length s} form).go (drop from.at s) stands

  pub header-lines : InLines s (header_section form from (drop from.at s))
  header-lines = (every-header {s = s} {e = length s} form).go (drop from.at s) stands
