-- The next line of a section, read and judged at once: `line_of` (script/specs/Script), then `field_lens` (Lines; 01, "HTTP/1.1 as we take it": line endings,
-- field lines).
use Rattle.std.specs.Prelude.{ℕ, ◌+◌, ◌-◌, ◌≡◌, cond, List, take, drop, None, Option, Some}
use Rattle.octets.specs.Text.{is_empty}
use Rattle.script.specs.Script.{line_of}
use Rattle.script.specs.declared.Line.{Line}
use Rattle.script.specs.declared.Line.TheVariants.{Ends, Bad, Long, More}
use Rattle.http1_lines.specs.Lines.{value_in, field_lens}
use Rattle.http1_lines.specs.declared.FieldLine.{FieldLine}
use Rattle.http1_lines.specs.declared.NextLine.{NextLine}
use Rattle.http1_lines.specs.declared.NextLine.TheVariants as line

-- the name of a field line has n octets, and a colon stands behind it: the rest is the value's; or n is 0, and it is no field line
pub record NameEnds (w : List ℕ) (n : ℕ) : Type 0 where
  pub none : n ≡ 0 → field_lens w ≡ None
  pub some : (n ≡ 0 → ⊥) → field_lens w ≡ value_in w n (n + 1)

-- a field line that ends at the place `next`, or a line that is none
abbrev pub of_field : ℕ → Option FieldLine → NextLine
of_field next (Some f) = line.Field f.name f.value f.len next
of_field next None = line.NoField

-- a line's octets without its CR LF, which end at the place `next`
unfoldable pub line_judged : List ℕ → ℕ → NextLine
line_judged w next = cond (is_empty w) (line.Empty next) (of_field next (field_lens w))

-- the line at the place i of s, by how it ends
abbrev pub on_line : List ℕ → ℕ → Line → NextLine
on_line s i (Ends next) = line_judged (take (next - 2 - i) (drop i s)) next
on_line s i Bad = line.Bad
on_line s i Long = line.Long
on_line s i More = line.More

-- the line at the place i of s, within an allowance
unfoldable pub next_line : List ℕ → ℕ → ℕ → NextLine
next_line s i left = on_line s i (line_of (drop i s) left i 0)
