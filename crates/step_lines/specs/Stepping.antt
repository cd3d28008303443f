-- A line that comes one octet at a step (02, item 13): what an octet says of it, and for which octets numbers and room stand.
use Rattle.std.specs.Prelude.{ℕ, ◌+◌, ◌-◌, ◌<◌, ◌≤◌, ◌≡◌, Bool, true, false, cond, List, [], ◌∷◌, ltb, eqb, length, take, drop}
use Rattle.octets.specs.Limits.{head_most}
use Rattle.script.specs.Script.{cr_state}
use Rattle.script.specs.Feed.{Open}
use Rattle.step_lines.specs.declared.LineStep.{LineStep}
use Rattle.step_lines.specs.declared.LineStep.TheVariants.{Goes, Whole, Bad, Long}
use Rattle.step_lines.specs.declared.Present.{Present}

-- of a line of at most n octets h are in, and st is what is known of them: one octet b more
unfoldable pub line_step : ℕ → ℕ → ℕ → ℕ → LineStep
line_step h n st b = cond (eqb b 10) (cond (eqb st 1) Whole Bad) (cond (ltb h n) (cond (ltb 1 (n - h)) (Goes (cr_state st b)) Long) Long)

-- the octets of the present line
abbrev pub so_far : Present → List ℕ → List ℕ
so_far l room = take l.have (drop l.from room)

-- the octets of the present line before its CR, when it is whole
abbrev pub line_text : Present → List ℕ → List ℕ
line_text l room = take (l.have - 1) (drop l.from room)

-- a word of at most n octets that begins at the place `at` and stands in the room from f on
abbrev pub fresh : ℕ → ℕ → ℕ → Present
fresh at n f = record { at = at; have = 0; left = n; cr = 0; from = f }

-- one octet more, behind which c is known of the line
abbrev pub one_more : Present → ℕ → Present
one_more l c = record { at = l.at; have = l.have + 1; left = l.left; cr = c; from = l.from }

-- the line behind one that is whole, where the room keeps what stands before f
abbrev pub next_present : Present → ℕ → Present
next_present l f = fresh (l.at + (l.have + 1)) (l.left - (l.have + 1)) f

-- the octets s are in, and the last of them are those of the present line, which is not settled; and there is room for all that may come of it
pub record LineOpen (l : Present) (room s : List ℕ) : Type 0 where
  pub long : length s ≡ l.at + l.have
  pub short : l.have < l.left
  pub line : Open l.left l.cr (so_far l room)
  pub fits : l.from + l.left ≤ head_most
  pub space : head_most ≤ length room
