-- Readers of one whole input: each takes what it reads off the front of what is left, and knows its place and how many integers were not in their shortest form (01,
-- "Binary HTTP as we take it"; integers and strings that are cut off: "Numbers a call answers with"; 02, item 8).
use Rattle.std.specs.Prelude.{ℕ, ◌+◌, ◌-◌, Bool, cond, List, ltb, eqb, length, take, drop, Ok, Err, Option, Some, None}
use Rattle.octets.specs.Text.{is_empty}
use Rattle.numbers.specs.Integer.{read_int}
use Rattle.numbers.specs.declared.Integer.{Integer}
use Rattle.binary.specs.declared.Cursor.{Cursor}
use Rattle.octets.specs.Refusals.{refusal_number}
use Rattle.messages.specs.Control.{Verdict}
use Rattle.script.specs.Do.{Piece, piece, Judged, good, wrong}

-- a place, and how many integers before it are not in their shortest form
abbrev pub cursor : ℕ → ℕ → Cursor
cursor at long = record { at = at; long = long }

-- what a reader answers
pub data Got (A : Type 0) : Type 0 where
  -- what was read, how far the reader has come, and what is left there
  got : A → Cursor → List ℕ → Got A
  -- a refusal: its number and its place
  no : ℕ → ℕ → Got A

-- from how far the readers before it have come, and what is left there
abbrev pub Reader : Type 0 → Type 0
Reader A = Cursor → List ℕ → Got A

-- what was read is handed on; a refusal stays
abbrev pub on_got : {A B : Type 0} → Got A → (A → Reader B) → Got B
on_got (got a c s) k = k a c s
on_got (no n p) k = no n p

-- the first reader, then what its value asks for
infixl 20 ◌>>=◌
unfoldable pub ◌>>=◌ : {A B : Type 0} → Reader A → (A → Reader B) → Reader B
◌>>=◌ r k c s = on_got (r c s) k

-- a value; nothing is read
abbrev pub give : {A : Type 0} → A → Reader A
give a c s = got a c s

-- a refusal with a number at a place
abbrev pub refuse : {A : Type 0} → ℕ → ℕ → Reader A
refuse n p c s = no n p

-- the present place
abbrev pub here : Reader ℕ
here c s = got c.at c s

-- how many integers so far are not in their shortest form
abbrev pub longs : Reader ℕ
longs c s = got c.long c s

-- whether nothing is left
abbrev pub ended : Reader Bool
ended c s = got (is_empty s) c s

-- a rule's answer, or its refusal
abbrev pub tell : {X : Type 0} → Judged X → Reader X
tell (good x) c s = got x c s
tell (wrong n p) c s = no n p

-- a rule by its verdict: good, or a refusal at the place p
abbrev pub rule : {X : Type 0} → Verdict → ℕ → X → Judged X
rule (Ok u) p x = good x
rule (Err r) p x = wrong (refusal_number r) p

-- the integer's value, behind which the reading goes on, and it is counted where it is long; one that is cut off is refused with a number at the place p
abbrev pub on_integer : ℕ → ℕ → Cursor → List ℕ → Option Integer → Got ℕ
on_integer k p c s (Some i) = got i.value (cursor i.next (c.long + i.long)) (drop (i.next - c.at) s)
on_integer k p c s None = no k p

-- the integer at the present place, of any length
unfoldable pub integer : ℕ → ℕ → Reader ℕ
integer k p c s = on_integer k p c s (read_int c.at s)

-- n octets; where fewer are left they are refused with a number at the place p
unfoldable pub string : ℕ → ℕ → ℕ → Reader Piece
string n k p c s = cond (ltb (length s) n) (no k p) (got (piece c.at (take n s)) (cursor (c.at + n) c.long) (drop n s))
