-- The fields of a section in lent ranges while it is read, with the values of its Connection lines beside them, and what is left of them when those that are named
-- are dropped (02, item 3). The numbers of fields go up from the section's start; those of Connection values go down from its end: two for each, where a field
-- would take four, so they never meet.
use Rattle.std.specs.Prelude.{ℕ, zero, suc, ◌+◌, ◌-◌, ◌*◌, ◌≤◌, ◌<◌, ◌≡◌, Bool, cond, List, [], ◌∷◌, map, length, get_or, drop}
use Rattle.octets.specs.Limits.{lines_most}
use Rattle.octets.specs.Text.{lower_of, same_text}
use Rattle.output.specs.Splice.{part}
use Rattle.messages.specs.Message.{FieldRead}
use Rattle.messages.specs.Names.{lines_of, end_to_end, kept_of}
use Rattle.messages.specs.Answers.{fields_numbers}
use Rattle.messages.specs.Room.{section_room}
use Rattle.messages.specs.declared.Kind.TheVariants as kind
use Rattle.sound.specs.Placed.{Each, OfLine, Lying, Inside}
use Rattle.ranges.specs.Ranges.{AlteredFrom, Stores}
use Rattle.ranges.specs.Entries.{fields_in}

-- where start and length of the value of the Connection line i stand, in the room of a section behind k fields
abbrev pub connection_at : ℕ → ℕ → ℕ
connection_at k i = k * 4 + (section_room - (i + 1) * 2)

-- those of the Connection lines cs stand there, the first of which is the line i
abbrev pub ConnectionsStand : ℕ → ℕ → List FieldRead → List ℕ → Type 0
ConnectionsStand k i [] o = Unit {0}
ConnectionsStand k i (c ∷ cs) o =
    (get_or o (connection_at k i) 0 ≡ c.value.place) × (get_or o (connection_at k i + 1) 0 ≡ length c.value.text) × ConnectionsStand k (i + 1) cs o

-- the lines fs of a section that were read behind the k fields of o: o' has the end-to-end ones, and where its Connection values stand
pub record Gathered (host : Bool) (k : ℕ) (fs : List FieldRead) (o o' : List ℕ) : Type 0 where
  pub fields : Stores o (k * 4) (fields_numbers (end_to_end host fs)) o'
  pub connections : ConnectionsStand k 0 (lines_of kind.Connection fs) o'

-- the same in numbers: `count` fields with those before the section, and so many Connection lines. There are no more lines than there may be, and they lie in s
pub record GatheredFacts (s : List ℕ) (host : Bool) (k : ℕ) (fs : List FieldRead) (count connections : ℕ) (o o' : List ℕ) : Type 0 where
  pub gathered : Gathered host k fs o o'
  pub fields : k + length (end_to_end host fs) ≡ count
  pub lines : length (lines_of kind.Connection fs) ≡ connections
  pub few : length fs ≤ lines_most
  pub lying : Each (OfLine (Lying s)) fs

-- some lines were gathered so
abbrev pub LinesGathered : List ℕ → ℕ → ℕ → ℕ → List ℕ → Type 0
LinesGathered s k count connections o = (host : Bool) × (fs : List FieldRead) × (w : List ℕ) × GatheredFacts s host k fs count connections w o

-- what is left, of whatever lines were gathered: of a header section what no Connection line names, else all
pub record Kept (s : List ℕ) (headers : Bool) (k count connections : ℕ) (o o' : List ℕ) (r : ℕ) : Type 0 where
  pub by : (host : Bool) (fs : List FieldRead) (w : List ℕ) → GatheredFacts s host k fs count connections w o
      → (r ≡ k + length (kept_of headers host fs)) × Stores w (k * 4) (fields_numbers (kept_of headers host fs)) o'

-- ---- the same by the numbers alone: what the code does step by step

-- the values that the numbers of n Connection lines name, from the line i on
unfoldable pub values_in : List ℕ → List ℕ → ℕ → ℕ → ℕ → List (List ℕ)
values_in s o k i zero = []
values_in s o k i (suc n) = part s (get_or o (connection_at k i) 0) (get_or o (connection_at k i + 1) 0) ∷ values_in s o k (i + 1) n

-- the lines whose name is not w, in lower case both, in order
unfoldable pub without_name : List ℕ → List FieldRead → List FieldRead
without_name w [] = []
without_name w (f ∷ fs) = cond (same_text (map lower_of w) (map lower_of f.name.text)) (without_name w fs) (f ∷ without_name w fs)

-- the fields of o from the entry k up to the entry `count` lie within s
pub record FieldsFrom (s : List ℕ) (k count : ℕ) (o : List ℕ) : Type 0 where
  pub least : k ≤ count
  pub room : count * 4 ≤ length o
  pub inside : Each (OfLine (Inside (length s))) (fields_in s o k (count - k))

-- behind them stand the numbers of n Connection values that lie within s, in the section's room
pub record ValuesFrom (s : List ℕ) (k count n : ℕ) (o : List ℕ) : Type 0 where
  pub fields : FieldsFrom s k count o
  pub behind : count * 4 + n * 2 ≤ k * 4 + section_room
  pub room : k * 4 + section_room ≤ length o
  pub inside : (i : ℕ) → i < n → get_or o (connection_at k i) 0 + get_or o (connection_at k i + 1) 0 ≤ length s

-- of these fields gs are left, from the entry k up to the entry r of o'; all before them and all from the entry `count` on is as it was
pub record Dropped (s : List ℕ) (k count : ℕ) (gs : List FieldRead) (o o' : List ℕ) (r : ℕ) : Type 0 where
  pub fields : fields_in s o' k (r - k) ≡ gs
  pub least : k ≤ r
  pub most : r ≤ count
  pub altered : AlteredFrom (k * 4) o o'
  pub behind : drop (count * 4) o' ≡ drop (count * 4) o
