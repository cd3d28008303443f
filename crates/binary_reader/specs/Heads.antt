-- What the code that reads the heads of a response promises, in terms of `heads` and `after_final` (binary/specs/Read; 01, "Binary HTTP as we take it").
use Rattle.std.specs.Prelude.{ℕ, ◌+◌, ◌*◌, ◌≤◌, ◌≡◌, true, false, List, [], ◌∷◌, ◌++◌, length, drop, Result, Ok, Err}
use Rattle.ranges.specs.Ranges.{Stores, FewHeads}
use Rattle.octets.specs.Limits.{lines_most}
use Rattle.octets.specs.declared.Refused.{Refused}
use Rattle.output.specs.Splice.{splice}
use Rattle.messages.specs.Message.{InformationalRead, Section, Message}
use Rattle.messages.specs.Control.{status_verdict, is_informational, passed}
use Rattle.messages.specs.Names.{kept}
use Rattle.messages.specs.Notes.{notes_of}
use Rattle.messages.specs.Answers.{fields_numbers, informational_numbers, informational_lines}
use Rattle.messages.specs.declared.Told.{Told}
use Rattle.binary.specs.declared.Cursor.{Cursor}
use Rattle.binary.specs.Reader.{Got, no}
use Rattle.binary.specs.declared.Form.{Form}
use Rattle.binary.specs.Read.{after_final, informational_read, heads}
use Rattle.binary_reader.specs.declared.Head.{Head}
use Rattle.binary_reader.specs.declared.Head.TheVariants as head
use Rattle.binary_reader.specs.declared.HeadsRead.{HeadsRead}

-- ---- one head

-- a status that a response may end with
pub record FinalStatus (n : ℕ) : Type 0 where
  pub verdict : status_verdict n ≡ passed
  pub last : is_informational n ≡ false

-- a head's section h that ends at e: its kept fields are stored behind the `base` fields of hs, and are k with them
pub record HeadStored (s : List ℕ) (base : ℕ) (hs hs' : List ℕ) (e : Cursor) (k : ℕ) (h : Section) : Type 0 where
  pub end : h.end ≡ e.at
  pub within : e.at ≤ length s
  pub few : length h.lines ≤ lines_most
  pub count : base + length (kept true h.lines) ≡ k
  pub stored : Stores hs (base * 4) (fields_numbers (kept true h.lines)) hs'
  pub counted : e.long ≤ e.at

-- a head that was read behind the informational heads `is`, where the reader answers x, whatever is told
abbrev pub HeadSays : (Told → Got Message) → Form → ℕ → List InformationalRead → List ℕ → ℕ → List ℕ → List ℕ → Result Head Refused → Type 0
HeadSays x form f is s base hs hs' (Ok (head.Informational n e k)) =
    (h : Section) × HeadStored s base hs hs' e k h × FewHeads is
    × ((t : Told) → x t ≡ heads t form f (is ++ informational_read n h ∷ []) e (drop e.at s))
HeadSays x form f is s base hs hs' (Ok (head.Final n e k notes)) =
    (h : Section) × HeadStored s base hs hs' e k h × (notes ≡ notes_of false h.lines) × FinalStatus n
    × ((t : Told) → x t ≡ after_final t form is n h e (drop e.at s))
HeadSays x form f is s base hs hs' (Err e) = (t : Told) → x t ≡ no e.number e.place

-- the same behind any informational heads of which P holds
pub record Headed (P : List InformationalRead → Type 0) (x : ℕ → List InformationalRead → Told → Got Message) (form : Form) (s : List ℕ) (base : ℕ)
    (hs hs' : List ℕ) (r : Result Head Refused) : Type 0 where
  pub by : (f : ℕ) (is : List InformationalRead) → P is → HeadSays (x f is) form f is s base hs hs' r

-- ---- all heads

-- heads that were read, the last of them final: informational heads `is` and the section h, in the numbers that the code keeps of them
pub record HeadsFacts (s : List ℕ) (is : List InformationalRead) (h : Section) (a : HeadsRead) : Type 0 where
  pub end : h.end ≡ a.end.at
  pub within : a.end.at ≤ length s
  pub heads : length is ≡ a.count
  pub fields : length (kept true h.lines) ≡ a.kept
  pub noted : a.notes ≡ notes_of false h.lines
  pub status : FinalStatus a.status
  pub counted : a.end.long ≤ a.end.at

-- where the reader answers x, whatever is told: the kept fields are stored in hs, status and number of kept fields of each informational head in ns
abbrev pub HeadsSays : (Told → Got Message) → Form → List ℕ → List ℕ → List ℕ → List ℕ → List ℕ → Result HeadsRead Refused → Type 0
HeadsSays x form s hs hs' ns ns' (Ok a) =
    (is : List InformationalRead) × (h : Section) × HeadsFacts s is h a
    × ((t : Told) → x t ≡ after_final t form is a.status h a.end (drop a.end.at s))
    × Stores hs 0 (fields_numbers (informational_lines is ++ kept true h.lines)) hs' × (ns' ≡ splice ns 0 (informational_numbers is))
HeadsSays x form s hs hs' ns ns' (Err e) = (t : Told) → x t ≡ no e.number e.place

-- the heads of a response that were read, as one fact
pub record HeadsTaken (x : Told → Got Message) (form : Form) (s hs hs' ns ns' : List ℕ) (r : Result HeadsRead Refused) : Type 0 where
  pub says : HeadsSays x form s hs hs' ns ns' r
