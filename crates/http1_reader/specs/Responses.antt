-- What the code of the response reader promises, in terms of `next_head`, `heads_then`, `after_final` and `read_response` (http1_lines/specs/Read; 01, "HTTP/1.1 as we
-- take it").
use Rattle.std.specs.Prelude.{ℕ, suc, ◌+◌, ◌*◌, ◌≤◌, ◌≡◌, true, List, [], ◌∷◌, ◌++◌, length, drop, Option, Result, Ok, Err}
use Rattle.ranges.specs.Ranges.{Stores, AnyHeads, FewHeads, SoManyHeads}
use Rattle.octets.specs.Limits.{head_most, lines_most, informational_most}
use Rattle.script.specs.Script.{Answer, Script, run}
use Rattle.output.specs.Splice.{splice}
use Rattle.messages.specs.Message.{InformationalRead, Message}
use Rattle.messages.specs.Names.{kept}
use Rattle.messages.specs.Notes.{notes_of}
use Rattle.messages.specs.Answers.{fields_numbers, informational_numbers, informational_lines, response_record}
use Rattle.messages.specs.Answers.{Outcome}
use Rattle.messages.specs.declared.Record.{Record}
use Rattle.messages.specs.declared.Stop.{Stop}
use Rattle.http1_lines.specs.Read.{Lines, informational_read, after_informational_line, ResponseCall, BehindHeads, after_final, after_final_line, next_head, heads_then}
use Rattle.http1_parts.specs.Stops.{stopped}
use Rattle.http1_parts.specs.declared.ContentRead.{ContentRead}
use Rattle.http1_reader.specs.Readers.{counts_with, RestSays}
use Rattle.http1_reader.specs.declared.HeadRead.{HeadRead}
use Rattle.http1_reader.specs.declared.HeadRead.TheVariants as head
use Rattle.http1_reader.specs.declared.HeadsRead.{HeadsRead}

-- ---- one head

-- a head's lines h that end at e: its kept fields are stored behind the `base` fields of hs, and are k with them
pub record HeadStored (s : List ℕ) (base : ℕ) (hs hs' : List ℕ) (e k : ℕ) (h : Lines) : Type 0 where
  pub end : h.end ≡ e
  pub left : e + h.left ≡ head_most
  pub within : e ≤ length s
  pub few : length h.lines ≤ lines_most
  pub count : base + length (kept true h.lines) ≡ k
  pub stored : Stores hs (base * 4) (fields_numbers (kept true h.lines)) hs'

-- what reads on behind an informational head
abbrev pub Onward : Type 0
Onward = List InformationalRead → ℕ → Script Message

-- a head that was read behind the informational heads `is`, where the script answers x, whatever reads on behind it: that determines the head, since what
-- reads on may answer with what it is handed
abbrev pub HeadSays : (Onward → BehindHeads → Answer Message) → List InformationalRead → List ℕ → ℕ → List ℕ → List ℕ → Result HeadRead Stop → Type 0
HeadSays x is s base hs hs' (Ok (head.Informational n e l k)) =
    (h : Lines) × HeadStored s base hs hs' e k h × (h.left ≡ l) × FewHeads is
    × ((next : Onward) (after : BehindHeads) → x next after ≡ run (next (is ++ informational_read n h ∷ []) l) e (drop e s))
HeadSays x is s base hs hs' (Ok (head.Final n e k notes)) =
    (h : Lines) × HeadStored s base hs hs' e k h × (notes ≡ notes_of true h.lines)
    × ((next : Onward) (after : BehindHeads) → x next after ≡ run (after is n h) e (drop e s))
HeadSays x is s base hs hs' (Err e) = (next : Onward) (after : BehindHeads) → x next after ≡ stopped e

-- the same behind any informational heads of which P holds
pub record Headed (P : List InformationalRead → Type 0) (x : List InformationalRead → Onward → BehindHeads → Answer Message)
    (s : List ℕ) (base : ℕ) (hs hs' : List ℕ) (r : Result HeadRead Stop) : Type 0 where
  pub by : (is : List InformationalRead) → P is → HeadSays (x is) is s base hs hs' r

-- the promises: behind the line of an informational status that ends at `next`, behind the line of a final one, and of a head from the place i on
abbrev pub InformationalHeaded : List ℕ → ℕ → ℕ → ℕ → ℕ → List ℕ → List ℕ → Result HeadRead Stop → Type 0
InformationalHeaded s n next left base hs hs' r =
    Headed FewHeads (λ is onward after. run (after_informational_line onward is n left) next (drop next s)) s base hs hs' r

abbrev pub FinalHeaded : List ℕ → ℕ → ℕ → ℕ → ℕ → List ℕ → List ℕ → Result HeadRead Stop → Type 0
FinalHeaded s n next left base hs hs' r = Headed AnyHeads (λ is onward after. run (after_final_line after is n left) next (drop next s)) s base hs hs' r

abbrev pub NextHeaded : List ℕ → ℕ → ℕ → ℕ → ℕ → List ℕ → List ℕ → Result HeadRead Stop → Type 0
NextHeaded s i left count base hs hs' r = Headed (SoManyHeads count) (λ is onward after. run (next_head onward after is left) i (drop i s)) s base hs hs' r

-- ---- all heads

-- what the heads of a response and what reads on behind them answer on the stream s
abbrev pub response_run : List ℕ → BehindHeads → Answer Message
response_run s after = run (heads_then after (suc informational_most) [] head_most) 0 s

-- heads that were read, the last of them final: informational heads `is` and lines h, in the numbers that the code keeps of them
pub record HeadsFacts (is : List InformationalRead) (h : Lines) (r : HeadsRead) : Type 0 where
  pub end : h.end ≡ r.end
  pub heads : length is ≡ r.heads
  pub fields : length (kept true h.lines) ≡ r.kept
  pub noted : r.notes ≡ notes_of true h.lines

-- where the script answers x, whatever reads on behind the heads: the kept fields are stored in hs, status and number of kept fields of each informational
-- head in ns
abbrev pub HeadsSays : (BehindHeads → Answer Message) → List ℕ → List ℕ → List ℕ → List ℕ → List ℕ → Result HeadsRead Stop → Type 0
HeadsSays x s hs hs' ns ns' (Ok r) =
    (is : List InformationalRead) × (h : Lines) × HeadsFacts is h r × (r.end ≤ length s) × (r.end ≤ head_most)
    × ((after : BehindHeads) → x after ≡ run (after is r.status h) r.end (drop r.end s))
    × Stores hs 0 (fields_numbers (informational_lines is ++ kept true h.lines)) hs' × (ns' ≡ splice ns 0 (informational_numbers is))
HeadsSays x s hs hs' ns ns' (Err e) = (after : BehindHeads) → x after ≡ stopped e

-- the promise of all heads of a response that are read
pub record HeadsTaken (x : BehindHeads → Answer Message) (s hs hs' ns ns' : List ℕ) (r : Result HeadsRead Stop) : Type 0 where
  pub says : HeadsSays x s hs hs' ns ns' r

-- ---- whole responses

-- the record of a response by its heads, its stated length and its content
abbrev pub response_found : HeadsRead → Option ℕ → ContentRead → Record
response_found r stated c = response_record r.heads r.status (counts_with stated r.notes.closes r.kept c)

-- what stands behind the final head, read by a call
pub record FinalRead (q : ResponseCall) (s : List ℕ) (r : HeadsRead) (cs cs' ts ts' : List ℕ) (o : Outcome) : Type 0 where
  pub by : (is : List InformationalRead) (h : Lines) → HeadsFacts is h r → RestSays (run (after_final q is r.status h) r.end (drop r.end s)) cs cs' ts ts' o
