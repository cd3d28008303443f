-- From a reader's outcome and ranges to an entry's answer.
use Prim.Native.Nat.{ℕ, ◌*◌, ◌≤◌}
use mathlib.Core.Path.{◌≡◌, refl, sym, ap, ap₂, ◌∙◌, subst}
use mathlib.Core.List.{List, ◌++◌}
use lib.ListN.{length}
use Rattle.octets.specs.Refusals.{more_needed}
use Rattle.script.specs.Script.{Answer, refused, more}
use Rattle.output.specs.Splice.{part}
use Rattle.messages.specs.Message.{FieldRead, is_response, Message}
use Rattle.messages.specs.Names.{kept, kept_trailers}
use Rattle.messages.specs.Answers.{fields_numbers, chunks_numbers, informational_numbers, informational_lines, informational_in, padded, record_of}
use Rattle.messages.specs.declared.Record.{Record}
use Rattle.ranges.proofs.Stored.{numbers-length}
use Rattle.ranges.proofs.Entries.{stores-part}
use Rattle.ranges.proofs.Outcomes.{Given, front-part, record-chunks, record-trailers}
use Rattle.ranges.proofs.Stored.{chunks-length}
use Rattle.capi.specs.Entries.{record_numbers, entry_numbers, Entered, Numbered}

-- an accepted message, given by its numbers

module _ {x : Answer Message} {hs hs' cs cs' ts ts' : List ℕ} {r : Record} (g : Given x hs hs' cs cs' ts ts' r) where
  unfoldable pub all-fields : List FieldRead
  all-fields = informational_lines (informational_in g.message.start) ++ kept (is_response g.message.start) g.message.lines

  pub entered : (heads o o' : List ℕ) (f input place number : ℕ) → f ≡ length all-fields → f * 4 ≤ length hs → r.chunks * 2 ≤ length cs → r.trailers * 4 ≤ length ts
      → part heads 0 8 ≡ padded 8 (informational_numbers (informational_in g.message.start))
      → Numbered ((record_numbers r ++ part heads 0 8) ++ (part hs' 0 (f * 4) ++ part cs' 0 (r.chunks * 2) ++ part ts' 0 (r.trailers * 4))) r.length o o' place number
      → Entered x input o o' place number
  unfolding entry_numbers all-fields
  entered heads o o' f input place number ef hf hc ht eh w =
      let a : part hs' 0 (f * 4) ≡ fields_numbers all-fields = stores-part g.fields (numbers-length all-fields ∙ ap (λ (k : ℕ). k * 4) (sym ef)) in
      let kc : r.chunks ≡ length g.message.chunks = ap (λ (q : Record). q.chunks) g.numbers ∙ record-chunks g.long g.message in
      let kt : r.trailers ≡ length (kept_trailers g.message.trailers) = ap (λ (q : Record). q.trailers) g.numbers ∙ record-trailers g.long g.message in
      let b : part cs' 0 (r.chunks * 2) ≡ chunks_numbers g.message.chunks =
      rw g.pieces (front-part cs (chunks_numbers g.message.chunks) (r.chunks * 2) (chunks-length g.message.chunks ∙ ap (λ (k : ℕ). k * 2) (sym kc)) hc) in
      let c : part ts' 0 (r.trailers * 4) ≡ fields_numbers (kept_trailers g.message.trailers) =
      stores-part g.trailers (numbers-length (kept_trailers g.message.trailers) ∙ ap (λ (k : ℕ). k * 4) (sym kt)) in
      let l : r.length ≡ (record_of g.long g.message).length = ap (λ (q : Record). q.length) g.numbers in
      let n : record_numbers r ≡ record_numbers (record_of g.long g.message) = ap record_numbers g.numbers in
      let e : (record_numbers r ++ part heads 0 8) ++ (part hs' 0 (f * 4) ++ part cs' 0 (r.chunks * 2) ++ part ts' 0 (r.trailers * 4)) ≡ entry_numbers g.long g.message =
      ap₂ (λ (u v : List ℕ). u ++ v) (ap₂ (λ (u v : List ℕ). u ++ v) n eh) (ap₂ (λ (u v : List ℕ). u ++ v) (ap₂ (λ (u v : List ℕ). u ++ v) a b) c) in
      let k = subst (λ (u : List ℕ). Numbered u r.length o o' place number) e w in
      let k' = subst (λ (u : ℕ). Numbered (entry_numbers g.long g.message) u o o' place number) l k in
      subst (λ (y : Answer Message). Entered y input o o' place number) (sym g.taken) (record { answers = k'.answers; places = k'.places; after = k'.after })

pub entered-refused : {x : Answer Message} (o : List ℕ) (input k p : ℕ) → x ≡ refused k p → Entered x input o o p k
entered-refused o input k p e = subst (λ (y : Answer Message). Entered y input o o p k) (sym e) (record { answers = refl; places = refl; after = refl })

pub entered-more : {x : Answer Message} (o : List ℕ) (input : ℕ) → x ≡ more → Entered x input o o input more_needed
entered-more o input e = subst (λ (y : Answer Message). Entered y input o o input more_needed) (sym e) (record { answers = refl; places = refl; after = refl })
