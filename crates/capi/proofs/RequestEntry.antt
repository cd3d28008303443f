-- What the request entry knows of an accepted request.
use Prim.Native.Nat.{ℕ, ◌*◌, ◌≤◌}
use mathlib.Core.Path.{◌≡◌, refl, sym, ap, ◌∙◌, subst}
use mathlib.Core.List.{List, ◌++◌}
use native.Mathlib.Omega.{arith}
use lib.ListN.{length, replicate}
use Rattle.output.specs.Splice.{part}
use Rattle.messages.specs.Message.{Start, request_start, response_start, is_response}
use Rattle.messages.specs.Names.{kept}
use Rattle.messages.specs.declared.Told.{Told}
use Rattle.messages.specs.Answers.{informational_numbers, informational_lines, informational_in, padded, record_from, record_of}
use Rattle.messages.specs.declared.Record.{Record}
use Rattle.http1_lines.specs.Read.{read_request}
use Rattle.http1_sound.specs.Read.{IsRequest, SoundRequest}
use Rattle.http1_sound.proofs.Sound.{request-sound}
use Rattle.ranges.specs.Ranges.{SmallRecord}
use Rattle.ranges.proofs.Outcomes.{Given, sound-small}
use Rattle.capi.specs.Entries.{record_numbers, Entered, Numbered}
use Rattle.capi.proofs.Entering.{all-fields, entered}

module _ (t : Told) (s : List ℕ) {hs hs' cs cs' ts ts' : List ℕ} {r : Record} (g : Given (read_request t s) hs hs' cs cs' ts ts' r) where
  is-sound : SoundRequest t s g.long g.message
  is-sound = request-sound t s g.long g.message g.taken

  pub request-small : SmallRecord r
  request-small = subst SmallRecord (sym g.numbers) (sound-small s g.long g.message is-sound.sound)

  request-fields : r.headers ≡ length (all-fields g)
  unfolding record_of all-fields informational_lines
  request-fields = ap (λ (q : Record). q.headers) g.numbers ∙ go g.message.start is-sound.request
    where
      go : (st : Start) → IsRequest t g.message.lines st
          → (record_from st g.long g.message).headers ≡ length (informational_lines (informational_in st) ++ kept (is_response st) g.message.lines)
      go (request_start m c a p) i = refl
      go (response_start js c) i = absurd i

  request-alone : padded 8 (informational_numbers (informational_in g.message.start)) ≡ part (replicate 8 0) 0 8
  unfolding padded informational_numbers
  request-alone = go g.message.start is-sound.request
    where
      go : (st : Start) → IsRequest t g.message.lines st → padded 8 (informational_numbers (informational_in st)) ≡ part (replicate 8 0) 0 8
      go (request_start m c a p) i = refl
      go (response_start js c) i = absurd i

  pub request-room : 256 ≤ length hs → 512 ≤ length cs → 256 ≤ length ts → (r.headers ≤ 320) × (r.headers * 4 ≤ length hs) × (r.chunks * 2 ≤ length cs) × (r.trailers * 4 ≤ length ts)
  request-room a b c =
      let z = request-small in
      (omega (arith, z.headers), omega (arith, z.headers, a), omega (arith, z.chunks, b), omega (arith, z.trailers, c))

  pub request-entered : 256 ≤ length hs → 512 ≤ length cs → 256 ≤ length ts → (o o' : List ℕ) (input place number : ℕ)
      → Numbered ((record_numbers r ++ part (replicate 8 0) 0 8) ++ (part hs' 0 (r.headers * 4) ++ part cs' 0 (r.chunks * 2) ++ part ts' 0 (r.trailers * 4))) r.length o o' place number
      → Entered (read_request t s) input o o' place number
  request-entered a b c o o' input place number w =
      let z = request-room a b c in
      entered g (replicate 8 0) o o' r.headers input place number request-fields z.1 z.2 z.3 (sym request-alone) w
