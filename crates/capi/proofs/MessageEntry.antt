-- What the entries of responses and of Binary know of an accepted message.
use Prim.Native.Nat.{ℕ, suc, ◌+◌, ◌*◌, ◌≤◌}
use mathlib.Core.Path.{◌≡◌, refl, sym, ap, ◌∙◌, subst}
use mathlib.Core.List.{List, [], ◌∷◌, ◌++◌}
use mathlib.Core.Bool.{true, false}
use native.Mathlib.Omega.{arith}
use lib.ListN.{length, length-append}
use Rattle.octets.specs.Limits.{informational_most}
use Rattle.script.specs.Script.{Answer, accepted, refused, more}
use Rattle.output.specs.Splice.{splice, part}
use Rattle.messages.specs.Message.{InformationalRead, Start, request_start, response_start, is_response, Message}
use Rattle.messages.specs.Names.{kept}
use Rattle.messages.specs.Answers.{informational_numbers, informational_lines, informational_in, padded, record_from, record_of}
use Rattle.messages.specs.declared.Record.{Record}
use Rattle.messages.specs.declared.Told.{Told}
use Rattle.messages.specs.Answers.{Outcome}
use Rattle.messages.proofs.Noting.{kept-few}
use Rattle.http1_lines.specs.Read.{read_response}
use Rattle.http1_sound.proofs.Sound.{response-sound}
use Rattle.binary.specs.Read.{read_binary}
use Rattle.binary_sound.proofs.Sound.{binary-sound}
use Rattle.sound.specs.Sound.{Sound, GoodHeads}
use Rattle.ranges.specs.Ranges.{InformationalSays, Responded, SmallRecord}
use Rattle.ranges.proofs.Outcomes.{Given, sound-small, heads-few}
use Rattle.capi.specs.Entries.{record_numbers, Entered, Numbered, no_heads, heads_fields}
use Rattle.capi.proofs.Entering.{all-fields, entered}

few-none : {A : Type 0} {n : ℕ} → suc (suc (suc (suc (suc n)))) ≤ 4 → A
few-none h = absurd (omega (arith, h))

-- the counts of the informational heads add up to their fields
heads-sum : (hs : List InformationalRead) → length hs ≤ informational_most → heads_fields (splice no_heads 0 (informational_numbers hs)) ≡ length (informational_lines hs)
unfolding informational_numbers informational_lines heads_fields no_heads
heads-sum [] h = refl
heads-sum (a ∷ []) h = omega (arith, length-append (kept true a.lines) [])
heads-sum (a ∷ b ∷ []) h = omega (arith, length-append (kept true a.lines) (kept true b.lines ++ []), length-append (kept true b.lines) [])
heads-sum (a ∷ b ∷ c ∷ []) h =
    omega (
      arith,
      length-append (kept true a.lines) (kept true b.lines ++ (kept true c.lines ++ [])),
      length-append (kept true b.lines) (kept true c.lines ++ []),
      length-append (kept true c.lines) [],
    )
heads-sum (a ∷ b ∷ c ∷ d ∷ []) h =
    omega (
      arith,
      length-append (kept true a.lines) (kept true b.lines ++ (kept true c.lines ++ (kept true d.lines ++ []))),
      length-append (kept true b.lines) (kept true c.lines ++ (kept true d.lines ++ [])),
      length-append (kept true c.lines) (kept true d.lines ++ []),
      length-append (kept true d.lines) [],
    )
heads-sum (a ∷ b ∷ c ∷ d ∷ e ∷ hs) h = few-none h

-- they stand as they are padded
heads-stand : (hs : List InformationalRead) → length hs ≤ informational_most → part (splice no_heads 0 (informational_numbers hs)) 0 8 ≡ padded 8 (informational_numbers hs)
unfolding informational_numbers padded no_heads
heads-stand [] h = refl
heads-stand (a ∷ []) h = refl
heads-stand (a ∷ b ∷ []) h = refl
heads-stand (a ∷ b ∷ c ∷ []) h = refl
heads-stand (a ∷ b ∷ c ∷ d ∷ []) h = refl
heads-stand (a ∷ b ∷ c ∷ d ∷ e ∷ hs) h = few-none h

-- a message that was accepted from s, by whatever reader
module _ (s : List ℕ) {x : Answer Message} {hs hs' ns ns' cs cs' ts ts' : List ℕ} {r : Record} (g : Given x hs hs' cs cs' ts ts' r) {o : Outcome}
    (w : Responded x hs hs' ns ns' cs cs' ts ts' o) (z : ns ≡ no_heads) (ok : Sound s g.message) where
  pub message-small : SmallRecord r
  message-small = subst SmallRecord (sym g.numbers) (sound-small s g.long g.message ok)

  heads-are : ns' ≡ splice no_heads 0 (informational_numbers (informational_in g.message.start))
  heads-are = go x g.taken w.informational ∙ ap (λ (l : List ℕ). splice l 0 (informational_numbers (informational_in g.message.start))) z
    where
      go : (y : Answer Message) → y ≡ accepted g.long g.message → InformationalSays y ns ns' → ns' ≡ splice ns 0 (informational_numbers (informational_in g.message.start))
      go (accepted n m) e q = let f : m ≡ g.message = cc in rw (sym f) q
      go (refused k p) e q = let y : ◌≡◌ {A = ℕ} 0 1 = cc in absurd (omega arith)
      go more e q = let y : ◌≡◌ {A = ℕ} 0 1 = cc in absurd (omega arith)

  module _ (f : ℕ) (ef : f ≡ heads_fields ns' + r.headers) where
    fields-are : (f ≡ length (all-fields g)) × (f ≤ 320)
    unfolding all-fields record_of
    fields-are =
        let e : heads_fields ns' ≡ heads_fields (splice no_heads 0 (informational_numbers (informational_in g.message.start))) = ap heads_fields heads-are in
        let k : r.headers ≡ (record_from g.message.start g.long g.message).headers = ap (λ (q : Record). q.headers) g.numbers in
        go g.message.start ok.heads e k
      where
        go : (st : Start) → GoodHeads st → heads_fields ns' ≡ heads_fields (splice no_heads 0 (informational_numbers (informational_in st)))
            → r.headers ≡ (record_from st g.long g.message).headers
            → (f ≡ length (informational_lines (informational_in st) ++ kept (is_response st) g.message.lines)) × (f ≤ 320)
        go (request_start m c a p) u e k =
            let a = heads-sum [] (omega arith) in
            let b = length-append (informational_lines []) (kept false g.message.lines) in
            let d = heads-few [] tt in
            (omega (arith, ef, e, k, a, b), omega (arith, ef, e, k, a, d, kept-few false g.message.lines, ok.lines.few))
        go (response_start js c) u e k =
            let a = heads-sum js u.1 in
            let b = length-append (informational_lines js) (kept true g.message.lines) in
            let d = heads-few js u.0 in
            (omega (arith, ef, e, k, a, b), omega (arith, ef, e, k, a, d, u.1, kept-few true g.message.lines, ok.lines.few))

    heads-padded : part ns' 0 8 ≡ padded 8 (informational_numbers (informational_in g.message.start))
    heads-padded = ap (λ (l : List ℕ). part l 0 8) heads-are ∙ go g.message.start ok.heads
      where
        go : (st : Start) → GoodHeads st → part (splice no_heads 0 (informational_numbers (informational_in st))) 0 8 ≡ padded 8 (informational_numbers (informational_in st))
        go (request_start m c a p) u = heads-stand [] (omega arith)
        go (response_start js c) u = heads-stand js u.1

    pub message-room : 1280 ≤ length hs → 512 ≤ length cs → 256 ≤ length ts → (f ≤ 320) × (f * 4 ≤ length hs) × (r.chunks * 2 ≤ length cs) × (r.trailers * 4 ≤ length ts)
    message-room a b c =
        let y = message-small in
        (fields-are.1, omega (arith, fields-are.1, a), omega (arith, y.chunks, b), omega (arith, y.trailers, c))

    pub message-entered : 1280 ≤ length hs → 512 ≤ length cs → 256 ≤ length ts → (u u' : List ℕ) (input place number : ℕ)
        → Numbered ((record_numbers r ++ part ns' 0 8) ++ (part hs' 0 (f * 4) ++ part cs' 0 (r.chunks * 2) ++ part ts' 0 (r.trailers * 4))) r.length u u' place number
        → Entered x input u u' place number
    message-entered a b c u u' input place number q =
        let y = message-room a b c in
        entered g ns' u u' f input place number fields-are.0 y.1 y.2 y.3 heads-padded q

-- messages that the readers accept
pub response-ok : (t : Told) (s : List ℕ) {hs hs' cs cs' ts ts' : List ℕ} {r : Record} (g : Given (read_response t s) hs hs' cs cs' ts ts' r) → Sound s g.message
response-ok t s g = (response-sound t s g.long g.message g.taken).sound

pub binary-ok : (t : Told) (s : List ℕ) {hs hs' cs cs' ts ts' : List ℕ} {r : Record} (g : Given (read_binary t s) hs hs' cs cs' ts ts' r) → Sound s g.message
binary-ok t s g = (binary-sound t s g.long g.message g.taken).sound
