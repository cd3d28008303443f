-- From a reader's outcome and the ranges that it left to the message that was read, and to what a writer finds.
use Prim.Native.Nat.{ℕ, ◌+◌, ◌*◌, ◌≤◌}
use mathlib.Core.Path.{◌≡◌, refl, sym, ap, ◌∙◌}
use mathlib.Core.List.{List, [], ◌∷◌, ◌++◌}
use mathlib.Core.Bool.{true, false}
use native.Mathlib.Omega.{arith}
use lib.ListN.{length, take, drop, length-append}
use lib.Seq.{take-append_seam}
use Rattle.octets.specs.Limits.{content_most}
use Rattle.script.specs.Script.{Answer, accepted, refused, more}
use Rattle.output.specs.Splice.{splice, part}
use Rattle.output.proofs.Laws.{splice-is, splice-length, elements-take}
use Rattle.messages.specs.Message.{InformationalRead, Start, request_start, response_start, is_response, Message}
use Rattle.messages.specs.Names.{kept, kept_trailers}
use Rattle.messages.specs.Meaning.{content_of, meaning}
use Rattle.messages.specs.Valid.{valid}
use Rattle.messages.specs.Answers.{fields_numbers, chunks_numbers, informational_numbers, informational_lines, informational_in, record_from, record_of, Outcome, number_of, place_of}
use Rattle.messages.specs.declared.Record.{Record}
use Rattle.std.proofs.Common.{Ok, Err}
use Rattle.messages.specs.declared.Stop.{Stop}
use Rattle.octets.specs.Refusals.{refused_at}
use Rattle.messages.proofs.Noting.{kept-few, trailers-few}
use Rattle.messages.proofs.Valid.{meaning-ok}
use Rattle.sound.specs.Placed.{Each}
use Rattle.sound.specs.Sound.{Sound, GoodHeads, GoodSection}
use Rattle.ranges.specs.Ranges.{head_numbers, trailer_numbers, OutcomeSays, Outcomed, InformationalSays, Responded, Stores, SmallRecord, Begins, Held}
use Rattle.ranges.proofs.Stored.{numbers-length, chunks-length}
use Rattle.ranges.proofs.Storing.{stores-begins}

-- what was stored at the front is what is taken from there
pub front-part : (o l : List ℕ) (n : ℕ) → length l ≡ n → n ≤ length o → part (splice o 0 l) 0 n ≡ l
front-part o l n e h =
    let z : 0 + length l ≤ length o = omega (arith, e, h) in
    let g : 0 + n ≤ length (splice o 0 l) = omega (arith, splice-length o 0 l, h) in
    elements-take 0 (splice o 0 l) 0 n g ∙ ap (λ (x : List ℕ). take n x) (splice-is o 0 l z) ∙ rw (sym e) (take-append_seam l (drop (0 + length l) o))

-- a message that was read
pub record Given (x : Answer Message) (hs hs' cs cs' ts ts' : List ℕ) (r : Record) : Type 0 where
  pub long : ℕ
  pub message : Message
  pub taken : x ≡ accepted long message
  pub numbers : r ≡ record_of long message
  pub fields : Stores hs 0 (head_numbers message) hs'
  pub pieces : cs' ≡ splice cs 0 (chunks_numbers message.chunks)
  pub trailers : Stores ts 0 (trailer_numbers message) ts'

no-message : {A : Type 0} {k p : ℕ} {r : Record} → Err (Stop.Refused (refused_at k p)) ≡ Ok r → A
no-message e = let z : ◌≡◌ {A = ℕ} 0 1 = cc in absurd (omega arith)

no_more : {A : Type 0} {r : Record} → Err Stop.More ≡ Ok r → A
no_more e = let z : ◌≡◌ {A = ℕ} 0 1 = cc in absurd (omega arith)

module _ {x : Answer Message} {hs hs' cs cs' ts ts' : List ℕ} {o : Outcome} (h : Outcomed x hs hs' cs cs' ts ts' o) where
  pub given-message : (r : Record) → o ≡ Ok r → Given x hs hs' cs cs' ts ts' r
  given-message r e = go x h.says
    where
      go : (y : Answer Message) → OutcomeSays y hs hs' cs cs' ts ts' o → Given y hs hs' cs cs' ts ts' r
      go (accepted n m) q =
          let z : Ok r ≡ Ok (record_of n m) = sym e ∙ q.0 in
          record { long = n; message = m; taken = refl; numbers = cc; fields = q.1; pieces = q.2; trailers = q.3 }
      go (refused k p) q = no-message (sym q ∙ e)
      go more q = no_more (sym q ∙ e)

  pub given-refusal : (k p : ℕ) → o ≡ Err (Stop.Refused (refused_at k p)) → x ≡ refused k p
  given-refusal k p e = go x h.says
    where
      go : (y : Answer Message) → OutcomeSays y hs hs' cs cs' ts ts' o → y ≡ refused k p
      go (accepted n m) q = no-message (sym e ∙ q.0)
      go (refused i j) q =
          let z : ◌≡◌ {A = Outcome} (Err (Stop.Refused (refused_at i j))) (Err (Stop.Refused (refused_at k p))) = sym q ∙ e in
          let a : i ≡ k = ap number_of z in
          let b : j ≡ p = ap (place_of 0) z in
          cc
      go more q = let z : ◌≡◌ {A = Outcome} (Err Stop.More) (Err (Stop.Refused (refused_at k p))) = sym q ∙ e in cc

  pub given-more : o ≡ Err Stop.More → x ≡ more
  given-more e = go x h.says
    where
      go : (y : Answer Message) → OutcomeSays y hs hs' cs cs' ts ts' o → y ≡ more
      go (accepted n m) q = no_more (sym e ∙ q.0)
      go (refused i j) q = let z : ◌≡◌ {A = Outcome} (Err (Stop.Refused (refused_at i j))) (Err Stop.More) = sym q ∙ e in cc
      go more q = refl

-- the outcome, without the informational heads
pub response-outcomed : {x : Answer Message} {hs hs' ns ns' cs cs' ts ts' : List ℕ} {o : Outcome} → Responded x hs hs' ns ns' cs cs' ts ts' o → Outcomed x hs hs' cs cs' ts ts' o
response-outcomed h = record { says = h.says }

-- ---- counts

pub record-heads : (n : ℕ) (m : Message) → (record_of n m).informational ≡ length (informational_in m.start)
unfolding record_of
record-heads n m = go m.start
  where
    go : (st : Start) → (record_from st n m).informational ≡ length (informational_in st)
    go (request_start q s a p) = refl
    go (response_start hs s) = refl

pub record-headers : (n : ℕ) (m : Message) → (record_of n m).headers ≡ length (kept (is_response m.start) m.lines)
unfolding record_of
record-headers n m = go m.start
  where
    go : (st : Start) → (record_from st n m).headers ≡ length (kept (is_response st) m.lines)
    go (request_start q s a p) = refl
    go (response_start hs s) = refl

pub record-chunks : (n : ℕ) (m : Message) → (record_of n m).chunks ≡ length m.chunks
unfolding record_of
record-chunks n m = go m.start
  where
    go : (st : Start) → (record_from st n m).chunks ≡ length m.chunks
    go (request_start q s a p) = refl
    go (response_start hs s) = refl

pub record-trailers : (n : ℕ) (m : Message) → (record_of n m).trailers ≡ length (kept_trailers m.trailers)
unfolding record_of
record-trailers n m = go m.start
  where
    go : (st : Start) → (record_from st n m).trailers ≡ length (kept_trailers m.trailers)
    go (request_start q s a p) = refl
    go (response_start hs s) = refl

content-small : (m : Message) → valid (meaning m) ≡ true → length (content_of m.chunks) ≤ content_most
unfolding meaning
content-small m v = (meaning-ok (meaning m) v).content

-- the counts of a sound message are within the sizes
pub sound-small : (s : List ℕ) (n : ℕ) (m : Message) → Sound s m → SmallRecord (record_of n m)
unfolding record_of kept_trailers
sound-small s n m h = go m.start h.heads
  where
    go : (st : Start) → GoodHeads st → SmallRecord (record_from st n m)
    go (request_start q c a p) g =
        record {
          heads = omega arith;
          headers = omega (arith, kept-few false m.lines, h.lines.few);
          chunks = h.chunks.few;
          content = content-small m h.valid;
          trailers = omega (arith, trailers-few m.trailers, h.trailers.few);
          long = h.long;
        }
    go (response_start hs c) g =
        record {
          heads = g.1;
          headers = omega (arith, kept-few true m.lines, h.lines.few);
          chunks = h.chunks.few;
          content = content-small m h.valid;
          trailers = omega (arith, trailers-few m.trailers, h.trailers.few);
          long = h.long;
        }

-- each head has 64 fields at most
pub heads-few : (hs : List InformationalRead) → Each (λ h. GoodSection h.lines) hs → length (informational_lines hs) ≤ length hs * 64
unfolding informational_lines
heads-few [] g = omega arith
heads-few (a ∷ hs) g =
    omega (arith, heads-few hs g.1, g.0.few, kept-few true a.lines, length-append (kept true a.lines) (informational_lines hs))

-- ---- the sizes of the ranges of a sound message

heads-size : (hs : List InformationalRead) → length (informational_numbers hs) ≡ length hs * 2
unfolding informational_numbers
heads-size [] = refl
heads-size (h ∷ hs) = omega (arith, heads-size hs)

module _ {s : List ℕ} {m : Message} (h : Sound s m) where
  pub fields-small : length (head_numbers m) ≤ 1280
  unfolding informational_lines
  fields-small = go m.start h.heads
    where
      go : (st : Start) → GoodHeads st → length (fields_numbers (informational_lines (informational_in st) ++ kept (is_response st) m.lines)) ≤ 1280
      go (request_start q c a p) g = omega (arith, numbers-length (kept false m.lines), kept-few false m.lines, h.lines.few)
      go (response_start hs c) g =
          omega (
            arith,
            numbers-length (informational_lines hs ++ kept true m.lines),
            length-append (informational_lines hs) (kept true m.lines),
            heads-few hs g.0,
            g.1,
            kept-few true m.lines,
            h.lines.few,
          )

  pub request-fields-small : is_response m.start ≡ false → length (head_numbers m) ≤ 256
  unfolding informational_lines
  request-fields-small = go m.start
    where
      go : (st : Start) → is_response st ≡ false → length (fields_numbers (informational_lines (informational_in st) ++ kept (is_response st) m.lines)) ≤ 256
      go (request_start q c a p) e = omega (arith, numbers-length (kept false m.lines), kept-few false m.lines, h.lines.few)
      go (response_start hs c) e = let z : ◌≡◌ {A = ℕ} 0 1 = cc in absurd (omega arith)

  pub informational-small : length (informational_numbers (informational_in m.start)) ≤ 8
  informational-small = go m.start h.heads
    where
      go : (st : Start) → GoodHeads st → length (informational_numbers (informational_in st)) ≤ 8
      go (request_start q c a p) g = omega (arith, heads-size [])
      go (response_start hs c) g = omega (arith, heads-size hs, g.1)

  pub chunks-small : length (chunks_numbers m.chunks) ≤ 512
  chunks-small = omega (arith, chunks-length m.chunks, h.chunks.few)

  pub trailers-small : length (trailer_numbers m) ≤ 256
  unfolding kept_trailers
  trailers-small = omega (arith, numbers-length (kept_trailers m.trailers), trailers-few m.trailers, h.trailers.few)

-- ---- what a writer finds

begins : {o' : List ℕ} (o l : List ℕ) → length l ≤ length o → o' ≡ splice o 0 l → Begins l o'
begins o l h e = record { others = drop (0 + length l) o; split = e ∙ splice-is o 0 l (omega (arith, h)) }

-- a request has no informational heads
begins-none : (st : Start) (ns : List ℕ) → is_response st ≡ false → Begins (informational_numbers (informational_in st)) ns
unfolding informational_numbers
begins-none (request_start q c a p) ns e = record { others = ns; split = refl }
begins-none (response_start hs c) ns e = let z : ◌≡◌ {A = ℕ} 0 1 = cc in absurd (omega arith)

-- a message that was read, and what is left of it in the lent space
abbrev pub IsHeld : Answer Message → List ℕ → Record → List ℕ → List ℕ → List ℕ → List ℕ → Type 0
IsHeld x s r hs ns cs ts = (n : ℕ) × (m : Message) × (x ≡ accepted n m) × Held s n m r hs ns cs ts

module _ {x : Answer Message} {hs hs' cs cs' ts ts' : List ℕ} {o : Outcome} {r : Record} (s : List ℕ) where
  -- from a reader that may have read a response
  pub held : {ns ns' : List ℕ} → Responded x hs hs' ns ns' cs cs' ts ts' o → o ≡ Ok r → ((n : ℕ) (m : Message) → x ≡ accepted n m → Sound s m)
      → 1280 ≤ length hs → 8 ≤ length ns → 512 ≤ length cs → 256 ≤ length ts → IsHeld x s r hs' ns' cs' ts'
  held {ns} {ns'} h e sound a b c d = go x h.says h.informational sound
    where
      go : (y : Answer Message) → OutcomeSays y hs hs' cs cs' ts ts' o → InformationalSays y ns ns' → ((n : ℕ) (m : Message) → y ≡ accepted n m → Sound s m)
          → IsHeld y s r hs' ns' cs' ts'
      go (accepted n m) q i z =
          let k = z n m refl in
          let f : Ok r ≡ Ok (record_of n m) = sym e ∙ q.0 in (
            n,
            m,
            refl,
            record {
              sound = k;
              numbers = cc;
              fields = stores-begins q.1;
              informational = begins ns (informational_numbers (informational_in m.start)) (omega (arith, informational-small k, b)) i;
              chunks = begins cs (chunks_numbers m.chunks) (omega (arith, chunks-small k, c)) q.2;
              trailers = stores-begins q.3;
            },
          )
      go (refused j p) q i z = no-message (sym q ∙ e)
      go more q i z = no_more (sym q ∙ e)

  -- from a reader of requests; ns may be anything
  pub held-request : (ns : List ℕ) → Outcomed x hs hs' cs cs' ts ts' o → o ≡ Ok r
      → ((n : ℕ) (m : Message) → x ≡ accepted n m → Sound s m × (is_response m.start ≡ false))
      → 256 ≤ length hs → 512 ≤ length cs → 256 ≤ length ts → IsHeld x s r hs' ns cs' ts'
  held-request ns h e sound a c d = go x h.says sound
    where
      go : (y : Answer Message) → OutcomeSays y hs hs' cs cs' ts ts' o
          → ((n : ℕ) (m : Message) → y ≡ accepted n m → Sound s m × (is_response m.start ≡ false)) → IsHeld y s r hs' ns cs' ts'
      go (accepted n m) q z =
          let k = (z n m refl).0 in
          let f : Ok r ≡ Ok (record_of n m) = sym e ∙ q.0 in (
            n,
            m,
            refl,
            record {
              sound = k;
              numbers = cc;
              fields = stores-begins q.1;
              informational = begins-none m.start ns (z n m refl).1;
              chunks = begins cs (chunks_numbers m.chunks) (omega (arith, chunks-small k, c)) q.2;
              trailers = stores-begins q.3;
            },
          )
      go (refused j p) q z = no-message (sym q ∙ e)
      go more q z = no_more (sym q ∙ e)
