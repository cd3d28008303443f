-- From the outcome of a reader of HTTP/1.1 to its answer by value, and to what a writer finds.
use Prim.Native.Nat.{ℕ, ◌≤◌}
use mathlib.Core.Path.{◌≡◌, refl}
use mathlib.Core.Bool.{false}
use mathlib.Core.List.{List}
use lib.ListN.{length, replicate}
use Rattle.script.specs.Script.{accepted}
use Rattle.messages.specs.Message.{FieldRead, Start, request_start, response_start, is_response, Message}
use Rattle.messages.specs.declared.Told.{Told}
use Rattle.messages.specs.Answers.{reading_of}
use Rattle.messages.specs.declared.Record.{Record}
use Rattle.messages.specs.Answers.{Outcome}
use Rattle.std.proofs.Common.{Ok}
use Rattle.http1_lines.specs.Read.{read_request, read_response}
use Rattle.http1_sound.specs.Read.{IsRequest}
use Rattle.http1_sound.proofs.Sound.{request-sound, response-sound}
use Rattle.sound.specs.Sound.{Sound}
use Rattle.ranges.specs.Ranges.{Outcomed, Responded, CountsWithin, reading_from}
use Rattle.ranges.proofs.Outcomes.{IsHeld, held, held-request}
use Rattle.ranges.proofs.ByValue.{counts-within, by_value, requested}

is-request : (t : Told) (lines : List FieldRead) (st : Start) → IsRequest t lines st → is_response st ≡ false
is-request t lines (request_start q c a p) i = refl
is-request t lines (response_start hs c) i = absurd i

sound-request : (t : Told) (s : List ℕ) (n : ℕ) (m : Message) → read_request t s ≡ accepted n m → Sound s m × (is_response m.start ≡ false)
sound-request t s n m e =
    let k = request-sound t s n m e in
    (k.sound, is-request t m.lines m.start k.request)

-- a request that was read is held, whatever stands where informational heads would
pub request-held : (t : Told) (s : List ℕ) {hs hs' cs cs' ts ts' : List ℕ} {o : Outcome} {r : Record} (ns : List ℕ) → Outcomed (read_request t s) hs hs' cs cs' ts ts' o
    → o ≡ Ok r → 256 ≤ length hs → 512 ≤ length cs → 256 ≤ length ts → IsHeld (read_request t s) s r hs' ns cs' ts'
request-held t s ns h e = held-request s ns h e (sound-request t s)

-- its counts are within its ranges, and its answer by value is what its definition says
module _ (t : Told) (s : List ℕ) {hs' cs' ts' : List ℕ} {o : Outcome} (h : Outcomed (read_request t s) (replicate 1280 0) hs' (replicate 512 0) cs' (replicate 256 0) ts' o) where
  pub request-counts : CountsWithin o (replicate 8 0)
  request-counts = counts-within s (requested (replicate 8 0) h (λ n m e. (sound-request t s n m e).1)) (λ n m e. (sound-request t s n m e).0)

  pub request-by-value : reading_from o (replicate 8 0) hs' ts' cs' ≡ reading_of (read_request t s)
  request-by-value = by_value s (requested (replicate 8 0) h (λ n m e. (sound-request t s n m e).1)) (λ n m e. (sound-request t s n m e).0)

sound-response : (t : Told) (s : List ℕ) (n : ℕ) (m : Message) → read_response t s ≡ accepted n m → Sound s m
sound-response t s n m e = (response-sound t s n m e).sound

-- a response that was read is held
pub response-held : (t : Told) (s : List ℕ) {hs hs' ns ns' cs cs' ts ts' : List ℕ} {o : Outcome} {r : Record} → Responded (read_response t s) hs hs' ns ns' cs cs' ts ts' o
    → o ≡ Ok r → 1280 ≤ length hs → 8 ≤ length ns → 512 ≤ length cs → 256 ≤ length ts → IsHeld (read_response t s) s r hs' ns' cs' ts'
response-held t s h e = held s h e (sound-response t s)

module _ (t : Told) (s : List ℕ) {hs' ns' cs' ts' : List ℕ} {o : Outcome}
    (h : Responded (read_response t s) (replicate 1280 0) hs' (replicate 8 0) ns' (replicate 512 0) cs' (replicate 256 0) ts' o) where
  pub response-counts : CountsWithin o ns'
  response-counts = counts-within s h (sound-response t s)

  pub response-by-value : reading_from o ns' hs' ts' cs' ≡ reading_of (read_response t s)
  response-by-value = by_value s h (sound-response t s)
