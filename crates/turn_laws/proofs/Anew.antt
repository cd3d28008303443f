-- Writing Binary anew: from demand 2, soundness of the Binary reader, and its round trip. Assumes nothing.
use Prim.Native.Nat.{ℕ}
use mathlib.Core.Path.{◌≡◌, sym, ap, ◌∙◌}
use mathlib.Core.Bool.{true}
use mathlib.Core.List.{List}
use Rattle.script.specs.Script.{accepted}
use Rattle.messages.specs.declared.Told.{Told}
use Rattle.messages.specs.Told.{in_edition}
use Rattle.messages.specs.Message.{Message}
use Rattle.messages.specs.Meaning.{Meaning, meaning}
use Rattle.binary.specs.Read.{read_binary}
use Rattle.binary_writer.specs.Write.{binary_of, binary_fits, to_binary}
use Rattle.output.specs.Reply.{writes}
use Rattle.turn.specs.Turn.{binary_to_binary}
use Rattle.binary_sound.proofs.Sound.{binary-sound}
use Rattle.binary_round_trip.proofs.Back.{round_trip, round-trip-of-meanings}
use Rattle.binary_round_trip.proofs.Apart.{unique}
use Rattle.demands.specs.Demand2.{binary_anew, Kept}
use Rattle.demands.proofs.Demand2.{binary-valid, demand2}
use Rattle.turn_laws.specs.Anew.{Anew}

kept : (t : Told) (s b : List ℕ) → binary_to_binary t s ≡ writes b → Kept (binary_anew t) s b
kept t s b e = (demand2.binaries t).kept s b e

-- what is written of an accepted message
written_of : (t : Told) (s : List ℕ) (n : ℕ) (m : Message) → read_binary t s ≡ accepted n m → binary_to_binary t s ≡ to_binary (meaning m)
unfolding binary_to_binary
written_of t s n m e = rw e

fits-written : (w : Meaning) → binary_fits w ≡ true → to_binary w ≡ writes (binary_of w)
unfolding to_binary
fits-written w f = rw f

anew-once : (t : Told) (s b : List ℕ) → binary_to_binary t s ≡ writes b → binary_to_binary (in_edition 0 t) b ≡ writes b
anew-once t s b e =
    let k = kept t s b e in
    let w : Meaning = meaning k.message in
    let h = binary-sound t s k.long k.message k.read in
    let r = round_trip t w h.sound.valid h.suits k.fits in
    let z : b ≡ binary_of w = k.written in
    rw z (written_of (in_edition 0 t) (binary_of w) _ _ r.0 ∙ ap to_binary r.1 ∙ fits-written w k.fits)

anew-apart : (t u : Told) (r s b : List ℕ) (k n : ℕ) (l m : Message) → read_binary t r ≡ accepted k l → read_binary u s ≡ accepted n m
    → binary_to_binary t r ≡ writes b → binary_to_binary u s ≡ writes b → meaning l ≡ meaning m
anew-apart t u r s b k n l m p q e f =
    let x = kept t r b e in
    let y = kept u s b f in
    let c : x.message ≡ l = cc (p, x.read) in
    let d : y.message ≡ m = cc (q, y.read) in
    let v = binary-valid t r x.long x.message x.read in
    let w = binary-valid u s y.long y.message y.read in
    let z = unique (meaning x.message) (meaning y.message) v x.fits w y.fits (sym x.written ∙ y.written) in
    sym (ap meaning c) ∙ z ∙ ap meaning d

pub anew : Anew
anew = record {
  reads = λ t s n m e f. let h = binary-sound t s n m e in round-trip-of-meanings t (meaning m) h.sound.valid h.suits f;
  once = anew-once;
  alike = λ t u r s k n l m p q e. written_of t r k l p ∙ ap to_binary e ∙ sym (written_of u s n m q);
  apart = anew-apart;
}
