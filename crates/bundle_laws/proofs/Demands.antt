-- Demand 2 for each message of a bundle, demand 3 for lists of a bundle's requests: from demands 2 and 3 as they stand.
use Prim.Native.Nat.{ℕ, ◌≤◌}
use mathlib.Core.Path.{◌≡◌, refl, sym, ap, ◌∙◌}
use mathlib.Core.Bool.{Bool, true, false}
use mathlib.Core.List.{List, [], ◌∷◌, ◌++◌}
use native.Mathlib.Omega.{arith}
use borrow.Author.Tests.{le-leb, eqb-true}
use lib.Dec.{leb, eqb}
use lib.ListN.{length}
use Rattle.octets.specs.Limits.{binary_most}
use Rattle.script.specs.Script.{Answer, accepted, refused, more, means}
use Rattle.messages.specs.declared.Told.{Told}
use Rattle.messages.specs.Message.{Start, request_start, response_start, is_response, Message}
use Rattle.messages.specs.Meaning.{Control, request, response, Meaning, meaning, control_means}
use Rattle.messages.specs.Valid.{of_response, suits_control, suits}
use Rattle.sound.specs.Placed.{Each}
use Rattle.messages.specs.Told.{plain}
use Rattle.binary.specs.Read.{read_binary}
use Rattle.binary_round_trip.proofs.Back.{round-trip-of-meanings}
use Rattle.binary_writer.specs.Write.{binary_of, binary_fits, to_binary}
use Rattle.output.specs.Reply.{writes, Written}
use Rattle.turn.specs.Turn.{reply_from, binary_to_binary}
use Rattle.demands.specs.Demand3.{Call, told_of, Space, fresh, answer_in, call, entry_of, entry_in, entries_in, NotResponse, NoResponse}
use Rattle.demands.proofs.Demand2.{binary-valid, demand2}
use Rattle.demands.proofs.Demand3.{demand3}
use Rattle.bundle.specs.Bundle.{word_of, kind_of, Entry, kind_number, walk}
use Rattle.bundle_laws.specs.Reading.{InForm}
use Rattle.bundle_laws.specs.Demands.{MessageKept, call_if, call_on, requests_of, Requests, Demands}
use Rattle.bundle_laws.proofs.Reading.{front}
use Rattle.std.proofs.Common.{Ok, Err}

-- ---- demand 2

fits_by : (x : Meaning) (w : List ℕ) → w ≡ binary_of x → length w ≤ binary_most → to_binary x ≡ writes w
unfolding to_binary binary_fits
fits_by x w e h =
    let l : leb (length (binary_of x)) binary_most ≡ true = le-leb (length (binary_of x)) binary_most (rw (← e) h) in
    rw l (ap (λ (z : List ℕ). writes z) (sym e))

pub anew : (e : Entry) → InForm e → binary_to_binary (plain 0) e.text ≡ writes e.text
unfolding binary_to_binary
anew e g = ap (λ (x : Answer Message). reply_from (length e.text) x to_binary) g.read ∙ fits_by (meaning g.message) e.text g.form g.small

kept-each : (es : List Entry) → Each InForm es → Each MessageKept es
kept-each [] h = tt
kept-each (e ∷ es) h =
    let a = anew e h.0 in
    (record { anew = a; kept = (demand2.binaries (plain 0)).kept e.text e.text a; http1 = λ t b. (demand2.http1 t).kept e.text b }, kept-each es h.1)

-- ---- demand 3

pub response-is : (m : Message) → is_response m.start ≡ of_response (meaning m).control
unfolding meaning
response-is m = go m.start
  where
    go : (st : Start) → is_response st ≡ of_response (control_means st)
    go (request_start q s a p) = refl
    go (response_start hs s) = refl

-- a call on no response, whatever scheme is told
abbrev OfRequest : Call → Type 0
OfRequest c = (t : Told) (n : ℕ) (m : Message) → read_binary (told_of t c) c.input ≡ accepted n m → of_response (meaning m).control ≡ false

-- on a request what is told means nothing
request-suits : (t : Told) (x : Meaning) → of_response x.control ≡ false → suits t x ≡ true
unfolding suits
request-suits t x e = go x.control e
  where
    go : (c : Control) → of_response c ≡ false → suits_control t c x ≡ true
    go (request q s a p) o = refl
    go (response hs s) o = let z : ◌≡◌ {A = ℕ} 0 1 = cc in absurd (omega arith)

kind-zero : (b : Bool) → kind_number b ≡ 0 → b ≡ false
kind-zero true e = absurd (omega arith)
kind-zero false e = refl

of-request : (e : Entry) → InForm e → kind_of (word_of e.head) ≡ 0 → OfRequest (call_on e)
unfolding binary_fits
of-request e g k t n m q =
    let x : Meaning = meaning g.message in
    let b : is_response g.message.start ≡ false = kind-zero (is_response g.message.start) (sym g.kind ∙ k) in
    let o : of_response x.control ≡ false = sym (response-is g.message) ∙ b in
    let f : leb (length (binary_of x)) binary_most ≡ true = le-leb (length (binary_of x)) binary_most (rw (← g.form) g.small) in
    let r = round-trip-of-meanings (told_of t (call_on e)) x (binary-valid (plain 0) e.text _ _ g.read) (request-suits (told_of t (call_on e)) x o) f in
    let z : accepted n (meaning m) ≡ accepted (length (binary_of x)) x = sym (ap (means meaning) (rw g.form at q)) ∙ r in
    let s : meaning m ≡ x = cc in
    rw s o

call-each : (b : Bool) (c : Call) (cs : List Call) → (b ≡ true → OfRequest c) → Each OfRequest cs → Each OfRequest (call_if b c cs)
call-each true c cs h g = (h refl, g)
call-each false c cs h g = g

requests-each : (es : List Entry) → Each InForm es → Each OfRequest (requests_of es)
unfolding requests_of
requests-each [] h = tt
requests-each (e ∷ es) h =
    call-each (eqb (kind_of (word_of e.head)) 0) (call_on e) (requests_of es) (λ q. of-request e h.0 (eqb-true (kind_of (word_of e.head)) 0 q)) (requests-each es h.1)

each_both : (a b : List (ℕ × Meaning)) → Each NotResponse a → Each NotResponse b → Each NotResponse (a ++ b)
each_both [] b h g = g
each_both (x ∷ a) b h g = (h.0, each_both a b h.1 g)

module _ (t : Told) where
  of_entry : (r : Written) (x : Answer Message) → ((n : ℕ) (m : Message) → x ≡ accepted n m → of_response (meaning m).control ≡ false) → Each NotResponse (entry_of r x)
  of_entry (Ok n) (accepted k m) h = (h k m refl, tt)
  of_entry (Ok n) (refused k p) h = tt
  of_entry (Ok n) more h = tt
  of_entry (Err e) x h = tt

  none_in : (cs : List Call) → Each OfRequest cs → (z : Space) → Each NotResponse (entries_in t z cs)
  unfolding entries_in entry_in
  none_in [] h z = tt
  none_in (c ∷ cs) h z =
      let x : Answer Message = read_binary (told_of t c) c.input in
      each_both (entry_of (answer_in t z c) x) (entries_in t (call t z c) cs) (of_entry (answer_in t z c) x (h.0 t)) (none_in cs h.1 (call t z c))

  none : (es : List Entry) → Each InForm es → (o : List ℕ) → NoResponse t o (requests_of es)
  none es h o = none_in (requests_of es) (requests-each es h) (fresh o)

  requests : Requests t
  requests =
      record {
        none = none;
        taken = λ es h o. (demand3 t).taken o (requests_of es) (none es h o);
        left = λ es h o. (demand3 t).left o (requests_of es) (none es h o);
        same = λ es ds h g o q. (demand3 t).same o (requests_of es) (none es h o) q (requests_of ds) (none ds g q);
      }

pub demands : Demands
demands = record { demand2 = λ s. kept-each (walk s).entries (front s).good; entries = λ s. (front s).good; demand3 = requests }
