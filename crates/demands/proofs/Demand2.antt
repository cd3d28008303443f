-- Demand 2: from soundness of each reader and the round trip of each form. Assumes nothing.
use Prim.Native.Nat.{ℕ, ◌+◌, ◌<◌, ◌≤◌}
use mathlib.Core.Path.{◌≡◌, refl, sym, ap, ◌∙◌}
use mathlib.Core.Bool.{Bool, true, false, cond}
use mathlib.Core.List.{List, [], ◌++◌, append-nil}
use native.Mathlib.Omega.{arith}
use borrow.Author.Tests.{le-leb, lt-leb, leb-false, eq-eqb}
use lib.Dec.{leb}
use lib.ListN.{length, drop}
use Rattle.octets.specs.Refusals.{not_supported, too_large, no_room, other_scheme, bad_edition, refused_at}
use Rattle.script.specs.Script.{Answer, accepted, refused, more, means, run}
use Rattle.messages.specs.declared.Told.{Told}
use Rattle.messages.specs.Told.{is_edition, in_edition}
use Rattle.messages.specs.Message.{FieldRead, Start, request_start, response_start, Message}
use Rattle.messages.specs.Meaning.{Control, request, response, Meaning, control_means, meaning}
use Rattle.messages.specs.Valid.{is_scheme, of_response, valid, suits}
use Rattle.http1_lines.specs.Read as script
use Rattle.http1_lines.specs.Read.{read_request, read_response}
use Rattle.binary.specs.Read.{read_sized, read_binary}
use Rattle.binary_writer.specs.Write.{binary_of, binary_fits, to_binary}
use Rattle.http1_writer.specs.Write.{http1_of, http1_fits, on_connection, to_http1}
use Rattle.output.specs.Splice.{splice}
use Rattle.output.specs.Reply.{Reply, writes, refuses, written_of, lent_after}
use Rattle.output.proofs.Laws.{splice-is}
use Rattle.turn.specs.Turn as turn
use Rattle.turn.specs.Turn.{request_to_binary, response_to_binary, binary_to_binary, binary_to_http1}
use Rattle.http1_sound.specs.Read.{IsRequest, IsResponse}
use Rattle.http1_sound.proofs.Sound.{request-sound, response-sound}
use Rattle.binary_sound.proofs.Sound.{binary-sound}
use Rattle.binary_round_trip.proofs.Back.{round-trip-of-meanings}
use Rattle.http1_round_trip.specs.RoundTrip.{is_request_of}
use Rattle.http1_round_trip.proofs.Back.{request-meanings, response-meanings}
use Rattle.demands.proofs.Accepting.{accepting}
use Rattle.demands.specs.Demand2.{Turning, http1_reader, into_binary, requests_as_binary, responses_as_binary, binary_anew, binary_as_http1, reply_for, reply_to, behind, Kept, Lent, Turns, Demand2}
use Rattle.std.proofs.Common.{Ok, Err}

pub no : {A : Type 0} → ◌≡◌ {A = ℕ} 0 1 → A
no z = absurd (omega arith)

-- ---- room

pub splice_front : (o b : List ℕ) → length b ≤ length o → splice o 0 b ≡ b ++ drop (length b) o
splice_front o b h =
    let z : 0 + length b ≡ length b = omega arith in
    splice-is o 0 b (omega arith) ∙ ap (λ (n : ℕ). b ++ drop n o) z

octets-lent : (bs : List ℕ) → Lent (writes bs)
unfolding written_of lent_after
octets-lent bs = record {
  done = λ o b e h. let z : bs ≡ b = cc in rw z (fit o b h);
  small = λ o b e. let z : bs ≡ b = cc in rw z ((λ g. by-test o b (leb (length b) (length o)) refl g), (λ g. rw (lt-leb (length b) (length o) g)));
  stands = λ o k p e. no cc;
  unaltered = λ o k p e. kept o k p (leb (length bs) (length o)) e;
}
  where
    fit : (o b : List ℕ) → length b ≤ length o
        → (cond (leb (length b) (length o)) (Ok (length b)) (Err (refused_at no_room 0)) ≡ Ok (length b)) × (cond (leb (length b) (length o)) (splice o 0 b) o ≡ b ++ drop (length b) o)
    fit o b h = rw (le-leb (length b) (length o) h) (refl, splice_front o b h)

    by-test : (o b : List ℕ) (x : Bool) → leb (length b) (length o) ≡ x → cond x (Ok (length b)) (Err (refused_at no_room 0)) ≡ Err (refused_at no_room 0) → length o < length b
    by-test o b true e g = no cc
    by-test o b false e g = leb-false (length b) (length o) e

    kept : (o : List ℕ) (k p : ℕ) (x : Bool) → cond x (Ok (length bs)) (Err (refused_at no_room 0)) ≡ Err (refused_at k p) → cond x (splice o 0 bs) o ≡ o
    kept o k p true g = no cc
    kept o k p false g = refl

wrong-lent : (j q : ℕ) → Lent (refuses j q)
unfolding written_of lent_after
wrong-lent j q = record {
  done = λ o b e h. no cc;
  small = λ o b e. no cc;
  stands = λ o k p e. cc;
  unaltered = λ o k p e. refl;
}

pub lent : (y : Reply) → Lent y
lent (writes bs) = octets-lent bs
lent (refuses j q) = wrong-lent j q

-- ---- any turning that replies so, and whose written messages are read back

module _ (w : Turning) (turn : List ℕ → Reply) (replies : (s : List ℕ) → turn s ≡ reply_to w s)
    (back : (s : List ℕ) (n : ℕ) (m : Message) → w.read s ≡ accepted n m → w.goes (meaning m) ≡ true → w.fits (meaning m) ≡ true
    → (rest : List ℕ) → means meaning (w.back (meaning m).control (w.write (meaning m) ++ behind w.streams rest)) ≡ accepted (length (w.write (meaning m))) (meaning m)) where
  is_turned : (s : List ℕ) (n : ℕ) (m : Message) → w.edition ≡ true → w.told ≡ true → w.read s ≡ accepted n m → w.goes (meaning m) ≡ true → w.fits (meaning m) ≡ true
      → turn s ≡ writes (w.write (meaning m))
  is_turned s n m i e r g f = replies s ∙ rw (i, e, r, g, f)

  is-kept : (s b : List ℕ) → turn s ≡ writes b → Kept w s b
  is-kept s b e = edition w.edition (sym (replies s) ∙ e)
    where
      on : (n : ℕ) (m : Message) → w.read s ≡ accepted n m → (g f : Bool) → w.goes (meaning m) ≡ g → w.fits (meaning m) ≡ f
          → cond g (cond f (writes (w.write (meaning m))) (refuses too_large 0)) (refuses other_scheme 0) ≡ writes b → Kept w s b
      on n m r true true p q h =
          let z : w.write (meaning m) ≡ b = cc in
          record { long = n; message = m; read = r; goes = p; fits = q; written = sym z; same = λ rest. rw (← z) (back s n m r p q rest) }
      on n m r true false p q h = no cc
      on n m r false f p q h = no cc

      go : (x : Answer Message) → w.read s ≡ x → reply_for w (length s) x ≡ writes b → Kept w s b
      go (accepted n m) r h = on n m r (w.goes (meaning m)) (w.fits (meaning m)) refl refl h
      go (refused k p) r h = no cc
      go more r h = no cc

      first : (x : Bool) → cond x (reply_for w (length s) (w.read s)) (refuses not_supported 0) ≡ writes b → Kept w s b
      first true h = go (w.read s) refl h
      first false h = no cc

      edition : (x : Bool) → cond x (cond w.told (reply_for w (length s) (w.read s)) (refuses not_supported 0)) (refuses bad_edition 0) ≡ writes b → Kept w s b
      edition true h = first w.told h
      edition false h = no cc

  turns : Turns w turn
  turns = record { reply = replies; turned = is_turned; kept = is-kept; room = λ s. lent (turn s) }

-- ---- into Binary

binary-reply : (t : Told) (edition told : Bool) (read : List ℕ → Answer Message) (n : ℕ) (x : Answer Message) → turn.reply_from n x to_binary ≡ reply_for (into_binary t edition told read) n x
unfolding to_binary
binary-reply t edition told read n (accepted k m) = refl
binary-reply t edition told read n (refused k p) = refl
binary-reply t edition told read n more = refl

-- from any reader whose messages are valid and suit what is told
module _ (t : Told) (edition told : Bool) (read : List ℕ → Answer Message)
    (sound : (s : List ℕ) (n : ℕ) (m : Message) → read s ≡ accepted n m → (valid (meaning m) ≡ true) × (suits t (meaning m) ≡ true)) where
  binary-back : (s : List ℕ) (n : ℕ) (m : Message) → read s ≡ accepted n m → true ≡ true → binary_fits (meaning m) ≡ true
      → (rest : List ℕ) → means meaning (read_binary (in_edition 0 t) (binary_of (meaning m) ++ [])) ≡ accepted (length (binary_of (meaning m))) (meaning m)
  binary-back s n m r g f rest = rw (append-nil (binary_of (meaning m))) (round-trip-of-meanings t (meaning m) (sound s n m r).0 (sound s n m r).1 f)

  binary-turns : (turn : List ℕ → Reply) → ((s : List ℕ) → turn s ≡ reply_to (into_binary t edition told read) s) → Turns (into_binary t edition told read) turn
  binary-turns turn replies = turns (into_binary t edition told read) turn replies binary-back

request-replies : (t : Told) (s : List ℕ) → request_to_binary t s ≡ reply_to (requests_as_binary t) s
unfolding request_to_binary read_request
request-replies t s = go (is_scheme t.scheme) (run (script.request t) 0 s)
  where
    go : (b : Bool) (x : Answer Message)
        → turn.reply_from (length s) (cond b x (refused not_supported 0)) to_binary
        ≡ cond b (reply_for (requests_as_binary t) (length s) (cond b x (refused not_supported 0))) (refuses not_supported 0)
    go true x = binary-reply t true (is_scheme t.scheme) (read_request t) (length s) x
    go false x = refl

response-replies : (t : Told) (s : List ℕ) → response_to_binary t s ≡ reply_to (responses_as_binary t) s
unfolding response_to_binary
response-replies t s = binary-reply t true true (read_response t) (length s) (read_response t s)

anew-replies : (t : Told) (s : List ℕ) → binary_to_binary t s ≡ reply_to (binary_anew t) s
unfolding binary_to_binary read_binary
anew-replies t s = go (is_edition t.edition) (read_sized t s)
  where
    go : (b : Bool) (x : Answer Message)
        → turn.reply_from (length s) (cond b x (refused bad_edition 0)) to_binary
        ≡ cond b (reply_for (binary_anew t) (length s) (cond b x (refused bad_edition 0))) (refuses bad_edition 0)
    go true x = binary-reply t (is_edition t.edition) true (read_binary t) (length s) x
    go false x = refl

-- ---- into HTTP/1.1

pub binary-valid : (t : Told) (s : List ℕ) (n : ℕ) (m : Message) → read_binary t s ≡ accepted n m → valid (meaning m) ≡ true
binary-valid t s n m e = (binary-sound t s n m e).sound.valid

http1-reply : (t : Told) (n : ℕ) (x : Answer Message) → turn.reply_from n x (to_http1 t) ≡ reply_for (binary_as_http1 t) n x
unfolding to_http1
http1-reply t n (accepted k m) = refl
http1-reply t n (refused k p) = refl
http1-reply t n more = refl

http1-replies : (t : Told) (s : List ℕ) → binary_to_http1 t s ≡ reply_to (binary_as_http1 t) s
unfolding binary_to_http1
http1-replies t s =
    ap (λ (y : Reply). cond (is_edition t.edition) (cond (is_scheme t.scheme) y (refuses not_supported 0)) (refuses bad_edition 0))
    (http1-reply t (length s) (read_binary t s))

-- a valid meaning that goes on the connection and fits is read back by the reader of its kind
http1-meanings : (t : Told) (m : Meaning) (c : Control) → m.control ≡ c → valid m ≡ true → suits t m ≡ true → on_connection t c ≡ true → http1_fits t m ≡ true
    → (rest : List ℕ) → means meaning (http1_reader t c (http1_of t m ++ rest)) ≡ accepted (length (http1_of t m)) m
http1-meanings t m (request x s a p) e v u g f rest = request-meanings t m (v, f, rw e g) rest
http1-meanings t m (response hs s) e v u g f rest = response-meanings t m (v, f, rw e refl, u) rest

http1-turns : (t : Told) → Turns (binary_as_http1 t) (binary_to_http1 t)
http1-turns t = turns (binary_as_http1 t) (binary_to_http1 t) (http1-replies t)
    (λ s n m r g f rest. http1-meanings t (meaning m) (meaning m).control refl (binary-valid t s n m r) (binary-sound t s n m r).suits g f rest)

-- ---- the kinds of messages

request-kind : (t : Told) (lines : List FieldRead) (x : Start) → IsRequest t lines x → is_request_of t (control_means x) ≡ true
request-kind t lines (request_start m s a p) h = eq-eqb s t.scheme h.0
request-kind t lines (response_start hs s) h = absurd h

response-kind : (x : Start) → IsResponse x → of_response (control_means x) ≡ true
response-kind (request_start m s a p) h = absurd h
response-kind (response_start hs s) h = refl

of-requests : (t : Told) (s : List ℕ) (n : ℕ) (m : Message) → read_request t s ≡ accepted n m → is_request_of t (meaning m).control ≡ true
unfolding meaning
of-requests t s n m e = request-kind t m.lines m.start (request-sound t s n m e).request

of-responses : (t : Told) (s : List ℕ) (n : ℕ) (m : Message) → read_response t s ≡ accepted n m → of_response (meaning m).control ≡ true
unfolding meaning
of-responses t s n m e = response-kind m.start (response-sound t s n m e).response

pub demand2 : Demand2
demand2 = record {
  of_requests = of-requests;
  of_responses = of-responses;
  requests = λ t.
      binary-turns t true (is_scheme t.scheme) (read_request t) (λ s n m r. let h = request-sound t s n m r in (h.sound.valid, h.suits)) (request_to_binary t) (request-replies t);
  responses = λ t. binary-turns t true true (read_response t) (λ s n m r. let h = response-sound t s n m r in (h.sound.valid, h.suits)) (response_to_binary t) (response-replies t);
  binaries = λ t. binary-turns t (is_edition t.edition) true (read_binary t) (λ s n m r. let h = binary-sound t s n m r in (h.sound.valid, h.suits)) (binary_to_binary t) (anew-replies t);
  http1 = http1-turns;
  accepting = accepting;
}
