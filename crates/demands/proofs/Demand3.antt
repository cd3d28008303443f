-- Demand 3: from demand 2, the round trip of requests, and the laws of taking off. Assumes nothing.
use Prim.Native.Nat.{ℕ, ◌+◌, ◌<◌, ◌≤◌}
use mathlib.Core.Path.{◌≡◌, refl, sym, ap, ap₂, ◌∙◌}
use mathlib.Core.Bool.{Bool, true, false, cond, ◌&&◌}
use mathlib.Core.Option.{Option, none, some}
use mathlib.Core.List.{List, [], ◌∷◌, ◌++◌, map, append_assoc, append-nil}
use native.Mathlib.Omega.{arith}
use borrow.Author.Tests.{leb-true}
use lib.Dec.{leb}
use lib.ListN.{length, take, drop, length-append, length-drop, take-append-drop}
use lib.Seq.{take-append_seam, drop-append_seam, drop-drop}
use Rattle.octets.specs.Refusals.{no_room, refused_at}
use Rattle.octets.proofs.Kit.{and_split}
use Rattle.script.specs.Script.{Answer, accepted, refused, more, Settled, means}
use Rattle.stream.specs.Taking.{message, waits, take_f, take_off, onto, add_octets, add_entry, add_call, stream, entries, sent}
use Rattle.stream.proofs.Taking as taking
use Rattle.stream.proofs.Taking.{Within, Stable}
use Rattle.messages.specs.Told.{answering}
use Rattle.messages.specs.declared.Told.{Told}
use Rattle.messages.specs.Message.{Message}
use Rattle.messages.specs.Meaning.{Control, request, response, Meaning, meaning}
use Rattle.messages.specs.Valid.{of_response, valid}
use Rattle.sound.specs.Placed.{Each}
use Rattle.http1_lines.specs.Read.{read_request}
use Rattle.http1_sound.proofs.Front.{request-within, request-stays, request-front}
use Rattle.binary.specs.Read.{read_binary}
use Rattle.http1_writer.specs.Write.{http1_of, http1_fits, on_connection}
use Rattle.output.specs.Reply.{Reply, writes, refuses, written_of, lent_after, Served, ServedAt, Written}
use Rattle.output.proofs.Serve.{after_tail}
use Rattle.http1_round_trip.specs.RoundTrip.{is_request_of, RequestOf}
use Rattle.http1_round_trip.proofs.Back.{request-meanings, text-unused, fits-unused, edition-text, edition-fits}
use Rattle.demands.specs.Demand2.{binary_as_http1, Kept}
use Rattle.demands.specs.Demand3.{Call, told_of, reply_of, Space, fresh, lent_in, answer_in, long_of, call, entry_in, calls, entries_in, space_of, stream_of, entries_of, meanings_of, NotResponse, NoResponse, read_meaning, Demand3}
use Rattle.demands.proofs.Demand2.{no, binary-valid, lent, demand2}
use Rattle.std.proofs.Common.{Ok, Err}

-- ---- the request reader of meanings

module _ (t : Told) where
  within : Within (read_meaning t)
  within s n m e = go (read_request t s) refl e
    where
      go : (x : Answer Message) → read_request t s ≡ x → means meaning x ≡ accepted n m → (0 < n) × (n ≤ length s)
      go (accepted k a) q h = let z : k ≡ n = cc in rw z at (request-within t s k a q)
      go (refused k p) q h = no cc
      go more q h = no cc

  stays : Stable (read_meaning t)
  stays s u h = ap (means meaning) (request-stays t s u (go (read_request t s) h))
    where
      go : (x : Answer Message) → Settled (means meaning x) → Settled x
      go (accepted k a) q = tt
      go (refused k p) q = tt
      go more q = absurd q

  -- a request that can be written is; nothing else
  unfoldable write : Meaning → Option (List ℕ)
  write m = cond (valid m && http1_fits t m && is_request_of t m.control) (some (http1_of t m)) none

  write-is : (m : Meaning) → RequestOf t m → write m ≡ some (http1_of t m)
  unfolding write
  write-is m h = rw (h.0, h.1, h.2)

  back : (m : Meaning) (b r : List ℕ) → write m ≡ some b → read_meaning t (b ++ r) ≡ accepted (length b) m
  unfolding write
  back m b r e = go (valid m && http1_fits t m && is_request_of t m.control) refl e
    where
      go : (x : Bool) → valid m && http1_fits t m && is_request_of t m.control ≡ x → cond x (some (http1_of t m)) none ≡ some b → read_meaning t (b ++ r) ≡ accepted (length b) m
      go true q h =
          let z : http1_of t m ≡ b = cc in
          let p = and_split (valid m && http1_fits t m) _ q in
          let v = and_split (valid m) (http1_fits t m) p.0 in
          rw (← z) (request-meanings t m (v.0, v.1, p.1) r)
      go false q h = no cc

-- ---- any writer and reader

module _ {A : Type 0} (read : List ℕ → Answer A) (write : A → Option (List ℕ))
    (back : (a : A) (b r : List ℕ) → write a ≡ some b → read (b ++ r) ≡ accepted (length b) a) where
  -- as many answers as calls that were sent: the octets behind are left
  left_behind : (cs : List A) (r : List ℕ) → take_f read (length (entries write cs)) (stream write cs ++ r) ≡ onto (entries write cs) (waits r)
  unfolding stream entries take_f
  left_behind [] r = refl
  left_behind (a ∷ cs) r = go (write a) refl (left_behind cs r)
    where
      go : (x : Option (List ℕ)) → write a ≡ x → take_f read (length (entries write cs)) (stream write cs ++ r) ≡ onto (entries write cs) (waits r)
          → take_f read (length (add_entry x a (entries write cs))) (add_octets x (stream write cs) ++ r) ≡ onto (add_entry x a (entries write cs)) (waits r)
      go none e ih = ih
      go (some b) e ih =
          rw (append_assoc b (stream write cs) r, back a b (stream write cs ++ r) e, drop-append_seam)
          (ap (message (length b) a) ih)

module _ {A : Type 0} (write : A → Option (List ℕ)) where
  entries-sent : (cs : List A) → map (λ e. e.1) (entries write cs) ≡ sent write cs
  unfolding entries sent
  entries-sent [] = refl
  entries-sent (a ∷ cs) = go (write a) (entries-sent cs)
    where
      go : (x : Option (List ℕ)) → map (λ e. e.1) (entries write cs) ≡ sent write cs → map (λ e. e.1) (add_entry x a (entries write cs)) ≡ add_call x a (sent write cs)
      go none ih = ih
      go (some b) ih = ap (λ (l : List A). a ∷ l) ih

-- ---- one call

-- the space with the octets `front` written
abbrev at : List ℕ → List ℕ → Space
at front lent = record { whole = front ++ lent; written = length front }

-- what a call does to it: nothing, or it writes a meaning
data Step (t : Told) (c : Call) (front lent : List ℕ) : Type 0 where
  skips : call t (at front lent) c ≡ at front lent → entry_in t (at front lent) c ≡ [] → Step t c front lent
  adds : (m : Meaning) → valid m ≡ true → http1_fits (told_of t c) m ≡ true → on_connection t m.control ≡ true → length (http1_of (told_of t c) m) ≤ length lent
      → call t (at front lent) c ≡ at (front ++ http1_of (told_of t c) m) (drop (length (http1_of (told_of t c) m)) lent)
      → entry_in t (at front lent) c ≡ (length (http1_of (told_of t c) m), m) ∷ [] → Step t c front lent

-- a meaning, with the call that wrote it
abbrev Wrote : Type 0
Wrote = Call × Meaning

abbrev text_of : Told → Wrote → List ℕ
text_of t w = http1_of (told_of t w.0) w.1

-- what is written of meanings, and the entry of each
abbrev texts : Told → List Wrote → List ℕ
texts t [] = []
texts t (w ∷ ws) = text_of t w ++ texts t ws

abbrev measured : Told → Wrote → ℕ × Meaning
measured t w = (length (text_of t w), w.1)

-- the meanings alone
abbrev meant : List Wrote → List Meaning
meant ws = map (λ w. w.1) ws

abbrev space : List ℕ → ℕ → Space
space o n = record { whole = o; written = n }

-- an answer that is no refusal: the reply is octets, and there is room for them
record Fitted (y : Reply) (o : List ℕ) (n : ℕ) : Type 0 where
  text : List ℕ
  reply : y ≡ writes text
  long : n ≡ length text
  room : length text ≤ length o

fitted : (y : Reply) (o : List ℕ) (n : ℕ) → written_of y (length o) ≡ Ok n → Fitted y o n
unfolding written_of
fitted (writes b) o n e = go (leb (length b) (length o)) refl e
  where
    go : (x : Bool) → leb (length b) (length o) ≡ x → cond x (Ok (length b)) (Err (refused_at no_room 0)) ≡ Ok n → Fitted (writes b) o n
    go true q h = let z : length b ≡ n = cc in record { text = b; reply = refl; long = sym z; room = leb-true (length b) (length o) q }
    go false q h = no cc
fitted (refuses k p) o n e = no cc

module _ (t : Told) where
  -- calls in code
  called : (z : Space) (c : Call) (o' : List ℕ) (r : Written) → Served (reply_of t c) (lent_in z) o' r
      → (answer_in t z c ≡ r) × (call t z c ≡ space (take z.written z.whole ++ o') (z.written + long_of r))
  unfolding call answer_in
  called z c o' r h = (sym h.answer, ap₂ (λ (o : List ℕ) (w : Written). space (take z.written z.whole ++ o) (z.written + long_of w)) (sym h.after) (sym h.answer))

  called-at : (z : Space) (c : Call) (o' : List ℕ) (r : Written) → z.written ≤ length z.whole → ServedAt (reply_of t c) z.written z.whole o' r
      → (answer_in t z c ≡ r) × (call t z c ≡ space o' (z.written + long_of r))
  unfolding call answer_in
  called-at z c o' r k h =
      let y : Reply = reply_of t c in
      let e : written_of y (length (lent_in z)) ≡ r = ap (written_of y) (length-drop z.written z.whole) ∙ sym h.answer in
      let a : take z.written z.whole ++ lent_after y (lent_in z) ≡ o' = after_tail y z.written z.whole k ∙ sym h.after in
      (e, ap₂ (λ (o : List ℕ) (w : Written). space o (z.written + long_of w)) a e)

  unaltered : (z : Space) (c : Call) (k p : ℕ) → answer_in t z c ≡ Err (refused_at k p) → lent_after (reply_of t c) (lent_in z) ≡ lent_in z
  unfolding answer_in
  unaltered z c k p e = (lent (reply_of t c)).unaltered (lent_in z) k p e

  refused-call : (z : Space) (c : Call) (k p : ℕ) → answer_in t z c ≡ Err (refused_at k p) → (call t z c ≡ z) × (entry_in t z c ≡ [])
  unfolding call entry_in
  refused-call z c k p e = (rw (e, unaltered z c k p e) (ap₂ space (take-append-drop z.written z.whole) (omega arith)), rw e)

  record Accepted (z : Space) (c : Call) (n : ℕ) : Type 0 where
    kept : Fitted (reply_of t c) (lent_in z) n
    holds : Kept (binary_as_http1 (told_of t c)) c.input kept.text

  accepted-call : (z : Space) (c : Call) (n : ℕ) → answer_in t z c ≡ Ok n → Accepted z c n
  unfolding answer_in
  accepted-call z c n e =
      let f = fitted (reply_of t c) (lent_in z) n e in
      record { kept = f; holds = (demand2.http1 (told_of t c)).kept c.input f.text f.reply }

  accepted-entry : (z : Space) (c : Call) (n : ℕ) (m : Message) (k : ℕ) → answer_in t z c ≡ Ok n → read_binary (told_of t c) c.input ≡ accepted k m → entry_in t z c ≡ (n, meaning m) ∷ []
  unfolding entry_in
  accepted-entry z c n m k e r = rw (e, r)

  written-call : (front lent : List ℕ) (c : Call) (n : ℕ) (b : List ℕ) → answer_in t (at front lent) c ≡ Ok n → n ≡ length b
      → lent_after (reply_of t c) lent ≡ b ++ drop (length b) lent
      → call t (at front lent) c ≡ at (front ++ b) (drop (length b) lent)
  unfolding call
  written-call front lent c n b e l a =
      rw (e, take-append_seam front lent, drop-append_seam front lent, a)
      (ap₂ space (sym (append_assoc front b (drop (length b) lent))) (ap (λ (i : ℕ). length front + i) l ∙ sym (length-append front b)))

  -- of the connection a call is told the scheme alone
  on-connection : (k : Call) (c : Control) → on_connection (told_of t k) c ≡ on_connection t c
  on-connection k (request m s a p) = refl
  on-connection k (response hs s) = refl

  -- of a request what is told beside the scheme is not looked at in writing
  text-told : (k : Call) (m : Meaning) → of_response m.control ≡ false → http1_of (told_of t k) m ≡ http1_of t m
  text-told k m n = edition-text (answering k.head t) k.edition m ∙ text-unused t k.head m n

  fits_told : (k : Call) (m : Meaning) → of_response m.control ≡ false → http1_fits (told_of t k) m ≡ http1_fits t m
  fits_told k m n = edition-fits (answering k.head t) k.edition m ∙ fits-unused t k.head m n

  step : (c : Call) (front lent : List ℕ) → Step t c front lent
  step c front rest = go (answer_in t (at front rest) c) refl
    where
      go : (x : Written) → answer_in t (at front rest) c ≡ x → Step t c front rest
      go (Err z) e = let r = refused-call (at front rest) c z.number z.place e in skips r.0 r.1
      go (Ok n) e =
          let a = accepted-call (at front rest) c n e in
          let k = a.holds in
          let m : Meaning = meaning k.message in
          let z : a.kept.text ≡ http1_of (told_of t c) m = k.written in
          let room : length a.kept.text ≤ length rest = rw (drop-append_seam front rest) at a.kept.room in
          let l = (lent (reply_of t c)).done rest a.kept.text a.kept.reply room in
          let y = accepted-entry (at front rest) c n k.message k.long e k.read in
          let d = written-call front rest c n a.kept.text e a.kept.long l.1 in
          adds m (binary-valid (told_of t c) c.input k.long k.message k.read) k.fits (sym (on-connection c m.control) ∙ k.goes) (rw z at room) (rw z at d)
          (y ∙ ap (λ (i : ℕ). (i, m) ∷ []) (a.kept.long ∙ ap length z))

  -- ---- a list of calls

  -- what the writer turns
  abbrev Writable : Wrote → Type 0
  Writable w = (valid w.1 ≡ true) × (http1_fits (told_of t w.0) w.1 ≡ true) × (on_connection t w.1.control ≡ true)

  -- from the octets `front` on: what is then there are the meanings ws, written
  record Left (z : Space) (cs : List Call) (front rest : List ℕ) : Type 0 where
    ws : List Wrote
    each : Each Writable ws
    here : calls t z cs ≡ at (front ++ texts t ws) (drop (length (texts t ws)) rest)
    room : length (texts t ws) ≤ length rest
    same : entries_in t z cs ≡ map (measured t) ws

  abbrev joined : List (ℕ × Meaning) → List (ℕ × Meaning) → List (ℕ × Meaning)
  joined a b = a ++ b

  -- a call that wrote nothing, and the calls behind it
  left-same : (c : Call) (cs : List Call) (front rest : List ℕ) → call t (at front rest) c ≡ at front rest → entry_in t (at front rest) c ≡ []
      → Left (at front rest) cs front rest → Left (at front rest) (c ∷ cs) front rest
  unfolding calls entries_in
  left-same c cs front rest d e x =
      record {
        ws = x.ws;
        each = x.each;
        here = ap (λ (z : Space). calls t z cs) d ∙ x.here;
        room = x.room;
        same = ap₂ joined e (ap (λ (z : Space). entries_in t z cs) d) ∙ x.same;
      }

  -- a call that wrote a message, and the calls behind it
  left-more : (w : Wrote) → Writable w → (c : Call) (cs : List Call) (front rest : List ℕ) → length (text_of t w) ≤ length rest
      → call t (at front rest) c ≡ at (front ++ text_of t w) (drop (length (text_of t w)) rest) → entry_in t (at front rest) c ≡ measured t w ∷ []
      → Left (at (front ++ text_of t w) (drop (length (text_of t w)) rest)) cs (front ++ text_of t w) (drop (length (text_of t w)) rest)
      → Left (at front rest) (c ∷ cs) front rest
  unfolding calls entries_in
  left-more w h c cs front rest r y e x =
      let b : List ℕ = text_of t w in
      let u : List ℕ = texts t x.ws in
      let l : length (b ++ u) ≡ length b + length u = length-append b u in
      let d : length (drop (length b) rest) ≡ _ = length-drop (length b) rest in
      let g = x.room in
      let f : (front ++ b) ++ u ≡ front ++ (b ++ u) = append_assoc front b u in
      let i : drop (length u) (drop (length b) rest) ≡ drop (length (b ++ u)) rest = drop-drop (length u) (length b) rest ∙ ap (λ (n : ℕ). drop n rest) (sym l) in
      record {
        ws = w ∷ x.ws;
        each = (h, x.each);
        here = ap (λ (z : Space). calls t z cs) y ∙ x.here ∙ ap₂ at f i;
        room = omega arith;
        same = ap₂ joined e (ap (λ (z : Space). entries_in t z cs) y) ∙ ap (λ (k : List (ℕ × Meaning)). measured t w ∷ k) x.same;
      }

  left : (cs : List Call) (front rest : List ℕ) → Left (at front rest) cs front rest
  unfolding calls entries_in
  left [] front rest = record { ws = []; each = tt; here = ap (λ (o : List ℕ). at o rest) (sym (append-nil front)); room = omega arith; same = refl }
  left (c ∷ cs) front rest = go (step c front rest) (λ f r. left cs f r)
    where
      go : Step t c front rest → ((f r : List ℕ) → Left (at f r) cs f r) → Left (at front rest) (c ∷ cs) front rest
      go (skips d e) ih = left-same c cs front rest d e (ih front rest)
      go (adds m v f g r d e) ih =
          let w : Wrote = (c, m) in
          left-more w (v, f, g) c cs front rest r d e (ih (front ++ text_of t w) (drop (length (text_of t w)) rest))

  -- ---- where no response is among them

  request-of : (c : Control) → on_connection t c ≡ true → of_response c ≡ false → is_request_of t c ≡ true
  request-of (request m s a p) g f = g
  request-of (response hs s) g f = no cc

  requests-of : (ws : List Wrote) → Each Writable ws → Each NotResponse (map (measured t) ws) → Each (RequestOf t) (meant ws)
  requests-of [] e h = tt
  requests-of (w ∷ ws) e h =
      let f = fits_told w.0 w.1 h.0 in
      ((e.0.0, sym f ∙ e.0.1, request-of w.1.control e.0.2 h.0), requests-of ws e.1 h.1)

  stream-texts : (ws : List Wrote) → Each (RequestOf t) (meant ws) → Each NotResponse (map (measured t) ws) → stream (write t) (meant ws) ≡ texts t ws
  unfolding stream
  stream-texts [] h n = refl
  stream-texts (w ∷ ws) h n =
      rw (write-is t w.1 h.0) (ap₂ (λ (a b : List ℕ). a ++ b) (sym (text-told w.0 w.1 n.0)) (stream-texts ws h.1 n.1))

  entries-measured : (ws : List Wrote) → Each (RequestOf t) (meant ws) → Each NotResponse (map (measured t) ws) → entries (write t) (meant ws) ≡ map (measured t) ws
  unfolding entries
  entries-measured [] h n = refl
  entries-measured (w ∷ ws) h n =
      rw (write-is t w.1 h.0)
      (ap₂ (λ (a : List ℕ) (k : List (ℕ × Meaning)). (length a, w.1) ∷ k) (sym (text-told w.0 w.1 n.0)) (entries-measured ws h.1 n.1))

  -- ---- the calls in a fresh space

  module _ (o : List ℕ) (cs : List Call) where
    all : Left (fresh o) cs [] o
    all = left cs [] o

    abbrev text : List ℕ
    text = texts t all.ws

    untouched-all : (length (space_of t o cs).whole ≡ length o) × ((space_of t o cs).written ≤ length o)
        × (drop (space_of t o cs).written (space_of t o cs).whole ≡ drop (space_of t o cs).written o)
    untouched-all =
        let l : length (text ++ drop (length text) o) ≡ length text + length (drop (length text) o) = length-append text (drop (length text) o) in
        let d : length (drop (length text) o) ≡ _ = length-drop (length text) o in
        let r : length text ≤ length o = all.room in
        let w : (space_of t o cs).written ≡ length text = ap (λ (z : Space). z.written) all.here in
        let c : (space_of t o cs).whole ≡ text ++ drop (length text) o = ap (λ (z : Space). z.whole) all.here in
        (ap length c ∙ omega arith, omega arith, ap₂ drop w c ∙ drop-append_seam text (drop (length text) o) ∙ ap (λ (n : ℕ). drop n o) (sym w))

    module _ (h : NoResponse t o cs) where
      no-response : Each NotResponse (map (measured t) all.ws)
      no-response = rw all.same at h

      requests : Each (RequestOf t) (meant all.ws)
      requests = requests-of all.ws all.each no-response

      stream-is : stream_of t o cs ≡ stream (write t) (meant all.ws)
      stream-is =
          ap (λ (z : Space). take z.written z.whole) all.here ∙ take-append_seam text (drop (length text) o) ∙ sym (stream-texts all.ws requests no-response)

      entries-are : entries_of t o cs ≡ entries (write t) (meant all.ws)
      entries-are = all.same ∙ sym (entries-measured all.ws requests no-response)

      meanings-are : meanings_of t o cs ≡ sent (write t) (meant all.ws)
      meanings-are = ap (map (λ e. e.1)) entries-are ∙ entries-sent (write t) (meant all.ws)

      taken-all : (behind : List ℕ) → take_off (read_meaning t) (stream_of t o cs ++ behind) ≡ onto (entries_of t o cs) (take_off (read_meaning t) behind)
      taken-all behind = rw (stream-is, entries-are) (taking.taken (read_meaning t) (within t) (stays t) (write t) (back t) (meant all.ws) behind)

      left-all : (behind : List ℕ) → take_f (read_meaning t) (length (entries_of t o cs)) (stream_of t o cs ++ behind) ≡ onto (entries_of t o cs) (waits behind)
      left-all behind = rw (stream-is, entries-are) (left_behind (read_meaning t) (write t) (back t) (meant all.ws) behind)

pub demand3 : (t : Told) → Demand3 t
demand3 t = record {
  called = called t;
  called_at = called-at t;
  accepts = λ z c n e.
      let a = accepted-call t z c n e in
      let k = a.holds in
      (k.long, k.message, k.read, accepted-entry t z c n k.message k.long e k.read, omega (arith, a.kept.long, a.kept.room));
  refuses = refused-call t;
  taken = taken-all t;
  left = left-all t;
  same = λ o cs h q ds g.
      let x = taking.same (read_meaning t) (within t) (stays t) (write t) (back t) (meant (all t o cs).ws) (meant (all t q ds).ws) in
      rw (stream-is t o cs h, stream-is t q ds g, meanings-are t o cs h, meanings-are t q ds g) x;
  untouched = untouched-all t;
  reading = (request-front t).reading;
  first = (request-front t).first;
  resumes = taking.resumes (read_meaning t) (within t) (stays t);
}
