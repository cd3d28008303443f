-- The claims on the appender: what it writes is the octets of one good entry, so `back` reads the whole.
use Prim.Native.Nat.{ℕ, ◌+◌, ◌-◌, ◌≤◌, ◌<◌}
use mathlib.Core.Path.{◌≡◌, refl, sym, ap, ◌∙◌}
use mathlib.Core.Bool.{Bool, true, false, cond}
use mathlib.Core.Logic.{⊎_elim}
use mathlib.Core.List.{List, [], ◌∷◌, ◌++◌, append_assoc, append-nil}
use native.Mathlib.Omega.{arith}
use borrow.Author.Tests.{le-leb, lt-leb, leb-true, leb-false, ltb-true, eqb-true}
use lib.Dec.{leb, ltb, eqb}
use lib.ListN.{length, take, drop, length-append}
use lib.Seq.{length-take-le, take_at, drop_at}
use Rattle.octets.specs.Refusals.{too_large, no_room, bad_table, refused_at}
use Rattle.octets.proofs.Kit.{into, split, either}
use Rattle.script.specs.Script.{Answer, accepted, refused, more}
use Rattle.messages.specs.Message.{Message}
use Rattle.messages.specs.Meaning.{Meaning, meaning}
use Rattle.messages.specs.Valid.{of_response, valid, suits}
use Rattle.sound.specs.Placed.{Each}
use Rattle.messages.specs.Told.{plain}
use Rattle.binary.specs.Read.{read_binary}
use Rattle.binary_sound.proofs.Sound.{binary-sound}
use Rattle.binary_writer.specs.Write.{binary_of, binary_fits, to_binary}
use Rattle.binary_round_trip.specs.RoundTrip.{placed_binary}
use Rattle.binary_round_trip.proofs.Back.{round_trip}
use Rattle.output.specs.Splice.{splice}
use Rattle.output.specs.Reply.{Reply, writes, refuses, written_of, lent_after_at}
use Rattle.output.proofs.Laws.{splice-is}
use Rattle.turn.specs.Turn.{reply_from}
use Rattle.bundle.specs.Bundle.{word_of, flock_of, delivered_of, kind_of, head_of, head_octets, is_flock, Entry, entry_octets, entries_octets, read_message, kind_number, walk}
use Rattle.bundle_edit.specs.Append.{with_head, entry_for, message_entry, behind_bundle, buffer_reply, append_reply, appended}
use Rattle.bundle_edit.proofs.Appends.{kind-small, head-long}
use Rattle.flock_table.proofs.Counted.{flock-least}
use Rattle.bundle_laws.specs.Reading.{InForm}
use Rattle.bundle_laws.specs.Appending.{append_answer, Added, Appending}
use Rattle.bundle_laws.proofs.Reading.{front, octets-of, back, is-bundle}
use Rattle.bundle_laws.proofs.Heads.{word_back, head_small, head-flock, head-delivered, head-kind, head-length}
use Rattle.bundle_laws.proofs.Demands.{response-is}
use Rattle.std.proofs.Common.{Ok, Err}

-- ---- replies taken apart

no-reply : {k p : ℕ} {l : List ℕ} → refuses k p ≡ writes l → ⊥
no-reply e = let z : ◌≡◌ {A = ℕ} 0 1 = cc in omega arith

no-done : {A : Type 0} {n k p : ℕ} → Err (refused_at k p) ≡ Ok n → A
no-done e = let z : ◌≡◌ {A = ℕ} 0 1 = cc in absurd (omega arith)

-- what is answered by Done n was octets for which there is room
pub record Wrote (y : Reply) (room n : ℕ) : Type 0 where
  pub octets : List ℕ
  pub reply : y ≡ writes octets
  pub size : n ≡ length octets
  pub fits : length octets ≤ room

wrote : (y : Reply) (room n : ℕ) → written_of y room ≡ Ok n → Wrote y room n
unfolding written_of
wrote (writes l) room n e = go (leb (length l) room) refl e
  where
    go : (b : Bool) → leb (length l) room ≡ b → cond b (Ok (length l)) (Err (refused_at no_room 0)) ≡ Ok n → Wrote (writes l) room n
    go true h q = let z : length l ≡ n = cc in record { octets = l; reply = refl; size = sym z; fits = leb-true (length l) room h }
    go false h q = no-done q
wrote (refuses k p) room n e = no-done e

-- the octets of an entry: of a meaning that fits
pub record Made (f : ℕ) (m l : List ℕ) : Type 0 where
  pub long : ℕ
  pub message : Message
  pub read : read_message m ≡ accepted long message
  pub fits : binary_fits (meaning message) ≡ true
  pub is : l ≡ head_octets (head_of f 0 (kind_number (of_response (meaning message).control)) (length (binary_of (meaning message)))) ++ binary_of (meaning message)

headed : (f kind : ℕ) (x : Meaning) (l : List ℕ) → with_head f kind (to_binary x) ≡ writes l
    → (binary_fits x ≡ true) × (l ≡ head_octets (head_of f 0 kind (length (binary_of x))) ++ binary_of x)
unfolding to_binary
headed f kind x l e = go (binary_fits x) refl e
  where
    go : (b : Bool) → binary_fits x ≡ b → with_head f kind (cond b (writes (binary_of x)) (refuses too_large 0)) ≡ writes l
        → (binary_fits x ≡ true) × (l ≡ head_octets (head_of f 0 kind (length (binary_of x))) ++ binary_of x)
    go true h q = (h, cc)
    go false h q = absurd (no-reply q)

made : (f : ℕ) (m l : List ℕ) → message_entry f m ≡ writes l → Made f m l
made f m l e = go (read_binary (plain 0) m) refl e
  where
    go : (x : Answer Message) → read_binary (plain 0) m ≡ x → reply_from (length m) x (entry_for f) ≡ writes l → Made f m l
    go (accepted n a) r q =
        let h = headed f (kind_number (of_response (meaning a).control)) (meaning a) l q in
        record { long = n; message = a; read = r; fits = h.0; is = h.1 }
    go (refused k p) r q = absurd (no-reply q)
    go more r q = absurd (no-reply q)

-- the judgements that were passed
pub record Passed (records : ℕ) (b : List ℕ) (used f : ℕ) (m l : List ℕ) : Type 0 where
  pub table : records ≡ 127
  pub within : used ≤ length b
  pub good : (walk (take used b)).stop ≡ 0
  pub few : length (walk (take used b)).entries < 256
  pub flock : is_flock f ≡ true
  pub entry : Made f m l

pub passed : (records : ℕ) (b : List ℕ) (used f : ℕ) (m l : List ℕ) → append_reply records b used f m ≡ writes l → Passed records b used f m l
unfolding append_reply buffer_reply behind_bundle
passed records b used f m l e =
    let w = walk (take used b) in
    let t = into no-reply (eqb records 127) _ e in
    let a = into no-reply (leb used (length b)) _ t.1 in
    let c = into no-reply (eqb w.stop 0) _ a.1 in
    let d = into no-reply (ltb (length w.entries) 256) _ c.1 in
    let g = into no-reply (is_flock f) _ d.1 in
    record {
      table = eqb-true records 127 t.0;
      within = leb-true used (length b) a.0;
      good = eqb-true w.stop 0 c.0;
      few = ltb-true (length w.entries) 256 d.0;
      flock = g.0;
      entry = made f m l g.1;
    }

-- ---- the new entry

abbrev new_entry : ℕ → Meaning → Entry
new_entry f x = record { head = head_octets (head_of f 0 (kind_number (of_response x.control)) (length (binary_of x))); text = binary_of x }

size_of : (x : Meaning) → binary_fits x ≡ true → length (binary_of x) ≤ 65535
unfolding binary_fits
size_of x e = leb-true (length (binary_of x)) 65535 e

module _ (f : ℕ) (hf : is_flock f ≡ true) (x : Meaning) (v : valid x ≡ true) (h : binary_fits x ≡ true) where
  kind : ℕ
  kind = kind_number (of_response x.control)

  big : length (binary_of x) ≤ 65535
  big = size_of x h

  least : f ≤ 127
  least = (flock-least f hf).1

  low : kind_number (of_response x.control) ≤ 1
  low = kind-small (of_response x.control)

  pub word : word_of (new_entry f x).head ≡ head_of f 0 (kind_number (of_response x.control)) (length (binary_of x))
  word = word_back _ (head_small f (kind_number (of_response x.control)) (length (binary_of x)) least low big)

  pub new-flock : flock_of (word_of (new_entry f x).head) ≡ f
  new-flock = rw word (head-flock f (kind_number (of_response x.control)) (length (binary_of x)) least low big)

  pub new-delivered : delivered_of (word_of (new_entry f x).head) ≡ 0
  new-delivered = rw word (head-delivered f (kind_number (of_response x.control)) (length (binary_of x)) least low big)

  pub new-kind : kind_of (word_of (new_entry f x).head) ≡ kind_number (of_response x.control)
  new-kind = rw word (head-kind f (kind_number (of_response x.control)) (length (binary_of x)) least low big)

  pub new-good : suits (plain 0) x ≡ true → InForm (new_entry f x)
  new-good o =
      let r = round_trip (plain 0) x v o h in
      let p = placed_binary x in
      record {
        head = head-long _;
        flock = rw new-flock hf;
        size = rw word (sym (head-length f (kind_number (of_response x.control)) (length (binary_of x)) least low big));
        small = big;
        message = p;
        read = r.0;
        kind = new-kind ∙ ap (λ (y : Meaning). kind_number (of_response y.control)) (sym r.1) ∙ sym (ap kind_number (response-is p));
        form = ap binary_of (sym r.1);
      }

-- ---- the buffer afterwards

each_and : (es : List Entry) (e : Entry) → Each InForm es → InForm e → Each InForm (es ++ e ∷ [])
each_and [] e h g = (g, tt)
each_and (x ∷ es) e h g = (h.0, each_and es e h.1 g)

octets-and : (es : List Entry) (e : Entry) → entries_octets (es ++ e ∷ []) ≡ entries_octets es ++ entry_octets e
unfolding entries_octets
octets-and [] e = append-nil (entry_octets e)
octets-and (x ∷ es) e = ap (λ (l : List ℕ). entry_octets x ++ l) (octets-and es e) ∙ sym (append_assoc (entry_octets x) (entries_octets es) (entry_octets e))

module _ (records : ℕ) (b : List ℕ) (used f : ℕ) (m l : List ℕ) (u : used ≤ length b) (e : append_reply records b used f m ≡ writes l) (r : length l ≤ length b - used) where
  room : used + length l ≤ length b
  room = omega (arith, u, r)

  spliced : appended records b used f m ≡ take used b ++ l ++ drop (used + length l) b
  unfolding appended lent_after_at
  spliced = ap (λ (y : Reply). lent_after_at y used b) e ∙ rw (le-leb (used + length l) (length b) room) (splice-is b used l room)

  taken : length (take used b) ≡ used
  taken = length-take-le used b u

  ends : length (take used b ++ l) ≡ used + length l
  ends = length-append (take used b) l ∙ rw taken

  pub new-front : take (used + length l) (appended records b used f m) ≡ take used b ++ l
  new-front = ap (take (used + length l)) spliced ∙ take_at (take used b ++ l) (drop (used + length l) b) (used + length l) ends

  pub old-front : take used (appended records b used f m) ≡ take used b
  old-front =
      ap (take used) (spliced ∙ append_assoc (take used b) l (drop (used + length l) b)) ∙ take_at (take used b) (l ++ drop (used + length l) b) used taken

  pub old-rest : drop (used + length l) (appended records b used f m) ≡ drop (used + length l) b
  old-rest = ap (drop (used + length l)) spliced ∙ drop_at (take used b ++ l) (drop (used + length l) b) (used + length l) ends

length-and : (es : List Entry) (e : Entry) → length (es ++ e ∷ []) ≡ length es + 1
length-and es e = length-append es (e ∷ [])

adds : (records : ℕ) (b : List ℕ) (used f : ℕ) (m : List ℕ) (n : ℕ) → append_answer records b used f m ≡ Ok n → Added records b used f m n
adds records b used f m n q =
    let w = wrote (append_reply records b used f m) (length b - used) n q in
    let l = w.octets in
    let p = passed records b used f m l w.reply in
    let a = p.entry in
    let x = meaning a.message in
    let v : valid x ≡ true = (binary-sound (plain 0) m a.long a.message a.read).sound.valid in
    let d = new_entry f x in
    let g = new-good f p.flock x v a.fits (binary-sound (plain 0) m a.long a.message a.read).suits in
    let es = (walk (take used b)).entries in
    let o : l ≡ entry_octets d = a.is in
    let t : take used b ++ l ≡ entries_octets (es ++ d ∷ []) =
    ap (λ (y : List ℕ). y ++ l) (octets-of (take used b) p.good) ∙ ap (λ (y : List ℕ). entries_octets es ++ y) o ∙ sym (octets-and es d) in
    let k : length (es ++ d ∷ []) ≤ 256 = omega (arith, length-and es d, p.few) in
    let z = back (es ++ d ∷ []) (each_and es d (front (take used b)).good g) k in
    let s = new-front records b used f m l p.within w.reply w.fits ∙ t in
    rw w.size (record {
      before = es;
      was = is-bundle (take used b) p.good;
      long = a.long;
      message = a.message;
      read = a.read;
      entry = d;
      good = g;
      flock = new-flock f p.flock x v a.fits;
      undelivered = new-delivered f p.flock x v a.fits;
      kind = new-kind f p.flock x v a.fits ∙ ap kind_number (sym (response-is a.message));
      text = refl;
      is = rw s z;
      within = omega (arith, p.within, w.fits);
      front = old-front records b used f m l p.within w.reply w.fits;
      behind = old-rest records b used f m l p.within w.reply w.fits;
      table = p.table;
      size = ap (λ (y : List ℕ). length y) o ∙ length-append d.head d.text ∙ rw (head-long _);
    })

refused_none : (y : Reply) (used : ℕ) (b : List ℕ) (k p : ℕ) → written_of y (length b - used) ≡ Err (refused_at k p) → used ≤ length b → lent_after_at y used b ≡ b
unfolding written_of lent_after_at
refused_none (writes l) used b k p e u = go (leb (length l) (length b - used)) refl e
  where
    go : (t : Bool) → leb (length l) (length b - used) ≡ t → cond t (Ok (length l)) (Err (refused_at no_room 0)) ≡ Err (refused_at k p)
        → cond (leb (used + length l) (length b)) (splice b used l) b ≡ b
    go true h q = no-done (sym q)
    go false h q = let z = leb-false (length l) (length b - used) h in rw (lt-leb (used + length l) (length b) (omega (arith, z)))
refused_none (refuses a c) used b k p e u = refl

refused-past : (records : ℕ) (b : List ℕ) (used f : ℕ) (m : List ℕ) → length b < used → appended records b used f m ≡ b
unfolding appended append_reply buffer_reply lent_after_at
refused-past records b used f m h =
    rw (lt-leb used (length b) h) (either (λ (y : Reply). lent_after_at y used b ≡ b) (eqb records 127) (refuses no_room 0) (refuses bad_table 0) (λ _. refl) (λ _. refl))

refused-append : (records : ℕ) (b : List ℕ) (used f : ℕ) (m : List ℕ) (k p : ℕ) → append_answer records b used f m ≡ Err (refused_at k p) → appended records b used f m ≡ b
unfolding appended
refused-append records b used f m k p e =
    ⊎_elim (λ (h : length b < used). refused-past records b used f m h) (λ (h : used ≤ length b). refused_none (append_reply records b used f m) used b k p e h)
    (split (length b) used)

pub appending : Appending
appending = record { adds = adds; refused = refused-append }
