-- From a reader's outcome and a writer's answer to the turning's.
use Prim.Native.Nat.{ℕ, ◌≤◌}
use mathlib.Core.Path.{◌≡◌, refl, sym, ap, subst, ◌∙◌}
use mathlib.Core.Bool.{true, false}
use mathlib.Core.List.{List}
use lib.ListN.{length}
use Rattle.octets.specs.Refusals.{more_needed, not_supported, bad_edition, refused_at}
use Rattle.script.specs.Script.{Answer, accepted, refused, more}
use Rattle.messages.specs.Message.{Start, request_start, response_start, Message}
use Rattle.messages.specs.Answers.{record_from, record_of}
use Rattle.messages.specs.Meaning.{Meaning, meaning}
use Rattle.output.specs.Reply.{Reply, Served, Written}
use Rattle.output.proofs.Serve.{serve-wrong}
use Rattle.messages.specs.declared.Told.{Told}
use Rattle.messages.specs.Told.{is_edition}
use Rattle.messages.specs.Room.{section_room, heads_room, informational_room, chunks_room}
use Rattle.messages.specs.Valid.{is_scheme}
use Rattle.messages.specs.declared.Record.{Record}
use Rattle.messages.specs.Answers.{Outcome}
use Rattle.std.proofs.Common.{Ok}
use Rattle.binary.specs.Read.{read_binary}
use Rattle.binary_sound.proofs.Sound.{binary-sound}
use Rattle.ranges.specs.Ranges.{Responded, Held}
use Rattle.ranges.proofs.Outcomes.{IsHeld, held}
use Rattle.turn.specs.Turn.{reply_from, taken_from, TakenServed, binary_to_http1}
use Rattle.turning.specs.Behind.{read_to_http1, taken_by}
use Rattle.std.proofs.Common.{Err}

module _ {x : Answer Message} (n : ℕ) (write : Meaning → Reply) where
  pub turned_more : (o : List ℕ) → x ≡ more → Served (reply_from n x write) o o (Err (refused_at more_needed n))
  turned_more o e = subst (λ (y : Answer Message). Served (reply_from n y write) o o (Err (refused_at more_needed n))) (sym e) (serve-wrong o more_needed n)

  pub turned-refused : (o : List ℕ) (k p : ℕ) → x ≡ refused k p → Served (reply_from n x write) o o (Err (refused_at k p))
  turned-refused o k p e = subst (λ (y : Answer Message). Served (reply_from n y write) o o (Err (refused_at k p))) (sym e) (serve-wrong o k p)

  pub turned : {o o' : List ℕ} {w : Written} (k : ℕ) (m : Message) → x ≡ accepted k m → Served (write (meaning m)) o o' w → Served (reply_from n x write) o o' w
  turned {o} {o'} {w} k m e h = subst (λ (y : Answer Message). Served (reply_from n y write) o o' w) (sym e) h

-- ---- off a stream: what was taken

module _ {x : Answer Message} (n : ℕ) (write : Meaning → Reply) where
  pub taken_more : (o : List ℕ) → x ≡ more → TakenServed x (reply_from n x write) o o 0 (Err (refused_at more_needed n))
  taken_more o e = record { served = turned_more n write o e; takes = rw e }

  pub taken_refused : (o : List ℕ) (k p : ℕ) → x ≡ refused k p → TakenServed x (reply_from n x write) o o 0 (Err (refused_at k p))
  taken_refused o k p e = record { served = turned-refused n write o k p e; takes = rw e }

  pub taken : {o o' : List ℕ} {w : Written} {i : ℕ} (k : ℕ) (m : Message) → x ≡ accepted k m → i ≡ k → Served (write (meaning m)) o o' w
      → {j : ℕ} → j ≡ taken_by w i → TakenServed x (reply_from n x write) o o' j w
  taken {w = w} k m e l h q = record { served = turned n write k m e h; takes = q ∙ rw (e, l) (go w) }
    where
      go : (w : Written) → taken_by w k ≡ taken_from (accepted k m) w
      go (Ok a) = refl
      go (Err e) = refl

-- the record of a message that is held has its length
pub held-length : {s : List ℕ} {n : ℕ} {m : Message} {r : Record} {hs ns cs ts : List ℕ} → Held s n m r hs ns cs ts → r.length ≡ n
unfolding record_of
held-length {n = n} {m = m} h = ap (λ (q : Record). q.length) h.numbers ∙ go m.start
  where
    go : (st : Start) → (record_from st n m).length ≡ n
    go (request_start q s a p) = refl
    go (response_start hs s) = refl

-- a Binary message that was read is held
pub binary-held : (t : Told) (s : List ℕ) {hs hs' ns ns' cs cs' ts ts' : List ℕ} {o : Outcome} {r : Record} → Responded (read_binary t s) hs hs' ns ns' cs cs' ts ts' o
    → o ≡ Ok r → heads_room ≤ length hs → informational_room ≤ length ns → chunks_room ≤ length cs → section_room ≤ length ts → IsHeld (read_binary t s) s r hs' ns' cs' ts'
binary-held t s h e = held s h e (λ n m q. (binary-sound t s n m q).sound)

-- ---- the edition and the scheme that are told

module _ (t : Told) (s : List ℕ) where
  pub told-edition : (o : List ℕ) → is_edition t.edition ≡ false → Served (binary_to_http1 t s) o o (Err (refused_at bad_edition 0))
  unfolding binary_to_http1
  told-edition o e = rw e (serve-wrong o bad_edition 0)

  module _ (i : is_edition t.edition ≡ true) where
    pub told-scheme : {o o' : List ℕ} {w : Written} → is_scheme t.scheme ≡ true → Served (read_to_http1 t s) o o' w → Served (binary_to_http1 t s) o o' w
    unfolding binary_to_http1 read_to_http1
    told-scheme e h = rw (i, e) h

    pub told-other : (o : List ℕ) → is_scheme t.scheme ≡ false → Served (binary_to_http1 t s) o o (Err (refused_at not_supported 0))
    unfolding binary_to_http1
    told-other o e = rw (i, e) (serve-wrong o not_supported 0)
