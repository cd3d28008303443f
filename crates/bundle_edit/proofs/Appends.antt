-- From what the Binary writer answers behind a head to what the append answers.
use Prim.Native.Nat.{ℕ, ◌+◌, ◌-◌, ◌≤◌, ◌<◌}
use mathlib.Core.Path.{◌≡◌, refl, sym, ap, subst, ◌∙◌}
use mathlib.Core.Bool.{Bool, true, false, cond}
use mathlib.Core.List.{List, [], ◌∷◌, ◌++◌, append_assoc}
use native.Mathlib.Omega.{arith}
use borrow.Author.Tests.{le-leb, lt-leb, lt-ltb, le-ltb, eq-eqb, ne_eqb, leb-true, leb-false, eqb-true}
use lib.Dec.{leb, ltb, eqb}
use lib.ListN.{length, take, drop, get_or, length-append}
use lib.Seq.{get_or_at, length-take-le}
use Rattle.octets.specs.declared.Refused.{Refused}
use Rattle.octets.specs.Refusals.{too_large, no_room, bad_entry, bad_table, refused_at}
use Rattle.octets.proofs.Kit.{either}
use Rattle.numbers.specs.Places.{push}
use Rattle.numbers.specs.Integer.{int_len, tag_of, int_bytes, plain}
use Rattle.numbers.proofs.Places.{push-length}
use Rattle.script.specs.Script.{Answer, accepted, refused, more}
use Rattle.messages.specs.Message.{Start, request_start, response_start, Message}
use Rattle.messages.specs.Answers.{reading_of, record_from, record_of}
use Rattle.messages.specs.declared.Record.{Record}
use Rattle.messages.specs.declared.Reading.{Reading}
use Rattle.messages.specs.Answers.{Outcome}
use Rattle.std.proofs.Common.{Ok, Err}
use Rattle.messages.specs.declared.Stop.{Stop}
use Rattle.messages.specs.Meaning.{Control, request, response, Meaning, meaning}
use Rattle.messages.specs.Valid.{of_response}
use Rattle.binary.specs.Read.{read_binary}
use Rattle.messages.specs.Told.{plain as told_plain}
use Rattle.messages.specs.declared.Told.{Told}
use Rattle.binary_writer.specs.Write.{control_bytes, binary_of, binary_fits, to_binary}
use Rattle.output.specs.Splice.{splice}
use Rattle.output.specs.Reply.{Reply, writes, refuses, written_of, lent_after_at, ServedAt, Written}
use Rattle.output.proofs.Laws.{splice-is, splice-before}
use Rattle.turn.specs.Turn.{reply_from, binary_to_binary}
use Rattle.bundle.specs.Bundle.{head_of, head_octets, is_flock, read_message, kind_number, walk}
use Rattle.bundle.specs.Answers.{bundle_of}
use Rattle.bundle.specs.declared.Bundle.{Bundle}
use Rattle.flock_table.proofs.Counted.{flock-least}
use Rattle.bundle_edit.specs.Append.{with_head, entry_for, message_entry, behind_bundle, buffer_reply, append_reply, plan_of, long_in, append_plan, appended, Fair}
use Rattle.bundle_edit.specs.declared.Plan.{Plan}
use Rattle.std.proofs.Common.{Some}

-- ---- a message's first octet is its kind

pub record First (l : List ℕ) (kind : ℕ) : Type 0 where
  pub rest : List ℕ
  pub split : l ≡ kind ∷ rest

front : (c : Control) (a b d : List ℕ) → First (((control_bytes c ++ a) ++ b) ++ d) (kind_number (of_response c))
unfolding control_bytes int_bytes int_len tag_of push
front (request m s u p) a b d = record { rest = _; split = refl }
front (response hs s) a b d = record { rest = _; split = refl }

pub first : (x : Meaning) → First (binary_of x) (kind_number (of_response x.control))
unfolding binary_of
first x = front x.control _ _ _

pub kind-small : (b : Bool) → kind_number b ≤ 1
kind-small true = omega arith
kind-small false = omega arith

pub head-long : (w : ℕ) → length (head_octets w) ≡ 4
unfolding head_octets
head-long w = push-length plain 256 4 w []

-- ---- the reply with a head, from the reply without

-- octets with a head before them
pub record Headed (f : ℕ) (bs : List ℕ) (z : Reply) : Type 0 where
  pub kind : ℕ
  pub low : kind ≤ 1
  pub begins : First bs kind
  pub small : length bs ≤ 65535
  pub reply : z ≡ writes (head_octets (head_of f 0 kind (length bs)) ++ bs)

abbrev pub Paired : ℕ → Reply → Reply → Type 0
Paired f (writes bs) z = Headed f bs z
Paired f (refuses k p) z = z ≡ refuses k p

pair-entry : (f : ℕ) (x : Meaning) → Paired f (to_binary x) (entry_for f x)
unfolding to_binary binary_fits
pair-entry f x = go (leb (length (binary_of x)) 65535) refl
  where
    kind : ℕ
    kind = kind_number (of_response x.control)

    go : (b : Bool) → leb (length (binary_of x)) 65535 ≡ b
        → Paired f (cond b (writes (binary_of x)) (refuses too_large 0)) (with_head f (kind_number (of_response x.control)) (cond b (writes (binary_of x)) (refuses too_large 0)))
    go true e =
        record {
          kind = kind_number (of_response x.control);
          low = kind-small (of_response x.control);
          begins = first x;
          small = leb-true (length (binary_of x)) 65535 e;
          reply = refl;
        }
    go false e = refl

-- the loan, where what is told of the message is nothing
pub lent-plain : {t : Told} (m : List ℕ) {k : ℕ} {o o' : List ℕ} {r : Written} → t ≡ told_plain 0 → ServedAt (binary_to_binary t m) k o o' r
    → ServedAt (binary_to_binary (told_plain 0) m) k o o' r
lent-plain m {k} {o} {o'} {r} e h = subst (λ (t : Told). ServedAt (binary_to_binary t m) k o o' r) e h

pub paired : (f : ℕ) (m : List ℕ) → Paired f (binary_to_binary (told_plain 0) m) (message_entry f m)
unfolding binary_to_binary
paired f m = go (read_binary (told_plain 0) m)
  where
    go : (x : Answer Message) → Paired f (reply_from (length m) x to_binary) (reply_from (length m) x (entry_for f))
    go (accepted n a) = pair-entry f (meaning a)
    go (refused k p) = refl
    go more = refl

-- ---- the answer behind the head, and the answer of the whole entry

abbrev pub head_end : ℕ → ℕ → ℕ
head_end size used = cond (leb (used + 4) size) (used + 4) size

pub end_none : (size used : ℕ) → used ≤ size → size - used < 4 → size ≡ head_end size used
end_none size used h l = sym (rw (lt-leb (used + 4) size (omega arith)))

pub end-some : (size used : ℕ) → used ≤ size → 4 ≤ size - used → used + 4 ≡ head_end size used
end-some size used h l = sym (rw (le-leb (used + 4) size (omega arith)))

no-done : {A : Type 0} {n : ℕ} {x : Refused} → Err x ≡ Ok n → A
no-done e = let z : ◌≡◌ {A = ℕ} 0 1 = cc in absurd (omega arith)

pub end-in : (size used : ℕ) → used ≤ size → head_end size used ≤ size
end-in size used h = go (leb (used + 4) size) refl
  where
    go : (b : Bool) → leb (used + 4) size ≡ b → cond b (used + 4) size ≤ size
    go true e = leb-true (used + 4) size e
    go false e = omega arith

-- no more room behind `from` than four octets less than behind `used`
end-room : (size used : ℕ) → used ≤ size → size - used ≤ size - head_end size used + 4
end-room size used h = go (leb (used + 4) size) refl
  where
    go : (b : Bool) → leb (used + 4) size ≡ b → size - used ≤ size - cond b (used + 4) size + 4
    go true e = omega arith
    go false e = let l : size < used + 4 = leb-false (used + 4) size e in omega arith

-- where there is room for an octet behind `from`, it is right behind the head
end-head : (size used : ℕ) → 0 < size - head_end size used → head_end size used ≡ used + 4
end-head size used = go (leb (used + 4) size)
  where
    go : (b : Bool) → 0 < size - cond b (used + 4) size → cond b (used + 4) size ≡ used + 4
    go true h = refl
    go false h = absurd (omega arith)

-- what octets are served by, in a room
lent-past : (bs : List ℕ) (k : ℕ) (o : List ℕ) → length o < k + length bs → lent_after_at (writes bs) k o ≡ o
unfolding lent_after_at
lent-past bs k o h = rw (lt-leb (k + length bs) (length o) h)

lent-in : (bs : List ℕ) (k : ℕ) (o : List ℕ) → k + length bs ≤ length o → lent_after_at (writes bs) k o ≡ splice o k bs
unfolding lent_after_at
lent-in bs k o h = rw (le-leb (k + length bs) (length o) h)

written-past : (bs : List ℕ) (room : ℕ) → room < length bs → written_of (writes bs) room ≡ Err (refused_at no_room 0)
unfolding written_of
written-past bs room h = rw (lt-leb (length bs) room h)

written_in : (bs : List ℕ) (room : ℕ) → length bs ≤ room → written_of (writes bs) room ≡ Ok (length bs)
unfolding written_of
written_in bs room h = rw (le-leb (length bs) room h)

refused-room : (bs : List ℕ) (room : ℕ) (x : Refused) (b : Bool) → leb (length bs) room ≡ b → Err x ≡ cond b (Ok (length bs)) (Err (refused_at no_room 0))
    → (room < length bs) × (◌≡◌ {A = Written} (Err x) (Err (refused_at no_room 0)))
refused-room bs room x true e q = no-done q
refused-room bs room x false e q = (leb-false (length bs) room e, q)

pub behind-refused : (f : ℕ) (y z : Reply) {used from : ℕ} {x : Refused} {b b' : List ℕ} → Paired f y z → used ≤ length b → from ≡ head_end (length b) used
    → ServedAt y from b b' (Err x) → ServedAt z used b b' (Err x)
unfolding written_of lent_after_at
behind-refused f (writes bs) z {used} {from} {x} {b} {b'} h u e v =
    let q = refused-room bs (length b - from) x (leb (length bs) (length b - from)) refl v.answer in
    let w = head_octets (head_of f 0 h.kind (length bs)) in
    let l : length (w ++ bs) ≡ 4 + length bs = length-append w bs ∙ rw (head-long (head_of f 0 h.kind (length bs))) in
    let i = end-in (length b) used u in
    let r = end-room (length b) used u in
    let small : length b - used < length (w ++ bs) = omega (arith, l, r, q.0, e) in
    let out : length b < from + length bs = omega (arith, q.0, e, i) in
    let past : length b < used + length (w ++ bs) = omega (arith, small) in
    rw h.reply (record {
      answer = q.1 ∙ sym (written-past (w ++ bs) (length b - used) small);
      after = v.after ∙ lent-past bs from b out ∙ sym (lent-past (w ++ bs) used b past);
    })
behind-refused f (refuses a c) z {used} {from} {x} {b} {b'} h u e v = rw h (record { answer = v.answer; after = v.after })

-- octets that were written behind the head
pub record Stood (y : Reply) (f used from n : ℕ) (b b₁ : List ℕ) (z : Reply) : Type 0 where
  pub text : List ℕ
  pub headed : Headed f text z
  pub size : n ≡ length text
  pub some : 0 < n
  pub place : from ≡ used + 4
  pub room : used + 4 + n ≤ length b
  pub wrote : b₁ ≡ splice b (used + 4) text
  pub kind : get_or b₁ from 0 ≡ headed.kind

done-room : (bs : List ℕ) (room n : ℕ) (b : Bool) → leb (length bs) room ≡ b → Ok n ≡ cond b (Ok (length bs)) (Err (refused_at no_room 0))
    → (length bs ≤ room) × (n ≡ length bs)
done-room bs room n true e q = (leb-true (length bs) room e, cc)
done-room bs room n false e q = no-done (sym q)

begins-at : (bs : List ℕ) {kind : ℕ} → First bs kind → 0 < length bs
begins-at bs g = rw g.split (omega arith)

kind_at : (b bs : List ℕ) (at : ℕ) {kind : ℕ} → at + length bs ≤ length b → First bs kind → get_or (splice b at bs) at 0 ≡ kind
kind_at b bs at {kind} h g =
    let t = length-take-le at b (omega arith) in
    let e : (take at b ++ (kind ∷ g.rest)) ++ drop (at + length bs) b ≡ take at b ++ (kind ∷ (g.rest ++ drop (at + length bs) b)) = append_assoc (take at b) (kind ∷ g.rest) (drop (at + length bs) b) in
    let q : get_or (take at b ++ bs ++ drop (at + length bs) b) at 0 ≡ get_or (take at b ++ (kind ∷ (g.rest ++ drop (at + length bs) b))) at 0 =
    ap (λ (x : List ℕ). get_or (take at b ++ x ++ drop (at + length bs) b) at 0) g.split ∙ ap (λ (x : List ℕ). get_or x at 0) e in
    ap (λ (x : List ℕ). get_or x at 0) (splice-is b at bs h) ∙ q ∙ get_or_at (take at b) kind (g.rest ++ drop (at + length bs) b) 0 at t

pub behind-done : (f : ℕ) (y z : Reply) {used from n : ℕ} {b b₁ : List ℕ} → Paired f y z → used ≤ length b → from ≡ head_end (length b) used
    → ServedAt y from b b₁ (Ok n) → Stood y f used from n b b₁ z
unfolding written_of lent_after_at
behind-done f (writes bs) z {used} {from} {n} {b} {b₁} h u e v =
    let q = done-room bs (length b - from) n (leb (length bs) (length b - from)) refl v.answer in
    let some = begins-at bs h.begins in
    let g : 0 < length b - head_end (length b) used = rw (← e) (omega (arith, q.0, some)) in
    let pl : from ≡ used + 4 = e ∙ end-head (length b) used g in
    let r : used + 4 + length bs ≤ length b = omega (arith, q.0, some, pl) in
    let r₂ : from + length bs ≤ length b = omega (arith, r, pl) in
    let w : b₁ ≡ splice b from bs = v.after ∙ lent-in bs from b r₂ in
    record {
      text = bs;
      headed = h;
      size = q.1;
      some = omega (arith, q.1, some);
      place = pl;
      room = omega (arith, r, q.1);
      wrote = w ∙ ap (λ (x : ℕ). splice b x bs) pl;
      kind = ap (λ (x : List ℕ). get_or x from 0) w ∙ kind_at b bs from r₂ h.begins;
    }
behind-done f (refuses a c) z h u e v = no-done (sym v.answer)

pub entry_done : {y z : Reply} {f used from n : ℕ} {b b₁ b₂ : List ℕ} {w : ℕ} (s : Stood y f used from n b b₁ z) → w ≡ head_of f 0 s.headed.kind n
    → b₂ ≡ splice b₁ used (head_octets w) → ServedAt z used b b₂ (Ok (n + 4))
unfolding written_of lent_after_at
entry_done {f = f} {used = used} {n = n} {b = b} {b₁ = b₁} {b₂ = b₂} {w = w} s ew e =
    let bs = s.text in
    let h = head_octets (head_of f 0 s.headed.kind (length bs)) in
    let hl = head-long (head_of f 0 s.headed.kind (length bs)) in
    let l : length (h ++ bs) ≡ n + 4 = length-append h bs ∙ omega (arith, hl, s.size) in
    let fits : length (h ++ bs) ≤ length b - used = omega (arith, l, s.room) in
    let all : used + length (h ++ bs) ≤ length b = omega (arith, l, s.room) in
    let same : head_octets w ≡ h = rw (ew, s.size) in
    let at : used + 4 ≡ used + length h = omega (arith, hl) in
    let whole : splice b₁ used (head_octets w) ≡ splice b used (h ++ bs) = rw (same, s.wrote, at) (splice-before b used h bs) in
    rw s.headed.reply (record {
      answer = ap (λ (x : ℕ). Ok x) (sym l) ∙ sym (written_in (h ++ bs) (length b - used) fits);
      after = e ∙ whole ∙ sym (lent-in (h ++ bs) used b all);
    })

-- ---- the judgements before it

pub serve-at-wrong : (k p used : ℕ) (o : List ℕ) → ServedAt (refuses k p) used o o (Err (refused_at k p))
unfolding written_of lent_after_at
serve-at-wrong k p used o = record { answer = refl; after = refl }

module _ (b : List ℕ) (used f : ℕ) (m : List ℕ) {z : Bundle} (e : z ≡ bundle_of (walk (take used b))) where
  number : z.number ≡ (walk (take used b)).stop
  number = ap (λ (x : Bundle). x.number) e

  count : z.count ≡ length (walk (take used b)).entries
  count = ap (λ (x : Bundle). x.count) e

  pub append-stops : (z.number ≡ 0 → ⊥) → ServedAt (behind_bundle b used f m) used b b (Err (refused_at z.number z.end))
  unfolding behind_bundle
  append-stops n =
      let w = walk (take used b) in
      let q : eqb w.stop 0 ≡ false = ne_eqb w.stop 0 (λ x. n (number ∙ x)) in
      let y : z.end ≡ w.end = ap (λ (x : Bundle). x.end) e in
      rw (q, number, y) (serve-at-wrong w.stop w.end used b)

  module _ (n : z.number ≡ 0) where
    good : eqb (walk (take used b)).stop 0 ≡ true
    good = eq-eqb (walk (take used b)).stop 0 (sym number ∙ n)

    pub append-full : 256 ≤ z.count → ServedAt (behind_bundle b used f m) used b b (Err (refused_at too_large 0))
    unfolding behind_bundle
    append-full h = rw (good, le-ltb (length (walk (take used b)).entries) 256 (rw (← count) h)) (serve-at-wrong too_large 0 used b)

    module _ (h : z.count < 256) where
      few : ltb (length (walk (take used b)).entries) 256 ≡ true
      few = lt-ltb (length (walk (take used b)).entries) 256 (rw (← count) h)

      pub append-flockless : is_flock f ≡ false → ServedAt (behind_bundle b used f m) used b b (Err (refused_at bad_entry 0))
      unfolding behind_bundle
      append-flockless g = rw (good, few, g) (serve-at-wrong bad_entry 0 used b)

      pub append-served : {b' : List ℕ} {w : Written} → is_flock f ≡ true → ServedAt (message_entry f m) used b b' w → ServedAt (behind_bundle b used f m) used b b' w
      unfolding behind_bundle
      append-served g v = rw (good, few, g) v

-- ---- the plan

-- an entry's octets are within bounds, and its flock is one
abbrev pub FairReply : ℕ → Reply → Type 0
FairReply f (writes l) = (4 ≤ length l) × (length l ≤ 65539) × (1 ≤ f) × (f ≤ 127)
FairReply f (refuses k p) = Unit {0}

-- and the used length and the table are right
pub record FairCall (n room used f : ℕ) (y : Reply) : Type 0 where
  pub reply : FairReply f y
  pub table : (l : List ℕ) → y ≡ writes l → (used ≤ room) × (n ≡ 127)

fair-pair : (f : ℕ) (y z : Reply) → is_flock f ≡ true → Paired f y z → FairReply f z
fair-pair f (writes bs) z g h =
    let w = head_of f 0 h.kind (length bs) in
    let l : length (head_octets w ++ bs) ≡ 4 + length bs = length-append (head_octets w) bs ∙ rw (head-long w) in
    let b = flock-least f g in
    rw h.reply (omega (arith, l), omega (arith, l, h.small), b.0, b.1)
fair-pair f (refuses k p) z g h = rw h tt

fair-behind : (b : List ℕ) (used f : ℕ) (m : List ℕ) → FairReply f (behind_bundle b used f m)
unfolding behind_bundle
fair-behind b used f m =
    let w = walk (take used b) in
    either (FairReply f) (eqb w.stop 0) _ _
    (λ _.
    either (FairReply f) (ltb (length w.entries) 256) _ _
    (λ _. either (FairReply f) (is_flock f) _ _ (λ g. fair-pair f (binary_to_binary (told_plain 0) m) (message_entry f m) g (paired f m)) (λ _. tt)) (λ _. tt))
    (λ _. tt)

no-reply : {A : Type 0} {k p : ℕ} {l : List ℕ} → refuses k p ≡ writes l → A
no-reply e = let z : ◌≡◌ {A = ℕ} 0 1 = cc in absurd (omega arith)

-- a call that writes was told 127 records and a used length within the buffer
fair-call : (n : ℕ) (b : List ℕ) (used f : ℕ) (m : List ℕ) → FairCall n (length b) used f (append_reply n b used f m)
unfolding append_reply buffer_reply
fair-call n b used f m =
    let Q : Reply → Type 0 = FairCall n (length b) used f in
    either Q (eqb n 127) _ _
    (λ a.
    either Q (leb used (length b)) _ _
    (λ u. record { reply = fair-behind b used f m; table = λ l e. (leb-true used (length b) u, eqb-true n 127 a) })
    (λ _. record { reply = tt; table = λ l e. no-reply e }))
    (λ _. record { reply = tt; table = λ l e. no-reply e })

-- an answer that is given for a reply of this kind
abbrev pub FairAnswer : ℕ → ℕ → ℕ → ℕ → Written → Type 0
FairAnswer n room used f (Ok k) = Fair room used f (Ok k) × (f ≤ 127) × (n ≡ 127)
FairAnswer n room used f (Err e) = Unit {0}

fair-of : (y : Reply) (n f used room : ℕ) → FairCall n room used f y → FairAnswer n room used f (written_of y (room - used))
unfolding written_of
fair-of (writes l) n f used room g = go (leb (length l) (room - used)) refl
  where
    go : (t : Bool) → leb (length l) (room - used) ≡ t → FairAnswer n room used f (cond t (Ok (length l)) (Err (refused_at no_room 0)))
    go true h =
        let i = leb-true (length l) (room - used) h in
        let u = g.table l refl in
        let r = g.reply in
        ((omega (arith, i, u.0), r.0, r.1, r.2), r.3, u.1)
    go false h = tt
fair-of (refuses k p) n f used room g = tt

pub fair-answer : (n : ℕ) (b : List ℕ) (used f : ℕ) (m : List ℕ) → FairAnswer n (length b) used f (written_of (append_reply n b used f m) (length b - used))
fair-answer n b used f m = fair-of (append_reply n b used f m) n f used (length b) (fair-call n b used f m)

answer-fair : (n room used f : ℕ) (w : Written) → FairAnswer n room used f w → Fair room used f w
answer-fair n room used f (Ok k) h = h.0
answer-fair n room used f (Err e) h = tt

pub fair : (n : ℕ) (b : List ℕ) (used f : ℕ) (m : List ℕ) {b' : List ℕ} {w : Written} → ServedAt (append_reply n b used f m) used b b' w → Fair (length b) used f w
fair n b used f m {b'} {w} v =
    subst (Fair (length b) used f) (sym v.answer)
    (answer-fair n (length b) used f (written_of (append_reply n b used f m) (length b - used)) (fair-answer n b used f m))

pub fair-done : (room used f n : ℕ) (w : Written) → Fair room used f w → w ≡ Ok n → (used + n ≤ room) × (4 ≤ n) × (n ≤ 65539) × (1 ≤ f)
fair-done room used f n w h e = subst (Fair room used f) e h

-- ---- the tests before the bundle

module _ (b : List ℕ) (used f : ℕ) (m : List ℕ) where
  pub within-served : {b' : List ℕ} {w : Written} → used ≤ length b → ServedAt (behind_bundle b used f m) used b b' w → ServedAt (buffer_reply b used f m) used b b' w
  unfolding buffer_reply
  within-served u v = rw (le-leb used (length b) u) v

  pub within-past : length b < used → ServedAt (buffer_reply b used f m) used b b (Err (refused_at no_room 0))
  unfolding buffer_reply
  within-past u = rw (lt-leb used (length b) u) (serve-at-wrong no_room 0 used b)

  pub beside-served : (n : ℕ) {b' : List ℕ} {w : Written} → eqb n 127 ≡ true → ServedAt (buffer_reply b used f m) used b b' w → ServedAt (append_reply n b used f m) used b b' w
  unfolding append_reply
  beside-served n e v = rw e v

  pub beside_none : (n : ℕ) → eqb n 127 ≡ false → ServedAt (append_reply n b used f m) used b b (Err (refused_at bad_table 0))
  unfolding append_reply
  beside_none n e = rw e (serve-at-wrong bad_table 0 used b)

pub plan-served : (n : ℕ) (b : List ℕ) (used f : ℕ) (m : List ℕ) {r : Plan} {b' : List ℕ} {w : Written} → ServedAt (append_reply n b used f m) used b b' w
    → (k : ℕ) → k ≡ long_in (read_message m) → r ≡ plan_of used f k w → (r ≡ append_plan n b used f m) × (b' ≡ appended n b used f m)
unfolding append_plan appended
plan-served n b used f m {w = w} v k q e =
    (e ∙ ap (λ (i : ℕ). plan_of used f i w) q ∙ ap (plan_of used f (long_in (read_message m))) v.answer, v.after)

-- ---- the count of long integers

module _ (x : Answer Message) {o : Outcome} (e : o ≡ (reading_of x).outcome) where
  pub long-message : {r : Record} → o ≡ Ok r → r.long ≡ long_in x
  unfolding record_of
  long-message {r} q = go x (sym q ∙ e)
    where
      by-start : (n : ℕ) (m : Message) (st : Start) → (record_from st n m).long ≡ m.long
      by-start n m (request_start a b c d) = refl
      by-start n m (response_start a b) = refl

      go : (y : Answer Message) → Ok r ≡ (reading_of y).outcome → r.long ≡ long_in y
      go (accepted n m) z = let w : r ≡ record_of n m = cc in ap (λ (c : Record). c.long) w ∙ by-start n m m.start
      go (refused k p) z = let w : ◌≡◌ {A = ℕ} 0 1 = cc in absurd (omega arith)
      go more z = let w : ◌≡◌ {A = ℕ} 0 1 = cc in absurd (omega arith)

  pub long-none : {f : Stop} → o ≡ Err f → 0 ≡ long_in x
  long-none {f} q = go x (sym q ∙ e)
    where
      go : (y : Answer Message) → Err f ≡ (reading_of y).outcome → 0 ≡ long_in y
      go (accepted n m) z = let w : ◌≡◌ {A = ℕ} 0 1 = cc in absurd (omega arith)
      go (refused i j) z = refl
      go more z = refl

-- the answer under another name
pub served-as : {y : Reply} {k : ℕ} {o o' : List ℕ} {v w : Written} → ServedAt y k o o' v → v ≡ w → ServedAt y k o o' w
served-as {y} {k} {o} {o'} h e = subst (λ (x : Written). ServedAt y k o o' x) e h

-- read as the bundle's messages are
pub long-plain : (m : List ℕ) (t : Told) {r : Reading} → t ≡ told_plain 0 → r ≡ reading_of (read_binary t m) → r.outcome ≡ (reading_of (read_message m)).outcome
long-plain m t e q = ap (λ (x : Reading). x.outcome) q ∙ ap (λ (x : Told). (reading_of (read_binary x m)).outcome) e

-- ---- the record that an append changes

index_of : (n room used f long : ℕ) (w : Written) → FairAnswer n room used f w → {i : ℕ} → (plan_of used f long w).index ≡ Some i → i < n
index_of n room used f long (Ok k) h {i} g = let q : f - 1 ≡ i = cc in omega (arith, h.0.3, h.1, h.2, q)
index_of n room used f long (Err e) h g = let z : ◌≡◌ {A = ℕ} 0 1 = cc in absurd (omega arith)

pub append-index : (n : ℕ) (b : List ℕ) (used f : ℕ) (m : List ℕ) {i : ℕ} → (append_plan n b used f m).index ≡ Some i → i < n
unfolding append_plan
append-index n b used f m =
    index_of n (length b) used f (long_in (read_message m)) (written_of (append_reply n b used f m) (length b - used)) (fair-answer n b used f m)
