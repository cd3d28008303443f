-- The ways through a step, over plain variables.
use Prim.Native.Nat.{ℕ, ◌+◌, ◌-◌, ◌<◌, ◌≤◌}
use mathlib.Core.Path.{◌≡◌, refl, sym, ap, subst, ◌∙◌}
use mathlib.Core.Bool.{Bool, true, false, cond}
use mathlib.Core.Logic.{◌⊎◌, inl, inr}
use mathlib.Core.List.{List}
use native.Mathlib.Omega.{arith}
use borrow.Author.Tests.{lt-ltb, le-ltb, ltb-true, leb-true}
use lib.Dec.{leb, ltb}
use lib.ListN.{length, take, drop, set, length-drop}
use lib.Seq.{length-take-le}
use Rattle.octets.specs.Limits.{head_most, content_most, lines_most, chunks_most}
use Rattle.octets.specs.Refusals.{bad_syntax, too_large, not_supported}
use Rattle.octets.proofs.Kit.{into, no_true}
use Rattle.messages.specs.Valid.{is_scheme}
use Rattle.step_lines.specs.Stepping.{line_step, line_text, one_more}
use Rattle.step_lines.specs.declared.Present.{Present}
use Rattle.step_lines.specs.declared.LineStep.{LineStep}
use Rattle.step_lines.specs.declared.LineStep.TheVariants.{Goes, Whole, Bad, Long}
use Rattle.steps.specs.States.{Held, held, Gives, refuse, reading, SaneLine, SaneData, SaneCounts, is_line, is_data, is_tally, is_counted, place_most}
use Rattle.steps.specs.Bodies.{chunk_in, trailer_in}
use Rattle.steps.specs.Steps.{whole_by, on_octet, line_octet, line_taken, data_by, data_taken, taken_by, taken, answer_by, answer_in, fresh₀, begun, small_room, Steps}
use Rattle.steps.specs.declared.Answer.{Answer}
use Rattle.steps.specs.declared.Answer.TheVariants as says
use Rattle.steps.specs.declared.Phase.{Phase}
use Rattle.steps.specs.declared.Phase.TheVariants as phase
use Rattle.steps.specs.declared.State.{State}
use Rattle.steps.proofs.Picks.{line-part}

-- ---- numbers

pub line-is : (l : Present) (e : ℕ) {r : Bool} → r ≡ is_line l e → r ≡ true → SaneLine l e
unfolding is_line
line-is l e q h =
    let a = into no_true (leb l.at place_most) _ (sym q ∙ h) in
    let b = into no_true (ltb l.have l.left) _ a.1 in
    let c = into no_true (leb l.left head_most) _ b.1 in
    let d = into no_true (leb l.from head_most) _ c.1 in
    let f = into no_true (ltb (l.from + l.have) head_most) _ d.1 in
    record {
      place = leb-true _ _ a.0;
      count = ltb-true _ _ b.0;
      size = leb-true _ _ c.0;
      start = leb-true _ _ d.0;
      room = ltb-true _ _ f.0;
      behind = leb-true _ _ f.1;
    }

pub data_is : (l : Present) {r : Bool} → r ≡ is_data l → r ≡ true → SaneData l
unfolding is_data
data_is l q h =
    let a = into no_true (leb l.at place_most) _ (sym q ∙ h) in
    let b = into no_true (ltb l.have l.left) _ a.1 in
    record { place = leb-true _ _ a.0; count = ltb-true _ _ b.0; size = leb-true _ _ b.1 }

pub counts-are : (st : State) {r : Bool} → r ≡ is_counted st → r ≡ true → SaneCounts st
unfolding is_counted is_tally
counts-are st q h =
    let a = into no_true (leb st.lines lines_most) _ (sym q ∙ h) in
    let b = into no_true (leb st.control.host head_most) _ a.1 in
    let c = into no_true (leb st.control.hostlen head_most) _ b.1 in
    let d = into no_true (leb st.tally.chunks chunks_most) _ c.1 in
    let e = into no_true (leb st.tally.content content_most) _ d.1 in
    let f = into no_true (leb st.tally.size content_most) _ e.1 in
    record {
      lines = leb-true _ _ a.0;
      host = leb-true _ _ b.0;
      hostlen = leb-true _ _ c.0;
      chunks = leb-true _ _ d.0;
      content = leb-true _ _ e.0;
      size = leb-true _ _ f.0;
      trailers = leb-true _ _ f.1;
    }

-- ---- lines

module _ (st : State) (room : List ℕ) {n : ℕ} (len : n ≡ st.present.have - 1) where
  pub chunk_part : {r : State} → r ≡ chunk_in st (take (st.present.from + n - st.present.from) (drop st.present.from room)) → r ≡ chunk_in st (line_text st.present room)
  chunk_part f = f ∙ ap (chunk_in st) (line-part st.present room n len)

  pub trailer-part : {r : State} → r ≡ trailer_in st (take (st.present.from + n - st.present.from) (drop st.present.from room)) → r ≡ trailer_in st (line_text st.present room)
  trailer-part f = f ∙ ap (trailer_in st) (line-part st.present room n len)

  pub part-size : head_most ≤ length room → SaneLine st.present st.control.end → length (take (st.present.from + n - st.present.from) (drop st.present.from room)) ≡ st.present.have - 1
  part-size h s =
      ap (λ (l : List ℕ). length l) (line-part st.present room n len)
      ∙ length-take-le (st.present.have - 1) (drop st.present.from room) (omega (arith, length-drop st.present.from room, s.room))

pub whole-as : (st : State) (room : List ℕ) {x : Phase} {r : State} {o : List ℕ} (y : Phase) → x ≡ y → Gives (whole_by y st room) r o → Gives (whole_by x st room) r o
whole-as st room y e g = rw e g

module _ (st : State) (room : List ℕ) (b : ℕ) where
  module _ {k : LineStep} (e : k ≡ line_step st.present.have st.present.left st.present.cr b) where
    pub octet-as : {r : State} {o : List ℕ} (y : LineStep) → k ≡ y → Gives (on_octet st room b y) r o → Gives (line_octet st room b) r o
    unfolding line_octet
    octet-as y h g = rw (← e, h) g

    pub octet-goes : {r : State} {p : Present} (c : ℕ) → k ≡ Goes c → p ≡ one_more st.present c → r ≡ reading st st.phase p
        → Gives (line_octet st room b) r (set room (st.present.from + st.present.have) b)
    octet-goes c h q f = octet-as (Goes c) h (record { state = f ∙ ap (reading st st.phase) q; room = refl })

    pub octet-bad : {r : State} → k ≡ Bad → r ≡ refuse st bad_syntax st.present.at → Gives (line_octet st room b) r room
    octet-bad h f = octet-as Bad h (record { state = f; room = refl })

    pub octet-long : {r : State} → k ≡ Long → r ≡ refuse st too_large st.present.at → Gives (line_octet st room b) r room
    octet-long h f = octet-as Long h (record { state = f; room = refl })

  module _ {x : Bool} (p : x ≡ is_line st.present st.control.end) where
    pub line-none : x ≡ false → Gives (line_taken st room b) st room
    unfolding line_taken
    line-none h = rw (← p, h) (record { state = refl; room = refl })

    module _ (h : x ≡ true) {y : Bool} (q : y ≡ is_counted st) where
      pub line-uncounted : y ≡ false → Gives (line_taken st room b) st room
      unfolding line_taken
      line-uncounted g = rw (← p, h, ← q, g) (record { state = refl; room = refl })

      pub line-taken : {r : State} {o : List ℕ} → y ≡ true → Gives (line_octet st room b) r o → Gives (line_taken st room b) r o
      unfolding line_taken
      line-taken g f = rw (← p, h, ← q, g) f

  pub taken_as : {r : State} {o : List ℕ} (y : Phase) → st.phase ≡ y → Gives (taken_by y st room b) r o → Gives (taken st room b) r o
  unfolding taken
  taken_as {r} {o} y e g = subst (λ (x : Phase). Gives (taken_by x st room b) r o) (sym e) g

  pub taken-data : {r : State} → (st.phase ≡ phase.Content) ⊎ (st.phase ≡ phase.Chunk) → r ≡ data_taken st b → Gives (taken st room b) r room
  taken-data (inl e) q = taken_as phase.Content e (record { state = q; room = refl })
  taken-data (inr e) q = taken_as phase.Chunk e (record { state = q; room = refl })

  pub taken-settled : (st.phase ≡ phase.Ended) ⊎ (st.phase ≡ phase.Refused) → Gives (taken st room b) st room
  taken-settled (inl e) = taken_as phase.Ended e (record { state = refl; room = refl })
  taken-settled (inr e) = taken_as phase.Refused e (record { state = refl; room = refl })

  pub taken-line : {r : State} {o : List ℕ} (y : Phase) → st.phase ≡ y → (st.phase ≡ phase.Content → ⊥) → (st.phase ≡ phase.Chunk → ⊥) → (st.phase ≡ phase.Ended → ⊥)
      → (st.phase ≡ phase.Refused → ⊥) → Gives (line_taken st room b) r o → Gives (taken st room b) r o
  taken-line phase.RequestLine e c k n z g = taken_as phase.RequestLine e g
  taken-line phase.FieldLine e c k n z g = taken_as phase.FieldLine e g
  taken-line phase.Content e c k n z g = absurd (c e)
  taken-line phase.ChunkLine e c k n z g = taken_as phase.ChunkLine e g
  taken-line phase.Chunk e c k n z g = absurd (k e)
  taken-line phase.TrailerLine e c k n z g = taken_as phase.TrailerLine e g
  taken-line phase.Ended e c k n z g = absurd (n e)
  taken-line phase.Refused e c k n z g = absurd (z e)

module _ (st : State) (b : ℕ) where
  module _ {x : Bool} (p : x ≡ is_data st.present) where
    pub data-none : x ≡ false → st ≡ data_taken st b
    unfolding data_taken
    data-none h = rw (← p, h)

    module _ (h : x ≡ true) {y : Bool} (q : y ≡ is_counted st) where
      pub data-uncounted : y ≡ false → st ≡ data_taken st b
      unfolding data_taken
      data-uncounted g = rw (← p, h, ← q, g)

      pub data-taken : {r : State} → y ≡ true → r ≡ data_by st.phase st b → r ≡ data_taken st b
      unfolding data_taken
      data-taken g f = f ∙ rw (← p, h, ← q, g)

  pub data-as : {x : Phase} {r : State} (y : Phase) → x ≡ y → r ≡ data_by y st b → r ≡ data_by x st b
  data-as y e f = rw e f

pub answer-as : (st : State) {a : Answer} (y : Phase) → st.phase ≡ y → a ≡ answer_by y st → a ≡ answer_in st
unfolding answer_in
answer-as st y e f = f ∙ sym (ap (λ (x : Phase). answer_by x st) e)

pub answer-more : (st : State) (y : Phase) → st.phase ≡ y → (st.phase ≡ phase.Ended → ⊥) → (st.phase ≡ phase.Refused → ⊥) → says.More ≡ answer_in st
answer-more st phase.RequestLine e n z = answer-as st phase.RequestLine e refl
answer-more st phase.FieldLine e n z = answer-as st phase.FieldLine e refl
answer-more st phase.Content e n z = answer-as st phase.Content e refl
answer-more st phase.ChunkLine e n z = answer-as st phase.ChunkLine e refl
answer-more st phase.Chunk e n z = answer-as st phase.Chunk e refl
answer-more st phase.TrailerLine e n z = answer-as st phase.TrailerLine e refl
answer-more st phase.Ended e n z = absurd (n e)
answer-more st phase.Refused e n z = absurd (z e)

-- ---- beginning and step

module _ (room scheme : ℕ) {s : State} (q : s ≡ fresh₀ scheme) {r : State} where
  pub begun-small : room < head_most → r ≡ refuse s small_room 0 → r ≡ begun room scheme
  unfolding begun
  begun-small h f = f ∙ rw (q, lt-ltb room head_most h)

  module _ (h : head_most ≤ room) {y : Bool} (e : y ≡ is_scheme scheme) where
    pub begun-not : y ≡ false → r ≡ refuse s not_supported 0 → r ≡ begun room scheme
    unfolding begun
    begun-not g f = f ∙ rw (q, le-ltb room head_most h, ← e, g)

pub begun-good : (room scheme : ℕ) {s : State} → s ≡ fresh₀ scheme → head_most ≤ room → {y : Bool} → y ≡ is_scheme scheme → y ≡ true → s ≡ begun room scheme
unfolding begun
begun-good room scheme q h e g = q ∙ rw (le-ltb room head_most h, ← e, g)

pub step_small : (st : State) (room : List ℕ) (b : ℕ) → length room < head_most → Steps st room b (record { state = st; answer = says.Refusal small_room 0 }) room
step_small st room b h = record { small = λ g. (refl, refl, refl); took = λ g. absurd (omega arith); answers = λ g. absurd (omega arith) }

pub step-all : (st : State) (room : List ℕ) (b : ℕ) {r : State} {o : List ℕ} {a : Answer} → head_most ≤ length room → Gives (taken st room b) r o → a ≡ answer_in r
    → Steps st room b (record { state = r; answer = a }) o
step-all st room b h g e = record { small = λ k. absurd (omega arith); took = λ k. g; answers = λ k. e ∙ ap answer_in g.state }
