-- The one claim about every list of calls, and what stands in the room at an end.
use Prim.Native.Nat.{ℕ, ◌+◌, ◌-◌, ◌<◌, ◌≤◌}
use mathlib.Core.Path.{◌≡◌, refl, sym, ap, ap₂, ◌∙◌, subst}
use mathlib.Core.Bool.{Bool, true, false, cond}
use mathlib.Core.Logic.{◌⊎◌, inl, inr}
use mathlib.Core.List.{List, [], ◌∷◌, ◌++◌}
use native.Mathlib.Omega.{arith}
use borrow.Author.Tests.{ltb-true, ltb-false}
use lib.Dec.{ltb}
use lib.ListN.{length}
use Rattle.octets.specs.Limits.{head_most}
use Rattle.octets.specs.Refusals.{not_supported}
use Rattle.script.specs.Script.{Answer, accepted, refused}
use Rattle.script.specs.Do.{◌>>=◌}
use Rattle.script.specs.Feed.{says as said}
use Rattle.script.proofs.Feeding.{says-run}
use Rattle.messages.specs.Told.{plain}
use Rattle.messages.specs.declared.Told.{Told}
use Rattle.messages.specs.Message.{Message}
use Rattle.messages.specs.Valid.{is_scheme}
use Rattle.http1_lines.specs.Read.{request, read_request}
use Rattle.step_lines.proofs.Opening.{fresh-open}
use Rattle.steps.specs.States.{Held, held, refuse}
use Rattle.steps.specs.Steps.{taken, answer_by, answer_in, fresh₀, begun, small_room}
use Rattle.steps.specs.Standing.{Keeps, InRequestLine, AtEnd, Stands, StandsIn, step_answer, control_most}
use Rattle.steps.specs.Claim.{Call, octet, little, afresh, after_call, answer_to, answers_of, Since, request as begun_with, nothing, wanted, one_octet, since_call, wanted_to, wanted_of}
use Rattle.steps.specs.declared.Answer as answers
use Rattle.steps.specs.declared.Answer.TheVariants as says
use Rattle.steps.specs.declared.Phase.{Phase}
use Rattle.steps.specs.declared.Phase.TheVariants as phase
use Rattle.steps.specs.declared.State.{State}
use Rattle.steps.proofs.Taking.{taken-stands, settled_same, answered}

-- what a state and its room stand for, when this was begun
abbrev pub StandsFor : Since → State → List ℕ → Type 0
StandsFor (begun_with k s) st room = Stands (plain k) st room s
StandsFor nothing st room = (st.phase ≡ phase.Refused) × (st.number ≡ small_room) × (st.place ≡ 0)

-- ---- the beginning

first-stands : (o : List ℕ) (k : ℕ) → head_most ≤ length o → is_scheme k ≡ true → InRequestLine (plain k) (fresh₀ k) o []
unfolding request ◌>>=◌
first-stands o k h g = record {
  common = record {
    good = g;
    scheme = refl;
    counts = record { lines = omega arith; host = omega arith; hostlen = omega arith; chunks = omega arith; content = omega arith; size = omega arith; trailers = omega arith };
  };
  stands = refl;
  line = fresh-open 0 head_most 0 o [] (omega arith) refl (omega arith) h;
  whole = (refl, refl, refl, refl);
  tally = (refl, refl, refl);
}

other-scheme : (k : ℕ) → is_scheme k ≡ false → read_request (plain k) [] ≡ refused not_supported 0
unfolding read_request
other-scheme k e = rw e

pub begun-stands : (o : List ℕ) (k : ℕ) → StandsFor (cond (ltb (length o) head_most) nothing (begun_with k [])) (begun (length o) k) o
unfolding begun
begun-stands o k = by-room (ltb (length o) head_most) refl
  where
    by-scheme : head_most ≤ length o → (g : Bool) → is_scheme k ≡ g → Stands (plain k) (cond g (fresh₀ k) (refuse (fresh₀ k) not_supported 0)) o []
    by-scheme h true g = record { by = first-stands o k h g }
    by-scheme h false g = record { by = other-scheme k g }

    by-room : (z : Bool) → ltb (length o) head_most ≡ z
        → StandsFor (cond z nothing (begun_with k [])) (cond z (refuse (fresh₀ k) small_room 0) (cond (is_scheme k) (fresh₀ k) (refuse (fresh₀ k) not_supported 0))) o
    by-room true e = (refl, refl, refl)
    by-room false e = by-scheme (ltb-false (length o) head_most e) (is_scheme k) refl

-- ---- one call

says-wanted : (x : Since) (st : State) (room : List ℕ) → StandsFor x st room → answer_in st ≡ wanted x
unfolding answer_in
says-wanted (begun_with k s) st room h = answered (plain k) st room s h
says-wanted nothing st room h = ap (λ (p : Phase). answer_by p st) h.0 ∙ ap₂ says.Refusal h.1 h.2

octet-stands : (x : Since) (st : State) (room : List ℕ) (b : ℕ) → StandsFor x st room → StandsFor (one_octet x b) (taken st room b).state (taken st room b).room
octet-stands (begun_with k s) st room b h = taken-stands (plain k) st room s b h
octet-stands nothing st room b h = subst (λ (z : Held). StandsFor nothing z.state z.room) (sym (settled_same st room b (inr h.0))) h

call-stands : (c : Call) (x : Since) (h : Held) → StandsFor x h.state h.room → StandsFor (since_call x c) (after_call h c).state (after_call h c).room
call-stands (octet b) x h s = octet-stands x h.state h.room b s
call-stands (little b) x h s = s
call-stands (afresh o k) x h s = begun-stands o k

call-answered : (c : Call) (x : Since) (h : Held) → StandsFor x h.state h.room → answer_to h c ≡ wanted_to x c
call-answered (octet b) x h s = says-wanted (one_octet x b) (taken h.state h.room b).state (taken h.state h.room b).room (octet-stands x h.state h.room b s)
call-answered (little b) x h s = refl
call-answered (afresh o k) x h s = says-wanted (cond (ltb (length o) head_most) nothing (begun_with k [])) (begun (length o) k) o (begun-stands o k)

-- ---- every list of calls

all-answered : (cs : List Call) (x : Since) (h : Held) → StandsFor x h.state h.room → answers_of h cs ≡ wanted_of x cs
unfolding answers_of wanted_of
all-answered [] x h s = refl
all-answered (c ∷ cs) x h s =
    ap₂ (λ (a : answers.Answer) (l : List answers.Answer). a ∷ l) (call-answered c x h s) (all-answered cs (since_call x c) (after_call h c) (call-stands c x h s))

-- begun in any room, told any scheme, then any calls: each answer is the first reader's on the octets since the last beginning; a step that is lent too little
-- is 19 at 0 and counts as not taken; a beginning in too little room is 19 at 0 until it is begun afresh
pub answers-are : (o : List ℕ) (k : ℕ) (cs : List Call) → answers_of (held (begun (length o) k) o) cs ≡ wanted_of (cond (ltb (length o) head_most) nothing (begun_with k [])) cs
answers-are o k cs = all-answered cs _ (held (begun (length o) k) o) (begun-stands o k)

-- ---- an end, and a refusal: every further octet changes neither state nor room

unfoldable pub after_octets : Held → List ℕ → Held
after_octets h [] = h
after_octets h (b ∷ bs) = after_octets (taken h.state h.room b) bs

pub settled-all : (h : Held) (bs : List ℕ) → (h.state.phase ≡ phase.Ended) ⊎ (h.state.phase ≡ phase.Refused) → after_octets h bs ≡ h
unfolding after_octets
settled-all h [] e = refl
settled-all h (b ∷ bs) e = ap (λ (z : Held). after_octets z bs) (settled_same h.state h.room b e) ∙ settled-all h bs e

-- at an end the room holds method, authority and path of the message that the first reader accepts, where the state says
pub end-keeps : (t : Told) (st : State) (room s : List ℕ) → Stands t st room s → st.phase ≡ phase.Ended
    → (m : Message) × (read_request t s ≡ accepted st.place m) × Keeps st.control room m.start
unfolding read_request
end-keeps t st room s h e = from (subst (StandsIn t st room s) e h.by)
  where
    from : AtEnd t st room s → (m : Message) × (read_request t s ≡ accepted st.place m) × Keeps st.control room m.start
    from r = (r.message, rw r.good (sym (says-run (request t) 0 s) ∙ ap said r.stands), r.keeps)

-- ---- 8,192 octets of room always suffice: what is kept and all that may still come of a line lie in them; behind the head at most 4,383 are kept

abbrev pub Fits : Phase → State → Type 0
Fits phase.RequestLine st = st.present.from + st.present.left ≤ head_most
Fits phase.FieldLine st = st.present.from + st.present.left ≤ head_most
Fits phase.Content st = st.control.end ≤ control_most
Fits phase.ChunkLine st = (st.present.from + st.present.left ≤ head_most) × (st.control.end ≤ control_most)
Fits phase.Chunk st = st.control.end ≤ control_most
Fits phase.TrailerLine st = (st.present.from + st.present.left ≤ head_most) × (st.control.end ≤ control_most)
Fits phase.Ended st = st.control.end ≤ control_most
Fits phase.Refused st = Unit {0}

pub room-suffices : (t : Told) (st : State) (room s : List ℕ) → Stands t st room s → Fits st.phase st
room-suffices t st room s h = by st.phase h.by
  where
    by : (x : Phase) → StandsIn t st room s x → Fits x st
    by phase.RequestLine r = r.line.fits
    by phase.FieldLine r = r.line.fits
    by phase.Content r = r.head.keeps.small
    by phase.ChunkLine r = (r.line.fits, r.head.keeps.small)
    by phase.Chunk r = r.head.keeps.small
    by phase.TrailerLine r = (r.line.fits, r.head.keeps.small)
    by phase.Ended r = r.keeps.small
    by phase.Refused r = tt
