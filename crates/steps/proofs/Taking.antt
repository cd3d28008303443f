-- One octet of a request, whatever is read: the states stand for one octet more, and say what the first reader says.
use Prim.Native.Nat.{ℕ, ◌+◌, ◌-◌, ◌<◌, ◌≤◌}
use mathlib.Core.Path.{◌≡◌, refl, sym, ap, ◌∙◌, subst}
use mathlib.Core.Bool.{Bool, true, false, cond}
use mathlib.Core.Logic.{◌⊎◌, inl, inr}
use mathlib.Core.List.{List, [], ◌∷◌, ◌++◌}
use native.Mathlib.Omega.{arith}
use borrow.Author.Tests.{le-leb, lt-ltb, le-ltb}
use lib.Dec.{ltb}
use lib.ListN.{length}
use Rattle.octets.specs.Limits.{head_most, content_most, lines_most}
use Rattle.octets.specs.Refusals.{not_supported}
use Rattle.octets.proofs.Kit.{no_true}
use Rattle.script.specs.Script.{Answer, accepted, refused, more, Settled, run, need, some_octets}
use Rattle.script.specs.Do.{◌>>=◌}
use Rattle.script.specs.Feed.{ended, after, says as said}
use Rattle.script.proofs.Laws.{stable}
use Rattle.script.proofs.Feeding.{says-run, ended-stays}
use Rattle.script.proofs.Words.{octets-wait}
use Rattle.messages.specs.declared.Told.{Told}
use Rattle.messages.specs.declared.Body.TheVariants.{Sized}
use Rattle.messages.specs.Valid.{is_scheme}
use Rattle.messages.specs.Message.{Message}
use Rattle.http1_lines.specs.Read.{field_lines, content, request, read_request}
use Rattle.step_lines.specs.Stepping.{so_far, LineOpen}
use Rattle.step_lines.specs.declared.Present.{Present}
use Rattle.step_lines.proofs.Opening.{asks, fresh-open}
use Rattle.steps.specs.States.{Held, held, is_line, is_data, is_counted, SaneCounts, place_most}
use Rattle.steps.specs.Bodies.{content_octet, chunk_octet}
use Rattle.steps.specs.Steps.{line_octet, line_taken, data_by, data_taken, taken_by, taken, answer_by, answer_in, fresh₀, begun}
use Rattle.steps.specs.Standing.{request_rest, chunk_rest, finishing, InRequestLine, InHead, InSized, InChunkLine, InChunk, InTrailers, AtEnd, Stands, StandsIn, step_answer}
use Rattle.steps.specs.declared.Phase.{Phase}
use Rattle.steps.specs.declared.Phase.TheVariants as phase
use Rattle.steps.specs.declared.State.{State}
use Rattle.steps.proofs.Lines.{fails, counted, lined, line-taken-is}
use Rattle.steps.proofs.Starting.{request-line-takes}
use Rattle.steps.proofs.Heading.{head-takes}
use Rattle.steps.proofs.Settling.{head-end-stands}
use Rattle.steps.proofs.Contents.{content-takes, chunk-takes}
use Rattle.steps.proofs.Trailing.{chunk-line-takes, trailer-takes}

-- ---- one octet more

-- a line of a state that stands for octets is taken as a line
as_line : (t : Told) (st : State) (room s : List ℕ) (b : ℕ) → LineOpen st.present room s → st.present.at ≤ place_most → st.control.end ≤ st.present.from → SaneCounts st
    → Stands t (line_octet st room b).state (line_octet st room b).room (s ++ b ∷ []) → Stands t (line_taken st room b).state (line_taken st room b).room (s ++ b ∷ [])
as_line t st room s b o p e c h =
    subst (λ (z : Held). Stands t z.state z.room (s ++ b ∷ []))
    (sym (line-taken-is st room b (lined st.present st.control.end room s o p e) (counted st c))) h

data_is : (st : State) (b : ℕ) → st.present.at ≤ place_most → st.present.have < st.present.left → st.present.left ≤ content_most + 2 → SaneCounts st
    → data_taken st b ≡ data_by st.phase st b
unfolding data_taken is_data
data_is st b p h l c =
    rw (le-leb st.present.at place_most p, lt-ltb st.present.have st.present.left h, le-leb st.present.left (content_most + 2) l, counted st c)

-- a refusal stays
refused-stays : (t : Told) (s : List ℕ) (b n p : ℕ) → read_request t s ≡ refused n p → read_request t (s ++ b ∷ []) ≡ refused n p
unfolding read_request
refused-stays t s b n p e = pick (is_scheme t.scheme) e
  where
    pick : (z : Bool) → cond z (run (request t) 0 s) (refused not_supported 0) ≡ refused n p → cond z (run (request t) 0 (s ++ b ∷ [])) (refused not_supported 0) ≡ refused n p
    pick true x = stable (request t) 0 s (b ∷ []) (subst Settled (sym x) tt) ∙ x
    pick false x = x

module _ (t : Told) (st : State) (room s : List ℕ) (b : ℕ) where
  by-phase : (x : Phase) → st.phase ≡ x → StandsIn t st room s x → Stands t (taken_by x st room b).state (taken_by x st room b).room (s ++ b ∷ [])
  by-phase phase.RequestLine p r =
      as_line t st room s b r.line (omega (arith, r.whole.0)) (omega (arith, r.whole.3)) r.common.counts (request-line-takes t st room s r b p)
  by-phase phase.FieldLine p r =
      as_line t st room s b r.line (omega (arith, r.allowed)) r.behind r.common.counts (head-takes t st room s r b p (λ e h z. head-end-stands t st room s r b e h z))
  by-phase phase.Content p r =
      subst (λ (z : State). Stands t z room (s ++ b ∷ []))
      (sym (data_is st b (omega (arith, r.sizes.0)) r.short (omega (arith, r.sizes.1)) r.head.common.counts ∙ ap (λ (x : Phase). data_by x st b) p)) (content-takes t st room s r b p)
  by-phase phase.ChunkLine p r =
      as_line t st room s b r.line (omega (arith, r.places)) (omega (arith, r.whole.1)) r.head.common.counts (chunk-line-takes t st room s r b p)
  by-phase phase.Chunk p r =
      subst (λ (z : State). Stands t z room (s ++ b ∷ []))
      (sym (data_is st b (omega (arith, r.places)) r.short (omega (arith, r.sizes.1, r.count.2)) r.head.common.counts ∙ ap (λ (x : Phase). data_by x st b) p)) (chunk-takes t st room s r b p)
  by-phase phase.TrailerLine p r =
      as_line t st room s b r.line (omega (arith, r.whole.2)) (omega (arith, r.whole.0)) r.head.common.counts (trailer-takes t st room s r b p)
  by-phase phase.Ended p r = record { by = subst (StandsIn t st room (s ++ b ∷ [])) (sym p) (still r) }
    where
      still : AtEnd t st room s → AtEnd t st room (s ++ b ∷ [])
      still r = record {
        message = r.message;
        good = r.good;
        stands = ended-stays _ _ s b _ _ r.stands;
        headers = r.headers;
        content = r.content;
        trailers = r.trailers;
        keeps = r.keeps;
      }
  by-phase phase.Refused p r = record { by = subst (StandsIn t st room (s ++ b ∷ [])) (sym p) (refused-stays t s b st.number st.place r) }

  -- whatever octets state and room stood for, they then stand for these and b
  pub taken-stands : Stands t st room s → Stands t (taken st room b).state (taken st room b).room (s ++ b ∷ [])
  unfolding taken
  taken-stands h = by-phase st.phase refl h.by

-- after an end or a refusal nothing changes, state or room
pub settled_same : (st : State) (room : List ℕ) (b : ℕ) → (st.phase ≡ phase.Ended) ⊎ (st.phase ≡ phase.Refused) → taken st room b ≡ held st room
unfolding taken
settled_same st room b (inl e) = ap (λ (x : Phase). taken_by x st room b) e
settled_same st room b (inr e) = ap (λ (x : Phase). taken_by x st room b) e

-- ---- answers

waiting : (t : Told) (s : List ℕ) → is_scheme t.scheme ≡ true → said (after (request t) 0 s) ≡ more → read_request t s ≡ more
unfolding read_request
waiting t s g e = rw g (sym (says-run (request t) 0 s) ∙ e)

module _ (t : Told) (st : State) (room s : List ℕ) where
  says-by : (x : Phase) → StandsIn t st room s x → answer_by x st ≡ step_answer (read_request t s)
  unfolding field_lines content ◌>>=◌ read_request
  says-by phase.RequestLine r = ap step_answer (sym (waiting t s r.common.good (asks st.present room s r.line (request t) (request_rest t) r.stands)))
  says-by phase.FieldLine r = ap step_answer (sym (waiting t s r.common.good (asks st.present room s r.line (request t) _ r.stands)))
  says-by phase.Content r = ap step_answer (sym (waiting t s r.head.common.good (ap said (r.stands ∙ octets-wait st.present.left _ st.present.at r.w (omega (arith, r.count, r.short))))))
  says-by phase.ChunkLine r = ap step_answer (sym (waiting t s r.head.common.good (asks st.present room s r.line (request t) _ r.stands)))
  says-by phase.Chunk r =
      ap step_answer (sym (waiting t s r.head.common.good (ap said (r.stands ∙ octets-wait (st.tally.size + 2) _ st.present.at r.w (omega (arith, r.long, r.short, r.count.2))))))
  says-by phase.TrailerLine r = ap step_answer (sym (waiting t s r.head.common.good (asks st.present room s r.line (request t) _ r.stands)))
  says-by phase.Ended r = rw (r.headers, r.content, r.trailers) (ap step_answer (sym (ends r)))
    where
      ends : (r : AtEnd t st room s) → read_request t s ≡ accepted st.place r.message
      ends r = rw r.good (sym (says-run (request t) 0 s) ∙ ap said r.stands)
  says-by phase.Refused r = ap step_answer (sym r)

  -- a state that stands for octets says what the first reader says on them
  pub answered : Stands t st room s → answer_in st ≡ step_answer (read_request t s)
  unfolding answer_in
  answered h = says-by st.phase h.by
