-- What stands behind the heads of a response, and the whole of it.
use Prim.Native.Nat.{ℕ, ◌≤◌}
use mathlib.Core.Path.{◌≡◌, refl, sym, ap, ◌∙◌, subst}
use mathlib.Core.List.{List, ◌++◌}
use mathlib.Core.Bool.{true}
use native.Mathlib.Omega.{arith}
use lib.ListN.{length, drop}
use Rattle.std.proofs.Common.{Option, Result, Ok, Err}
use Rattle.octets.specs.Limits.{head_most}
use Rattle.script.specs.Script.{Answer, accepted, refused, more, Says, Script, done, run}
use Rattle.script.specs.Do.{◌>>=◌, and_then, tell, Judged, good, wrong}
use Rattle.script.proofs.Laws.{run-done, run-stop}
use Rattle.script.proofs.Places.{run_bind}
use Rattle.output.specs.Splice.{splice}
use Rattle.messages.specs.Message.{InformationalRead, response_start, Message, stating_message}
use Rattle.messages.specs.Names.{kept}
use Rattle.messages.specs.Notes.{body_answer}
use Rattle.messages.specs.Rules.{framing_of, response_body, stated_in}
use Rattle.messages.specs.Answers.{fields_numbers, informational_numbers, informational_lines, record_of}
use Rattle.messages.specs.declared.Body.{Body}
use Rattle.messages.specs.declared.Told.{Told}
use Rattle.messages.specs.Answers.{Outcome}
use Rattle.octets.specs.declared.Refused.{Refused}
use Rattle.messages.specs.declared.Stop.{Stop}
use Rattle.http1_parts.specs.Stops.{stopped}
use Rattle.http1_parts.proofs.Stops.{err-of}
use Rattle.messages.proofs.Lengths.{body-read, body_refused}
use Rattle.http1_lines.specs.Read.{Lines, Content, content, ResponseCall, response_call, after_final, read_response}
use Rattle.http1_sound.proofs.Rules.{response-framed}
use Rattle.http1_parts.specs.Content.{SizedWithin, ContentSays, Contented}
use Rattle.http1_parts.specs.declared.ContentRead.{ContentRead}
use Rattle.ranges.specs.Ranges.{Stores, Responded}
use Rattle.http1_reader.specs.Readers.{RestSays}
use Rattle.http1_reader.specs.Responses.{HeadsFacts, response_run, HeadsTaken, response_found, FinalRead}
use Rattle.http1_reader.specs.declared.HeadsRead.{HeadsRead}
use Rattle.http1_reader.proofs.Facts.{closes-noted, fits-within}
use Rattle.http1_reader.proofs.ResponseHeads.{framing-noted}

-- ---- behind the final head

-- the message with a content
abbrev response_with : Option ℕ → List InformationalRead → ℕ → Lines → Content → Message
response_with st is n h c = stating_message st (response_start is n) h.lines c.chunks c.trailers

abbrev with_content : Option ℕ → List InformationalRead → ℕ → Lines → Judged Body → Script Message
with_content st is n h j = tell j >>= λ b. content b >>= λ c. done (response_with st is n h c)

final-content : (st : Option ℕ) (is : List InformationalRead) (n : ℕ) (h : Lines) (b : Body) (s : List ℕ) (e : ℕ)
    → run (with_content st is n h (good b)) e (drop e s) ≡ and_then (run (content b) e (drop e s)) (λ j c. accepted j (response_with st is n h c))
unfolding ◌>>=◌
final-content st is n h b s e = run_bind (content b) (λ c. done (response_with st is n h c)) s e ∙ go (run (content b) e (drop e s))
  where
    go : (x : Answer Content) → and_then x (λ j c. run (done (response_with st is n h c)) j (drop j s)) ≡ and_then x (λ j c. accepted j (response_with st is n h c))
    go (accepted j c) = run-done (response_with st is n h c) j (drop j s)
    go (refused k p) = refl
    go more = refl

module _ (q : ResponseCall) (s : List ℕ) (r : HeadsRead) {x : Option ℕ} (ends : x ≡ q.ending) where
  judged : (is : List InformationalRead) (h : Lines) → HeadsFacts is h r
      → response_body q.told q.ending r.status h.end (framing_of h.lines) ≡ response_body q.told x r.status r.end r.notes.framing
  judged is h f = rw (f.end, framing-noted r.notes h f.noted, ends) refl

  pub final-refused : {i : Refused} → Err i ≡ body_answer (response_body q.told x r.status r.end r.notes.framing) → {cs cs' ts ts' : List ℕ}
      → FinalRead q s r cs cs' ts ts' (Err (Stop.Refused i))
  unfolding after_final ◌>>=◌
  final-refused {i} g {cs} {cs'} {ts} {ts'} =
      record {
        by = λ is h f.
            let z : run (with_content (stated_in q.told r.status (framing_of h.lines)) is r.status h (response_body q.told q.ending r.status h.end (framing_of h.lines))) r.end (drop r.end s) ≡ refused i.number i.place =
            ap (λ (j : Judged Body). run (with_content (stated_in q.told r.status (framing_of h.lines)) is r.status h j) r.end (drop r.end s)) (judged is h f ∙ body_refused _ i.number i.place (sym g)) ∙ run-stop i.number i.place r.end (drop r.end s) in
            subst (λ (x : Answer Message). RestSays x cs cs' ts ts' (Err (Stop.Refused i))) (sym z) refl;
      }

  module _ {b : Body} (g : Ok b ≡ body_answer (response_body q.told x r.status r.end r.notes.framing)) where
    pub final-within : SizedWithin b
    final-within = fits-within b (response-framed q.told x r.status r.end r.notes.framing b (body-read _ b (sym g))).fits

    module _ (cs cs' ts ts' : List ℕ) (o : Outcome) where
      behind-heads : (is : List InformationalRead) (h : Lines) → HeadsFacts is h r
          → RestSays (and_then (run (content b) r.end (drop r.end s)) (λ j c. accepted j (response_with (stated_in q.told r.status (framing_of h.lines)) is r.status h c))) cs cs' ts ts' o
          → RestSays (run (after_final q is r.status h) r.end (drop r.end s)) cs cs' ts ts' o
      unfolding after_final
      behind-heads is h f u =
          let z : run (with_content (stated_in q.told r.status (framing_of h.lines)) is r.status h (response_body q.told q.ending r.status h.end (framing_of h.lines))) r.end (drop r.end s)
          ≡ and_then (run (content b) r.end (drop r.end s)) (λ j c. accepted j (response_with (stated_in q.told r.status (framing_of h.lines)) is r.status h c)) =
          ap (λ (j : Judged Body). run (with_content (stated_in q.told r.status (framing_of h.lines)) is r.status h j) r.end (drop r.end s)) (judged is h f ∙ body-read _ b (sym g)) ∙ final-content (stated_in q.told r.status (framing_of h.lines)) is r.status h b s r.end in
          subst (λ (x : Answer Message). RestSays x cs cs' ts ts' o) (sym z) u

    pub final-stopped : {e : Stop} {cs cs' ts ts' : List ℕ} → Contented (run (content b) r.end (drop r.end s)) cs cs' ts ts' (Err e) → FinalRead q s r cs cs' ts ts' (Err e)
    final-stopped {e} {cs} {cs'} {ts} {ts'} w = record { by = λ is h f. behind-heads cs cs' ts ts' (Err e) is h f (go is h (run (content b) r.end (drop r.end s)) w.says) }
      where
        go : (is : List InformationalRead) (h : Lines) (x : Answer Content) → ContentSays x cs cs' ts ts' (Err e)
            → RestSays (and_then x (λ j c. accepted j (response_with (stated_in q.told r.status (framing_of h.lines)) is r.status h c))) cs cs' ts ts' (Err e)
        go is h (accepted j l) u = let x = u.0 in let z : ◌≡◌ {A = ℕ} 0 1 = cc in absurd (omega arith)
        go is h (refused j p) u = err-of u
        go is h more u = err-of u

    pub final-read : {cs cs' ts ts' : List ℕ} {st : Option ℕ} {c : ContentRead} → st ≡ stated_in q.told r.status r.notes.framing
        → Contented (run (content b) r.end (drop r.end s)) cs cs' ts ts' (Ok c) → FinalRead q s r cs cs' ts ts' (Ok (response_found r st c))
    unfolding record_of
    final-read {cs} {cs'} {ts} {ts'} {st} {c} i w =
        record { by = λ is h f. behind-heads cs cs' ts ts' (Ok (response_found r st c)) is h f (go is h f (run (content b) r.end (drop r.end s)) w.says) }
      where
        found_in : Result ContentRead Stop → Outcome
        found_in (Ok c) = Ok (response_found r st c)
        found_in (Err e) = Err e

        go : (is : List InformationalRead) (h : Lines) → HeadsFacts is h r → (x : Answer Content) → ContentSays x cs cs' ts ts' (Ok c)
            → RestSays (and_then x (λ j c. accepted j (response_with (stated_in q.told r.status (framing_of h.lines)) is r.status h c))) cs cs' ts ts' (Ok (response_found r st c))
        go is h f (accepted j l) u = (
          ap found_in u.0 ∙ rw (f.heads, f.fields, i, framing-noted r.notes h f.noted, closes-noted r.notes h f.noted) refl,
          u.1,
          u.2,
        )
        go is h f (refused j p) u = let z : ◌≡◌ {A = ℕ} 0 1 = cc in absurd (omega arith)
        go is h f more u = let z : ◌≡◌ {A = ℕ} 0 1 = cc in absurd (omega arith)

-- ---- the whole

-- start and lines of an accepted response are those of its heads
record OfHeads (is : List InformationalRead) (n : ℕ) (h : Lines) (m : Message) : Type 0 where
  pub start : m.start ≡ response_start is n
  pub lines : m.lines ≡ h.lines

of-heads : (q : ResponseCall) (is : List InformationalRead) (n : ℕ) (h : Lines) (s : List ℕ) (e : ℕ) → Says (λ j m. OfHeads is n h m) (run (after_final q is n h) e (drop e s))
unfolding after_final ◌>>=◌
of-heads q is n h s e = go (response_body q.told q.ending n h.end (framing_of h.lines))
  where
    with-content : (x : Answer Content) → Says (λ j m. OfHeads is n h m) (and_then x (λ j c. accepted j (response_with (stated_in q.told n (framing_of h.lines)) is n h c)))
    with-content (accepted j c) = record { start = refl; lines = refl }
    with-content (refused k p) = tt
    with-content more = tt

    go : (j : Judged Body) → Says (λ j m. OfHeads is n h m) (run (with_content (stated_in q.told n (framing_of h.lines)) is n h j) e (drop e s))
    go (good b) = subst (λ (x : Answer Message). Says (λ j m. OfHeads is n h m) x) (sym (final-content (stated_in q.told n (framing_of h.lines)) is n h b s e)) (with-content (run (content b) e (drop e s)))
    go (wrong k p) = subst (λ (x : Answer Message). Says (λ j m. OfHeads is n h m) x) (sym (run-stop k p e (drop e s))) tt

-- a reader that stops
responded-as : {x : Answer Message} {hs hs' ns ns' cs cs' ts ts' : List ℕ} (e : Stop) → x ≡ stopped e → Responded x hs hs' ns ns' cs cs' ts ts' (Err e)
responded-as {hs = hs} {hs' = hs'} {ns = ns} {ns' = ns'} {cs = cs} {cs' = cs'} {ts = ts} {ts' = ts'} (Stop.Refused e) q =
    subst (λ (z : Answer Message). Responded z hs hs' ns ns' cs cs' ts ts' (Err (Stop.Refused e))) (sym q) (record { says = refl; informational = tt })
responded-as {hs = hs} {hs' = hs'} {ns = ns} {ns' = ns'} {cs = cs} {cs' = cs'} {ts = ts} {ts' = ts'} Stop.More q =
    subst (λ (z : Answer Message). Responded z hs hs' ns ns' cs cs' ts ts' (Err Stop.More)) (sym q) (record { says = refl; informational = tt })

-- a call on a stream
abbrev call : Told → List ℕ → ResponseCall
call t s = response_call t (length s)

module _ {s hs hs' ns ns' : List ℕ} (t : Told) where
  pub responded-stopped : {e : Stop} → HeadsTaken (response_run s) s hs hs' ns ns' (Err e) → {cs cs' ts ts' : List ℕ} → Responded (read_response t s) hs hs' ns ns' cs cs' ts ts' (Err e)
  unfolding read_response
  responded-stopped {e} w = responded-as e (w.says (after_final (call t s)))

  module _ {r : HeadsRead} (w : HeadsTaken (response_run s) s hs hs' ns ns' (Ok r)) where
    pub final-place : (r.end ≤ length s) × (r.end ≤ head_most)
    final-place = let d = w.says in (d.3, d.4)

    pub responded-final : {cs cs' ts ts' : List ℕ} {o : Outcome} → FinalRead (call t s) s r cs cs' ts ts' o → Responded (read_response t s) hs hs' ns ns' cs cs' ts ts' o
    unfolding read_response
    responded-final {cs} {cs'} {ts} {ts'} {o} f =
        let d = w.says in
        subst (λ (z : Answer Message). Responded z hs hs' ns ns' cs cs' ts ts' o) (sym (d.5 (after_final (call t s))))
        (go d.0 d.1 d.6 d.7 (run (after_final (call t s) d.0 r.status d.1) r.end (drop r.end s)) (of-heads (call t s) d.0 r.status d.1 s r.end) (f.by d.0 d.1 d.2))
      where
        go : (is : List InformationalRead) (h : Lines) → Stores hs 0 (fields_numbers (informational_lines is ++ kept true h.lines)) hs'
            → ns' ≡ splice ns 0 (informational_numbers is) → (y : Answer Message) → Says (λ j m. OfHeads is r.status h m) y → RestSays y cs cs' ts ts' o
            → Responded y hs hs' ns ns' cs cs' ts ts' o
        go is h a b (accepted j m) z u =
            record { says = (u.0, rw (z.start, z.lines) a, u.1, u.2); informational = b ∙ rw z.start refl }
        go is h a b (refused i p) z u = record { says = u; informational = tt }
        go is h a b more z u = record { says = u; informational = tt }
