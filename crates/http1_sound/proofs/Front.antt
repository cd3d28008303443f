-- The two readers of HTTP/1.1 take the first message from a stream.
use Prim.Native.Nat.{ℕ, suc, ◌+◌, ◌<◌, ◌≤◌}
use mathlib.Core.Path.{◌≡◌, refl, ap}
use mathlib.Core.Bool.{Bool, true, false, cond}
use mathlib.Core.List.{List, [], ◌∷◌, ◌++◌}
use native.Mathlib.Omega.{arith}
use lib.ListN.{length}
use Rattle.std.proofs.Common.{None}
use Rattle.octets.specs.Limits.{head_most, informational_most}
use Rattle.octets.specs.Refusals.{not_supported}
use Rattle.script.specs.Script.{Answer, accepted, refused, more, Settled, run}
use Rattle.script.specs.Do.{◌>>=◌}
use Rattle.script.proofs.Laws.{stable}
use Rattle.script.proofs.Sound.{line-accepted}
use Rattle.stream.specs.Taking.{Taken, message, waits, stops, take_off, resume}
use Rattle.stream.proofs.Taking.{Within, Stable, resumes}
use Rattle.messages.specs.declared.Told.{Told}
use Rattle.messages.specs.Message.{Message}
use Rattle.messages.specs.Answers.{reading_of}
use Rattle.messages.specs.Valid.{is_scheme}
use Rattle.std.proofs.Common.{Err}
use Rattle.messages.specs.declared.Stop.{Stop}
use Rattle.messages.specs.Told.{is_yes}
use Rattle.http1_lines.specs.Read.{request, read_request, ResponseCall, response_call, heads, heads_then, read_response}
use Rattle.http1_sound.specs.Front.{answers, First, Front}

-- ---- any reader

settles : (x : Answer Message) → ((reading_of x).outcome ≡ Err Stop.More → ⊥) → Settled x
settles (accepted n m) h = tt
settles (refused k p) h = tt
settles more h = h refl

module _ (read : List ℕ → Answer Message) where
  resume-first : (t : Taken Message) (u : List ℕ) → First (answers t) (answers (resume read t u))
  unfolding answers resume
  resume-first (message n m t) u =
      let h = resume-first t u in
      record { others = h.others; split = ap (λ l. reading_of (accepted n m) ∷ l) h.split }
  resume-first (waits r) u = record { others = answers (take_off read (r ++ u)); split = refl }
  resume-first (stops k p r) u = record { others = []; split = refl }

  pub front : Within read → Stable read → Front read
  front w st = record {
    stays = st;
    reading = λ s u h. ap reading_of (st s u (settles (read s) h));
    within = w;
    resumes = resumes read w st;
    first = λ s u. rw (resumes read w st s u) (resume-first (take_off read s) u);
  }

-- ---- requests

module _ (t : Told) where
  pub request-stays : Stable (read_request t)
  unfolding read_request
  request-stays s u = go (is_scheme t.scheme)
    where
      go : (b : Bool) → Settled (cond b (run (request t) 0 s) (refused not_supported 0))
          → cond b (run (request t) 0 (s ++ u)) (refused not_supported 0) ≡ cond b (run (request t) 0 s) (refused not_supported 0)
      go true h = stable (request t) 0 s u h
      go false h = refl

  pub request-within : Within (read_request t)
  unfolding read_request request ◌>>=◌
  request-within s n m = go (is_scheme t.scheme)
    where
      go : (b : Bool) → cond b (run (request t) 0 s) (refused not_supported 0) ≡ accepted n m → (0 < n) × (n ≤ length s)
      go true e = let h = line-accepted _ _ _ _ 0 s n m e in (omega arith, omega arith)
      go false e = let z : ◌≡◌ {A = ℕ} 0 1 = cc in absurd (omega arith)

  pub request-front : Front (read_request t)
  request-front = front (read_request t) request-within request-stays

-- ---- responses

heads-within : (q : ResponseCall) (f : ℕ) (s : List ℕ) (n : ℕ) (m : Message) → run (heads q (suc f) [] head_most) 0 s ≡ accepted n m → (0 < n) × (n ≤ length s)
unfolding heads_then ◌>>=◌
heads-within q f s n m e = let h = line-accepted _ _ _ _ 0 s n m e in (omega arith, omega arith)

pub response-within : (t : Told) → Within (read_response t)
unfolding read_response
response-within t s n m e = heads-within (response_call t (length s)) informational_most s n m e

-- while the connection is open the script is the same, however long the stream is
module _ (t : Told) (o : is_yes t.closed ≡ false) where
  pub response-stays : Stable (read_response t)
  unfolding read_response
  response-stays s u h = rw o (stable (heads (record { told = t; ending = None }) (suc informational_most) [] head_most) 0 s u (rw o at h))

  pub response-front : Front (read_response t)
  response-front = front (read_response t) (response-within t) response-stays
