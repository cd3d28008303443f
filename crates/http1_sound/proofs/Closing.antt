-- What an open connection settles stays when it has closed.
use Prim.Native.Nat.{ℕ, zero, suc, ◌-◌, ◌≤◌}
use mathlib.Core.Path.{◌≡◌, refl, sym, ap, ◌∙◌}
use mathlib.Core.Bool.{Bool, true, false, not, cond}
use mathlib.Core.Logic.{◌⊎◌, inl, inr}
use mathlib.Core.List.{List, []}
use native.Mathlib.Omega.{arith}
use borrow.Author.Tests.{leb-true, leb-false, eqb-true}
use lib.Dec.{leb, eqb}
use lib.ListN.{length, drop, length-drop}
use Rattle.std.proofs.Common.{Option, Some, None}
use Rattle.octets.specs.Limits.{head_most, content_most, informational_most}
use Rattle.octets.specs.Refusals.{too_large}
use Rattle.script.specs.Script.{Answer, accepted, refused, more, Settled, Script, done, run}
use Rattle.script.specs.Do.{◌>>=◌, and_then, word, tell, Judged, good, wrong}
use Rattle.script.proofs.Laws.{run-stop}
use Rattle.script.proofs.Places.{run_bind, octets-more, octets-in}
use Rattle.script.proofs.Sound.{accepted-within}
use Rattle.messages.specs.declared.Told.{Told}
use Rattle.messages.specs.Message.{InformationalRead, response_start, Message, stating_message}
use Rattle.messages.specs.Control.{is_informational, ends_at_head}
use Rattle.messages.specs.Told.{is_yes, closing}
use Rattle.messages.specs.Rules.{framing_of, nothing_stated, length_alone, bodyless_rule, unmeasured_body, content_body, response_body, stated_in}
use Rattle.messages.specs.declared.Body.{Body}
use Rattle.messages.specs.declared.Body.TheVariants.{Sized, UntilClosed}
use Rattle.messages.specs.declared.Framing.{Framing}
use Rattle.messages.specs.declared.Framing.TheVariants.{Unstated, Stated, Chunked, Clashing}
use Rattle.http1_lines.specs.Lines.{status_of}
use Rattle.http1_lines.specs.Read.{line_within, less, Lines, section, content, ResponseCall, after_final, heads, heads_then, read_response}
use Rattle.http1_sound.specs.Read.{ClosedLater}
use Rattle.http1_sound.proofs.Sections.{section-at}

-- x is y where y settles
record Alike (x y : Answer Message) : Type 0 where
  same : Settled y → x ≡ y

alike : {x y : Answer Message} → x ≡ y → Alike x y
alike e = record { same = λ z. e }

-- ---- the rule of lengths

module _ (t : Told) (c n status end : ℕ) where
  -- it says the same; or, where nothing is stated, on an open connection the end is to come, and on one that has closed it is the stream's
  abbrev Judge : Judged Body → Judged Body → Type 0
  Judge x y = (x ≡ y) ⊎ ((x ≡ unmeasured_body (Some n) end) × (y ≡ good UntilClosed))

  bodyless-same : (f : Framing) → bodyless_rule (closing c t) status end f ≡ bodyless_rule (closing 0 t) status end f
  unfolding bodyless_rule length_alone
  bodyless-same Unstated = refl
  bodyless-same (Stated k p) = refl
  bodyless-same Chunked = refl
  bodyless-same Clashing = refl

  content-judges : (f : Framing) → Judge (content_body (Some n) end f) (content_body None end f)
  unfolding content_body unmeasured_body
  content-judges Unstated = inr (refl, refl)
  content-judges (Stated k p) = inl refl
  content-judges Chunked = inl refl
  content-judges Clashing = inl refl

  judges : (f : Framing) → Judge (response_body (closing c t) (Some n) status end f) (response_body (closing 0 t) None status end f)
  unfolding response_body ends_at_head
  judges f = go (ends_at_head t status)
    where
      go : (b : Bool) → Judge (cond b (bodyless_rule (closing c t) status end f) (content_body (Some n) end f))
          (cond b (bodyless_rule (closing 0 t) status end f) (content_body None end f))
      go true = inl (bodyless-same f)
      go false = content-judges f

  stated-same : (f : Framing) → stated_in (closing c t) status f ≡ stated_in (closing 0 t) status f
  unfolding stated_in ends_at_head
  stated-same f = refl

-- ---- the scripts

module _ (s : List ℕ) (t : Told) (c : ℕ) where
  -- the call where the connection has closed, and where it is open
  abbrev shut : ResponseCall
  shut = record { told = closing c t; ending = Some (length s) }

  abbrev still : ResponseCall
  still = record { told = closing 0 t; ending = None }

  alike-bind : {A : Type 0} (sc : Script A) (k l : A → Script Message) (i : ℕ) → i ≤ length s
      → ((n : ℕ) (a : A) → n ≤ length s → run sc i (drop i s) ≡ accepted n a → Alike (run (k a) n (drop n s)) (run (l a) n (drop n s)))
      → Alike (run (sc >>= k) i (drop i s)) (run (sc >>= l) i (drop i s))
  alike-bind {A} sc k l i w h = rw (run_bind sc k s i, run_bind sc l s i) (go (run sc i (drop i s)) refl)
    where
      go : (x : Answer A) → run sc i (drop i s) ≡ x → Alike (and_then x (λ n a. run (k a) n (drop n s))) (and_then x (λ n a. run (l a) n (drop n s)))
      go (accepted n a) e = h n a (omega (arith, w, length-drop i s, accepted-within sc i (drop i s) n a e)) e
      go (refused n p) e = alike refl
      go more e = alike refl

  alike-if : (b : Bool) (x y u v : Script Message) (i : ℕ) → Alike (run x i (drop i s)) (run u i (drop i s)) → Alike (run y i (drop i s)) (run v i (drop i s))
      → Alike (run (cond b x y) i (drop i s)) (run (cond b u v) i (drop i s))
  alike-if true x y u v i p q = p
  alike-if false x y u v i p q = q

  -- what follows the rule, with a stated length
  abbrev judged_by : Option ℕ → List InformationalRead → ℕ → Lines → Judged Body → Script Message
  judged_by st is n h j = tell j >>= λ b. content b >>= λ d. done (stating_message st (response_start is n) h.lines d.chunks d.trailers)

  module _ (st : Option ℕ) (is : List InformationalRead) (n at : ℕ) (h : Lines) (w : at ≤ length s) (e : h.end ≡ at) where
    -- too many octets are too many, whether or not the connection has closed
    unmeasured-alike : Alike (run (judged_by st is n h (unmeasured_body (Some (length s)) h.end)) at (drop at s)) (run (judged_by st is n h (good UntilClosed)) at (drop at s))
    unfolding unmeasured_body content ◌>>=◌
    unmeasured-alike = go (leb (length s - h.end) content_most) refl
      where
        go : (b : Bool) → leb (length s - h.end) content_most ≡ b
            → Alike (run (judged_by st is n h (cond b (good (Sized (length s - h.end))) (wrong too_large h.end))) at (drop at s)) (run (judged_by st is n h (good UntilClosed)) at (drop at s))
        go true q =
            let z : run (judged_by st is n h (good UntilClosed)) at (drop at s) ≡ more = octets-more _ _ s at w (omega (arith, e, leb-true (length s - h.end) content_most q)) in
            record { same = λ g. absurd (rw z at g) }
        go false q =
            let z : run (judged_by st is n h (good UntilClosed)) at (drop at s) ≡ refused too_large at =
            octets-in _ _ s at w (omega (arith, e, leb-false (length s - h.end) content_most q)) ∙ rw run-stop in
            let y : run (judged_by st is n h (wrong too_large h.end)) at (drop at s) ≡ refused too_large at = rw (run-stop, e) in
            alike (y ∙ sym z)

    judged-alike : (x y : Judged Body) → (x ≡ y) ⊎ ((x ≡ unmeasured_body (Some (length s)) h.end) × (y ≡ good UntilClosed))
        → Alike (run (judged_by st is n h x) at (drop at s)) (run (judged_by st is n h y) at (drop at s))
    judged-alike x y (inl p) = alike (ap (λ (j : Judged Body). run (judged_by st is n h j) at (drop at s)) p)
    judged-alike x y (inr p) = rw (p.0, p.1) unmeasured-alike

  final-alike : (is : List InformationalRead) (n at : ℕ) (h : Lines) → at ≤ length s → h.end ≡ at
      → Alike (run (after_final shut is n h) at (drop at s)) (run (after_final still is n h) at (drop at s))
  unfolding after_final
  final-alike is n at h w e =
      rw (stated-same t c (length s) n h.end (framing_of h.lines))
      (judged-alike (stated_in (closing 0 t) n (framing_of h.lines)) is n at h w e _ _ (judges t c (length s) n h.end (framing_of h.lines)))

  heads-alike : (f : ℕ) (is : List InformationalRead) (left at : ℕ) → at ≤ length s
      → Alike (run (heads shut f is left) at (drop at s)) (run (heads still f is left) at (drop at s))
  unfolding heads_then
  heads-alike zero is left at w = alike refl
  heads-alike (suc f) is left at w =
      alike-bind (word (line_within left)) _ _ at w λ i l v d.
      alike-bind (tell (status_of l)) _ _ i v λ j n u g.
      alike-if (is_informational n) _ _ _ _ j
      (alike-if (leb informational_most (length is)) _ _ _ _ j (alike refl)
      (alike-bind (section (less left l)) _ _ j u λ k h y x.
      alike-bind (tell (nothing_stated h.end (framing_of h.lines))) _ _ k y λ m b z a.
      heads-alike f _ h.left m z))
      (alike-bind (section (less left l)) _ _ j u λ k h y x.
      final-alike is n k h y (section-at s (less left l) j k h u x).read.end)

pub closed-later : ClosedLater
unfolding read_response is_yes
closed-later t c s = go (eqb c 0) refl
  where
    go : (b : Bool) → eqb c 0 ≡ b → Settled (run (heads (still s t c) (suc informational_most) [] head_most) 0 s)
        → run (heads (record { told = closing c t; ending = cond (not b) (Some (length s)) None }) (suc informational_most) [] head_most) 0 s
        ≡ run (heads (still s t c) (suc informational_most) [] head_most) 0 s
    go true e h = rw (eqb-true c 0 e)
    go false e h = (heads-alike s t c (suc informational_most) [] head_most 0 (omega arith)).same h
