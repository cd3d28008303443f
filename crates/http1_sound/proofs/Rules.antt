-- What the rules on host and lengths leave through.
use Prim.Native.Nat.{ℕ, ◌+◌, ◌-◌, ◌<◌, ◌≤◌}
use mathlib.Core.Path.{◌≡◌, refl, sym, subst}
use mathlib.Core.Bool.{Bool, true, false, cond}
use mathlib.Core.List.{List, [], map, ◌∷◌}
use native.Mathlib.Omega.{arith}
use borrow.Author.Tests.{eq-eqb, leb-true, ne_eqb}
use lib.Dec.{leb, eqb}
use lib.ListN.{length}
use Rattle.std.proofs.Common.{Option, Some, None}
use Rattle.octets.specs.Limits.{lines_most, content_most}
use Rattle.octets.specs.Refusals.{too_large, bad_host}
use Rattle.octets.specs.Text.{is_empty}
use Rattle.script.specs.Do.{Piece, piece, good, wrong}
use Rattle.messages.specs.Message.{FieldRead}
use Rattle.messages.specs.Control.{ends_at_head, is_host}
use Rattle.messages.specs.Names.{end_to_end, kept_trailers, lines_of}
use Rattle.messages.specs.Rules.{authority_in, request_body, bodyless_rule, unmeasured_body, content_body, response_body, length_in, agrees, target_authority, host_once}
use Rattle.messages.specs.Told.{is_yes, ending_of}
use Rattle.messages.specs.Notes.{is_clashing}
use Rattle.messages.specs.Meaning.{Informational, response, Meaning, field_means, content_of}
use Rattle.messages.specs.Valid.{valid_body, valid_stated}
use Rattle.messages.specs.declared.Body.{Body}
use Rattle.messages.specs.declared.Body.TheVariants.{Sized, InChunks, UntilClosed}
use Rattle.messages.specs.declared.Framing.{Framing}
use Rattle.messages.specs.declared.Framing.TheVariants.{Unstated, Stated, Chunked, Clashing}
use Rattle.messages.specs.declared.Kind.TheVariants as kind
use Rattle.messages.specs.declared.Told.{Told}
use Rattle.http1_lines.specs.Read.{Content}
use Rattle.sound.proofs.Rules.{HostIs, authority-is}
use Rattle.sound.proofs.Stated.{bodyless, content-not-204}
use mathlib.Core.Logic.{inr, ◌⊎◌, inl}

-- ---- host

-- where the target has no authority
host-is : (end : ℕ) (fs : List FieldRead) (a : Piece) → authority_in end (piece 0 []) fs ≡ good a → HostIs fs a
unfolding is_empty
host-is end fs a e = authority-is end (piece 0 []) fs a e

-- the authority of a request: the value of the one host line, or the target's, which is q
pub record HostOf (q : Piece) (fs : List FieldRead) (a : Piece) : Type 0 where
  pub line : FieldRead
  pub one : lines_of kind.Host fs ≡ line ∷ []
  pub from : ((a ≡ line.value) × (is_host a.text ≡ true)) ⊎ ((a ≡ q) × (is_empty q.text ≡ false))

pub host-of : (end : ℕ) (q : Piece) (fs : List FieldRead) (a : Piece) → target_authority end q fs ≡ good a → HostOf q fs a
unfolding target_authority host_once
host-of end q fs a = go (is_empty q.text) refl
  where
    once : (ls : List FieldRead) → lines_of kind.Host fs ≡ ls → is_empty q.text ≡ false → cond (eqb (length ls) 1) (good q) (wrong bad_host end) ≡ good a → HostOf q fs a
    once [] l e g = let z : ◌≡◌ {A = ℕ} 0 1 = cc in absurd (omega arith)
    once (f ∷ []) l e g = let z : q ≡ a = cc in record { line = f; one = l; from = inr (sym z, e) }
    once (f ∷ h ∷ ls) l e g =
        let x : (length (f ∷ h ∷ ls) ≡ 1 → ⊥) = λ y. omega arith in
        let w : wrong bad_host end ≡ good a = rw (ne_eqb (length (f ∷ h ∷ ls)) 1 x) at g in
        let z : ◌≡◌ {A = ℕ} 0 1 = cc in absurd (omega arith)

    go : (b : Bool) → is_empty q.text ≡ b → cond b (authority_in end (piece 0 []) fs) (cond (eqb (length (lines_of kind.Host fs)) 1) (good q) (wrong bad_host end)) ≡ good a
        → HostOf q fs a
    go true e g = let o = host-is end fs a g in record { line = o.line; one = o.one; from = inl (o.same, o.good) }
    go false e g = once (lines_of kind.Host fs) refl e g

-- ---- lengths

-- a stated length is not too large
abbrev pub Fits : Body → Type 0
Fits (Sized n) = n ≤ content_most
Fits InChunks = Unit {0}
Fits UntilClosed = Unit {0}

-- content of a stated length is that long, and has no trailers; none is accepted that goes on to an end that has not come
abbrev pub Fills : Body → Content → Type 0
Fills (Sized n) c = (length (content_of c.chunks) ≡ n) × (c.trailers ≡ [])
Fills InChunks c = Unit {0}
Fills UntilClosed c = ⊥

-- content of a stated length from one place on ends at another, within a stream of so many octets
abbrev pub Reaches : ℕ → Body → ℕ → ℕ → Type 0
Reaches long (Sized n) from to = (to ≡ from + n) × (to ≤ long)
Reaches long InChunks from to = Unit {0}
Reaches long UntilClosed from to = ⊥

-- a body that a rule lets through fits, and content that fills it is as the head states
pub record Framed (f : Framing) (b : Body) : Type 0 where
  pub fits : Fits b
  pub stated : (c : Content) → Fills b c → agrees f (length (content_of c.chunks)) ≡ true

pub request-framed : (end : ℕ) (f : Framing) (b : Body) → request_body end f ≡ good b → Framed f b
unfolding request_body
request-framed end Unstated b e =
    let z : Sized 0 ≡ b = cc in
    let x : Framed Unstated (Sized 0) = record { fits = omega arith; stated = λ c h. refl } in
    subst (Framed Unstated) z x
request-framed end (Stated n p) b e = go (leb n content_most) refl e
  where
    go : (t : Bool) → leb n content_most ≡ t → cond t (good (Sized n)) (wrong too_large p) ≡ good b → Framed (Stated n p) b
    go true q g =
        let z : Sized n ≡ b = cc in
        let x : Framed (Stated n p) (Sized n) = record { fits = leb-true n content_most q; stated = λ c h. eq-eqb n (length (content_of c.chunks)) (sym h.0) } in
        subst (Framed (Stated n p)) z x
    go false q g = let z : ◌≡◌ {A = ℕ} 0 1 = cc in absurd (omega arith)
request-framed end Chunked b e =
    let z : InChunks ≡ b = cc in
    let x : Framed Chunked InChunks = record { fits = tt; stated = λ c h. refl } in
    subst (Framed Chunked) z x
request-framed end Clashing b e = let z : ◌≡◌ {A = ℕ} 0 1 = cc in absurd (omega arith)

unmeasured-framed : (e : Option ℕ) (end : ℕ) (b : Body) → unmeasured_body e end ≡ good b → Framed Unstated b
unfolding unmeasured_body
unmeasured-framed None end b g =
    let z : UntilClosed ≡ b = cc in
    let x : Framed Unstated UntilClosed = record { fits = tt; stated = λ c h. refl } in
    subst (Framed Unstated) z x
unmeasured-framed (Some n) end b g = go (leb (n - end) content_most) refl g
  where
    go : (t : Bool) → leb (n - end) content_most ≡ t → cond t (good (Sized (n - end))) (wrong too_large end) ≡ good b → Framed Unstated b
    go true q h =
        let z : Sized (n - end) ≡ b = cc in
        let x : Framed Unstated (Sized (n - end)) = record { fits = leb-true (n - end) content_most q; stated = λ c h. refl } in
        subst (Framed Unstated) z x
    go false q h = let z : ◌≡◌ {A = ℕ} 0 1 = cc in absurd (omega arith)

-- content without a length that is accepted: the stream is closed, and ends where the content does
module _ (t : Told) (long end to : ℕ) (b : Body) (c : Content) (fills : Fills b c) (reaches : Reaches long b end to) where
  pub ends-with-stream : unmeasured_body (ending_of t long) end ≡ good b → (is_yes t.closed ≡ true) × (to ≡ long)
  unfolding unmeasured_body
  ends-with-stream e = on (is_yes t.closed) e
    where
      sized : (x : Bool) → cond x (good (Sized (long - end))) (wrong too_large end) ≡ good b → to ≡ long
      sized true g =
          let z : b ≡ Sized (long - end) = cc in
          let r : (to ≡ end + (long - end)) × (to ≤ long) = subst (λ (y : Body). Reaches long y end to) z reaches in
          omega (arith, r)
      sized false g = let z : ◌≡◌ {A = ℕ} 0 1 = cc in absurd (omega arith)

      on : (x : Bool) → unmeasured_body (cond x (Some long) None) end ≡ good b → (x ≡ true) × (to ≡ long)
      on true g = (refl, sized (leb (long - end) content_most) g)
      on false g = let z : b ≡ UntilClosed = cc in absurd (subst (λ (y : Body). Fills y c) z fills)

content-framed : (x : Option ℕ) (end : ℕ) (f : Framing) (b : Body) → content_body x end f ≡ good b → Framed f b
unfolding content_body
content-framed x end Unstated b e = unmeasured-framed x end b e
content-framed x end (Stated n p) b e = request-framed end (Stated n p) b e
content-framed x end Chunked b e = request-framed end Chunked b e
content-framed x end Clashing b e = request-framed end Clashing b e

-- content without octets and trailers is valid of any head
empty-body : (t : Bool) (c : Content) → Fills (Sized 0) c → valid_body t (content_of c.chunks) (map field_means (kept_trailers c.trailers)) ≡ true
unfolding valid_body is_empty kept_trailers end_to_end
empty-body true c h = refl
empty-body false c h = rw (eq-eqb (length (content_of c.chunks)) 0 h.0, h.1)

-- a body that the rule of responses lets through, told t, where the stream ends at x, behind the head of a status n that ends at `end`
pub record ResponseFramed (t : Told) (x : Option ℕ) (n end : ℕ) (f : Framing) (b : Body) : Type 0 where
  pub fits : Fits b
  pub once : is_clashing f ≡ false
  pub none : eqb n 204 ≡ true → f ≡ Unstated
  -- where the response ends at its head there is nothing
  pub empty : ends_at_head t n ≡ true → (body : Bool) (c : Content) → Fills b c
      → valid_body body (content_of c.chunks) (map field_means (kept_trailers c.trailers)) ≡ true
  pub valid : ends_at_head t n ≡ true → (hs : List Informational) (w : Meaning) → w.control ≡ response hs n → valid_body false w.content w.trailers ≡ true
      → ((k p : ℕ) → f ≡ Stated k p → length w.headers < lines_most) → valid_stated (length_in f) w ≡ true
  -- elsewhere the content is as long as the head states
  pub stated : ends_at_head t n ≡ false → (c : Content) → Fills b c → agrees f (length (content_of c.chunks)) ≡ true
  -- and where it states nothing, the content ends with the stream
  pub unmeasured : ends_at_head t n ≡ false → f ≡ Unstated → unmeasured_body x end ≡ good b

content-once : (x : Option ℕ) (end : ℕ) (f : Framing) (b : Body) → content_body x end f ≡ good b → is_clashing f ≡ false
unfolding content_body request_body
content-once x end Unstated b e = refl
content-once x end (Stated n p) b e = refl
content-once x end Chunked b e = refl
content-once x end Clashing b e = let z : ◌≡◌ {A = ℕ} 0 1 = cc in absurd (omega arith)

no_both : {A : Type 0} {x : Bool} → x ≡ true → x ≡ false → A
no_both p q = let z : ◌≡◌ {A = ℕ} 0 1 = cc in absurd (omega arith)

content-unmeasured : (x : Option ℕ) (end : ℕ) (f : Framing) (b : Body) → content_body x end f ≡ good b → f ≡ Unstated → unmeasured_body x end ≡ good b
unfolding content_body
content-unmeasured x end f b e q = rw q at e

pub response-framed : (t : Told) (x : Option ℕ) (n end : ℕ) (f : Framing) (b : Body) → response_body t x n end f ≡ good b → ResponseFramed t x n end f b
unfolding response_body
response-framed t x n end f b e = go (ends_at_head t n) refl e
  where
    go : (y : Bool) → ends_at_head t n ≡ y → cond y (bodyless_rule t n end f) (content_body x end f) ≡ good b → ResponseFramed t x n end f b
    go true q g =
        let h = bodyless t n end f b g in
        record {
          fits = rw h.empty (omega arith);
          once = h.once;
          none = h.none;
          empty = λ o body c y. empty-body body c (rw h.empty at y);
          valid = λ o. h.valid;
          stated = λ o. no_both q o;
          unmeasured = λ o. no_both q o;
        }
    go false q g =
        let h = content-framed x end f b g in
        record {
          fits = h.fits;
          once = content-once x end f b g;
          none = content-not-204 t n q f;
          empty = λ o. no_both o q;
          valid = λ o. no_both o q;
          stated = λ o. h.stated;
          unmeasured = λ o. content-unmeasured x end f b g;
        }
