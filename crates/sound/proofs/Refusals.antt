-- What the rules of both forms refuse with.
use Rattle.std.proofs.Common.{Ok, Err}
use Prim.Native.Nat.{ℕ, ◌-◌, ◌≤◌}
use mathlib.Core.Path.{◌≡◌, refl, subst}
use mathlib.Core.Bool.{Bool, true, false, cond}
use mathlib.Core.Logic.{◌⊎◌}
use mathlib.Core.List.{List, [], ◌∷◌, map}
use native.Mathlib.Omega.{arith}
use borrow.Author.Tests.{eqb-true}
use lib.Dec.{ltb, leb, eqb}
use lib.ListN.{length, get_or}
use Rattle.std.proofs.Common.{Option, Some, None}
use Rattle.octets.specs.Ascii.{ascii}
use Rattle.octets.specs.Class.{has_class, token, path, authority}
use Rattle.octets.specs.Limits.{method_most, path_most, content_most, stated_most}
use Rattle.octets.specs.Refusals.{bad_syntax, not_supported, bad_status, bad_host, bad_length, too_large, refusal_number}
use Rattle.octets.specs.Text.{all, lower_of, same_text, is_empty}
use Rattle.octets.proofs.Kit.{either}
use Rattle.numbers.specs.Digits.{num_of}
use Rattle.script.specs.Do.{Piece, piece, Judged, good, wrong}
use Rattle.script.proofs.Refusals.{Judges}
use Rattle.messages.specs.Message.{FieldRead}
use Rattle.messages.specs.Control.{is_unsupported, method_verdict, asterisk_verdict, path_verdict, authority_verdict, status_verdict, ends_at_head, Verdict}
use Rattle.messages.specs.Names.{lines_of}
use Rattle.messages.specs.Rules.{authority_from, or_bad_host, authority_in, host_once, target_authority, length_stated, framing_from, framing_of, binary_framing_of, request_body, nothing_stated, length_alone}
use Rattle.messages.specs.Rules.{bodyless_rule, unmeasured_body, content_body, response_body, may_state}
use Rattle.messages.specs.Told.{is_yes}
use Rattle.messages.specs.declared.Told.{Told}
use Rattle.messages.specs.declared.Body.TheVariants.{Sized}
use Rattle.messages.specs.declared.Framing.{Framing}
use Rattle.messages.specs.declared.Framing.TheVariants.{Unstated, Stated, Chunked, Clashing}
use Rattle.messages.specs.declared.Kind.TheVariants as kind
use Rattle.sound.specs.Placed.{Each}
use Rattle.sound.specs.Refusal.{is_one_of, Refusal}
use Rattle.sound.proofs.Each.{each_of}
use Rattle.octets.specs.declared.Refusal.{Refusal as Reason}

-- ---- sets of numbers

-- what holds of each of a list holds of one of them
pub one_of : (P : ℕ → Type 0) (ks : List ℕ) → Each P ks → (n : ℕ) → is_one_of ks n ≡ true → P n
one_of P [] h n e = let z : ◌≡◌ {A = ℕ} 0 1 = cc in absurd (omega arith)
one_of P (k ∷ ks) h n e = go (one_of P ks h.1 n) (eqb k n) refl e
  where
    go : (is_one_of ks n ≡ true → P n) → (b : Bool) → eqb k n ≡ b → cond b true (is_one_of ks n) ≡ true → P n
    go ih true q g = subst P (eqb-true k n q) h.0
    go ih false q g = ih g

-- the numbers ks are among the numbers ns
pub record Among (ks ns : List ℕ) : Type 0 where
  pub has : (n : ℕ) → is_one_of ks n ≡ true → is_one_of ns n ≡ true

pub among : (ks ns : List ℕ) → Each (λ k. is_one_of ns k ≡ true) ks → Among ks ns
among ks ns h = record { has = one_of (λ k. is_one_of ns k ≡ true) ks h }

-- ---- verdicts of single parts

-- the numbers that every reader has
abbrev pub common_numbers : List ℕ
common_numbers = bad_syntax ∷ not_supported ∷ bad_length ∷ too_large ∷ []

-- one of them
abbrev pub Common : ℕ → Type 0
Common n = is_one_of common_numbers n ≡ true

-- the numbers of a status
abbrev pub status_numbers : List ℕ
status_numbers = bad_status ∷ not_supported ∷ []

-- a verdict is good, or a refusal with one of these numbers
abbrev pub VerdictOf : List ℕ → Verdict → Type 0
VerdictOf ns (Ok u) = Unit {0}
VerdictOf ns (Err r) = is_one_of ns (refusal_number r) ≡ true

abbrev pub CommonVerdict : Verdict → Type 0
CommonVerdict v = VerdictOf common_numbers v

verdict-if : (ns : List ℕ) (t : Bool) (x y : Verdict) → VerdictOf ns x → VerdictOf ns y → VerdictOf ns (cond t x y)
verdict-if ns t x y f g = either (VerdictOf ns) t x y (λ a. f) (λ a. g)

common-if : (t : Bool) (x y : Verdict) → CommonVerdict x → CommonVerdict y → CommonVerdict (cond t x y)
common-if = verdict-if common_numbers

pub method-verdict : (m : List ℕ) → CommonVerdict (method_verdict m)
unfolding method_verdict
method-verdict m =
    common-if (is_empty m) _ _ refl
    (common-if (all (has_class token) m) _ _
    (common-if (leb (length m) method_most) _ _ (common-if (is_unsupported m) _ _ refl tt) refl)
    refl)

pub path-verdict : (options : Bool) (p : List ℕ) → CommonVerdict (path_verdict options p)
unfolding path_verdict asterisk_verdict
path-verdict options p =
    common-if (is_empty p) _ _ refl
    (common-if (eqb (get_or p 0 0) 47) _ _
    (common-if (all (has_class path) p) _ _ (common-if (leb (length p) path_most) _ _ tt refl) refl)
    (common-if options _ _ (common-if (same_text p (ascii "*")) _ _ tt refl) refl))

pub authority-verdict : (a : List ℕ) → CommonVerdict (authority_verdict a)
unfolding authority_verdict
authority-verdict a = common-if (all (has_class authority) a) _ _ tt refl

pub status-verdict : (n : ℕ) → VerdictOf status_numbers (status_verdict n)
unfolding status_verdict
status-verdict n =
    verdict-if status_numbers (ltb n 100) _ _ refl
    (verdict-if status_numbers (ltb 599 n) _ _ refl (verdict-if status_numbers (eqb n 101) _ _ refl tt))

-- a verdict that refuses
pub not_good : (ns : List ℕ) {v : Verdict} → VerdictOf ns v → {r : Reason} → v ≡ Err r → is_one_of ns (refusal_number r) ≡ true
not_good ns h e = subst (VerdictOf ns) e h

-- ---- the place that a head's length has: that of its line

abbrev pub StatedIn : ℕ → Framing → Type 0
StatedIn e Unstated = Unit {0}
StatedIn e (Stated n p) = p ≤ e
StatedIn e Chunked = Unit {0}
StatedIn e Clashing = Unit {0}

abbrev pub NamedIn : ℕ → FieldRead → Type 0
NamedIn e f = f.place ≤ e

length-in : (e p : ℕ) (n : Option ℕ) → p ≤ e → StatedIn e (length_stated p n)
length-in e p (Some n) h = h
length-in e p None h = tt

framing-from : (e : ℕ) (fs cs : List FieldRead) → Each (NamedIn e) fs → StatedIn e (framing_from fs cs)
unfolding framing_from
framing-from e [] [] h = tt
framing-from e [] (c ∷ []) h = either (StatedIn e) (same_text (map lower_of c.value.text) (ascii "chunked")) Chunked Clashing (λ a. tt) (λ a. tt)
framing-from e [] (c ∷ d ∷ cs) h = tt
framing-from e (f ∷ []) [] h = length-in e f.place (num_of 10 f.value.text) h.0
framing-from e (f ∷ []) (c ∷ cs) h = tt
framing-from e (f ∷ g ∷ fs) cs h = tt

pub binary-framing-in : (e : ℕ) (fs : List FieldRead) → Each (NamedIn e) fs → StatedIn e (binary_framing_of fs)
unfolding binary_framing_of
binary-framing-in e fs h = framing-from e (lines_of kind.ContentLength fs) [] (each_of (NamedIn e) kind.ContentLength fs h)

pub framing-in : (e : ℕ) (fs : List FieldRead) → Each (NamedIn e) fs → StatedIn e (framing_of fs)
unfolding framing_of
framing-in e fs h = framing-from e (lines_of kind.ContentLength fs) (lines_of kind.TransferEncoding fs) (each_of (NamedIn e) kind.ContentLength fs h)

-- ---- rules on a whole section, judged behind it

-- a rule refuses the input s with nothing but these numbers, at a place of the input
abbrev pub Refuses : {X : Type 0} → List ℕ → List ℕ → Judged X → Type 0
Refuses ns s j = Judges (Refusal ns s) (λ x. Unit {0}) j

module _ {ns s : List ℕ} (wide : Among common_numbers ns) where
  pub refusal : {n p : ℕ} → Common n → p ≤ length s → Refusal ns s n p
  refusal {n} h i = record { of_form = wide.has n h; inside = i }

module _ (ns s : List ℕ) (wide : Among common_numbers ns) (end : ℕ) (inside : end ≤ length s) where
  bad-length : Refusal ns s bad_length end
  bad-length = refusal wide refl inside

  pub authority-judged : is_one_of ns bad_host ≡ true → (a : Piece) (fs : List FieldRead) → Refuses ns s (authority_in end a fs)
  unfolding authority_in
  authority-judged host a fs = on (authority_from a (lines_of kind.Host fs))
    where
      on : (o : Option Piece) → Refuses ns s (or_bad_host end o)
      on None = record { of_form = host; inside = inside }
      on (Some x) = tt

  pub target-judged : is_one_of ns bad_host ≡ true → (a : Piece) (fs : List FieldRead) → Refuses ns s (target_authority end a fs)
  unfolding target_authority host_once
  target-judged host a fs =
      either (Refuses ns s) (is_empty a.text) _ _ (λ e. authority-judged host (piece 0 []) fs)
      (λ e. either (Refuses ns s) (eqb (length (lines_of kind.Host fs)) 1) (good a) (wrong bad_host end) (λ f. tt) (λ f. record { of_form = host; inside = inside }))

  pub nothing-judged : (f : Framing) → Refuses ns s (nothing_stated end f)
  unfolding nothing_stated
  nothing-judged Unstated = tt
  nothing-judged (Stated n p) = bad-length
  nothing-judged Chunked = bad-length
  nothing-judged Clashing = bad-length

  pub may-judged : (f : Framing) → Refuses ns s (may_state end f)
  unfolding may_state
  may-judged Unstated = tt
  may-judged (Stated n p) = tt
  may-judged Chunked = tt
  may-judged Clashing = bad-length

  pub request-judged : (f : Framing) → StatedIn (length s) f → Refuses ns s (request_body end f)
  unfolding request_body
  request-judged Unstated h = tt
  request-judged (Stated n p) h =
      either (Refuses ns s) (leb n content_most) (good (Sized n)) (wrong too_large p) (λ a. tt)
      (λ a. refusal wide refl h)
  request-judged Chunked h = tt
  request-judged Clashing h = bad-length

  unmeasured-judged : (e : Option ℕ) → Refuses ns s (unmeasured_body e end)
  unfolding unmeasured_body
  unmeasured-judged None = tt
  unmeasured-judged (Some n) =
      either (Refuses ns s) (leb (n - end) content_most) (good (Sized (n - end))) (wrong too_large end) (λ a. tt) (λ a. refusal wide refl inside)

  content-judged : (e : Option ℕ) (f : Framing) → StatedIn (length s) f → Refuses ns s (content_body e end f)
  unfolding content_body
  content-judged e Unstated h = unmeasured-judged e
  content-judged e (Stated n p) h = request-judged (Stated n p) h
  content-judged e Chunked h = request-judged Chunked h
  content-judged e Clashing h = request-judged Clashing h

  alone-judged : (t : Told) (f : Framing) → StatedIn (length s) f → Refuses ns s (length_alone t end f)
  unfolding length_alone
  alone-judged t Unstated h = tt
  alone-judged t (Stated n p) h =
      either (Refuses ns s) (leb n stated_most) (good (Sized 0)) (wrong too_large p) (λ a. tt) (λ a. refusal wide refl h)
  alone-judged t Chunked h = either (Refuses ns s) (is_yes t.head) (good (Sized 0)) (wrong bad_length end) (λ a. tt) (λ a. bad-length)
  alone-judged t Clashing h = bad-length

  pub bodyless-judged : (t : Told) (n : ℕ) (f : Framing) → StatedIn (length s) f → Refuses ns s (bodyless_rule t n end f)
  unfolding bodyless_rule
  bodyless-judged t n f h =
      either (Refuses ns s) (eqb n 204) (nothing_stated end f) (length_alone t end f) (λ a. nothing-judged f) (λ a. alone-judged t f h)

  pub response-judged : (t : Told) (e : Option ℕ) (n : ℕ) (f : Framing) → StatedIn (length s) f → Refuses ns s (response_body t e n end f)
  unfolding response_body
  response-judged t e n f h =
      either (Refuses ns s) (ends_at_head t n) (bodyless_rule t n end f) (content_body e end f) (λ a. bodyless-judged t n f h) (λ a. content-judged e f h)
