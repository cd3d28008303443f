-- Lines that can be written, the line of a length, and what the rules say of a head that it begins. Both forms' round trips use it.
use Prim.Native.Nat.{ℕ, zero, suc, ◌≤◌, ◌<◌, min}
use mathlib.Core.Path.{◌≡◌, refl, ap}
use mathlib.Core.Bool.{Bool, true, false, cond, not, ◌&&◌}
use mathlib.Core.List.{List, [], ◌∷◌, ◌++◌, map}
use native.Mathlib.Omega.{arith}
use borrow.Author.Tests.{eq-eqb, not-true, le-leb, leb-true, ltb-true}
use lib.Dec.{leb, eqb, lit≤}
use lib.ListN.{length, get_or}
use Rattle.std.proofs.Common.{Option, Some, None}
use Rattle.octets.specs.Ascii.{ascii}
use Rattle.octets.specs.Class.{is_token, is_value, is_path, is_authority, class_of, has_class, value, is_blank}
use Rattle.octets.specs.Limits.{lines_most, stated_most}
use Rattle.octets.specs.Text.{span_len, all, lower_of, is_lower, same_text, trim_back, is_empty}
use Rattle.octets.proofs.Kit.{and_split}
use Rattle.octets.proofs.Texts.{all-at}
use Rattle.numbers.specs.Digits.{char_of, digits, most}
use Rattle.numbers.proofs.DigitLaws.{decimal-round, digits-pass, digits_value}
use Rattle.script.specs.Do.{good}
use Rattle.messages.specs.Control.{is_lower_name, is_trimmed_value, ends_at_head}
use Rattle.messages.specs.Message.{FieldRead}
use Rattle.messages.specs.Names.{kind_of, line_kind, same_kind, lines_of, end_to_end, connection_values, kept}
use Rattle.messages.specs.Rules.{framing_from, framing_of, binary_framing_of, nothing_stated, length_alone, bodyless_rule, length_in}
use Rattle.messages.specs.Meaning.{Field, Informational, response, Meaning, length_field, stated_fields}
use Rattle.messages.specs.Valid.{valid_fields, valid_body, may_state_length, valid_stated, is_missing, suits}
use Rattle.messages.specs.declared.Body.TheVariants.{Sized}
use Rattle.messages.specs.declared.Framing.{Framing}
use Rattle.messages.specs.declared.Framing.TheVariants.{Unstated, Stated}
use Rattle.messages.specs.declared.Kind.{Kind}
use Rattle.messages.specs.declared.Kind.TheVariants as kind
use Rattle.messages.specs.declared.Told.{Told}
use Rattle.messages.proofs.Valid.{first-ok}
use Rattle.messages.proofs.ValidLines.{said, no_lengths, no-codings}

-- ---- lines that can be written: of valid fields, and those that a head gains

pub record LineOk (f : Field) : Type 0 where
  pub name : is_lower_name f.name ≡ true
  pub value : is_trimmed_value f.value ≡ true

abbrev pub LinesOk : List Field → Type 0
LinesOk [] = Unit {0}
LinesOk (f ∷ fs) = LineOk f × LinesOk fs

pub fields-ok : (host : Bool) (fs : List Field) → valid_fields host fs ≡ true → LinesOk fs
fields-ok host [] v = tt
fields-ok host (f ∷ fs) v = let o = first-ok host f fs v in (record { name = o.0.name; value = o.0.value }, fields-ok host fs o.1)

-- a value without blanks
module _ (w : List ℕ) (h : all (has_class value) w ≡ true) (g : all (λ b. not (is_blank b)) w ≡ true) where
  none_first : span_len is_blank w ≡ 0
  unfolding all span_len
  none_first = go w g
    where
      go : (v : List ℕ) → all (λ b. not (is_blank b)) v ≡ true → span_len is_blank v ≡ 0
      go [] e = refl
      go (x ∷ v) e = rw (not-true (is_blank x) (and_split (not (is_blank x)) _ e).0)

  none_last : (n : ℕ) → n ≤ length w → trim_back is_blank w n ≡ n
  unfolding trim_back
  none_last zero l = refl
  none_last (suc n) l = rw (not-true (is_blank (get_or w n 0)) (all-at (λ b. not (is_blank b)) w n g (omega arith)))

  pub bare-value : is_trimmed_value w ≡ true
  unfolding is_trimmed_value
  bare-value = rw (h, none_first, none_last (length w) (omega arith)) (eq-eqb (length w) (length w) refl)

-- ---- the line of a length

length-name : is_lower_name (ascii "content-length") ≡ true
unfolding is_lower_name is_empty all is_lower lower_of has_class class_of is_token is_value is_path is_authority
length-name = refl

digits-bare : (n : ℕ) → all (λ b. not (is_blank b)) (digits 10 n) ≡ true
unfolding char_of is_blank
digits-bare n = digits-pass 10 (lit≤ tt) (lit≤ tt) (λ b. not (is_blank b)) tt n

pub length-line : (n : ℕ) → LineOk (length_field n)
unfolding length_field
length-line n = record { name = length-name; value = bare-value (digits 10 n) (digits_value 10 (lit≤ tt) (lit≤ tt) n) (digits-bare n) }

-- what is read of it
module _ (f : FieldRead) (n : ℕ) (e : said f ≡ length_field n) where
  pub length-kind : line_kind f ≡ kind.ContentLength
  unfolding length_field line_kind kind_of same_text lower_of
  length-kind = rw (ap (λ (x : Field). x.name) e)

  length-said : n ≤ stated_most → framing_from (f ∷ []) [] ≡ Stated n f.place
  unfolding framing_from length_field
  length-said h =
      let m : min n most ≡ n = omega arith in
      rw (ap (λ (x : Field). x.value) e, decimal-round n (omega arith), m)

  -- before lines of valid fields
  module _ (host : Bool) (fs : List FieldRead) (v : valid_fields host (map said fs) ≡ true) where
    length-of : (k : Kind) → lines_of k (f ∷ fs) ≡ cond (same_kind kind.ContentLength k) (f ∷ lines_of k fs) (lines_of k fs)
    unfolding lines_of
    length-of k = rw length-kind

    pub length-kept : kept host (f ∷ fs) ≡ kept host fs
    unfolding kept connection_values end_to_end same_kind
    length-kept = rw (length-of kind.Connection, length-kind)

    pub length-hosts : lines_of kind.Host (f ∷ fs) ≡ lines_of kind.Host fs
    unfolding same_kind
    length-hosts = length-of kind.Host

    pub length-framing : n ≤ stated_most → framing_of (f ∷ fs) ≡ Stated n f.place
    unfolding framing_of same_kind
    length-framing h = rw (length-of kind.ContentLength, length-of kind.TransferEncoding, no_lengths host fs v, no-codings host fs v) (length-said h)

    pub length-binary : n ≤ stated_most → binary_framing_of (f ∷ fs) ≡ Stated n f.place
    unfolding binary_framing_of same_kind
    length-binary h = rw (length-of kind.ContentLength, no_lengths host fs v) (length-said h)

-- ---- stated lengths

pub record StatedOk (n : ℕ) (m : Meaning) : Type 0 where
  pub may : may_state_length m.control ≡ true
  pub small : n ≤ stated_most
  pub none : valid_body false m.content m.trailers ≡ true
  pub few : length m.headers < lines_most

pub stated-ok : (n : ℕ) (m : Meaning) → valid_stated (Some n) m ≡ true → StatedOk n m
unfolding valid_stated
stated-ok n m v =
    let a : Bool = may_state_length m.control in
    let b : Bool = leb n stated_most in
    let c : Bool = valid_body false m.content m.trailers in
    let v1 = and_split (a && b && c) _ v in
    let v2 = and_split (a && b) c v1.0 in
    let v3 = and_split a b v2.0 in
    record { may = v3.0; small = leb-true n stated_most v3.1; none = v2.1; few = ltb-true (length m.headers) lines_most v1.1 }

-- no request states one
pub never-stated : (x : Option ℕ) (m : Meaning) → may_state_length m.control ≡ false → valid_stated x m ≡ true → x ≡ None
never-stated None m e v = refl
never-stated (Some n) m e v = let o = stated-ok n m v in let z : ◌≡◌ {A = ℕ} 0 1 = cc in absurd (omega arith)

-- the lines of a header that it begins
pub stated-lines : (x : Option ℕ) (fs : List Field) → LinesOk fs → LinesOk (stated_fields x ++ fs)
stated-lines None fs ok = ok
stated-lines (Some n) fs ok = (length-line n, ok)

pub stated-few : (m : Meaning) → length m.headers ≤ lines_most → valid_stated m.stated m ≡ true
    → length (stated_fields m.stated ++ m.headers) ≤ lines_most
stated-few m few v = go m.stated v
  where
    go : (x : Option ℕ) → valid_stated x m ≡ true → length (stated_fields x ++ m.headers) ≤ lines_most
    go None q = few
    go (Some n) q = let o = (stated-ok n m q).few in omega arith

-- what a reader learns from it, where it stands at the place p
abbrev pub framing_for : Option ℕ → ℕ → Framing
framing_for None p = Unstated
framing_for (Some n) p = Stated n p

-- it fills the stated length, and passes the rule of responses that end at their head
pub stated-back : (x : Option ℕ) (p : ℕ) → length_in (framing_for x p) ≡ x
stated-back None p = refl
stated-back (Some n) p = refl

pub bodyless-good : (t : Told) (n end : ℕ) (x : Option ℕ) (p : ℕ) (hs : List Informational) (m : Meaning)
    → m.control ≡ response hs n → valid_stated x m ≡ true
    → bodyless_rule t n end (framing_for x p) ≡ good (Sized 0)
unfolding bodyless_rule nothing_stated length_alone valid_stated
bodyless-good t n end None p hs m c v = go (eqb n 204)
  where
    go : (b : Bool) → cond b (good (Sized 0)) (good (Sized 0)) ≡ good (Sized 0)
    go true = refl
    go false = refl
bodyless-good t n end (Some k) p hs m c v =
    let o = stated-ok k m v in
    let q : eqb n 204 ≡ false = not-true (eqb n 204) (rw c at o.may) in
    rw (q, le-leb k stated_most o.small)

-- ---- what is told of a response

-- one that ends at its head has neither content nor trailers, another has no stated length
pub record Suited (t : Told) (n : ℕ) (m : Meaning) : Type 0 where
  pub body : valid_body (not (ends_at_head t n)) m.content m.trailers ≡ true
  pub missing : ends_at_head t n ≡ false → m.stated ≡ None

is-missing : (x : Option ℕ) → is_missing x ≡ true → x ≡ None
is-missing None e = refl
is-missing (Some n) e = let z : ◌≡◌ {A = ℕ} 0 1 = cc in absurd (omega arith)

pub suited : (t : Told) (m : Meaning) (hs : List Informational) (n : ℕ) → m.control ≡ response hs n → suits t m ≡ true → Suited t n m
unfolding suits valid_body
suited t m hs n c s = go (ends_at_head t n) refl (rw c at s)
  where
    go : (b : Bool) → ends_at_head t n ≡ b → cond b (valid_body false m.content m.trailers) (is_missing m.stated) ≡ true → Suited t n m
    go true e q = record { body = rw e q; missing = λ f. let z : ◌≡◌ {A = ℕ} 0 1 = cc in absurd (omega arith) }
    go false e q = record { body = rw e; missing = λ f. is-missing m.stated q }
