-- The judges of lines, by what the code finds.
use Rattle.std.proofs.Common.{None, Option, Some, Err, Ok, Result}
use Prim.Native.Nat.{ℕ, zero, suc, ◌+◌, ◌-◌, ◌<◌, ◌≤◌}
use mathlib.Core.Path.{◌≡◌, refl, sym, ap, ◌∙◌}
use mathlib.Core.Bool.{Bool, true, false, cond}
use mathlib.Core.List.{List, [], ◌∷◌}
use native.Mathlib.Omega.{arith}
use borrow.Author.Tests.{eq-eqb, ne_eqb, lt-leb, le-leb, lt-ltb, le-ltb, leb-true, ltb-false}
use lib.Dec.{ltb, leb, eqb}
use lib.ListN.{length, get_or, take, drop, drop_of_length-le, length-drop}
use lib.Seq.{length-take-le}
use Rattle.octets.specs.Class.{has_class, token, value, is_blank}
use Rattle.octets.specs.Table.{classes, has_in}
use Rattle.octets.specs.Text.{span_len, all, is_other, same_text, trim_back}
use Rattle.octets.proofs.Kit.{and_split}
use Rattle.octets.proofs.Texts.{part-all, span-in}
use Rattle.http1_lines.specs.Lines.{value_from, value_in, name_to, field_lens, chunk_lens, field_parts}
use Rattle.http1_lines.specs.Next.{NameEnds}
use Rattle.http1_lines.specs.Lines.{version, status_at, status_version, is_status_shape, status_lens, on_target, request_parts, request_version, request_target, request_lens}
use Rattle.messages.specs.Control.{method_verdict, is_options, status_verdict, Verdict}
use Rattle.http1_lines.specs.Target.{target_of}
use Rattle.numbers.specs.Digits.{num_of, digit_of}
use Rattle.octets.proofs.Computed.{passes-below as below}
use Rattle.http1_lines.specs.declared.RequestLine.{RequestLine}
use Rattle.http1_lines.specs.declared.FieldLine.{FieldLine}
use Rattle.octets.specs.declared.Refusal.{Refusal}
use Rattle.octets.specs.declared.Refusal.TheVariants as refusal
use Rattle.http1_lines.specs.declared.Target.{Target}
use Rattle.http1_lines.specs.Lines.{with_target}

-- nothing stands past the end
pub all_past : (p : ℕ → Bool) (w : List ℕ) (from : ℕ) → length w ≤ from → true ≡ all p (drop from w)
unfolding all
all_past p w from h = rw (drop_of_length-le w h)

pub all-part : (p : ℕ → Bool) (w : List ℕ) (from : ℕ) {r : Bool} → r ≡ all p (take (length w - from) (drop from w)) → r ≡ all p (drop from w)
all-part p w from e = rw part-all at e

-- where a run ends by a table that is lent, where that is the one of the definitions
pub span-by-table : {t : List ℕ} → t ≡ classes → (mask from : ℕ) (s : List ℕ) {d : ℕ} → d ≡ from + span_len (has_in t mask) s → d ≡ from + span_len (has_class mask) s
span-by-table h mask from s e = e ∙ ap (λ (n : ℕ). from + n) (span-in h mask s)

-- what a callee that is lent `&w[..n]` is told
pub front-count : (w : List ℕ) (n : ℕ) → n ≤ length w → n ≡ length (take n w)
front-count w n h = sym (length-take-le n w h)

from_first : (p : ℕ → Bool) (w : List ℕ) {n : ℕ} → n ≡ 0 + span_len p (drop 0 w) → span_len p w ≡ n
from_first p w e = omega arith

-- ---- field lines

abbrev no_line : Option FieldLine
no_line = None

module _ (w : List ℕ) (name from : ℕ) {d : ℕ} (e : d ≡ from + span_len (has_class value) (drop from w)) where
  pub value-bad : (d ≡ length w → ⊥) → None ≡ value_in w name from
  unfolding value_in
  value-bad h = rw (← e, ne_eqb _ _ h)

  pub value-good : {r : FieldLine} → d ≡ length w → r ≡ value_from w name (from + span_len is_blank (drop from w)) → Some r ≡ value_in w name from
  unfolding value_in
  value-good h q = rw (← e, eq-eqb _ _ h) (ap Some q)

pub value-trimmed : (w : List ℕ) (name from : ℕ) {b len : ℕ} → b ≡ from + span_len is_blank (drop from w)
    → len ≡ trim_back is_blank (take (length w - b) (drop b w)) (length (take (length w - b) (drop b w)))
    → field_parts name b len ≡ value_from w name (from + span_len is_blank (drop from w))
unfolding value_from
value-trimmed w name from {b} {len} eb el = rw (← eb) (ap (field_parts name b) (el ∙ rw (part-all w b, length-drop b w)))

-- a run over octets that all pass goes to the end, from any place on
span-all : (p : ℕ → Bool) (l : List ℕ) → all p l ≡ true → span_len p l ≡ length l
unfolding all span_len
span-all p [] h = refl
span-all p (x ∷ l) h =
    let z = and_split (p x) (all p l) h in
    rw z.0 (ap suc (span-all p l z.1))

all_rest : (p : ℕ → Bool) (l : List ℕ) (n : ℕ) → all p l ≡ true → all p (drop n l) ≡ true
unfolding all
all_rest p l zero h = h
all_rest p [] (suc n) h = h
all_rest p (x ∷ l) (suc n) h = all_rest p l n (and_split (p x) (all p l) h).1

pub value-plain : (w : List ℕ) (name from : ℕ) {r : FieldLine} → from ≤ length w → all (has_class value) w ≡ true
    → r ≡ value_from w name (from + span_len is_blank (drop from w)) → Some r ≡ value_in w name from
value-plain w name from g h q =
    value-good w name from refl (ap (λ (n : ℕ). from + n) (span-all (has_class value) (drop from w) (all_rest (has_class value) w from h)) ∙ omega (arith, length-drop from w)) q

module _ (w : List ℕ) {n : ℕ} (e : n ≡ 0 + span_len (has_class token) (drop 0 w)) where
  run_is : span_len (has_class token) w ≡ n
  run_is = from_first (has_class token) w e

  -- no octet behind the name, or another than a colon
  pub name-short : length w ≤ n → NameEnds w 0
  unfolding field_lens name_to
  name-short g = record { none = λ z. rw (run_is, le-leb _ _ g) (same (eqb n 0)); some = λ h. absurd (h refl) }
    where
      same : (b : Bool) → cond b no_line no_line ≡ no_line
      same true = refl
      same false = refl

  pub name-other : n < length w → (get_or w n 0 ≡ 58 → ⊥) → NameEnds w 0
  unfolding field_lens name_to
  name-other g k = record { none = λ z. rw (run_is, lt-leb _ _ g, ne_eqb _ _ k) (same (eqb n 0)); some = λ h. absurd (h refl) }
    where
      same : (b : Bool) → cond b no_line no_line ≡ no_line
      same true = refl
      same false = refl

  pub name-colon : n < length w → get_or w n 0 ≡ 58 → NameEnds w n
  unfolding field_lens name_to
  name-colon g k = record { none = λ z. rw (run_is, eq-eqb _ _ z); some = λ h. rw (run_is, ne_eqb _ _ h, lt-leb _ _ g, eq-eqb _ _ k) }

-- ---- chunk lines

module _ (w : List ℕ) {h : ℕ} (e : h ≡ 0 + span_len (is_other 59) (drop 0 w)) {r : Option ℕ} (q : r ≡ num_of 16 (take h w)) where
  semicolon : span_len (is_other 59) w ≡ h
  semicolon = from_first (is_other 59) w e

  pub chunk-none : r ≡ None → None ≡ chunk_lens w
  unfolding chunk_lens
  chunk-none m = rw (semicolon, ← q, m)

  module _ {n : ℕ} (m : r ≡ Some n) {b : Bool} (k : b ≡ all (has_class value) (drop (h + 1) w)) where
    pub chunk-good : b ≡ true → Some n ≡ chunk_lens w
    unfolding chunk_lens
    chunk-good x = rw (semicolon, ← q, m, ← k, x)

    pub chunk-bad : b ≡ false → None ≡ chunk_lens w
    unfolding chunk_lens
    chunk-bad x = rw (semicolon, ← q, m, ← k, x)

-- ---- status lines

pub digit-most : (b : ℕ) {r : ℕ} → b < 256 → r ≡ digit_of b → r ≤ 255
unfolding digit_of
digit-most b h e = rw e (leb-true (digit_of b) 255 (below (λ k. leb (digit_of k) 255) 256 tt b h))

module _ (w : List ℕ) (v : ℕ) {r : Bool} (e : r ≡ same_text (take v w) version) where
  pub version-bad : r ≡ false → Err refusal.BadVersion ≡ status_version w v
  unfolding status_version
  version-bad x = rw (← e, x)

  module _ (x : r ≡ true) {n : ℕ} {k : Verdict} (q : n ≡ status_at w (v + 1)) (z : k ≡ status_verdict n) where
    pub status-good : {u : Unit {0}} → k ≡ Ok u → Ok n ≡ status_version w v
    unfolding status_version
    status-good y = rw (← e, x, ← q, ← z, y)

    pub status-bad : {y : Refusal} → k ≡ Err y → Err y ≡ status_version w v
    unfolding status_version
    status-bad y = rw (← e, x, ← q, ← z, y)

module _ (w : List ℕ) (v : ℕ) where
  pub shape-short : length w < v + 5 → false ≡ is_status_shape w v
  unfolding is_status_shape
  shape-short h = rw (lt-ltb _ _ h)

  module _ (h : v + 5 ≤ length w) {a : ℕ} (ea : a ≡ digit_of (get_or w (v + 1) 0)) where
    pub shape-first : 10 ≤ a → false ≡ is_status_shape w v
    unfolding is_status_shape
    shape-first g = rw (le-ltb _ _ h, ← ea, le-ltb _ _ g)

    module _ (la : a < 10) {b : ℕ} (eb : b ≡ digit_of (get_or w (v + 2) 0)) where
      pub shape-second : 10 ≤ b → false ≡ is_status_shape w v
      unfolding is_status_shape
      shape-second g = rw (le-ltb _ _ h, ← ea, lt-ltb _ _ la, ← eb, le-ltb _ _ g)

      module _ (lb : b < 10) {c : ℕ} (ec : c ≡ digit_of (get_or w (v + 3) 0)) where
        pub shape-third : 10 ≤ c → false ≡ is_status_shape w v
        unfolding is_status_shape
        shape-third g = rw (le-ltb _ _ h, ← ea, lt-ltb _ _ la, ← eb, lt-ltb _ _ lb, ← ec, le-ltb _ _ g)

        module _ (lc : c < 10) where
          pub shape-space : (get_or w (v + 4) 0 ≡ 32 → ⊥) → false ≡ is_status_shape w v
          unfolding is_status_shape
          shape-space g = rw (le-ltb _ _ h, ← ea, lt-ltb _ _ la, ← eb, lt-ltb _ _ lb, ← ec, lt-ltb _ _ lc, ne_eqb _ _ g)

          pub shape-reason : {r : Bool} → get_or w (v + 4) 0 ≡ 32 → r ≡ all (has_class value) (drop (v + 5) w) → r ≡ is_status_shape w v
          unfolding is_status_shape
          shape-reason g e = rw (le-ltb _ _ h, ← ea, lt-ltb _ _ la, ← eb, lt-ltb _ _ lb, ← ec, lt-ltb _ _ lc, eq-eqb _ _ g) e

module _ (w : List ℕ) (v : ℕ) {r : Bool} (q : r ≡ is_status_shape w v) where
  pub shape-long : r ≡ true → v + 5 ≤ length w
  unfolding is_status_shape
  shape-long x = pick (ltb (length w) (v + 5)) _ refl (sym q ∙ x)
    where
      pick : (b y : Bool) → ltb (length w) (v + 5) ≡ b → cond b false y ≡ true → v + 5 ≤ length w
      pick false y f g = ltb-false (length w) (v + 5) f
      pick true y f g = let z : ◌≡◌ {A = ℕ} 0 1 = cc in absurd (omega arith)

  module _ (e : v ≡ 0 + span_len (is_other 32) (drop 0 w)) where
    pub status-shape : r ≡ false → Err refusal.BadSyntax ≡ status_lens w
    unfolding status_lens
    status-shape x = rw (from_first (is_other 32) w e, ← q, x)

    pub status-on : {z : Result ℕ Refusal} → r ≡ true → z ≡ status_version w v → z ≡ status_lens w
    unfolding status_lens
    status-on x y = rw (from_first (is_other 32) w e, ← q, x) y

-- ---- request lines

module _ (scheme : ℕ) (w : List ℕ) (m p : ℕ) {x : Verdict} (e : x ≡ method_verdict (take m w)) where
  pub method-bad : {r : Refusal} → x ≡ Err r → Err r ≡ request_parts scheme w m p
  unfolding request_parts
  method-bad h = rw (← e, h)

  module _ {u : Unit {0}} (h : x ≡ Ok u) {o : Bool} (b : o ≡ is_options (take m w)) {y : Result Target Refusal}
      (f : y ≡ target_of scheme o (take (m + 1 + p - (m + 1)) (drop (m + 1) w))) where
    parts_as : on_target m y ≡ request_parts scheme w m p
    unfolding request_parts
    parts_as = let g : m + 1 + p - (m + 1) ≡ p = omega arith in rw (← e, h) (ap (on_target m) (rw (b, g) at f))

    pub target-bad : {r : Refusal} → y ≡ Err r → Err r ≡ request_parts scheme w m p
    target-bad d = ap (on_target m) (sym d) ∙ parts_as

    pub parts-on : {a : Target} → y ≡ Ok a → Ok (with_target m a) ≡ request_parts scheme w m p
    parts-on d = ap (on_target m) (sym d) ∙ parts_as

module _ (scheme : ℕ) (w : List ℕ) (m e : ℕ) {f : ℕ} (q : f ≡ e + 1 + span_len (is_other 32) (drop (e + 1) w)) where
  pub spaces-more : (f ≡ length w → ⊥) → Err refusal.BadSyntax ≡ request_version scheme w m e
  unfolding request_version
  spaces-more h = rw (← q, ne_eqb _ _ h)

  module _ (h : f ≡ length w) {r : Bool} (k : r ≡ same_text (take (length w - (e + 1)) (drop (e + 1) w)) version) where
    version-is : same_text (drop (e + 1) w) version ≡ r
    version-is = rw (← part-all w (e + 1)) (sym k)

    pub version-other : r ≡ false → Err refusal.BadVersion ≡ request_version scheme w m e
    unfolding request_version
    version-other x = rw (← q, eq-eqb _ _ h, version-is, x)

    pub version-on : {z : Result RequestLine Refusal} → r ≡ true → z ≡ request_parts scheme w m (e - (m + 1)) → z ≡ request_version scheme w m e
    unfolding request_version
    version-on x y = rw (← q, eq-eqb _ _ h, version-is, x) y

module _ (scheme : ℕ) (w : List ℕ) {m : ℕ} (e : m ≡ 0 + span_len (is_other 32) (drop 0 w)) where
  pub spaces-none : length w ≤ m → Err refusal.BadSyntax ≡ request_lens scheme w
  unfolding request_lens
  spaces-none h = rw (from_first (is_other 32) w e, le-leb _ _ h)

  module _ (h : m < length w) {d : ℕ} (q : d ≡ m + 1 + span_len (is_other 32) (drop (m + 1) w)) where
    pub spaces-one : length w ≤ d → Err refusal.BadSyntax ≡ request_lens scheme w
    unfolding request_lens request_target
    spaces-one g = rw (from_first (is_other 32) w e, lt-leb _ _ h, ← q, le-leb _ _ g)

    pub request-on : {z : Result RequestLine Refusal} → d < length w → z ≡ request_version scheme w m d → z ≡ request_lens scheme w
    unfolding request_lens request_target
    request-on g y = rw (from_first (is_other 32) w e, lt-leb _ _ h, ← q, lt-leb _ _ g) y
