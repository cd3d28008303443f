-- Steps of the loops that measure, and of those that write.
use Prim.Native.Nat.{ℕ, suc, ◌+◌, ◌-◌, ◌*◌, ◌<◌, ◌≤◌}
use mathlib.Core.Path.{◌≡◌, refl, ap, ◌∙◌}
use mathlib.Core.Bool.{true, false}
use mathlib.Core.List.{List, [], ◌∷◌, ◌++◌, map}
use native.Mathlib.Nat.{add-zero, sub-zero}
use native.Mathlib.Omega.{arith}
use lib.ListN.{get_or}
use borrow.Author.Tests.{eq-eqb, ne_eqb}
use Rattle.std.proofs.Common.{Option, Some}
use Rattle.octets.specs.Ascii.{ascii}
use Rattle.octets.specs.Text.{lower_of}
use Rattle.numbers.specs.Digits.{count_of, digits}
use Rattle.numbers.specs.Integer.{integer_end, int_len, tag_of, int_bytes}
use Rattle.numbers.specs.Places.{push}
use Rattle.numbers.proofs.IntegerLaws.{int-some}
use Rattle.output.specs.Splice.{part, Put, Puts, Left}
use Rattle.output.proofs.Laws.{put_then, put_as, left-start, left-turn}
use Rattle.output.proofs.Room.{puts_then}
use Rattle.messages.specs.Meaning.{Informational, request, response, field_means, content_of, stated_fields}
use Rattle.messages.specs.declared.Record.{Record}
use Rattle.ranges.specs.Entries.{field_in, fields_in, chunks_in, fields_before, heads_in, part_in, control_in, meaning_in, FieldsWithin, path_size, path_in}
use Rattle.ranges.proofs.Entries.{fields-more, fields-none, heads-more, heads-none}
use Rattle.binary_writer.proofs.Lengths.{counted_is, fields-length, header-fields, fields-append, is-of}
use Rattle.binary_writer.specs.Write.{counted, field_bytes, fields_bytes, section_bytes, scheme_bytes, informational_bytes, control_bytes, binary_of}
use Rattle.binary_writer.specs.Sizes.{counted_size, entry_size, fields_size, section_size, stated_size, header_size, head_size, heads_size, scheme_size, control_size, message_size}

-- ---- measuring

pub counted-most : (n : ℕ) → n < integer_end → counted_size n ≤ n + 8
counted-most n h = omega (arith, int-some n h)

module _ (ranges : List ℕ) (k n : ℕ) where
  pub size-start : 0 + fields_size ranges (k + 0) (n - 0) ≡ fields_size ranges k n
  size-start = rw (add-zero k, sub-zero n) (omega arith)

  pub size-more : (i : ℕ) → i < n → fields_size ranges (k + i) (n - i) ≡ entry_size ranges (k + i) + fields_size ranges (k + (i + 1)) (n - (i + 1))
  unfolding fields_size
  size-more i h =
      let e : n - i ≡ suc (n - (i + 1)) = omega arith in
      let a : k + (i + 1) ≡ k + i + 1 = omega arith in
      rw (e, a)

  pub size_none : (i : ℕ) → n ≤ i → fields_size ranges (k + i) (n - i) ≡ 0
  unfolding fields_size
  size_none i h = let e : n - i ≡ 0 = omega arith in rw e

module _ (hs ns : List ℕ) (n : ℕ) where
  pub heads-start : 0 + heads_size hs ns 0 (n - 0) ≡ heads_size hs ns 0 n
  heads-start = rw (sub-zero n) (omega arith)

  pub heads-size-more : (i : ℕ) → i < n → heads_size hs ns i (n - i) ≡ head_size hs ns i + heads_size hs ns (i + 1) (n - (i + 1))
  unfolding heads_size
  heads-size-more i h = let e : n - i ≡ suc (n - (i + 1)) = omega arith in rw e

  pub heads-size-none : (i : ℕ) → n ≤ i → heads_size hs ns i (n - i) ≡ 0
  unfolding heads_size
  heads-size-none i h = let e : n - i ≡ 0 = omega arith in rw e

pub scheme-http : (n : ℕ) → n ≡ 0 → scheme_size n ≡ 5
unfolding scheme_size
scheme-http n e = rw (eq-eqb n 0 e)

pub scheme-https : (n : ℕ) → (n ≡ 0 → ⊥) → scheme_size n ≡ 6
unfolding scheme_size
scheme-https n e = rw (ne_eqb n 0 e)

module _ (hs ns : List ℕ) (i : ℕ) where
  pub head_as : {status k count x : ℕ} → status ≡ get_or ns (i * 2) 0 → k ≡ fields_before ns i → count ≡ get_or ns (i * 2 + 1) 0
      → x ≡ int_len status + section_size hs k count → x ≡ head_size hs ns i
  head_as a b c e = e ∙ rw (a, b, c)

-- control data by the kind of message
module _ (r : Record) (hs ns : List ℕ) where
  pub size-response : r.response ≡ true → control_size r.response r hs ns ≡ 1 + heads_size hs ns 0 r.informational + int_len r.status
  unfolding control_size
  size-response e = rw e

  pub size-request : r.response ≡ false
      → control_size r.response r hs ns ≡ 1 + counted_size r.method.len + scheme_size r.scheme + counted_size r.authority.len + counted_size (path_size r.prefix r.path)
  unfolding control_size
  size-request e = rw e

  pub size-message : (ts : List ℕ) {control k headers content trailers : ℕ} → control ≡ control_size r.response r hs ns → k ≡ fields_before ns r.informational
      → headers ≡ header_size r.stated hs k r.headers → content ≡ counted_size r.content → trailers ≡ section_size ts 0 r.trailers
      → control + headers + content + trailers ≡ message_size r hs ns ts
  unfolding message_size
  size-message ts a b c d e = rw (a, c, b, d, e)

-- what a final header section counts
pub header-sum : (x : Option ℕ) (ranges : List ℕ) (k n : ℕ) {a b : ℕ} → a ≡ stated_size x → b ≡ fields_size ranges k n
    → a + b ≡ stated_size x + fields_size ranges k n
header-sum x ranges k n e f = rw (e, f)

-- ---- writing

http-is : counted (ascii "http") ≡ 4 ∷ ascii "http"
unfolding counted int_bytes int_len tag_of push
http-is = refl

https-is : counted (ascii "https") ≡ 5 ∷ ascii "https"
unfolding counted int_bytes int_len tag_of push
https-is = refl

module _ {o o₁ : List ℕ} {at r n : ℕ} where
  pub put-http : n ≡ 0 → Put o at (4 ∷ ascii "http") 5 o₁ r → Put o at (counted (scheme_bytes n)) (scheme_size n) o₁ r
  unfolding scheme_bytes
  put-http e p = rw (scheme-http n e, eq-eqb n 0 e) (put_as (http-is, refl) p)

  pub put-https : (n ≡ 0 → ⊥) → Put o at (5 ∷ ascii "https") 6 o₁ r → Put o at (counted (scheme_bytes n)) (scheme_size n) o₁ r
  unfolding scheme_bytes
  put-https e p = rw (scheme-https n e, ne_eqb n 0 e) (put_as (https-is, refl) p)

-- name and digits of a stated length, one behind the other
pub put-length : {x : Option ℕ} {n c : ℕ} {o o₁ o₂ o₃ : List ℕ} {at a b r : ℕ} → x ≡ Some n → c ≡ count_of 10 n
    → Puts o at (14 ∷ ascii "content-length") 15 o₁ a → Puts o₁ a (int_bytes c) (int_len c) o₂ b → Puts o₂ b (digits 10 n) (count_of 10 n) o₃ r
    → Puts o at (fields_bytes (stated_fields x)) (stated_size x) o₃ r
put-length e f p q t h = let z = is-of e in put_as (z.bytes, z.size) (puts_then (puts_then p (rw f at q)) t (omega (arith, z.size, h)))

-- name and value of an entry, one behind the other
module _ (s ranges : List ℕ) (k : ℕ) {o o₁ o₂ : List ℕ} {at a r name nlen value vlen : ℕ} where
  pub put-field : name ≡ get_or ranges (k * 4) 0 → nlen ≡ get_or ranges (k * 4 + 1) 0 → value ≡ get_or ranges (k * 4 + 2) 0 → vlen ≡ get_or ranges (k * 4 + 3) 0
      → Put o at (counted (map lower_of (part s name nlen))) (counted_size nlen) o₁ a → Put o₁ a (counted (part s value vlen)) (counted_size vlen) o₂ r
      → Put o at (field_bytes (field_means (field_in s ranges k))) (entry_size ranges k) o₂ r
  unfolding field_bytes field_means
  put-field e f g h p q = put_then (rw (e, f) at p) (rw (g, h) at q)

-- the fields of entries, one behind the other
module _ (s ranges : List ℕ) (k n : ℕ) where
  pub fields-begin : (o : List ℕ) (at : ℕ)
      → Left o at (fields_bytes (map field_means (fields_in s ranges k n))) (fields_size ranges k n) o at
      (fields_bytes (map field_means (fields_in s ranges (k + 0) (n - 0)))) (fields_size ranges (k + 0) (n - 0))
  fields-begin o at = rw (add-zero k, sub-zero n) (left-start o at _ _)

  fields-bytes-more : (i : ℕ) → i < n
      → fields_bytes (map field_means (fields_in s ranges (k + i) (n - i)))
      ≡ field_bytes (field_means (field_in s ranges (k + i))) ++ fields_bytes (map field_means (fields_in s ranges (k + (i + 1)) (n - (i + 1))))
  unfolding fields_bytes
  fields-bytes-more i h = rw (fields-more s ranges k i n h)

  pub fields-bytes-none : (i : ℕ) → n ≤ i → fields_bytes (map field_means (fields_in s ranges (k + i) (n - i))) ≡ []
  unfolding fields_bytes
  fields-bytes-none i h = rw (fields-none s ranges (k + i) i n h)

  pub left-field : (i : ℕ) {o₀ bs₀ o o₁ : List ℕ} {at₀ n₀ a r : ℕ} → i < n
      → Left o₀ at₀ bs₀ n₀ o a (fields_bytes (map field_means (fields_in s ranges (k + i) (n - i)))) (fields_size ranges (k + i) (n - i))
      → Put o a (field_bytes (field_means (field_in s ranges (k + i)))) (entry_size ranges (k + i)) o₁ r
      → Left o₀ at₀ bs₀ n₀ o₁ r (fields_bytes (map field_means (fields_in s ranges (k + (i + 1)) (n - (i + 1))))) (fields_size ranges (k + (i + 1)) (n - (i + 1)))
  left-field i h l p = left-turn l (fields-bytes-more i h, size-more ranges k n i h) p

  -- a section: their count first
  pub put-section : {o o₁ o₂ : List ℕ} {at a r size : ℕ} → size ≡ fields_size ranges k n → Put o at (int_bytes size) (int_len size) o₁ a
      → Put o₁ a (fields_bytes (map field_means (fields_in s ranges k n))) (fields_size ranges k n) o₂ r
      → Put o at (section_bytes (map field_means (fields_in s ranges k n))) (section_size ranges k n) o₂ r
  unfolding section_bytes
  put-section e p q = put_as (counted_is _ _ (fields-length s ranges k n), refl) (put_then (rw e at p) q)

  -- a final header section: the count, the field of a stated length, the fields
  pub put-header : (x : Option ℕ) {o o₁ o₂ o₃ : List ℕ} {at a b r size : ℕ} → size ≡ stated_size x + fields_size ranges k n → Put o at (int_bytes size) (int_len size) o₁ a
      → Put o₁ a (fields_bytes (stated_fields x)) (stated_size x) o₂ b
      → Put o₂ b (fields_bytes (map field_means (fields_in s ranges k n))) (fields_size ranges k n) o₃ r
      → Put o at (section_bytes (stated_fields x ++ map field_means (fields_in s ranges k n))) (header_size x ranges k n) o₃ r
  unfolding section_bytes
  put-header x e p q t =
      let fs = map field_means (fields_in s ranges k n) in
      put_as (
        counted_is _ _ (header-fields x s ranges k n)
            ∙ ap (λ (w : List ℕ). int_bytes (stated_size x + fields_size ranges k n) ++ w) (fields-append (stated_fields x) fs),
        refl,
      )
      (put_then (rw e at p) (put_then q t))

-- the same section by other names of its numbers
pub within-as : {l : ℕ} {ranges : List ℕ} {k k' c c' : ℕ} → k ≡ k' → c ≡ c' → FieldsWithin l ranges k' c' → FieldsWithin l ranges k c
within-as e f w = rw (e, f) w

-- informational heads, one behind the other
module _ (s hs ns : List ℕ) (n : ℕ) where
  pub heads-begin : (o : List ℕ) (at : ℕ)
      → Left o at (informational_bytes (heads_in s hs ns 0 n)) (heads_size hs ns 0 n) o at (informational_bytes (heads_in s hs ns 0 (n - 0))) (heads_size hs ns 0 (n - 0))
  heads-begin o at = rw (sub-zero n) (left-start o at _ _)

  heads-bytes-more : (i : ℕ) → i < n
      → informational_bytes (heads_in s hs ns i (n - i))
      ≡ int_bytes (get_or ns (i * 2) 0) ++ section_bytes (map field_means (fields_in s hs (fields_before ns i) (get_or ns (i * 2 + 1) 0)))
      ++ informational_bytes (heads_in s hs ns (i + 1) (n - (i + 1)))
  unfolding informational_bytes
  heads-bytes-more i h = rw (heads-more s hs ns i n h)

  pub heads-bytes-none : (i : ℕ) → n ≤ i → informational_bytes (heads_in s hs ns i (n - i)) ≡ []
  unfolding informational_bytes
  heads-bytes-none i h = rw (heads-none s hs ns i n h)

  pub left-head : (i : ℕ) {o₀ bs₀ o o₁ : List ℕ} {at₀ n₀ a r status k count : ℕ} → i < n
      → status ≡ get_or ns (i * 2) 0 → k ≡ fields_before ns i → count ≡ get_or ns (i * 2 + 1) 0
      → Left o₀ at₀ bs₀ n₀ o a (informational_bytes (heads_in s hs ns i (n - i))) (heads_size hs ns i (n - i))
      → Put o a (int_bytes status ++ section_bytes (map field_means (fields_in s hs k count))) (int_len status + section_size hs k count) o₁ r
      → Left o₀ at₀ bs₀ n₀ o₁ r (informational_bytes (heads_in s hs ns (i + 1) (n - (i + 1)))) (heads_size hs ns (i + 1) (n - (i + 1)))
  left-head i h e f g l p = left-turn l (heads-bytes-more i h, heads-size-more hs ns n i h) (rw (e, f, g) at p)

-- framing indicators
zero_is : int_bytes 0 ≡ 0 ∷ []
unfolding int_bytes int_len tag_of push
zero_is = refl

one-is : int_bytes 1 ≡ 1 ∷ []
unfolding int_bytes int_len tag_of push
one-is = refl

module _ {o o₁ o₂ o₃ : List ℕ} {r₁ r₂ r₃ : ℕ} where
  pub put-request : (m : List ℕ) (scheme : ℕ) (a p : List ℕ) {o₄ o₅ : List ℕ} {i j k l r₄ r₅ : ℕ} → Put o 0 (0 ∷ []) 1 o₁ r₁ → Put o₁ r₁ (counted m) i o₂ r₂ → Put o₂ r₂ (counted (scheme_bytes scheme)) j o₃ r₃
      → Put o₃ r₃ (counted a) k o₄ r₄ → Put o₄ r₄ (counted p) l o₅ r₅ → Put o 0 (control_bytes (request m scheme a p)) (1 + i + j + k + l) o₅ r₅
  unfolding control_bytes
  put-request _ _ _ _ f m s a p = put_then (put_then (put_then (put_then (put_as (zero_is, refl) f) m) s) a) p

  pub put-response : (is : List Informational) (status : ℕ) {i j : ℕ} → Put o 0 (1 ∷ []) 1 o₁ r₁ → Put o₁ r₁ (informational_bytes is) i o₂ r₂ → Put o₂ r₂ (int_bytes status) j o₃ r₃
      → Put o 0 (control_bytes (response is status)) (1 + i + j) o₃ r₃
  unfolding control_bytes
  put-response _ _ f h s = put_then (put_then (put_as (one-is, refl) f) h) s

-- control data by the kind of message, and the whole message
module _ (s : List ℕ) (r : Record) (hs ns : List ℕ) {o o₁ : List ℕ} {a : ℕ} where
  pub control-response : r.response ≡ true
      → Put o 0 (control_bytes (response (heads_in s hs ns 0 r.informational) r.status)) (1 + heads_size hs ns 0 r.informational + int_len r.status) o₁ a
      → Put o 0 (control_bytes (control_in r.response s r hs ns)) (control_size r.response r hs ns) o₁ a
  control-response e p = rw (size-response r hs ns e, e) p

  pub control-request : r.response ≡ false
      → Put o 0 (control_bytes (request (part_in s r.method) r.scheme (part_in s r.authority) (path_in s r.prefix r.path)))
      (1 + counted_size r.method.len + scheme_size r.scheme + counted_size r.authority.len + counted_size (path_size r.prefix r.path)) o₁ a
      → Put o 0 (control_bytes (control_in r.response s r hs ns)) (control_size r.response r hs ns) o₁ a
  control-request e p = rw (size-request r hs ns e, e) p

  pub put-message : (cs ts : List ℕ) {o₂ o₃ o₄ : List ℕ} {k b d z : ℕ} → k ≡ fields_before ns r.informational
      → Put o 0 (control_bytes (control_in r.response s r hs ns)) (control_size r.response r hs ns) o₁ a
      → Put o₁ a (section_bytes (stated_fields r.stated ++ map field_means (fields_in s hs k r.headers))) (header_size r.stated hs k r.headers) o₂ b
      → Put o₂ b (counted (content_of (chunks_in s cs 0 r.chunks))) (counted_size r.content) o₃ d
      → Put o₃ d (section_bytes (map field_means (fields_in s ts 0 r.trailers))) (section_size ts 0 r.trailers) o₄ z
      → Put o 0 (binary_of (meaning_in s r hs ns cs ts)) (message_size r hs ns ts) o₄ z
  unfolding binary_of meaning_in message_size
  put-message cs ts e c h b t = put_then (put_then (put_then c (rw e at h)) b) t
