-- Each written line is clean, and is judged good with its parts at their places.
use mathlib.Core.Path.{◌≡◌, refl}
use mathlib.Core.Bool.{Bool, true, false, not}
use mathlib.Core.List.{List, [], ◌∷◌, ◌++◌, append_assoc}
use Prim.Native.Nat.{ℕ, ◌+◌, ◌≤◌}
use native.Mathlib.Omega.{arith}
use lib.Dec.{leb, lit≤}
use lib.ListN.{length, drop}
use lib.Seq.{drop-append-add, take-append_seam, take-length}
use Rattle.octets.specs.Ascii.{ascii}
use Rattle.octets.specs.Class.{is_token, is_value, is_path, is_authority, class_of, has_class, token, value, path, authority, is_blank}
use Rattle.octets.specs.Text.{span_len, all, lower_of, is_lower, trim_back, is_empty}
use Rattle.octets.specs.Limits.{authority_most, content_most}
use Rattle.octets.proofs.Kit.{and_split, past, into, no_true}
use Rattle.octets.proofs.Classes.{not_at, no-cr, no-lf, token-value, path-value, authority-value, blank-authority}
use Rattle.octets.proofs.Texts.{all_both, all-implied}
use Rattle.numbers.specs.Digits.{digits}
use Rattle.numbers.proofs.DigitLaws.{digits_value}
use Rattle.script.specs.Script.{free}
use Rattle.script.specs.Do.{piece, good}
use Rattle.messages.specs.Control.{method_verdict, path_verdict, status_verdict, is_host, is_lower_name, is_trimmed_value, is_options, passed}
use Rattle.messages.specs.Meaning.{Field}
use Rattle.messages.proofs.Verdicts.{method-rule, path-rule, name-rule, value-rule}
use Rattle.messages.proofs.Stating.{LineOk, bare-value}
use Rattle.http1_lines.specs.Lines.{request_of, status_of, field_of, chunk_of}
use Rattle.http1_lines.proofs.Back.{field_back, request-back, status-back, chunk_back, chunk_end}
use Rattle.http1_writer.specs.Write.{host_field, coding_field}
use Rattle.http1_round_trip.proofs.Placed.{line_at}
use Rattle.messages.specs.Message.{whole_path}

-- ---- octets of a value have no CR and no LF

all-free : (p : ℕ → Bool) (k : ℕ) → p k ≡ false → (w : List ℕ) → all p w ≡ true → free k w ≡ true
unfolding all free
all-free p k f [] h = refl
all-free p k f (x ∷ w) h =
    let e = and_split (p x) (all p w) h in
    rw (not_at p k x f e.0, all-free p k f w e.1)

abbrev Values : List ℕ → Type 0
Values w = all (has_class value) w ≡ true

-- what a line has to keep to, beside its length
pub record Clean (w : List ℕ) : Type 0 where
  pub lf : free 10 w ≡ true
  pub cr : free 13 w ≡ true

clean : (w : List ℕ) → Values w → Clean w
clean w h = record { lf = all-free (has_class value) 10 (no-lf value) w h; cr = all-free (has_class value) 13 (no-cr value) w h }

-- the signs between the parts of lines
signs : Values (ascii ": ") × Values (ascii " ") × Values (ascii " HTTP/1.1") × Values (ascii "HTTP/1.1 ") × Values (ascii "0")
unfolding all has_class class_of is_token is_value is_path is_authority
signs = (refl, refl, refl, refl, refl)

values : (a b : List ℕ) → Values a → Values b → Values (a ++ b)
values = all_both (has_class value)

-- ---- field lines

abbrev pub field_word : Field → List ℕ
field_word f = f.name ++ ascii ": " ++ f.value

module _ (f : Field) (ok : LineOk f) where
  pub field-clean : Clean (field_word f)
  field-clean =
      let n = name-rule f.name ok.name in
      clean _ (values _ _ (values _ _ (all-implied (has_class token) (has_class value) token-value f.name n.1) signs.0) (value-rule f.value ok.value).0)

  pub field-good : (at : ℕ) → field_of (piece at (field_word f)) ≡ good (line_at at f)
  unfolding field_of
  field-good at =
      let n : List ℕ = f.name in
      let v : List ℕ = f.value in
      let d : drop (length n + 2) (n ++ 58 ∷ 32 ∷ v) ≡ v = drop-append-add n (58 ∷ 32 ∷ v) 2 in
      rw (append_assoc n (ascii ": ") v, field_back n v ok.name ok.value, take-append_seam n (58 ∷ 32 ∷ v), d, take-length v)

-- ---- the lines that a head gains

authority-bare : (b : ℕ) → has_class authority b ≡ true → not (is_blank b) ≡ true
authority-bare b h = go (is_blank b) refl
  where
    go : (t : Bool) → is_blank b ≡ t → not t ≡ true
    go true e = let z = blank-authority b e in cc
    go false e = refl

host-octets : (a : List ℕ) → is_host a ≡ true → all (has_class authority) a ≡ true
unfolding is_host
host-octets a e = (into no_true (leb (length a) authority_most) _ (past no_true (is_empty a) _ e).1).1

names : (is_lower_name (ascii "host") ≡ true) × (is_lower_name (ascii "transfer-encoding") ≡ true) × (is_trimmed_value (ascii "chunked") ≡ true)
unfolding is_lower_name is_trimmed_value is_empty all span_len trim_back is_blank is_lower lower_of has_class class_of is_token is_value is_path is_authority
names = (refl, refl, refl)

pub host-line : (a : List ℕ) → is_host a ≡ true → LineOk (host_field a)
unfolding host_field
host-line a h =
    let o = host-octets a h in
    record {
      name = names.0;
      value = bare-value a (all-implied (has_class authority) (has_class value) authority-value a o) (all-implied (has_class authority) (λ b. not (is_blank b)) authority-bare a o);
    }

pub coding-line : LineOk coding_field
unfolding coding_field
coding-line = record { name = names.1; value = names.2 }

-- ---- request lines

module _ (m p : List ℕ) (hm : method_verdict m ≡ passed) (hp : path_verdict (is_options m) p ≡ passed) where
  pub request-clean : Clean (m ++ 32 ∷ [] ++ p ++ ascii " HTTP/1.1")
  request-clean =
      let a = all-implied (has_class token) (has_class value) token-value m (method-rule m hm).1 in
      let b = all-implied (has_class path) (has_class value) path-value p (path-rule (is_options m) p hp).2 in
      clean _ (values _ _ (values _ _ (values _ _ a signs.1) b) signs.2)

  pub request-good : (scheme at : ℕ)
      → request_of scheme (piece at (m ++ 32 ∷ [] ++ p ++ ascii " HTTP/1.1"))
      ≡ good (record { method = piece at m; path = whole_path (piece (at + (length m + 1)) p); authority = piece (at + (length m + 1)) [] })
  unfolding request_of
  request-good scheme at =
      let z : length m + 1 + 0 ≡ length m + 1 = omega arith in
      let w : List ℕ = p ++ ascii " HTTP/1.1" in
      let d : drop (length m + 1) (m ++ 32 ∷ w) ≡ w = drop-append-add m (32 ∷ w) 1 in
      rw (
        append_assoc (m ++ 32 ∷ []) p (ascii " HTTP/1.1"),
        append_assoc m (32 ∷ []) w,
        request-back scheme m p hm hp,
        z,
        take-append_seam m (32 ∷ w),
        d,
        take-append_seam p (ascii " HTTP/1.1"),
      )

-- ---- status lines

abbrev pub status_word : ℕ → List ℕ
status_word n = ascii "HTTP/1.1 " ++ digits 10 n ++ 32 ∷ []

pub status-clean : (n : ℕ) → Clean (status_word n)
status-clean n = clean _ (values _ _ (values _ _ signs.3 (digits_value 10 (lit≤ tt) (lit≤ tt) n)) signs.1)

pub status-good : (n at : ℕ) → status_verdict n ≡ passed → status_of (piece at (status_word n)) ≡ good n
unfolding status_of
status-good n at h = rw (status-back n h)

-- ---- chunk lines

pub chunk-clean : (n : ℕ) → Clean (digits 16 n)
chunk-clean n = clean _ (digits_value 16 (lit≤ tt) (lit≤ tt) n)

pub chunk-good : (n at : ℕ) → n ≤ content_most → chunk_of (piece at (digits 16 n)) ≡ good n
unfolding chunk_of
chunk-good n at h = rw (chunk_back n h)

pub end_clean : Clean (ascii "0")
end_clean = clean _ signs.4

pub end-good : (at : ℕ) → chunk_of (piece at (ascii "0")) ≡ good 0
unfolding chunk_of
end-good at = rw chunk_end
