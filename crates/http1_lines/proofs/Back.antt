-- What is written is judged good: lines made of good parts.
use Rattle.std.proofs.Common.{is_ok, Some, Err, Ok, Result}
use Prim.Native.Nat.{ℕ, suc, ◌+◌, ◌-◌, ◌<◌, ◌≤◌, min}
use mathlib.Core.Path.{◌≡◌, refl, ap, ◌∙◌}
use mathlib.Core.Bool.{Bool, true, false, cond}
use mathlib.Core.List.{List, [], ◌∷◌, ◌++◌}
use native.Mathlib.Omega.{arith}
use lib.Dec.{eqb, lit≤}
use lib.ListN.{length, take, drop, length-append, drop_of_length-le}
use lib.Seq.{drop-drop, take-append_seam, drop-append-add, get_or-append_seam, take-length}
use borrow.Author.Tests.{eq-eqb, ne_eqb, lt-leb, eqb-true}
use Rattle.octets.specs.Ascii.{ascii}
use Rattle.octets.specs.Class.{has_class, token, value, path, is_blank}
use Rattle.octets.specs.Text.{span_len, all, is_other, same_text}
use Rattle.octets.specs.Limits.{content_most}
use Rattle.octets.proofs.Classes.{not_at, token-colon, blank-value, blank-token, blank-path}
use Rattle.octets.proofs.Texts.{other-not, span-back, span-all, all-implied, same_refl}
use Rattle.numbers.specs.Digits.{digit_of, char_of, most, num_from, num_of, more_of, count_of, digits}
use Rattle.numbers.specs.Places.{push}
use Rattle.octets.proofs.Computed.{passes-below as below}
use Rattle.numbers.proofs.DigitLaws.{digits-pass, hexadecimal-round}
use Rattle.messages.specs.Control.{method_verdict, is_options, path_verdict, status_verdict, is_lower_name, is_trimmed_value, passed}
use Rattle.messages.proofs.Verdicts.{method-rule, path-rule, status-rule, name-rule, value-rule}
use Rattle.http1_lines.specs.Lines.{version, request_parts, request_version, request_target, request_lens, status_version, is_status_shape, status_lens, field_parts}
use Rattle.http1_lines.specs.Lines.{value_from, value_in, name_to, field_lens, chunk_lens}
use Rattle.http1_lines.specs.Target.{path_alone}
use Rattle.http1_lines.proofs.RequestTargets.{target-back}
use Rattle.octets.specs.declared.Refusal.{Refusal}
use Rattle.http1_lines.specs.Lines.{with_target}

blank-space : is_blank 32 ≡ true
unfolding is_blank
blank-space = refl

-- ---- field lines

module _ (n v : List ℕ) (hn : is_lower_name n ≡ true) (hv : is_trimmed_value v ≡ true) where
  line : List ℕ
  line = n ++ 58 ∷ 32 ∷ v

  line-length : length line ≡ length n + 2 + length v
  unfolding line
  line-length = length-append n (58 ∷ 32 ∷ v) ∙ omega arith

  value-back : (w : List ℕ) (a : ℕ) → w ≡ line → a ≡ length n + 1 → value_in w (length n) a ≡ Some (field_parts (length n) (length n + 2) (length v))
  unfolding value_in value_from line span_len all
  value-back w a ew ea =
      let r = value-rule v hv in
      let d1 : drop a w ≡ 32 ∷ v = rw (ew, ea) (drop-append-add n (58 ∷ 32 ∷ v) 1) in
      let s1 : span_len (has_class value) (32 ∷ v) ≡ suc (length v) = span-all (has_class value) (32 ∷ v) (rw (blank-value 32 blank-space, r.0)) in
      let s2 : span_len is_blank (32 ∷ v) ≡ 1 = rw (blank-space, r.1) in
      let l1 : length w ≡ length n + 2 + length v = rw ew line-length in
      let l2 : a + suc (length v) ≡ length w = omega arith in
      let b : a + 1 ≡ length n + 2 = omega arith in
      let d2 : drop (length n + 2) w ≡ v = rw ew (drop-append-add n (58 ∷ 32 ∷ v) 2) in
      let l3 : length w - (length n + 2) ≡ length v = omega arith in
      rw (d1, s1, s2, eq-eqb _ _ l2, b, d2, l3, r.2)

  pub field_back : field_lens (n ++ 58 ∷ 32 ∷ v) ≡ Some (field_parts (length n) (length n + 2) (length v))
  unfolding field_lens name_to line
  field_back =
      let r = name-rule n hn in
      let s : span_len (has_class token) (n ++ 58 ∷ 32 ∷ v) ≡ length n = span-back (has_class token) n 58 (32 ∷ v) r.1 token-colon in
      let l1 : (length n ≡ 0 → ⊥) = λ e. omega arith in
      let l2 : length n < length (n ++ 58 ∷ 32 ∷ v) = omega (arith, line-length) in
      rw (s, ne_eqb _ _ l1, lt-leb _ _ l2, get_or-append_seam n 58 (32 ∷ v) 0) (value-back (n ++ 58 ∷ 32 ∷ v) (length n + 1) refl refl)

-- ---- request lines

other-class : (mask : ℕ) → has_class mask 32 ≡ false → (s : List ℕ) → all (has_class mask) s ≡ true → all (is_other 32) s ≡ true
unfolding is_other
other-class mask f s h = all-implied (has_class mask) (is_other 32) (λ b g. rw (not_at (has_class mask) 32 b f g)) s h

module _ (scheme : ℕ) (m p : List ℕ) (hm : method_verdict m ≡ passed) (hp : path_verdict (is_options m) p ≡ passed) where
  target : List ℕ
  target = p ++ ascii " HTTP/1.1"

  behind-space : drop (length m + 1) (m ++ 32 ∷ target) ≡ target
  behind-space = drop-append-add m (32 ∷ target) 1

  request-length : length (m ++ 32 ∷ target) ≡ length m + 1 + length p + 9
  unfolding target
  request-length = length-append m (32 ∷ (p ++ ascii " HTTP/1.1")) ∙ omega (arith, length-append p (ascii " HTTP/1.1"))

  parts-back : (w : List ℕ) (k : ℕ) → w ≡ m ++ 32 ∷ target → k ≡ length p → request_parts scheme w (length m) k ≡ Ok (with_target (length m) (path_alone (length p)))
  unfolding request_parts target
  parts-back w k ew ek =
      let f1 : take (length m) w ≡ m = rw ew (take-append_seam m (32 ∷ target)) in
      let f2 : take (length p) (drop (length m + 1) w) ≡ p = rw (ew, behind-space) (take-append_seam p (ascii " HTTP/1.1")) in
      rw (f1, hm, ek, f2, target-back scheme (is_options m) p hp)

  version-back : (w : List ℕ) (e : ℕ) → w ≡ m ++ 32 ∷ target → e ≡ length m + 1 + length p → request_version scheme w (length m) e ≡ Ok (with_target (length m) (path_alone (length p)))
  unfolding request_version target is_other span_len
  version-back w e ew ee =
      let l : length w ≡ length m + 1 + length p + 9 = rw ew request-length in
      let d : drop (e + 1) w ≡ version =
      let y : e + 1 ≡ length m + 1 + (length p + 1) = omega arith in
      rw (y, ← drop-drop (length p + 1) (length m + 1) w, ew, behind-space) (drop-append-add p (ascii " HTTP/1.1") 1) in
      let q : e + 1 + 8 ≡ length w = omega arith in
      rw (d, eq-eqb _ _ q, same_refl version) (parts-back w (e - (length m + 1)) ew (omega arith))

  pub request-back : request_lens scheme (m ++ 32 ∷ (p ++ ascii " HTTP/1.1")) ≡ Ok (with_target (length m) (path_alone (length p)))
  unfolding request_lens request_target target
  request-back =
      let rm = method-rule m hm in
      let rp = path-rule (is_options m) p hp in
      let s1 : span_len (is_other 32) (m ++ 32 ∷ target) ≡ length m = span-back (is_other 32) m 32 target (other-class token (blank-token 32 blank-space) m rm.1) (other-not 32 32 refl) in
      let s2 : span_len (is_other 32) target ≡ length p =
      span-back (is_other 32) p 32 version (other-class path (blank-path 32 blank-space) p rp.2) (other-not 32 32 refl) in
      let l1 : length m < length (m ++ 32 ∷ target) = omega (arith, request-length) in
      let l2 : length m + 1 + length p < length (m ++ 32 ∷ target) = omega (arith, request-length) in
      rw (s1, lt-leb _ _ l1, behind-space, s2, lt-leb _ _ l2) (version-back (m ++ 32 ∷ target) (length m + 1 + length p) refl refl)

-- ---- status lines

is_status : Result ℕ Refusal → ℕ → Bool
is_status (Ok m) n = eqb m n
is_status (Err m) n = false

is-status : (r : Result ℕ Refusal) (n : ℕ) → is_status r n ≡ true → r ≡ Ok n
unfolding is_status
is-status (Ok m) n e = ap Ok (eqb-true m n e)
is-status (Err m) n e = let z : ◌≡◌ {A = ℕ} 0 1 = cc in absurd (omega arith)

-- at each status, by computation
read_back : ℕ → Bool
read_back n = cond (is_ok (status_verdict n)) (is_status (status_lens (ascii "HTTP/1.1 " ++ digits 10 n ++ 32 ∷ [])) n) true

pub status-back : (n : ℕ) → status_verdict n ≡ passed → status_lens (ascii "HTTP/1.1 " ++ digits 10 n ++ 32 ∷ []) ≡ Ok n
unfolding read_back is_status status_lens is_status_shape status_version is_other span_len same_text all status_verdict digits push count_of more_of char_of digit_of
status-back n h =
    let r = status-rule n h in
    let b : read_back n ≡ true = below read_back 600 tt n (omega arith) in
    is-status _ n (rw h at b)

-- ---- chunk lines

digits-other : (n : ℕ) → all (is_other 59) (digits 16 n) ≡ true
unfolding is_other char_of
digits-other n = digits-pass 16 (lit≤ tt) (lit≤ tt) (is_other 59) tt n

pub chunk_back : (n : ℕ) → n ≤ content_most → chunk_lens (digits 16 n) ≡ Some n
unfolding chunk_lens all
chunk_back n h =
    let w : List ℕ = digits 16 n in
    let s : span_len (is_other 59) w ≡ length w = span-all (is_other 59) w (digits-other n) in
    let l : length w ≤ length w + 1 = omega arith in
    let m : min n most ≡ n = omega arith in
    rw (s, take-length w, drop_of_length-le w l, hexadecimal-round n (omega arith), m)

pub chunk_end : chunk_lens (ascii "0") ≡ Some 0
unfolding chunk_lens is_other span_len all num_of num_from digit_of
chunk_end = refl
