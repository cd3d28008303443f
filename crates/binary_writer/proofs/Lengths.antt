-- What is written is as long as the numbers say.
use Prim.Native.Nat.{ℕ, zero, suc, ◌+◌, ◌*◌}
use mathlib.Core.Path.{◌≡◌, refl, sym, ap, ◌∙◌}
use native.Mathlib.Omega.{arith}
use mathlib.Core.Bool.{Bool, true, false, cond}
use mathlib.Core.List.{List, [], ◌∷◌, ◌++◌, map, append-nil, append_assoc}
use lib.Dec.{eqb}
use lib.ListN.{length, get_or, length-append, length-map}
use Rattle.std.proofs.Common.{Option, Some, None}
use Rattle.octets.specs.Text.{lower_of}
use Rattle.octets.specs.Ascii.{ascii}
use Rattle.numbers.specs.Digits.{count_of, digits}
use Rattle.numbers.proofs.DigitLaws.{digits-length}
use Rattle.numbers.specs.Integer.{int_len, tag_of, int_bytes}
use Rattle.numbers.specs.Places.{push}
use Rattle.numbers.proofs.IntegerLaws.{int-length}
use Rattle.output.specs.Splice.{part}
use Rattle.output.proofs.Laws.{elements-length}
use Rattle.messages.specs.Meaning.{Field, field_means, length_field, stated_fields}
use Rattle.messages.specs.declared.Part.{Part}
use Rattle.messages.specs.declared.Record.{Record}
use Rattle.ranges.specs.Entries.{field_in, fields_in, heads_in, part_in, control_in, meaning_in, MessageWithin, path_in, path_size}
use Rattle.binary_writer.specs.Write.{counted, field_bytes, fields_bytes, section_bytes, scheme_bytes, informational_bytes, control_bytes, binary_of}
use Rattle.binary_writer.specs.Sizes.{counted_size, entry_size, fields_size, section_size, stated_size, header_size, heads_size, scheme_size, control_size, message_size}
use Rattle.messages.specs.declared.PathPrefix.{PathPrefix}
use Rattle.messages.specs.Message.{prefix_octets}

counted-length : (w : List ℕ) (n : ℕ) → length w ≡ n → length (counted w) ≡ counted_size n
unfolding counted
counted-length w n e = rw (length-append, int-length, e)

-- octets with their count in front
pub counted_is : (w : List ℕ) (n : ℕ) → length w ≡ n → counted w ≡ int_bytes n ++ w
unfolding counted
counted_is w n e = rw e

pub part_length : (s : List ℕ) (from n : ℕ) → length (part s from n) ≡ n
part_length s from n = elements-length 0 s from n

pub lower-length : (s : List ℕ) (from n : ℕ) → length (map lower_of (part s from n)) ≡ n
lower-length s from n = length-map (part s from n) lower_of ∙ part_length s from n

module _ (s ranges : List ℕ) where
  field-length : (k : ℕ) → length (field_bytes (field_means (field_in s ranges k))) ≡ entry_size ranges k
  unfolding field_bytes field_means
  field-length k =
      let n : List ℕ = map lower_of (part s (get_or ranges (k * 4) 0) (get_or ranges (k * 4 + 1) 0)) in
      let v : List ℕ = part s (get_or ranges (k * 4 + 2) 0) (get_or ranges (k * 4 + 3) 0) in
      let e : length (counted n) ≡ counted_size (get_or ranges (k * 4 + 1) 0) = counted-length n _ (lower-length s _ _) in
      let d : length (counted v) ≡ counted_size (get_or ranges (k * 4 + 3) 0) = counted-length v _ (part_length s _ _) in
      length-append (counted n) (counted v) ∙ rw (e, d)

  pub fields-length : (k n : ℕ) → length (fields_bytes (map field_means (fields_in s ranges k n))) ≡ fields_size ranges k n
  unfolding fields_bytes fields_in fields_size
  fields-length k zero = refl
  fields-length k (suc n) = rw (length-append, field-length k, fields-length (k + 1) n)

  pub section-length : (k n : ℕ) → length (section_bytes (map field_means (fields_in s ranges k n))) ≡ section_size ranges k n
  unfolding section_bytes
  section-length k n = counted-length _ _ (fields-length k n)

-- a stated length: what is written of it, and how long that is
pub record StatedIs (x : Option ℕ) (w : List ℕ) (n : ℕ) : Type 0 where
  pub bytes : fields_bytes (stated_fields x) ≡ w
  pub size : stated_size x ≡ n

pub is-missing : {x : Option ℕ} → x ≡ None → StatedIs x [] 0
unfolding fields_bytes
is-missing e = rw e (record { bytes = refl; size = refl })

name-is : counted (ascii "content-length") ≡ 14 ∷ ascii "content-length"
unfolding counted int_bytes int_len tag_of push
name-is = refl

pub is-of : {x : Option ℕ} {n : ℕ} → x ≡ Some n
    → StatedIs x ((14 ∷ ascii "content-length") ++ int_bytes (count_of 10 n) ++ digits 10 n) (15 + int_len (count_of 10 n) + count_of 10 n)
unfolding fields_bytes field_bytes length_field
is-of {x} {n} e =
    let w : List ℕ = 14 ∷ ascii "content-length" in
    rw e
    (record {
      bytes =
          append-nil (counted (ascii "content-length") ++ counted (digits 10 n))
          ∙ rw (name-is, counted_is (digits 10 n) (count_of 10 n) (digits-length 10 n)) (sym (append_assoc w (int_bytes (count_of 10 n)) (digits 10 n)));
      size = omega arith;
    })

stated-length : (x : Option ℕ) → length (fields_bytes (stated_fields x)) ≡ stated_size x
unfolding int_len
stated-length None = let e = is-missing refl in ap length e.bytes ∙ sym e.size
stated-length (Some n) = let e = is-of refl in ap length e.bytes ∙ simp (length-append, int-length, digits-length) (omega arith)

-- fields behind others
pub fields-append : (a b : List Field) → fields_bytes (a ++ b) ≡ fields_bytes a ++ fields_bytes b
unfolding fields_bytes
fields-append [] b = refl
fields-append (f ∷ a) b = rw (fields-append a b) (sym (append_assoc (field_bytes f) (fields_bytes a) (fields_bytes b)))

-- the fields of a final header section, and the section
module _ (x : Option ℕ) (s ranges : List ℕ) (k n : ℕ) where
  pub header-fields : length (fields_bytes (stated_fields x ++ map field_means (fields_in s ranges k n))) ≡ stated_size x + fields_size ranges k n
  header-fields =
      let fs = map field_means (fields_in s ranges k n) in
      ap length (fields-append (stated_fields x) fs)
      ∙ length-append (fields_bytes (stated_fields x)) (fields_bytes fs)
      ∙ rw (stated-length x, fields-length s ranges k n)

  header-length : length (section_bytes (stated_fields x ++ map field_means (fields_in s ranges k n))) ≡ header_size x ranges k n
  unfolding section_bytes
  header-length = counted-length _ _ header-fields

pub heads-length : (s hs ns : List ℕ) (i n : ℕ) → length (informational_bytes (heads_in s hs ns i n)) ≡ heads_size hs ns i n
unfolding informational_bytes heads_in heads_size
heads-length s hs ns i zero = refl
heads-length s hs ns i (suc n) = rw (length-append, length-append, int-length, section-length s hs, heads-length s hs ns (i + 1) n)

scheme-length : (n : ℕ) → length (counted (scheme_bytes n)) ≡ scheme_size n
unfolding scheme_bytes scheme_size counted int_bytes int_len tag_of push
scheme-length n = go (eqb n 0)
  where
    go : (b : Bool) → length (counted (cond b (ascii "http") (ascii "https"))) ≡ cond b 5 6
    go true = refl
    go false = refl

part-counted : (s : List ℕ) (p : Part) → length (counted (part_in s p)) ≡ counted_size p.len
part-counted s p = counted-length (part_in s p) p.len (part_length s p.start p.len)

pub path-long : (s : List ℕ) (prefix : PathPrefix) (p : Part) → length (path_in s prefix p) ≡ path_size prefix p
path-long s prefix p = length-append (prefix_octets prefix) (part_in s p) ∙ rw (part_length s p.start p.len)

path-counted : (s : List ℕ) (prefix : PathPrefix) (p : Part) → length (counted (path_in s prefix p)) ≡ counted_size (path_size prefix p)
path-counted s prefix p = counted-length (path_in s prefix p) (path_size prefix p) (path-long s prefix p)

control-length : (x : Bool) (s : List ℕ) (r : Record) (hs ns : List ℕ) → length (control_bytes (control_in x s r hs ns)) ≡ control_size x r hs ns
unfolding control_bytes control_size int_len
control-length true s r hs ns = rw (length-append, length-append, int-length, int-length, heads-length s hs ns) refl
control-length false s r hs ns =
    rw (
      length-append,
      length-append,
      length-append,
      length-append,
      int-length,
      part-counted s r.method,
      scheme-length,
      part-counted s r.authority,
      path-counted s r.prefix r.path,
    )
    refl

pub message-length : {s : List ℕ} {r : Record} {hs ns cs ts : List ℕ} → MessageWithin s r hs ns cs ts → length (binary_of (meaning_in s r hs ns cs ts)) ≡ message_size r hs ns ts
unfolding binary_of meaning_in message_size
message-length {s} {r} {hs} {ns} {cs} {ts} w =
    rw (
      length-append,
      length-append,
      length-append,
      control-length r.response s r hs ns,
      header-length r.stated s hs,
      counted-length _ _ w.content,
      section-length s ts,
    )
