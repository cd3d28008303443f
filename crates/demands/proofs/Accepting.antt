-- That something is accepted: from soundness of each reader and the round trip of each form; the meanings by computation. Assumes nothing.
use Prim.Native.Nat.{ℕ, zero, suc}
use mathlib.Core.Path.{◌≡◌, refl}
use native.Mathlib.Omega.{arith}
use borrow.Author.Tests.{ltb-true}
use mathlib.Core.Bool.{true}
use mathlib.Core.List.{append-nil}
use Rattle.octets.specs.Class.{is_token, is_value, is_path, is_authority, class_of, has_class, is_blank}
use Rattle.octets.specs.Text.{span_len, all, lower_of, is_lower, same_text, trim_back, is_empty}
use Rattle.numbers.specs.Places.{push}
use Rattle.numbers.specs.Integer.{int_len, tag_of, int_bytes}
use Rattle.numbers.specs.Digits.{char_of, more_of, count_of, digits}
use Rattle.messages.specs.declared.Told.{Told}
use Rattle.messages.specs.Told.{is_yes, answering, in_edition}
use Rattle.messages.specs.Control.{is_unsupported, method_verdict, path_verdict, is_host, status_verdict, is_informational, is_bodyless, ends_at_head, is_lower_name, is_trimmed_value}
use Rattle.messages.specs.Names.{is_hop_by_hop, kind_of}
use Rattle.messages.specs.Meaning.{Control, request, response, Meaning, length_field}
use Rattle.messages.specs.Valid.{of_response, valid_field, valid_fields, valid_section, valid_informational, valid_heads, is_scheme, valid_control, valid_body, valid_stated, valid, suits}
use Rattle.http1_lines.specs.Read.{read_request, read_response}
use Rattle.binary.specs.Read.{read_binary}
use Rattle.binary_writer.specs.Write.{counted, field_bytes, fields_bytes, section_bytes, scheme_bytes, informational_bytes, control_bytes, binary_of, binary_fits, to_binary}
use Rattle.http1_writer.specs.Write.{field_text, section_text, request_line, status_line, host_field, coding_field, length_line, head_lines, informational_text, head_text, http1_of, http1_fits, on_connection, to_http1}
use Rattle.http1_sound.proofs.Sound.{request-sound, response-sound}
use Rattle.binary_sound.proofs.Sound.{binary-sound}
use Rattle.binary_round_trip.proofs.Back.{round-trip-of-meanings}
use Rattle.http1_round_trip.specs.RoundTrip.{is_request_of, RequestOf, ResponseOf}
use Rattle.http1_round_trip.proofs.Back.{request-meanings, response-meanings}
use Rattle.demands.specs.Accepting.{BinaryOf, WrittenAndRead, anything, nothing, post, figure13, no_content, Accepting}

no : {A : Type 0} → ◌≡◌ {A = ℕ} 0 1 → A
no z = absurd (omega arith)

-- ---- the meanings

unfoldable computing : Unit {0}
unfolding is_token is_value is_path is_authority class_of has_class is_blank span_len all lower_of is_lower same_text trim_back is_empty push int_len tag_of int_bytes char_of more_of count_of digits is_yes is_unsupported method_verdict path_verdict is_host status_verdict is_informational is_bodyless ends_at_head is_lower_name is_trimmed_value is_hop_by_hop kind_of length_field valid_field valid_fields valid_section valid_informational valid_heads is_scheme valid_control valid_body valid_stated valid suits counted field_bytes fields_bytes section_bytes scheme_bytes informational_bytes control_bytes binary_of binary_fits field_text section_text request_line status_line host_field coding_field length_line head_lines informational_text head_text http1_fits
computing = tt

a-request : (t : Told) (n : ℕ) → t.scheme ≡ n → is_scheme n ≡ true → RequestOf t (post n) × BinaryOf t (post n)
unfolding computing
a-request t zero e h = ((refl, refl, rw e refl), (refl, refl, refl))
a-request t (suc zero) e h = ((refl, refl, rw e refl), (refl, refl, refl))
a-request t (suc (suc n)) e h = absurd (omega (arith, ltb-true (suc (suc n)) 2 h))

a-response : (t : Told) → ResponseOf (answering 0 t) figure13 × BinaryOf (answering 0 t) figure13
unfolding computing
a-response t = ((refl, refl, refl, refl), (refl, refl, refl))

an-empty-response : (t : Told) → ResponseOf t no_content × BinaryOf t no_content
unfolding computing
an-empty-response t = ((refl, refl, refl, refl), (refl, refl, refl))

-- ---- written and read

on-connection : (t : Told) (c : Control) → is_request_of t c ≡ true → on_connection t c ≡ true
on-connection t (request m s a p) h = h
on-connection t (response hs s) h = refl

of-response : (t : Told) (c : Control) → of_response c ≡ true → on_connection t c ≡ true
of-response t (request m s a p) h = no cc
of-response t (response hs s) h = refl

binary-back : (t : Told) (m : Meaning) → BinaryOf t m → WrittenAndRead to_binary (read_binary (in_edition 0 t)) nothing m
unfolding to_binary
binary-back t m h =
    record {
      text = binary_of m;
      written = rw h.1 refl;
      back = λ rest. rw (append-nil (binary_of m)) (round-trip-of-meanings t m h.0 h.2 h.1);
    }

request-back : (t : Told) (m : Meaning) → RequestOf t m → WrittenAndRead (to_http1 t) (read_request t) anything m
unfolding to_http1
request-back t m h = record { text = http1_of t m; written = rw (on-connection t m.control h.2, h.1) refl; back = request-meanings t m h }

response-back : (t : Told) (m : Meaning) → ResponseOf t m → WrittenAndRead (to_http1 t) (read_response t) anything m
unfolding to_http1
response-back t m h = record { text = http1_of t m; written = rw (of-response t m.control h.2, h.1) refl; back = response-meanings t m h }

pub accepting : Accepting
accepting = record {
  requests = λ t s n m e. let h = request-sound t s n m e in (h.sound.valid, h.suits);
  responses = λ t s n m e. let h = response-sound t s n m e in (h.sound.valid, h.suits);
  binaries = λ t s n m e. let h = binary-sound t s n m e in (h.sound.valid, h.suits);
  binaries_back = binary-back;
  requests_back = request-back;
  responses_back = response-back;
  a_request = λ t h. a-request t t.scheme refl h;
  a_response = a-response;
  an_empty_response = an-empty-response;
}
