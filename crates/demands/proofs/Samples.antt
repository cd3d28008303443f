-- Demand 3 is not empty: a list with accepted calls among refused ones, by computation.
use Prim.Native.Nat.{ℕ}
use mathlib.Core.Path.{◌≡◌, refl}
use mathlib.Core.List.{List, [], ◌∷◌, ◌++◌}
use lib.ListN.{replicate}
use Rattle.std.proofs.Common.{None}
use Rattle.octets.specs.Ascii.{ascii}
use Rattle.octets.specs.Refusals.{cut_off, bad_indicator, no_room, other_scheme, bad_edition, refused_at}
use Rattle.octets.specs.Class.{is_token, is_value, is_path, is_authority, class_of, has_class, is_blank}
use Rattle.octets.specs.Text.{span_len, all, lower_of, is_lower, same_text, is_empty}
use Rattle.numbers.specs.Places.{push}
use Rattle.numbers.specs.Integer.{extra_of, int_len, long_of, read_more, read_int}
use Rattle.numbers.specs.Digits.{char_of, more_of, count_of, digits}
use Rattle.messages.specs.declared.Told.{Told}
use Rattle.messages.specs.Told.{plain, is_edition}
use Rattle.messages.specs.Control.{is_unsupported, method_verdict, is_options, asterisk_verdict, path_verdict, authority_verdict, is_host, is_lower_name, is_trimmed_value}
use Rattle.messages.specs.Connection.{is_named}
use Rattle.messages.specs.Names.{is_hop_by_hop, kind_of, line_kind, same_kind, lines_of, end_to_end, connection_values, unnamed, kept, are_trailers, kept_trailers}
use Rattle.messages.specs.Rules.{authority_from, authority_in, framing_from, binary_framing_of, may_state}
use Rattle.messages.specs.Meaning.{request, Meaning, field_means, content_of, meaning, length_field}
use Rattle.messages.specs.Valid.{is_scheme}
use Rattle.binary.specs.Reader.{◌>>=◌, integer, string}
use Rattle.binary.specs.Read.{part, part_within, ruled_part, scheme_of, scheme_part, after_scheme, request_control, known_line, known_lines, body_lines, known_section, section, header_section, known_content, content, content_agrees, content_rule, trailers_agree, trailer_rule, trailers, padding, after_content, after_headers, after_head, after_control, request_message, after_indicator, message, form_of, is_line_value, read_sized, read_binary}
use Rattle.http1_writer.specs.Write.{field_text, section_text, request_line, host_field, length_line, head_lines, head_text, body_text, http1_of, http1_fits, to_http1}
use Rattle.output.specs.Reply.{written_of, lent_after}
use Rattle.turn.specs.Turn.{binary_to_http1}
use Rattle.demands.specs.Demand3.{Call, Space, answer_in, call, entry_in, calls, entries_in, entries_of, NoResponse}
use Rattle.std.proofs.Common.{Ok, Err}

unfoldable computing : Unit {0}
unfolding is_token is_value is_path is_authority class_of has_class is_blank span_len all lower_of is_lower same_text is_empty push extra_of int_len long_of read_more read_int char_of more_of count_of digits is_unsupported method_verdict is_options asterisk_verdict path_verdict authority_verdict is_host is_lower_name is_trimmed_value is_hop_by_hop kind_of line_kind same_kind lines_of is_named end_to_end connection_values unnamed kept are_trailers kept_trailers authority_from authority_in framing_from binary_framing_of may_state field_means content_of meaning is_scheme is_edition ◌>>=◌ integer string part part_within ruled_part scheme_of scheme_part after_scheme request_control known_line known_lines body_lines known_section section header_section known_content content content_agrees content_rule trailers_agree trailer_rule trailers padding after_content after_headers after_head after_control request_message after_indicator message form_of is_line_value read_sized read_binary field_text section_text request_line host_field length_field length_line head_lines head_text body_text http1_of http1_fits to_http1 written_of lent_after binary_to_http1 answer_in call entry_in calls entries_in
computing = tt

abbrev http : Told
http = plain 0

-- P5 of 01, of a scheme that is named
abbrev post_of : List ℕ → List ℕ
post_of scheme = 0 ∷ 4 ∷ ascii "POST" ++ scheme ++ 1 ∷ ascii "a" ++ 2 ∷ ascii "/s" ++ 0 ∷ 3 ∷ ascii "abc" ++ 0 ∷ []

abbrev post : List ℕ
post = post_of (4 ∷ ascii "http")

abbrev post_meaning : Meaning
post_meaning = record { control = request (ascii "POST") 0 (ascii "a") (ascii "/s"); headers = []; content = ascii "abc"; trailers = []; stated = None }

abbrev on : ℕ → List ℕ → Call
on head input = record { head = head; input = input; edition = 0 }

-- the same in an edition
abbrev edited : ℕ → List ℕ → Call
edited edition input = record { head = 0; input = input; edition = edition }

-- in a space of 160 octets: accepted, 9 (nothing comes), 10 (framing 4), 14 (https), accepted, 17 (no edition), accepted, 13 (7 octets are left)
-- The fifth is told that its message answers a HEAD, which means nothing of a request; the seventh is of the draft
abbrev inputs : List Call
inputs =
    on 0 post ∷ on 0 [] ∷ on 0 (4 ∷ []) ∷ on 0 (post_of (5 ∷ ascii "https")) ∷ on 1 post ∷ edited 2 post ∷ edited 1 post ∷ on 0 post ∷ []

abbrev lent : List ℕ
lent = replicate 160 7

pub accepted-three : entries_of http lent inputs ≡ (51, post_meaning) ∷ (51, post_meaning) ∷ (51, post_meaning) ∷ []
unfolding computing
accepted-three = refl

pub no-response : NoResponse http lent inputs
unfolding computing
no-response = (refl, (refl, (refl, tt)))

-- what each call answers, where 51 octets are written, and where 153 are
abbrev after : ℕ → Space
after n = record { whole = lent; written = n }

pub answered : (answer_in http (after 0) (on 0 post) ≡ Ok 51) × (answer_in http (after 51) (on 0 []) ≡ Err (refused_at cut_off 0)) × (answer_in http (after 51) (on 0 (4 ∷ [])) ≡ Err (refused_at bad_indicator 0))
    × (answer_in http (after 51) (on 0 (post_of (5 ∷ ascii "https"))) ≡ Err (refused_at other_scheme 0)) × (answer_in http (after 51) (edited 2 post) ≡ Err (refused_at bad_edition 0)) × (answer_in http (after 153) (on 0 post) ≡ Err (refused_at no_room 0))
unfolding computing
answered = (refl, refl, refl, refl, refl, refl)
