-- Opens every definition, so that the rows of the examples (01, "Examples"; of bundles: bundle_laws) are proved by computation; no other proof uses it.
use Rattle.octets.specs.Class.{is_token, is_value, is_path, is_authority, class_of, has_class, is_blank}
use Rattle.octets.specs.Text.{span_len, all, is_other, lower_of, is_lower, same_text, trim_back, is_empty}
use Rattle.numbers.specs.Places.{push}
use Rattle.numbers.specs.Integer.{extra_of, long_of, read_more, read_int, int_len, tag_of, int_bytes}
use Rattle.numbers.specs.Digits.{digit_of, char_of, num_from, num_of, more_of, count_of, digits}
use Rattle.script.specs.Script.{cr_state, line_of, cut_by, run, free}
use Rattle.script.specs.Do.{◌>>=◌}
use Rattle.messages.specs.Control.{is_unsupported, method_verdict, is_options, asterisk_verdict, path_verdict, authority_verdict, is_host, status_verdict, is_informational, is_bodyless, ends_at_head, is_lower_name, is_trimmed_value}
use Rattle.messages.specs.Connection.{members, trimmed_end, trimmed, is_member, any_member, is_named}
use Rattle.messages.specs.Names.{is_hop_by_hop, kind_of, line_kind, same_kind, lines_of, end_to_end, connection_values, unnamed, kept, closes, are_trailers, kept_trailers}
use Rattle.messages.specs.Rules.{authority_from, authority_in, host_once, target_authority, framing_from, framing_of, binary_framing_of, request_body, nothing_stated}
use Rattle.messages.specs.Rules.{length_alone, bodyless_rule, unmeasured_body, content_body, response_body, stated_in, may_state}
use Rattle.messages.specs.Told.{is_yes, is_edition}
use Rattle.messages.specs.Meaning.{field_means, informational_means, content_of, meaning, length_field}
use Rattle.messages.specs.Valid.{valid_field, valid_fields, valid_section, valid_informational, valid_heads, is_scheme, valid_control, valid_body, valid_stated, valid, suits}
use Rattle.messages.specs.Answers.{fields_numbers, chunks_numbers, informational_numbers, informational_lines, padded, ranges_of, no_ranges, record_of}
use Rattle.http1_lines.specs.Target.{plain_target, starts_with, scheme_len, is_before_path, prefix_of, absolute_path, absolute_target, target_of}
use Rattle.http1_lines.specs.Lines.{request_parts, request_version, request_target, request_lens, request_of, status_version, is_status_shape, status_lens, status_of, value_from, value_in, name_to, field_lens, field_of, chunk_lens, chunk_of}
use Rattle.http1_lines.specs.Read.{field_lines, section, trailer_section, chunk_data, chunks_from, content, after_head, request, read_request, after_final, heads_then, read_response}
use Rattle.binary.specs.Reader.{◌>>=◌ as bind-binary, integer, string}
use Rattle.binary.specs.Read.{part, part_within, ruled_part, scheme_of, scheme_part, after_scheme, request_control, form_of, is_line_value, judged_line, after_name_length, known_line, known_lines}
use Rattle.binary.specs.Read.{body_lines, known_section, open_lines, section as section-binary, header_section, known_content, open_chunks, content as content-binary, content_agrees, content_rule}
use Rattle.binary.specs.Read.{trailers_agree, trailer_rule, trailers, padding, after_content, after_headers, after_head as after_head-binary, after_control, request_message}
use Rattle.binary.specs.Read.{after_final as after_final-binary, after_final_status, after_informational, after_informational_status, heads as heads-binary}
use Rattle.binary.specs.Read.{after_indicator, message, read_sized, read_binary}
use Rattle.binary_writer.specs.Write.{counted, field_bytes, fields_bytes, section_bytes, scheme_bytes, informational_bytes, control_bytes, binary_of, binary_fits, to_binary}
use Rattle.http1_writer.specs.Write.{field_text, section_text, request_line, status_line, host_field, coding_field, is_get_or_head, is_silent, length_line, head_lines, informational_text, head_text, chunk_text, chunked_text, body_text, http1_of, http1_fits, to_http1}
use Rattle.turn.specs.Turn.{request_to_binary, response_to_binary, binary_to_binary, binary_to_http1}
use Rattle.turn.specs.Question.{first_of, request_question, response_question, binary_question}
use Rattle.stream.specs.Taking.{take_f, take_off, resume, stream, entries, sent}
use Rattle.listing.specs.Listing.{row, end_line, rows, listing_of}

-- names every one that does not open by itself
unfoldable pub computing : Unit {0}
unfolding is_token is_value is_path is_authority class_of has_class is_blank span_len all lower_of is_lower same_text trim_back is_empty push extra_of read_more read_int int_len tag_of int_bytes digit_of char_of num_from num_of more_of count_of digits cr_state line_of cut_by run free ◌>>=◌ is_unsupported method_verdict is_options asterisk_verdict path_verdict authority_verdict is_host status_verdict is_informational is_bodyless ends_at_head is_lower_name is_trimmed_value is_hop_by_hop kind_of line_kind same_kind lines_of members trimmed_end trimmed is_member any_member is_named end_to_end connection_values unnamed kept closes are_trailers kept_trailers authority_from authority_in host_once target_authority framing_from framing_of binary_framing_of request_body nothing_stated length_alone bodyless_rule unmeasured_body content_body response_body stated_in may_state is_yes is_edition field_means informational_means content_of meaning valid_field valid_fields valid_section valid_informational valid_heads is_scheme valid_control valid_body valid_stated valid suits fields_numbers chunks_numbers informational_numbers informational_lines padded ranges_of no_ranges record_of plain_target starts_with scheme_len is_before_path prefix_of absolute_path absolute_target target_of is_other request_parts request_version request_target request_lens request_of status_version is_status_shape status_lens status_of value_from value_in name_to field_lens field_of chunk_lens chunk_of field_lines section trailer_section chunk_data chunks_from content after_head request read_request after_final heads_then read_response bind-binary integer string part part_within ruled_part scheme_of scheme_part after_scheme request_control form_of is_line_value judged_line after_name_length known_line known_lines body_lines known_section open_lines section-binary header_section known_content open_chunks content-binary content_agrees content_rule trailers_agree trailer_rule trailers padding after_content after_headers after_head-binary after_control request_message after_final-binary after_final_status after_informational after_informational_status heads-binary after_indicator message read_sized read_binary counted field_bytes fields_bytes section_bytes scheme_bytes informational_bytes control_bytes binary_of binary_fits field_text section_text request_line status_line host_field length_field coding_field is_get_or_head is_silent length_line head_lines informational_text head_text chunk_text chunked_text body_text http1_of http1_fits to_binary to_http1 request_to_binary response_to_binary binary_to_binary binary_to_http1 first_of request_question response_question binary_question take_f take_off resume stream entries sent row end_line rows listing_of long_of
computing = tt
