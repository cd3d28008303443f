-- The claims are not empty: meanings that they speak of.
use mathlib.Core.Path.{refl}
use Rattle.octets.specs.Text.{is_empty}
use Rattle.numbers.specs.Places.{push}
use Rattle.numbers.specs.Digits.{char_of, more_of, count_of, digits}
use Rattle.messages.specs.Control.{is_bodyless, ends_at_head}
use Rattle.messages.specs.Told.{is_yes, plain, answering, closing}
use Rattle.messages.specs.Meaning.{length_field}
use Rattle.messages.specs.Valid.{valid_body, suits}
use Rattle.messages.proofs.Samples.{post, reply, head_reply, unchanged, post-valid, reply-valid, head-valid, unchanged-valid}
use Rattle.http1_writer.specs.Write.{field_text, section_text, request_line, status_line, host_field, coding_field, length_line, head_lines, informational_text, head_text, http1_fits}
use Rattle.http1_round_trip.specs.RoundTrip.{RequestOf, ResponseOf}

unfoldable computing : Unit {0}
unfolding is_empty is_yes is_bodyless ends_at_head valid_body suits push char_of more_of count_of digits field_text section_text request_line status_line host_field length_field coding_field length_line head_lines informational_text head_text http1_fits
computing = tt

pub post-fits : RequestOf (plain 1) post
unfolding computing
post-fits = (post-valid, refl, refl)

pub reply-fits : ResponseOf (plain 0) reply
unfolding computing
reply-fits = (reply-valid, refl, refl, refl)

-- the same where the connection has closed
pub closed-fits : ResponseOf (closing 1 (plain 0)) reply
unfolding computing
closed-fits = (reply-valid, refl, refl, refl)

-- a HEAD's reply, told so
pub head-fits : ResponseOf (answering 1 (plain 0)) head_reply
unfolding computing
head-fits = (head-valid, refl, refl, refl)

-- 304, whatever is told of it
pub unchanged-fits : ResponseOf (plain 0) unchanged
unfolding computing
unchanged-fits = (unchanged-valid, refl, refl, refl)
