-- The claims are not empty: meanings that they speak of, and that a reader told so can take.
use mathlib.Core.Path.{◌≡◌, refl}
use mathlib.Core.Bool.{true}
use Rattle.numbers.specs.Places.{push}
use Rattle.numbers.specs.Integer.{int_len, tag_of, int_bytes}
use Rattle.numbers.specs.Digits.{char_of, more_of, count_of, digits}
use Rattle.octets.specs.Text.{is_empty}
use Rattle.messages.specs.Control.{is_bodyless, ends_at_head}
use Rattle.messages.specs.Told.{is_yes, plain, answering}
use Rattle.messages.specs.declared.Told.{Told}
use Rattle.messages.specs.Meaning.{Meaning, length_field}
use Rattle.messages.specs.Valid.{valid_body, valid, suits}
use Rattle.messages.proofs.Samples.{post, reply, head_reply, unchanged, post-valid, reply-valid, head-valid, unchanged-valid}
use Rattle.binary_writer.specs.Write.{counted, field_bytes, fields_bytes, section_bytes, scheme_bytes, informational_bytes, control_bytes, binary_of, binary_fits}

unfoldable computing : Unit {0}
unfolding is_empty is_yes is_bodyless ends_at_head valid_body suits char_of more_of count_of digits length_field push int_len tag_of int_bytes counted field_bytes fields_bytes section_bytes scheme_bytes informational_bytes control_bytes binary_of binary_fits
computing = tt

abbrev SpokenOf : Told → Meaning → Type 0
SpokenOf t m = (valid m ≡ true) × (suits t m ≡ true) × (binary_fits m ≡ true)

pub post-fits : SpokenOf (plain 1) post
unfolding computing
post-fits = (post-valid, refl, refl)

pub reply-fits : SpokenOf (plain 0) reply
unfolding computing
reply-fits = (reply-valid, refl, refl)

-- a HEAD's reply, to a reader that is told so
pub head-fits : SpokenOf (answering 1 (plain 0)) head_reply
unfolding computing
head-fits = (head-valid, refl, refl)

-- 304, whatever is told of it
pub unchanged-fits : SpokenOf (plain 0) unchanged
unfolding computing
unchanged-fits = (unchanged-valid, refl, refl)
