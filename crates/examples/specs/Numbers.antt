-- 01's numbers, as 01 prints them: every size ("Sizes"; the informational heads: "The two forms and the meaning between them"; the listing's input:
-- "Examples") and every refusal number ("Numbers a call answers with"). One statement, by computation.
use Rattle.std.specs.Prelude.{◌≡◌}
use Rattle.octets.specs.Limits.{method_most, authority_most, path_most, head_most, trailer_most, chunk_line_most, lines_most, chunks_most, content_most, binary_most}
use Rattle.octets.specs.Limits.{informational_most, listing_most}
use Rattle.octets.specs.Refusals.{more_needed, bad_syntax, bad_version, not_supported, bad_status, bad_host, bad_length, too_large, cut_off, bad_indicator, bad_section}
use Rattle.octets.specs.Refusals.{bad_padding, no_room, other_scheme}

-- the sizes
pub record Sizes : Type 0 where
  pub method : method_most ≡ 32
  pub authority : authority_most ≡ 255
  pub path : path_most ≡ 4096
  pub heads : head_most ≡ 8192
  pub trailers : trailer_most ≡ 2048
  pub chunk_line : chunk_line_most ≡ 256
  pub lines : lines_most ≡ 64
  pub chunks : chunks_most ≡ 256
  pub content : content_most ≡ 32768
  pub binary : binary_most ≡ 65535
  pub informational : informational_most ≡ 4
  pub listing : listing_most ≡ 65536

-- the numbers of refusals, and of a call for more
pub record Refusals : Type 0 where
  pub more : more_needed ≡ 1
  pub line : bad_syntax ≡ 2
  pub version : bad_version ≡ 3
  pub supported : not_supported ≡ 4
  pub status : bad_status ≡ 5
  pub host : bad_host ≡ 6
  pub lengths : bad_length ≡ 7
  pub size : too_large ≡ 8
  pub cut : cut_off ≡ 9
  pub indicator : bad_indicator ≡ 10
  pub section : bad_section ≡ 11
  pub padding : bad_padding ≡ 12
  pub room : no_room ≡ 13
  pub scheme : other_scheme ≡ 14

-- the statement
pub record Statement : Type 0 where
  pub sizes : Sizes
  pub refusals : Refusals
