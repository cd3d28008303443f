-- What the listing program prints (01, "Examples": the listing program): what the listing wrote, and nothing where it did not fit.
use Rattle.std.specs.Prelude.{ℕ, List, take, Ok, Err}
use Rattle.output.specs.Reply.{writes, written_of, Written}
use Rattle.listing.specs.Listing.{listing_of}

-- how many of the lent octets are printed
abbrev pub printed_of : Written → ℕ
printed_of (Ok n) = n
printed_of (Err e) = 0

-- the octets of the program's buffer
abbrev pub buffer_size : ℕ
buffer_size = 131072

-- what is printed for a stream: its listing, as far as the buffer holds it
abbrev pub printed : List ℕ → List ℕ
printed s = take (printed_of (written_of (writes (listing_of s)) buffer_size)) (listing_of s)
