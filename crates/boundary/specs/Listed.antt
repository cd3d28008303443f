-- The listing program prints every listing (01, "Examples": the listing program): its buffer is always large enough.
use Rattle.std.specs.Prelude.{ℕ, ◌≤◌, ◌≡◌, List, length}
use Rattle.output.specs.Reply.{writes, written_of}
use Rattle.listing.specs.Listing.{listing_of}
use Rattle.lister.specs.Printed.{printed_of}
use Rattle.lister.specs.Printed as printed

-- the octets of the program's buffer (lister: `out`)
abbrev pub buffer_size : ℕ
buffer_size = printed.buffer_size

-- of whatever input: an accepted request is of 16 octets at least, and a row of 30 at most
abbrev pub ListingFits : Type 0
ListingFits = (s : List ℕ) → length (listing_of s) ≤ buffer_size

-- so all of it is printed (lister's `fill` promises `printed_of` of a buffer of so many octets)
abbrev pub PrintsAll : Type 0
PrintsAll = (s : List ℕ) → printed_of (written_of (writes (listing_of s)) buffer_size) ≡ length (listing_of s)
