-- How long a message is in Binary, by its numbers alone (no octet of its source is looked at): the length of `binary_of` (Write; 01, "How we write", "Sizes").
use Rattle.std.specs.Prelude.{ℕ, zero, suc, ◌+◌, ◌*◌, Bool, true, false, cond, List, eqb, get_or, Option, Some, None}
use Rattle.numbers.specs.Digits.{count_of}
use Rattle.numbers.specs.Integer.{int_len}
use Rattle.messages.specs.declared.Part.{Part}
use Rattle.messages.specs.declared.Record.{Record}
use Rattle.ranges.specs.Entries.{fields_before, path_size}

-- so many octets with their count in front
abbrev pub counted_size : ℕ → ℕ
counted_size n = int_len n + n

-- the field of the entry k
abbrev pub entry_size : List ℕ → ℕ → ℕ
entry_size ranges k = counted_size (get_or ranges (k * 4 + 1) 0) + counted_size (get_or ranges (k * 4 + 3) 0)

-- the fields of n entries from the entry k on
unfoldable pub fields_size : List ℕ → ℕ → ℕ → ℕ
fields_size ranges k zero = 0
fields_size ranges k (suc n) = entry_size ranges k + fields_size ranges (k + 1) n

-- a section of them
abbrev pub section_size : List ℕ → ℕ → ℕ → ℕ
section_size ranges k n = counted_size (fields_size ranges k n)

-- the field of a stated length: `content-length` with its count, and as many digits as there are, with theirs
abbrev pub stated_size : Option ℕ → ℕ
stated_size None = 0
stated_size (Some n) = 15 + counted_size (count_of 10 n)

-- a final header section: the field of a stated length, then the fields of n entries from the entry k on
abbrev pub header_size : Option ℕ → List ℕ → ℕ → ℕ → ℕ
header_size stated ranges k n = counted_size (stated_size stated + fields_size ranges k n)

-- the informational head i: its status, then its section
abbrev pub head_size : List ℕ → List ℕ → ℕ → ℕ
head_size hs ns i = int_len (get_or ns (i * 2) 0) + section_size hs (fields_before ns i) (get_or ns (i * 2 + 1) 0)

-- n heads from the head i on
unfoldable pub heads_size : List ℕ → List ℕ → ℕ → ℕ → ℕ
heads_size hs ns i zero = 0
heads_size hs ns i (suc n) = head_size hs ns i + heads_size hs ns (i + 1) n

-- a scheme's name
unfoldable pub scheme_size : ℕ → ℕ
scheme_size s = cond (eqb s 0) 5 6

-- framing indicator and control data of a response with n informational heads
abbrev pub response_size : List ℕ → List ℕ → ℕ → ℕ → ℕ
response_size hs ns n status = 1 + heads_size hs ns 0 n + int_len status

-- the same of a request, by its method, scheme and authority, and a path of so many octets
abbrev pub request_size : Part → ℕ → Part → ℕ → ℕ
request_size m scheme a p = 1 + counted_size m.len + scheme_size scheme + counted_size a.len + counted_size p

-- framing indicator and control data of a response, or of a request
unfoldable pub control_size : Bool → Record → List ℕ → List ℕ → ℕ
control_size true r hs ns = response_size hs ns r.informational r.status
control_size false r hs ns = request_size r.method r.scheme r.authority (path_size r.prefix r.path)

-- a whole message
unfoldable pub message_size : Record → List ℕ → List ℕ → List ℕ → ℕ
message_size r hs ns ts =
    control_size r.response r hs ns + header_size r.stated hs (fields_before ns r.informational) r.headers
    + counted_size r.content + section_size ts 0 r.trailers

-- bounds, so that no sum passes 2 ^ 62. The count in front of a part
abbrev pub count_most : ℕ
count_most = 8

-- a scheme's name
abbrev pub scheme_most : ℕ
scheme_most = 6

-- a field: two lengths of 32 bits, each with its count
abbrev pub entry_most : ℕ
entry_most = 8589934606

-- 64 fields
abbrev pub fields_most : ℕ
fields_most = 549755814784

-- a section of them: count and fields
abbrev pub section_most : ℕ
section_most = 549755814792

-- the field of a stated length: a name of 14 octets with its count, at most 20 digits with theirs
abbrev pub stated_field_most : ℕ
stated_field_most = 43

-- a final header section: count, that field, 64 fields
abbrev pub header_most : ℕ
header_most = 549755814835

-- an informational head: status and section
abbrev pub head_most : ℕ
head_most = 549755814800

-- four of them
abbrev pub heads_most : ℕ
heads_most = 2199023259200

-- framing indicator and control data
abbrev pub control_most : ℕ
control_most = 2199023259209

-- one length of 32 bits, with its count
abbrev pub part_most : ℕ
part_most = 4294967303
