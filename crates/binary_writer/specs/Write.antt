-- A meaning as Binary HTTP (01, "How we write": known length, shortest integers, all three sections, no padding), and whether it may be written ("Sizes";
-- 8 at 0: "Numbers a call answers with"; 02, item 5).
use Rattle.std.specs.Prelude.{ℕ, Bool, cond, List, [], ◌∷◌, ◌++◌, leb, eqb, length}
use Rattle.octets.specs.Ascii.{ascii}
use Rattle.octets.specs.Limits.{binary_most}
use Rattle.octets.specs.Refusals.{too_large}
use Rattle.numbers.specs.Integer.{int_bytes}
use Rattle.messages.specs.Meaning.{Field, Informational, Control, request, response, Meaning, stated_fields}
use Rattle.output.specs.Reply.{Reply, writes, refuses}

-- a length and what it counts
unfoldable pub counted : List ℕ → List ℕ
counted w = int_bytes (length w) ++ w

-- a field line: its name, then its value
unfoldable pub field_bytes : Field → List ℕ
field_bytes f = counted f.name ++ counted f.value

-- field lines, one behind the other
unfoldable pub fields_bytes : List Field → List ℕ
fields_bytes [] = []
fields_bytes (f ∷ fs) = field_bytes f ++ fields_bytes fs

-- a section of known length
unfoldable pub section_bytes : List Field → List ℕ
section_bytes fs = counted (fields_bytes fs)

-- a scheme by its name
unfoldable pub scheme_bytes : ℕ → List ℕ
scheme_bytes s = cond (eqb s 0) (ascii "http") (ascii "https")

-- informational heads: each its status, then its section
unfoldable pub informational_bytes : List Informational → List ℕ
informational_bytes [] = []
informational_bytes (h ∷ hs) = (int_bytes h.status ++ section_bytes h.fields) ++ informational_bytes hs

-- framing and control data
unfoldable pub control_bytes : Control → List ℕ
control_bytes (request m s a p) = int_bytes 0 ++ counted m ++ counted (scheme_bytes s) ++ counted a ++ counted p
control_bytes (response hs s) = int_bytes 1 ++ informational_bytes hs ++ int_bytes s

-- a whole message; a stated length goes first in its header
unfoldable pub binary_of : Meaning → List ℕ
binary_of m = control_bytes m.control ++ section_bytes (stated_fields m.stated ++ m.headers) ++ counted m.content ++ section_bytes m.trailers

-- whether what is written is within the size of a Binary input
unfoldable pub binary_fits : Meaning → Bool
binary_fits m = leb (length (binary_of m)) binary_most

-- a meaning as Binary, or 8 at 0 where that is above the size of a Binary input
unfoldable pub to_binary : Meaning → Reply
to_binary m = cond (binary_fits m) (writes (binary_of m)) (refuses too_large 0)
