-- The night's bundle (02, item 1): entries one behind the other, each a head of 32 bits and behind it a Binary message as 01 writes it. One walk over the
-- octets answers the entries, the place where it ends and the number that stopped it; the reader and a flock's list are read off it.
use Rattle.std.specs.Prelude.{ℕ, zero, suc, ◌+◌, ◌*◌, ◌/◌, ◌%◌, Bool, true, false, cond, List, [], ◌∷◌, ◌++◌, leb, ltb, eqb, length, get_or, take, drop}
use Rattle.octets.specs.Limits.{binary_most, entries_most, flocks_most}
use Rattle.octets.specs.Refusals.{more_needed, too_large, cut_off, bad_entry}
use Rattle.octets.specs.Text.{is_empty, same_text}
use Rattle.numbers.specs.Places.{push}
use Rattle.numbers.specs.Integer.{plain}
use Rattle.script.specs.Script.{Answer, accepted, refused, more}
use Rattle.messages.specs.Message.{is_response, Message}
use Rattle.messages.specs.Meaning.{meaning}
use Rattle.messages.specs.Told.{plain as told_plain}
use Rattle.binary.specs.Read.{read_binary}
use Rattle.binary_writer.specs.Write.{to_binary}
use Rattle.output.specs.Reply.{Reply, writes, refuses}
use Rattle.bundle.specs.declared.Next.{Next}
use Rattle.bundle.specs.declared.Next.TheVariants as next

-- ---- the head: a number of 32 bits ("most significant field first")

-- the number that the first four octets show, most significant first
unfoldable pub word_of : List ℕ → ℕ
word_of h = ((get_or h 0 0 * 256 + get_or h 1 0) * 256 + get_or h 2 0) * 256 + get_or h 3 0

-- what one flock, the mark of delivery and one kind count; lengths are below one kind
abbrev pub flock_unit : ℕ
flock_unit = 33554432

abbrev pub delivered_unit : ℕ
delivered_unit = 16777216

abbrev pub kind_unit : ℕ
kind_unit = 4194304

-- "7 bits flock"
abbrev pub flock_of : ℕ → ℕ
flock_of w = w / flock_unit

-- "1 bit delivered"
abbrev pub delivered_of : ℕ → ℕ
delivered_of w = w / delivered_unit % 2

-- "2 bits kind (0 request, 1 response)"
abbrev pub kind_of : ℕ → ℕ
kind_of w = w / kind_unit % 4

-- "22 bits length of the message"
abbrev pub length_of : ℕ → ℕ
length_of w = w % kind_unit

-- the head of these parts
abbrev pub head_of : ℕ → ℕ → ℕ → ℕ → ℕ
head_of flock delivered kind n = flock * flock_unit + delivered * delivered_unit + kind * kind_unit + n

-- a head as four octets
unfoldable pub head_octets : ℕ → List ℕ
head_octets w = push plain 256 4 w []

-- "flock (1 to 127)"
abbrev pub is_flock : ℕ → Bool
is_flock f = cond (leb 1 f) (leb f flocks_most) false

-- ---- an entry

-- the four octets of its head, and those of its message
pub record Entry : Type 0 where
  pub head : List ℕ
  pub text : List ℕ

-- its octets
abbrev pub entry_octets : Entry → List ℕ
entry_octets e = e.head ++ e.text

-- entries one behind the other
unfoldable pub entries_octets : List Entry → List ℕ
entries_octets [] = []
entries_octets (e ∷ es) = entry_octets e ++ entries_octets es

-- ---- its message

-- how the message of an entry is read: as any Binary message, without the remark that it answers a HEAD (02, item 5)
abbrev pub read_message : List ℕ → Answer Message
read_message w = read_binary (told_plain 0) w

-- the kind of a message: 0 a request, 1 a response
abbrev pub kind_number : Bool → ℕ
kind_number false = 0
kind_number true = 1

-- the octets w are those that a writer writes
abbrev pub is_written : Reply → List ℕ → Bool
is_written (writes bs) w = same_text bs w
is_written (refuses number place) w = false

-- "Message": the number of its octets w under a head of this kind: "the message's own numbers", then 15 "for its kind or form"; 0 is a good one. It is in form
-- when its octets are what the Binary writer writes for its meaning
abbrev pub verdict_on : ℕ → List ℕ → Answer Message → ℕ
verdict_on kind w (accepted n m) = cond (eqb kind (kind_number (is_response m.start))) (cond (is_written (to_binary (meaning m)) w) 0 bad_entry) bad_entry
verdict_on kind w (refused number place) = number
verdict_on kind w more = more_needed

-- the same of the octets alone
unfoldable pub message_verdict : ℕ → List ℕ → ℕ
message_verdict kind w = verdict_on kind w (read_message w)

-- ---- what stands at the front of the octets s, where `left` entries more may come

-- an entry with the head w whose message has this verdict
abbrev pub judged : ℕ → ℕ → Next
judged w verdict = cond (eqb verdict 0) (next.Entry w) (next.Stop verdict)

-- the octets of the message behind the head w at the front of s
abbrev pub text_of : List ℕ → ℕ → List ℕ
text_of s w = take (length_of w) (drop 4 s)

-- behind a whole head w: "flock and kind, length, cut message, message"
unfoldable pub headed : List ℕ → ℕ → Next
headed s w =
    cond (is_flock (flock_of w))
    (cond (ltb (kind_of w) 2)
    (cond (leb (length_of w) binary_most)
    (cond (leb (4 + length_of w) (length s)) (judged w (message_verdict (kind_of w) (text_of s w))) (next.Stop cut_off))
    (next.Stop too_large))
    (next.Stop bad_entry))
    (next.Stop bad_entry)

-- "Order: cut head, count, .."
unfoldable pub next_at : ℕ → List ℕ → Next
next_at left s =
    cond (is_empty s) next.End (cond (ltb (length s) 4) (next.Stop cut_off) (cond (eqb left 0) (next.Stop too_large) (headed s (word_of s))))

-- ---- the walk

-- the entries; the place behind the last of them, at which a refusal is placed ("all placed at the entry"); the number that stopped the walk, 0 at the end of
-- the octets
pub record Walk : Type 0 where
  pub entries : List Entry
  pub end : ℕ
  pub stop : ℕ

-- nothing more, by this number
abbrev pub ends_at : ℕ → ℕ → Walk
ends_at at number = record { entries = []; end = at; stop = number }

-- an entry before others
abbrev pub follows : Entry → Walk → Walk
follows e w = record { entries = e ∷ w.entries; end = w.end; stop = w.stop }

-- the entry with the head w at the front of s
abbrev pub entry_at : List ℕ → ℕ → Entry
entry_at s w = record { head = take 4 s; text = text_of s w }

-- what stands at the front of s, which is at the place `at`, and the walk behind it
abbrev pub onward : Next → ℕ → List ℕ → (ℕ → List ℕ → Walk) → Walk
onward (next.Entry w) at s rest = follows (entry_at s w) (rest (at + (4 + length_of w)) (drop (4 + length_of w) s))
onward next.End at s rest = ends_at at 0
onward (next.Stop number) at s rest = ends_at at number

-- from the place `at` on, where `left` entries more may come. With none left an entry never stands there (next_at)
unfoldable pub walk_from : ℕ → ℕ → List ℕ → Walk
walk_from zero at s = onward (next_at zero s) at s (λ a r. ends_at a too_large)
walk_from (suc left) at s = onward (next_at (suc left) s) at s (walk_from left)

-- over a whole bundle: it is accepted where the stop is 0
unfoldable pub walk : List ℕ → Walk
walk s = walk_from entries_most 0 s

-- ---- the list of one flock

-- an entry before others, if the test passes
abbrev pub pick_if : Bool → Entry → List Entry → List Entry
pick_if true e es = e ∷ es
pick_if false e es = es

-- the entry is the flock's
abbrev pub is_of : ℕ → Entry → Bool
is_of f e = eqb (flock_of (word_of e.head)) f

-- the flock's entries, in order
unfoldable pub of_flock : ℕ → List Entry → List Entry
of_flock f [] = []
of_flock f (e ∷ es) = pick_if (is_of f e) e (of_flock f es)

-- "the copied bytes of one flock's entries"
abbrev pub list_octets : ℕ → Walk → List ℕ
list_octets f w = entries_octets (of_flock f w.entries)

-- the reply to a list: the bundle's own numbers at their place, then 15 at 0 for no flock; a short room is 13 at 0, last (output/Reply)
abbrev pub list_from : ℕ → Walk → Reply
list_from f w = cond (eqb w.stop 0) (cond (is_flock f) (writes (list_octets f w)) (refuses bad_entry 0)) (refuses w.stop w.end)

-- of a bundle
unfoldable pub flock_list : ℕ → List ℕ → Reply
flock_list f s = list_from f (walk s)
