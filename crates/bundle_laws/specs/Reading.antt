-- What an accepted bundle is (02, item 1): good entries one behind the other, at most 256; and every such octets are an accepted bundle.
use Rattle.std.specs.Prelude.{ℕ, ◌+◌, ◌≤◌, ◌≡◌, true, List, [], ◌++◌, length}
use Rattle.octets.specs.Limits.{binary_most, entries_most}
use Rattle.script.specs.Script.{accepted}
use Rattle.messages.specs.Message.{is_response, Message}
use Rattle.messages.specs.Meaning.{meaning}
use Rattle.sound.specs.Placed.{Each}
use Rattle.binary_writer.specs.Write.{binary_of}
use Rattle.bundle.specs.Bundle.{word_of, flock_of, kind_of, length_of, is_flock, Entry, entries_octets, read_message, kind_number, Walk, walk_from, walk}

-- a good entry: a head of four octets that names a flock, the message's kind and its length; a message that is read to its last octet and in form: its octets
-- are what the Binary writer writes for its meaning
pub record InForm (e : Entry) : Type 0 where
  pub head : length e.head ≡ 4
  pub flock : is_flock (flock_of (word_of e.head)) ≡ true
  pub size : length e.text ≡ length_of (word_of e.head)
  pub small : length e.text ≤ binary_most
  pub message : Message
  pub read : read_message e.text ≡ accepted (length e.text) message
  pub kind : kind_of (word_of e.head) ≡ kind_number (is_response message.start)
  pub form : e.text ≡ binary_of (meaning message)

-- the octets s are an accepted bundle of these entries: the walk stops at their end, by nothing
abbrev pub IsBundle : List ℕ → List Entry → Type 0
IsBundle s es = walk s ≡ record { entries = es; end = length s; stop = 0 }

-- what a walk from the place `at` over s takes off: the octets of good entries, then whatever is left; nothing is, where it stops by 0
pub record Fronted (w : Walk) (at : ℕ) (s : List ℕ) : Type 0 where
  pub rest : List ℕ
  pub split : s ≡ entries_octets w.entries ++ rest
  pub place : w.end ≡ at + length (entries_octets w.entries)
  pub good : Each InForm w.entries
  pub ended : w.stop ≡ 0 → rest ≡ []

-- the claims on the reader
pub record Reading : Type 0 where
  -- any octets, accepted or not: what the walk took off is the front of whole good entries, at most 256
  pub front : (s : List ℕ) → Fronted (walk s) 0 s
  pub few : (s : List ℕ) → length (walk s).entries ≤ entries_most
  -- an accepted bundle IS the octets of its entries
  pub octets : (s : List ℕ) → (walk s).stop ≡ 0 → (s ≡ entries_octets (walk s).entries) × IsBundle s (walk s).entries
  -- the octets of at most 256 good entries are an accepted bundle of these entries; so an empty bundle is accepted
  pub back : (es : List Entry) → Each InForm es → length es ≤ entries_most → IsBundle (entries_octets es) es
