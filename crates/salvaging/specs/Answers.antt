-- What the code of salvage promises, in terms of `salvage_of` (bundle/Salvage; 02, item 12).
use Rattle.std.specs.Prelude.{ℕ, ◌≡◌, cond, List, leb, length}
use Rattle.octets.specs.Refusals.{no_room}
use Rattle.output.specs.Reply.{lent_after}
use Rattle.bundle.specs.Salvage.{Salvage, salvage_of, salvage_reply}
use Rattle.salvaging.specs.declared.Front.{Front}
use Rattle.salvaging.specs.declared.Salvaged.{Salvaged}

-- by value: the octets kept by their number
abbrev pub front_of : Salvage → Front
front_of v = record { entries = v.entries; kept = length v.octets; left = v.left; stop = v.stop }

-- "entries and bytes kept, bytes left off, and the refusal that stopped it"
abbrev pub keeps : Salvage → Salvaged
keeps v = record { number = 0; place = 0; entries = v.entries; kept = length v.octets; left = v.left; stop = v.stop }

-- a refusal keeps nothing
abbrev pub keeps_nothing : ℕ → ℕ → Salvaged
keeps_nothing number place = record { number = number; place = place; entries = 0; kept = 0; left = 0; stop = 0 }

-- the answer where there is room for so many octets: "13 at 0 if the room is smaller than what is kept"
unfoldable pub salvaged_of : Salvage → ℕ → Salvaged
salvaged_of v room = cond (leb (length v.octets) room) (keeps v) (keeps_nothing no_room 0)

-- a salvage of the octets s that was lent o leaves o' and answers r
pub record Salvages (s o o' : List ℕ) (r : Salvaged) : Type 0 where
  pub answer : r ≡ salvaged_of (salvage_of s) (length o)
  pub after : o' ≡ lent_after (salvage_reply s) o
