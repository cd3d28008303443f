-- What came through the radio (02, item 12): "from arbitrary bytes it copies the longest front of whole entries that the bundle reader accepts to lent room,
-- and gives entries and bytes kept, bytes left off, and the refusal that stopped it (0 if none)". All of it is read off `walk`: its end is the end of that front.
use Rattle.std.specs.Prelude.{ℕ, ◌-◌, List, length, take}
use Rattle.output.specs.Reply.{Reply, writes}
use Rattle.bundle.specs.Bundle.{Walk, walk}

-- how many entries are kept; the octets kept; how many octets are left off; the number that stopped it, 0 only for an accepted bundle
pub record Salvage : Type 0 where
  pub entries : ℕ
  pub octets : List ℕ
  pub left : ℕ
  pub stop : ℕ

-- by the walk w over the octets s
abbrev pub salvage_by : Walk → List ℕ → Salvage
salvage_by w s = record { entries = length w.entries; octets = take w.end s; left = length s - w.end; stop = w.stop }

-- of whatever octets
unfoldable pub salvage_of : List ℕ → Salvage
salvage_of s = salvage_by (walk s) s

-- what is written: the octets kept, whatever stopped it; "13 at 0 if the room is smaller than what is kept; nothing is then written" (output/Reply)
abbrev pub salvage_reply : List ℕ → Reply
salvage_reply s = writes (salvage_of s).octets
