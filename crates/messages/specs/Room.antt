-- Room for the ranges of a message, which the readers are lent: how many numbers each list of ranges takes at most (01, "Sizes": lines, chunks, and up to 4
-- informational heads).
use Rattle.std.specs.Prelude.{ℕ, ◌+◌, ◌*◌}
use Rattle.octets.specs.Limits.{lines_most, chunks_most, informational_most}

-- the fields of one section: four numbers each
abbrev pub section_room : ℕ
section_room = lines_most * 4

-- the fields of all heads of a response
abbrev pub heads_room : ℕ
heads_room = (informational_most + 1) * section_room

-- the informational heads: two numbers each
abbrev pub informational_room : ℕ
informational_room = informational_most * 2

-- the chunks: two numbers each
abbrev pub chunks_room : ℕ
chunks_room = chunks_most * 2
