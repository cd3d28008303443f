-- Content, chunks and trailers, as the code makes them (02, item 13). Of content no octet is kept.
use Rattle.std.specs.Prelude.{ℕ, ◌+◌, ◌-◌, ◌≡◌, Bool, true, false, cond, List, [], ◌∷◌, map, leb, ltb, eqb, length, take, drop, None, Option, Some}
use Rattle.octets.specs.Text.{lower_of}
use Rattle.octets.specs.Limits.{trailer_most, chunk_line_most, lines_most, chunks_most, content_most}
use Rattle.octets.specs.Refusals.{bad_syntax, bad_length, too_large}
use Rattle.messages.specs.Names.{kind_of, is_end_to_end}
use Rattle.messages.specs.Notes.{no_notes, note_of}
use Rattle.messages.specs.declared.Kind.{Kind}
use Rattle.messages.specs.declared.Notes.{Notes}
use Rattle.http1_lines.specs.Lines.{field_lens, chunk_lens}
use Rattle.http1_lines.specs.declared.FieldLine.{FieldLine}
use Rattle.step_lines.specs.Stepping.{line_text, fresh, one_more, next_present}
use Rattle.step_lines.specs.declared.Present.{Present}
use Rattle.steps.specs.States.{refuse, finish, reading, in_section, with_tally, begins}
use Rattle.steps.specs.declared.Tally.{Tally}
use Rattle.steps.specs.declared.Phase.{Phase}
use Rattle.steps.specs.declared.Phase.TheVariants as phase
use Rattle.steps.specs.declared.State.{State}

-- ---- content of a stated length

-- with so many octets of content
abbrev pub content_tally : Tally → ℕ → Tally
content_tally t n = record { headers = t.headers; chunks = t.chunks; content = n; size = t.size; trailers = t.trailers }

-- an octet of it: the last ends the message
unfoldable pub content_octet : State → State
content_octet st =
    cond (eqb (st.present.have + 1) st.present.left)
    (finish st (st.present.at + st.present.left) (content_tally st.tally st.present.left))
    (reading st st.phase (one_more st.present st.present.cr))

-- ---- chunks

-- before the data of a chunk of n octets, and behind it
abbrev pub size_tally : Tally → ℕ → Tally
size_tally t n = record { headers = t.headers; chunks = t.chunks; content = t.content; size = n; trailers = t.trailers }

abbrev pub chunk_tally : Tally → Tally
chunk_tally t = record { headers = t.headers; chunks = t.chunks + 1; content = t.content + t.size; size = t.size; trailers = t.trailers }

-- behind a chunk line that states n octets: the trailers, the chunk, or a chunk or a content too large
unfoldable pub chunk_sized : State → ℕ → State
chunk_sized st n =
    cond (eqb n 0)
    (in_section st phase.TrailerLine (fresh (st.present.at + (st.present.have + 1)) trailer_most st.control.end) 0 no_notes)
    (cond (leb chunks_most st.tally.chunks)
    (refuse st too_large st.present.at)
    (cond (ltb content_most (st.tally.content + n))
    (refuse st too_large st.present.at)
    (reading (with_tally st (size_tally st.tally n)) phase.Chunk (fresh (st.present.at + (st.present.have + 1)) (n + 2) st.control.end))))

abbrev pub on_chunk : State → Option ℕ → State
on_chunk st (Some n) = chunk_sized st n
on_chunk st None = refuse st bad_syntax st.present.at

-- behind a chunk line
unfoldable pub chunk_in : State → List ℕ → State
chunk_in st w = on_chunk st (chunk_lens w)

-- what is known with an octet b more of whether CR stands behind the data: 1 that it does
unfoldable pub data_cr : State → ℕ → ℕ
data_cr st b = cond (eqb st.present.have st.tally.size) (cond (eqb b 13) 1 0) st.present.cr

-- the last octet of a chunk with its CR LF
unfoldable pub chunk_end : State → ℕ → State
chunk_end st b =
    cond (eqb st.present.cr 1)
    (cond (eqb b 10)
    (reading (with_tally st (chunk_tally st.tally)) phase.ChunkLine (fresh (st.present.at + st.present.left) chunk_line_most st.control.end))
    (refuse st bad_syntax (st.present.at + st.tally.size)))
    (refuse st bad_syntax (st.present.at + st.tally.size))

-- an octet of a chunk
unfoldable pub chunk_octet : State → ℕ → State
chunk_octet st b =
    cond (eqb (st.present.have + 1) st.present.left)
    (chunk_end st b)
    (reading st st.phase (one_more st.present (data_cr st b)))

-- ---- trailers

-- one trailer line more, kept or not
unfoldable pub trailer_tally : Tally → Bool → Tally
trailer_tally t k = record { headers = t.headers; chunks = t.chunks; content = t.content; size = t.size; trailers = cond k (t.trailers + 1) t.trailers }

-- behind a trailer line of a kind, when the section's notes are n
unfoldable pub trailer_noted : State → Kind → Notes → State
trailer_noted st k n =
    begins (in_section (with_tally st (trailer_tally st.tally (is_end_to_end false k))) st.phase (next_present st.present st.control.end) (st.lines + 1) n)

-- a trailer line w of a kind, whose value has l octets from its octet c on
unfoldable pub trailer_held : State → List ℕ → Kind → ℕ → ℕ → State
trailer_held st w k c l = trailer_noted st k (note_of true st.notes k st.present.at (st.present.at + c) (take l (drop c w)))

abbrev pub on_trailer : State → List ℕ → Option FieldLine → State
on_trailer st w (Some f) = trailer_held st w (kind_of (map lower_of (take f.name w))) f.value f.len
on_trailer st w None = refuse st bad_syntax st.present.at

-- behind the empty line
unfoldable pub trailers_end : State → State
trailers_end st = cond st.notes.trailers (finish st (st.present.at + 2) st.tally) (refuse st bad_length (st.present.at + 2))

-- behind a line of the trailer section
unfoldable pub trailer_in : State → List ℕ → State
trailer_in st w =
    cond (eqb (st.present.have - 1) 0)
    (trailers_end st)
    (cond (leb lines_most st.lines) (refuse st too_large st.present.at) (on_trailer st w (field_lens w)))
