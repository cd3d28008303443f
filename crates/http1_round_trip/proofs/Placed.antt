-- Where each part of a written message stands: the message that the readers take.
use mathlib.Core.Bool.{cond}
use mathlib.Core.List.{List, [], ◌∷◌, ◌++◌}
use Prim.Native.Nat.{ℕ, ◌+◌}
use lib.ListN.{length}
use Rattle.std.proofs.Common.{Option}
use Rattle.octets.specs.Ascii.{ascii}
use Rattle.numbers.specs.Digits.{digits}
use Rattle.script.specs.Do.{piece}
use Rattle.messages.specs.Message.{FieldRead, InformationalRead, Start, request_start, response_start, Message, non_empty, whole_path}
use Rattle.messages.specs.Meaning.{Field, Informational, Control, request, response, Meaning}
use Rattle.messages.specs.Valid.{no_fields}
use Rattle.messages.specs.declared.Told.{Told}
use Rattle.http1_lines.specs.Read.{Content}
use Rattle.http1_writer.specs.Write.{crlf, field_text, section_text, request_line, status_line, head_lines, start_text, chunk_text}

-- a field line: its name, and behind ": " its value
abbrev pub line_at : ℕ → Field → FieldRead
line_at at f = record { name = piece at f.name; value = piece (at + (length f.name + 2)) f.value; place = at }

-- one line behind the other
unfoldable pub lines_at : ℕ → List Field → List FieldRead
lines_at at [] = []
lines_at at (f ∷ fs) = line_at at f ∷ lines_at (at + length (field_text f)) fs

-- an informational head: its status line, and behind it its section
abbrev pub head_at : ℕ → Informational → InformationalRead
head_at at h = record { status = h.status; lines = lines_at (at + length (status_line h.status)) h.fields }

-- one head behind the other
unfoldable pub heads_at : ℕ → List Informational → List InformationalRead
heads_at at [] = []
heads_at at (h ∷ hs) = head_at at h ∷ heads_at (at + length (status_line h.status ++ section_text h.fields)) hs

-- content and trailers from the place `at` on: the content behind its chunk line where trailers follow
abbrev pub content_at : ℕ → List ℕ → List Field → Content
content_at at c ts =
    record {
      chunks = non_empty (piece (cond (no_fields ts) at (at + length (digits 16 (length c) ++ crlf))) c);
      trailers = lines_at (at + length (chunk_text c ++ ascii "0" ++ crlf)) ts;
    }

-- control data; the authority is the value of the first line, behind "host: "
abbrev pub start_at : ℕ → Control → Start
start_at at (request m s a p) = request_start (piece at m) s (piece (at + length (request_line m p) + 6) a) (whole_path (piece (at + (length m + 1)) p))
start_at at (response hs s) = response_start (heads_at at hs) s

-- lines, content and trailers from the place `at` on, behind control data
abbrev pub placed_from : Start → ℕ → List Field → List ℕ → List Field → Option ℕ → Message
placed_from start at fs c ts x =
    record {
      start = start;
      lines = lines_at at fs;
      chunks = (content_at (at + length (section_text fs)) c ts).chunks;
      trailers = (content_at (at + length (section_text fs)) c ts).trailers;
      stated = x;
      long = 0;
    }

abbrev pub placed_at : Told → ℕ → Meaning → Message
placed_at t at m = placed_from (start_at at m.control) (at + length (start_text m.control)) (head_lines t m) m.content m.trailers m.stated
