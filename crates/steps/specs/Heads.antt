-- The ends of a request line, of a field line and of the head, as the code makes them (02, item 13).
use Rattle.std.specs.Prelude.{ℕ, ◌+◌, ◌-◌, ◌≡◌, Bool, true, false, cond, not, List, [], ◌∷◌, ◌++◌, map, leb, eqb, length, take, drop, None, Option, Some, Err, Ok, Result}
use Rattle.octets.specs.Text.{lower_of}
use Rattle.octets.specs.Limits.{head_most, lines_most, chunk_line_most}
use Rattle.octets.specs.Refusals.{bad_syntax, bad_host, too_large}
use Rattle.output.specs.Splice.{splice}
use Rattle.messages.specs.Control.{is_host}
use Rattle.messages.specs.Names.{kind_of}
use Rattle.messages.specs.Notes.{no_notes, note_of, body_answer}
use Rattle.messages.specs.Rules.{request_body}
use Rattle.messages.specs.declared.Notes.{Notes}
use Rattle.messages.specs.declared.Kind.{Kind}
use Rattle.messages.specs.declared.Kind.TheVariants as kind
use Rattle.messages.specs.declared.Hosts.{Hosts}
use Rattle.messages.specs.declared.Hosts.TheVariants.{Nothing, One, Several}
use Rattle.messages.specs.declared.Body.{Body}
use Rattle.messages.specs.declared.Body.TheVariants.{Sized, InChunks, UntilClosed}
use Rattle.octets.specs.declared.Refused.{Refused}
use Rattle.http1_lines.specs.Lines.{request_lens, field_lens}
use Rattle.http1_lines.specs.declared.Target.{Target}
use Rattle.http1_lines.specs.declared.RequestLine.{RequestLine}
use Rattle.http1_lines.specs.declared.FieldLine.{FieldLine}
use Rattle.step_lines.specs.Stepping.{line_text, fresh, next_present}
use Rattle.step_lines.specs.Entries.{kept_text, entries, count_in}
use Rattle.steps.specs.States.{Held, held, refuse, finish, reading, in_section, with_control, with_tally, begins}
use Rattle.steps.specs.declared.Control.{Control}
use Rattle.steps.specs.declared.Tally.{Tally}
use Rattle.steps.specs.declared.Phase.{Phase}
use Rattle.steps.specs.declared.Phase.TheVariants as phase
use Rattle.steps.specs.declared.State.{State}
use Rattle.octets.specs.declared.Refusal.{Refusal}
use Rattle.http1_lines.specs.Lines.{with_target}
use Rattle.octets.specs.Refusals.{refusal_number}

-- ---- the request line

-- the target x stands behind a method that ends at the place `at`, and a space: its authority and its path move down behind the method
unfoldable pub target_room : List ℕ → ℕ → Target → List ℕ
target_room room at x = splice room at (take x.hostlen (drop (at + 1 + x.host) room) ++ take x.len (drop (at + 1 + x.start) room))

-- where they then stand
abbrev pub control_of : ℕ → ℕ → Target → Control
control_of scheme at x = record {
  scheme = scheme;
  given = not (eqb x.hostlen 0);
  method = at;
  host = at;
  hostlen = x.hostlen;
  path = at + x.hostlen;
  pathlen = x.len;
  prefix = x.prefix;
  end = at + x.hostlen + x.len;
}

-- behind a request line with a method of m octets and the target x
unfoldable pub request_held : State → List ℕ → ℕ → Target → Held
request_held st room m x =
    held
    (begins (in_section (with_control st (control_of st.control.scheme (st.present.from + m) x)) phase.FieldLine
    (next_present st.present (st.present.from + m + x.hostlen + x.len)) 0 no_notes))
    (target_room room (st.present.from + m) x)

abbrev pub on_request : State → List ℕ → Result RequestLine Refusal → Held
on_request st room (Ok q) = request_held st room q.method q.target
on_request st room (Err r) = held (refuse st (refusal_number r) st.present.at) room

-- behind the request line
unfoldable pub request_in : State → List ℕ → Held
request_in st room = on_request st room (request_lens st.control.scheme (line_text st.present room))

-- ---- the end of the head

-- where the target has no authority, the kept value of Host is one
unfoldable pub host_stands : State → List ℕ → Bool
host_stands st room =
    cond st.control.given
    true
    (cond (leb st.control.end st.control.host)
    (cond (leb (st.control.host + st.control.hostlen) st.present.from) (is_host (take st.control.hostlen (drop st.control.host room))) false)
    false)

-- the host rule: Host stands once, and where the target has no authority its value is one
abbrev pub hosted_by : Hosts → State → List ℕ → Bool
hosted_by Nothing st room = false
hosted_by (One a n) st room = host_stands st room
hosted_by Several st room = false

-- the text of the kept names and values
abbrev pub kept_part : State → List ℕ → List ℕ
kept_part st room = take (st.present.from - st.control.end) (drop st.control.end room)

-- how many header lines are kept
abbrev pub tally_of : State → List ℕ → Tally
tally_of st room = record {
  headers = count_in (entries (kept_part st room)) (entries (kept_part st room));
  chunks = st.tally.chunks;
  content = st.tally.content;
  size = st.tally.size;
  trailers = st.tally.trailers;
}

-- Host's value as the authority, directly behind method and path
abbrev pub host_behind : Control → Control
host_behind c = record {
  scheme = c.scheme;
  given = c.given;
  method = c.method;
  host = c.end;
  hostlen = c.hostlen;
  path = c.path;
  pathlen = c.pathlen;
  prefix = c.prefix;
  end = c.end + c.hostlen;
}

-- the names are counted and given up; Host's value moves behind method and path, where the target has no authority
abbrev pub given_held : State → List ℕ → Held
given_held st room = held (with_tally st (tally_of st room)) room

abbrev pub host_held : State → List ℕ → Held
host_held st room =
    held
    (with_tally (with_control st (host_behind st.control)) (tally_of st room))
    (splice room st.control.end (take st.control.hostlen (drop st.control.host room)))

unfoldable pub settle : State → List ℕ → Held
settle st room = cond st.control.given (given_held st room) (host_held st room)

-- the content begins at the place `end`; none has ended there
abbrev pub content_from : State → ℕ → Body → State
content_from st end (Sized n) = cond (eqb n 0) (finish st end st.tally) (reading st phase.Content (fresh end n st.control.end))
content_from st end InChunks = reading st phase.ChunkLine (fresh end chunk_line_most st.control.end)
content_from st end UntilClosed = st

abbrev pub on_body : State → List ℕ → ℕ → Result Body Refused → Held
on_body st room end (Ok b) = held (content_from (settle st room).state end b) (settle st room).room
on_body st room end (Err e) = held (refuse st e.number e.place) room

-- behind the empty line: the host rule, then what is stated of the length
unfoldable pub head_end : State → List ℕ → Held
head_end st room =
    cond (hosted_by st.notes.hosts st room)
    (on_body st room (st.present.at + 2) (body_answer (request_body (st.present.at + 2) st.notes.framing)))
    (held (refuse st bad_host (st.present.at + 2)) room)

-- ---- a field line of the head

-- a Host line's value stands at the place h, where the target has no authority
unfoldable pub host_from : Control → ℕ → ℕ → Control
host_from c h n =
    cond c.given
    c
    (record {
      scheme = c.scheme;
      given = c.given;
      method = c.method;
      host = h;
      hostlen = n;
      path = c.path;
      pathlen = c.pathlen;
      prefix = c.prefix;
      end = c.end;
    })

abbrev pub host_at : Kind → Control → ℕ → ℕ → Control
host_at kind.Ordinary c h n = c
host_at kind.HopByHop c h n = c
host_at kind.Host c h n = host_from c h n
host_at kind.ContentLength c h n = c
host_at kind.TransferEncoding c h n = c
host_at kind.Connection c h n = c

-- behind a field line of a kind, when the section's notes are n, a Host value would stand behind its mark at the line's start, of l octets, and what is
-- kept ends at e
unfoldable pub field_noted : State → Kind → Notes → ℕ → ℕ → State
field_noted st k n l e =
    begins (in_section (with_control st (host_at k st.control (st.present.from + 1) l)) st.phase (next_present st.present e) (st.lines + 1) n)

-- a field line whose name has m octets, and whose value has l octets from its octet c on
unfoldable pub field_held : State → List ℕ → Kind → ℕ → ℕ → ℕ → Held
field_held st room k m c l =
    held
    (field_noted st k (note_of true st.notes k st.present.at (st.present.at + c) (take l (drop (st.present.from + c) room))) l
    (st.present.from + length (kept_text k (take m (drop st.present.from room)) (take l (drop (st.present.from + c) room)))))
    (splice room st.present.from (kept_text k (take m (drop st.present.from room)) (take l (drop (st.present.from + c) room))))

abbrev pub on_field : State → List ℕ → Option FieldLine → Held
on_field st room (Some f) = field_held st room (kind_of (map lower_of (take f.name (drop st.present.from room)))) f.name f.value f.len
on_field st room None = held (refuse st bad_syntax st.present.at) room

-- behind a line of the head
unfoldable pub field_in : State → List ℕ → Held
field_in st room =
    cond (eqb (st.present.have - 1) 0)
    (head_end st room)
    (cond (leb lines_most st.lines) (held (refuse st too_large st.present.at) room) (on_field st room (field_lens (line_text st.present room))))
