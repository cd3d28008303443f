-- What the code that reads control data promises, in terms of `part`, `ruled_part`, `scheme_part` and `request_control` (binary/specs/Read; 01, "Binary HTTP
-- as we take it").
use Rattle.std.specs.Prelude.{ℕ, ◌+◌, ◌≤◌, ◌<◌, ◌≡◌, List, length, take, drop, Result, Ok, Err}
use Rattle.octets.specs.Limits.{method_most, authority_most, path_most}
use Rattle.octets.specs.Refusals.{refused_at}
use Rattle.octets.specs.declared.Refused.{Refused}
use Rattle.script.specs.Do.{Piece, piece}
use Rattle.messages.specs.Control.{Verdict, method_verdict, authority_verdict, path_verdict}
use Rattle.binary.specs.declared.Cursor.{Cursor}
use Rattle.binary.specs.Reader.{Got, got, no}
use Rattle.binary.specs.Read.{RequestControl}
use Rattle.messages.specs.declared.Span.{Span}
use Rattle.binary_parts.specs.declared.Ruled.{Ruled}
use Rattle.binary_parts.specs.declared.Ruled.TheVariants.{Method, Authority, Path}
use Rattle.binary_parts.specs.declared.PartRead.{PartRead}
use Rattle.binary_parts.specs.declared.SchemeRead.{SchemeRead}
use Rattle.binary_parts.specs.declared.ControlRead.{ControlRead}

-- a piece is what s has at its place
pub record StandsIn (s : List ℕ) (w : Piece) : Type 0 where
  pub inside : w.place + length w.text ≤ length s
  pub taken : w.text ≡ take (length w.text) (drop w.place s)

-- behind what was read the reading goes on in s, where the cursor e is; no more integers are counted than octets stand before it
abbrev pub GoesOn : List ℕ → Cursor → List ℕ → Type 0
GoesOn s e l = (e.at ≤ length s) × (l ≡ drop e.at s) × (e.long ≤ e.at)

-- place and length of a piece
abbrev pub span_of : Piece → Span
span_of w = record { start = w.place; len = length w.text }

-- a part that was read from s: place and length of its octets, behind which the reading goes on
abbrev pub PartSays : List ℕ → Got Piece → Result PartRead Refused → Type 0
PartSays s (got w e l) r = (r ≡ Ok (record { part = span_of w; end = e })) × StandsIn s w × (e.at ≡ w.place + length w.text) × GoesOn s e l
PartSays s (no n p) r = r ≡ Err (refused_at n p)

-- the promise of a part that is read
pub record Parted (s : List ℕ) (x : Got Piece) (r : Result PartRead Refused) : Type 0 where
  pub says : PartSays s x r

-- the size of a part of control data
abbrev pub most_of : Ruled → ℕ
most_of Method = method_most
most_of Authority = authority_most
most_of (Path o) = path_most

-- what the rule of a part says of its octets
abbrev pub verdict_of : Ruled → List ℕ → Verdict
verdict_of Method = method_verdict
verdict_of Authority = authority_verdict
verdict_of (Path o) = path_verdict o

-- a scheme that was read from s: its number, behind which the reading goes on
abbrev pub SchemeSays : List ℕ → Got ℕ → Result SchemeRead Refused → Type 0
SchemeSays s (got v e l) r = (r ≡ Ok (record { scheme = v; end = e })) × (v < 2) × GoesOn s e l
SchemeSays s (no n p) r = r ≡ Err (refused_at n p)

-- the promise of a scheme that is read
pub record Schemed (s : List ℕ) (x : Got ℕ) (r : Result SchemeRead Refused) : Type 0 where
  pub says : SchemeSays s x r

-- the piece of s that a span names
abbrev pub piece_of : List ℕ → Span → Piece
piece_of s a = piece a.start (take a.len (drop a.start s))

-- a span within s
abbrev pub Inside : List ℕ → Span → Type 0
Inside s a = a.start + a.len ≤ length s

-- the spans of control data lie within s
abbrev pub InsideAll : List ℕ → ControlRead → Type 0
InsideAll s c = Inside s c.method × Inside s c.authority × Inside s c.path

-- the control data of s that spans name
abbrev pub control_of : List ℕ → ControlRead → RequestControl
control_of s c = record { method = piece_of s c.method; scheme = c.scheme; authority = piece_of s c.authority; path = piece_of s c.path }

-- control data that were read from s: place and length of each part and the scheme's number, behind which the reading goes on
abbrev pub ControlSays : List ℕ → Got RequestControl → Result ControlRead Refused → Type 0
ControlSays s (got q e l) r =
    (r ≡ Ok (record { method = span_of q.method; scheme = q.scheme; authority = span_of q.authority; path = span_of q.path; end = e })) × StandsIn s q.method × (q.scheme < 2)
    × StandsIn s q.authority × StandsIn s q.path × GoesOn s e l
ControlSays s (no n p) r = r ≡ Err (refused_at n p)

-- the promise of control data that are read
pub record Controlled (s : List ℕ) (x : Got RequestControl) (r : Result ControlRead Refused) : Type 0 where
  pub says : ControlSays s x r
