-- What the code that reads content promises, in terms of the script `content` (http1_lines/specs/Read; 01, "HTTP/1.1 as we take it": lengths and chunks).
use Rattle.std.specs.Prelude.{ℕ, ◌≤◌, ◌≡◌, List, length, Result, Ok, Err}
use Rattle.octets.specs.Limits.{content_most}
use Rattle.octets.specs.Refusals.{refused_at}
use Rattle.script.specs.Script.{Answer, accepted, refused, more}
use Rattle.output.specs.Splice.{splice}
use Rattle.messages.specs.Names.{kept_trailers}
use Rattle.messages.specs.Meaning.{content_of}
use Rattle.messages.specs.Answers.{fields_numbers, chunks_numbers}
use Rattle.messages.specs.declared.Stop.{Stop}
use Rattle.messages.specs.declared.Body.{Body}
use Rattle.messages.specs.declared.Body.TheVariants.{Sized, InChunks, UntilClosed}
use Rattle.http1_lines.specs.Read.{Content}
use Rattle.ranges.specs.Ranges.{Stores}
use Rattle.http1_parts.specs.declared.ContentRead.{ContentRead}

-- a body by length is within the size of content
abbrev pub SizedWithin : Body → Type 0
SizedWithin (Sized n) = n ≤ content_most
SizedWithin InChunks = Unit {0}
SizedWithin UntilClosed = Unit {0}

-- content that was read into the lent ranges cs of chunks and ts of trailers
abbrev pub ContentSays : Answer Content → List ℕ → List ℕ → List ℕ → List ℕ → Result ContentRead Stop → Type 0
ContentSays (accepted n c) cs cs' ts ts' r =
    (r ≡ Ok (record { end = n; chunks = length c.chunks; total = length (content_of c.chunks); trailers = length (kept_trailers c.trailers) }))
    × (cs' ≡ splice cs 0 (chunks_numbers c.chunks)) × Stores ts 0 (fields_numbers (kept_trailers c.trailers)) ts'
ContentSays (refused x p) cs cs' ts ts' r = r ≡ Err (Stop.Refused (refused_at x p))
ContentSays more cs cs' ts ts' r = r ≡ Err Stop.More

-- the promise of content that is read
pub record Contented (x : Answer Content) (cs cs' ts ts' : List ℕ) (r : Result ContentRead Stop) : Type 0 where
  pub says : ContentSays x cs cs' ts ts' r
