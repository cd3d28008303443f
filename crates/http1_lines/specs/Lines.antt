-- The lines of HTTP/1.1 (01, "HTTP/1.1 as we take it"; their order of judgement under "Numbers a call answers with"). Each is judged without its
-- CR LF, by lengths first; what it says, with octets and places, follows from the lengths.
use Rattle.std.specs.Prelude.{ℕ, ◌+◌, ◌-◌, ◌*◌, Bool, true, false, cond, List, ltb, leb, eqb, length, get_or, take, drop, Option, Some, None, zero, suc, [], ◌∷◌, ◌++◌, map, Result, Ok, Err}
use Rattle.octets.specs.Ascii.{ascii}
use Rattle.octets.specs.Class.{has_class, token, value, is_blank}
use Rattle.octets.specs.Text.{span_len, all, is_other, same_text, trim_back, is_empty}
use Rattle.octets.specs.Refusals.{bad_syntax, bad_version, refusal_number}
use Rattle.octets.specs.declared.Refusal.{Refusal}
use Rattle.octets.specs.declared.Refusal.TheVariants as refusal
use Rattle.numbers.specs.Digits.{num_of, digit_of}
use Rattle.script.specs.Do.{Piece, piece, Judged, good, wrong}
use Rattle.messages.specs.Message.{FieldRead, PathRead}
use Rattle.messages.specs.Control.{method_verdict, is_options, status_verdict, behind}
use Rattle.http1_lines.specs.Target.{target_of}
use Rattle.http1_lines.specs.declared.Target.{Target}
use Rattle.http1_lines.specs.declared.RequestLine.{RequestLine}
use Rattle.http1_lines.specs.declared.FieldLine.{FieldLine}

-- the one version, in this case of letters
abbrev pub version : List ℕ
version = ascii "HTTP/1.1"

-- ---- request line

-- a request line with a method of m octets and a target
abbrev pub with_target : ℕ → Target → RequestLine
with_target m x = record { method = m; target = x }

-- behind a good method of m octets
abbrev pub on_target : ℕ → Result Target Refusal → Result RequestLine Refusal
on_target m (Ok x) = Ok (with_target m x)
on_target m (Err r) = Err r

-- the method is the first m octets and the target the p octets behind the space: method, then target
unfoldable pub request_parts : ℕ → List ℕ → ℕ → ℕ → Result RequestLine Refusal
request_parts scheme w m p =
    behind (method_verdict (take m w)) (on_target m (target_of scheme (is_options (take m w)) (take p (drop (m + 1) w))))

-- behind the second space, at e, stands no space, and then the version is judged
unfoldable pub request_version : ℕ → List ℕ → ℕ → ℕ → Result RequestLine Refusal
request_version scheme w m e =
    cond (eqb (e + 1 + span_len (is_other 32) (drop (e + 1) w)) (length w))
    (cond (same_text (drop (e + 1) w) version) (request_parts scheme w m (e - (m + 1))) (Err refusal.BadVersion))
    (Err refusal.BadSyntax)

-- the second space is at e; a line that ends there has none
unfoldable pub request_target : ℕ → List ℕ → ℕ → ℕ → Result RequestLine Refusal
request_target scheme w m e = cond (leb (length w) e) (Err refusal.BadSyntax) (request_version scheme w m e)

-- exactly two spaces; the version; the method; the target, on a connection of the scheme told
unfoldable pub request_lens : ℕ → List ℕ → Result RequestLine Refusal
request_lens scheme w =
    cond (leb (length w) (span_len (is_other 32) w))
    (Err refusal.BadSyntax)
    (request_target scheme w (span_len (is_other 32) w) (span_len (is_other 32) w + 1 + span_len (is_other 32) (drop (span_len (is_other 32) w + 1) w)))

-- method, path and the authority of the target, which is empty where the target has none; with their places
pub record RequestRead : Type 0 where
  pub method : Piece
  pub path : PathRead
  pub authority : Piece

-- n octets of the line l from its octet a on
abbrev pub within : Piece → ℕ → ℕ → Piece
within l a n = piece (l.place + a) (take n (drop a l.text))

-- method, path and authority of the line l by their lengths, or the refusal at the line
abbrev pub on_request : Piece → Result RequestLine Refusal → Judged RequestRead
on_request l (Ok q) =
    good
    (record {
      method = piece l.place (take q.method l.text);
      path = record { prefix = q.target.prefix; own = within l (q.method + 1 + q.target.start) q.target.len };
      authority = within l (q.method + 1 + q.target.host) q.target.hostlen;
    })
on_request l (Err r) = wrong (refusal_number r) l.place

-- a request line, judged: what it says, or the first rule that it breaks (2, 3, 4, 6, 8 or 14)
unfoldable pub request_of : ℕ → Piece → Judged RequestRead
request_of scheme l = on_request l (request_lens scheme l.text)

-- ---- status line

-- the value of three digits from the place d on
abbrev pub status_at : List ℕ → ℕ → ℕ
status_at w d = digit_of (get_or w d 0) * 100 + digit_of (get_or w (d + 1) 0) * 10 + digit_of (get_or w (d + 2) 0)

-- the version is what stands before the first space, at v; then the status
unfoldable pub status_version : List ℕ → ℕ → Result ℕ Refusal
status_version w v =
    cond (same_text (take v w) version)
    (behind (status_verdict (status_at w (v + 1))) (Ok (status_at w (v + 1))))
    (Err refusal.BadVersion)

-- three digits, a space and a reason of value octets stand behind the space at v
unfoldable pub is_status_shape : List ℕ → ℕ → Bool
is_status_shape w v =
    cond (ltb (length w) (v + 5))
    false
    (cond (ltb (digit_of (get_or w (v + 1) 0)) 10)
    (cond (ltb (digit_of (get_or w (v + 2) 0)) 10)
    (cond (ltb (digit_of (get_or w (v + 3) 0)) 10) (cond (eqb (get_or w (v + 4) 0) 32) (all (has_class value) (drop (v + 5) w)) false) false)
    false)
    false)

-- the shape, then the version, then the status
unfoldable pub status_lens : List ℕ → Result ℕ Refusal
status_lens w = cond (is_status_shape w (span_len (is_other 32) w)) (status_version w (span_len (is_other 32) w)) (Err refusal.BadSyntax)

-- the status, or the refusal at the line
abbrev pub on_status : Piece → Result ℕ Refusal → Judged ℕ
on_status l (Ok n) = good n
on_status l (Err r) = wrong (refusal_number r) l.place

-- a status line, judged: its status, or the first rule that it breaks (2, 3, 5 or 4)
unfoldable pub status_of : Piece → Judged ℕ
status_of l = on_status l (status_lens l.text)

-- ---- field line

-- a field line by how long its name is, where its value starts and how long that is
abbrev pub field_parts : ℕ → ℕ → ℕ → FieldLine
field_parts n b l = record { name = n; value = b; len = l }

-- the value starts at b: blanks are taken off its end
unfoldable pub value_from : List ℕ → ℕ → ℕ → FieldLine
value_from w n b = field_parts n b (trim_back is_blank (drop b w) (length w - b))

-- all octets from a on are those of a value; blanks are taken off its front
unfoldable pub value_in : List ℕ → ℕ → ℕ → Option FieldLine
value_in w n a = cond (eqb (a + span_len (has_class value) (drop a w)) (length w)) (Some (value_from w n (a + span_len is_blank (drop a w)))) None

-- the name is the first n octets: one at least, and the colon directly behind it
unfoldable pub name_to : List ℕ → ℕ → Option FieldLine
name_to w n = cond (eqb n 0) None (cond (leb (length w) n) None (cond (eqb (get_or w n 0) 58) (value_in w n (n + 1)) None))

-- a field line: the name is as many token octets as stand at its front
unfoldable pub field_lens : List ℕ → Option FieldLine
field_lens w = name_to w (span_len (has_class token) w)

-- name and value of the line l by their lengths, or 2 at the line
abbrev pub on_field : Piece → Option FieldLine → Judged FieldRead
on_field l (Some f) =
    good
    (record {
      name = piece l.place (take f.name l.text);
      value = piece (l.place + f.value) (take f.len (drop f.value l.text));
      place = l.place;
    })
on_field l None = wrong bad_syntax l.place

-- a field line, judged: its name as it stands, its value trimmed
unfoldable pub field_of : Piece → Judged FieldRead
field_of l = on_field l (field_lens l.text)

-- ---- chunk line

-- the size that the digits say, where all behind them may stand in a value
abbrev pub on_size : Option ℕ → Bool → Option ℕ
on_size (Some n) true = Some n
on_size (Some n) false = None
on_size None x = None

-- hexadecimal digits, one at least, up to the end or the first semicolon; value octets behind that, which are dropped
unfoldable pub chunk_lens : List ℕ → Option ℕ
chunk_lens w =
    on_size (num_of 16 (take (span_len (is_other 59) w) w)) (all (has_class value) (drop (span_len (is_other 59) w + 1) w))

-- the size, or 2 at the line
abbrev pub on_chunk : Piece → Option ℕ → Judged ℕ
on_chunk l (Some n) = good n
on_chunk l None = wrong bad_syntax l.place

-- a chunk line, judged: the size of its chunk
unfoldable pub chunk_of : Piece → Judged ℕ
chunk_of l = on_chunk l (chunk_lens l.text)
