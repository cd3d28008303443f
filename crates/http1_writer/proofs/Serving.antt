-- What the writer answers and leaves, return by return.
-- Assumes nothing.
use Prim.Native.Nat.{ℕ, ◌+◌, ◌≤◌, ◌<◌}
use mathlib.Core.Path.{◌≡◌, refl}
use mathlib.Core.Bool.{true, false}
use mathlib.Core.List.{List, ◌++◌}
use native.Mathlib.Omega.{arith}
use lib.ListN.{length, length-append}
use Rattle.octets.specs.Refusals.{too_large, no_room, other_scheme, refused_at}
use Rattle.output.specs.Splice.{Put}
use Rattle.output.specs.Reply.{writes, Served, Written}
use Rattle.output.proofs.Laws.{put_then}
use Rattle.output.proofs.Serve.{serve-wrong, serve-small, serve-done}
use Rattle.messages.specs.declared.Told.{Told}
use Rattle.messages.specs.declared.Record.{Record}
use Rattle.messages.specs.Meaning.{content_of}
use Rattle.ranges.specs.Entries.{chunks_in, meaning_in, MessageWithin, fields_named}
use Rattle.http1_writer.specs.declared.LengthLine.{LengthLine}
use Rattle.http1_writer.specs.Write.{body_text, to_http1}
use Rattle.http1_writer.specs.Numbered.{body_size, length_line_in, head_text_in, head_size, message_text_in, fits_in, connected_in}
use Rattle.http1_writer.proofs.Body.{body-long}
use Rattle.http1_writer.proofs.Means.{head-long, http1-means, to-means}
use Rattle.std.proofs.Common.{Ok, Err}

module _ {s : List ℕ} {r : Record} {hs ns cs ts : List ℕ} (w : MessageWithin s r hs ns cs ts) (l : LengthLine) where
  -- a message that may be written: the room is too small, or head and body are put
  pub message-small : {o : List ℕ} → length o < head_size r l hs ns + body_size r.content ts r.trailers
      → Served (writes (message_text_in s r l hs ns cs ts)) o o (Err (refused_at no_room 0))
  unfolding message_text_in
  message-small {o} h =
      let b = body_text (content_of (chunks_in s cs 0 r.chunks)) (fields_named s ts 0 r.trailers) in
      let e = length-append (head_text_in s r l hs ns) b in
      let k : length o < length (head_text_in s r l hs ns ++ b) =
      omega (arith, h, e, head-long s r hs ns l, body-long s ts (content_of (chunks_in s cs 0 r.chunks)) r.content w.content r.trailers) in
      serve-small k

  pub message-done : {o o₁ o₂ : List ℕ} {a z : ℕ} → head_size r l hs ns + body_size r.content ts r.trailers ≤ length o
      → Put o 0 (head_text_in s r l hs ns) (head_size r l hs ns) o₁ a
      → Put o₁ a (body_text (content_of (chunks_in s cs 0 r.chunks)) (fields_named s ts 0 r.trailers)) (body_size r.content ts r.trailers) o₂ z
      → Served (writes (message_text_in s r l hs ns cs ts)) o o₂ (Ok z)
  unfolding message_text_in
  message-done h p q = serve-done h (put_then p q)

  -- the tests
  module _ (t : Told) (d : l ≡ length_line_in t s r) where
    pub served-large : (o : List ℕ) → connected_in t r ≡ true → fits_in (head_size r l hs ns) r l ts ≡ false
        → Served (to_http1 t (meaning_in s r hs ns cs ts)) o o (Err (refused_at too_large 0))
    served-large o c f = rw (to-means t s r hs ns cs ts w.content d, c, f) (serve-wrong o too_large 0)

    pub served-fitting : {o o' : List ℕ} {z : Written} → connected_in t r ≡ true → fits_in (head_size r l hs ns) r l ts ≡ true
        → Served (writes (message_text_in s r l hs ns cs ts)) o o' z
        → Served (to_http1 t (meaning_in s r hs ns cs ts)) o o' z
    served-fitting c f x = rw (to-means t s r hs ns cs ts w.content d, c, f, http1-means t s r hs ns cs ts w.content d) x

pub served-other : {s : List ℕ} {r : Record} {hs ns cs ts : List ℕ} → MessageWithin s r hs ns cs ts → (t : Told) (o : List ℕ) → connected_in t r ≡ false
    → Served (to_http1 t (meaning_in s r hs ns cs ts)) o o (Err (refused_at other_scheme 0))
served-other {s} {r} {hs} {ns} {cs} {ts} w t o c = rw (to-means t s r hs ns cs ts w.content {l = length_line_in t s r} refl, c) (serve-wrong o other_scheme 0)
