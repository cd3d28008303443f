-- The listing of any input fits the program's buffer: an accepted request is of 16 octets at least, its row of 30 at most.
use Rattle.std.proofs.Common.{Err, Ok, Result}
use Prim.Native.Nat.{ℕ, zero, suc, ◌+◌, ◌-◌, ◌*◌, ◌/◌, ◌<◌, ◌≤◌}
use mathlib.Core.Path.{◌≡◌, refl, ◌∙◌}
use mathlib.Core.Bool.{Bool, true, false, cond}
use mathlib.Core.List.{List, [], ◌∷◌, ◌++◌, map}
use native.Mathlib.Omega.{arith}
use borrow.Author.Tests.{lt-ltb, le-leb, leb-true}
use lib.Dec.{leb, ltb, lit≤}
use lib.ListN.{length, drop, length-append, length-drop, length-map}
use Rattle.octets.specs.Limits.{head_most, lines_most, content_most, listing_most}
use Rattle.octets.specs.Refusals.{more_needed, not_supported, too_large}
use Rattle.octets.specs.Text.{is_empty}
use Rattle.octets.proofs.Kit.{either}
use Rattle.numbers.specs.Digits.{more_of, count_of}
use Rattle.script.specs.Script.{Answer, accepted, refused, more, run}
use Rattle.script.specs.Do.{◌>>=◌, piece}
use Rattle.script.proofs.Sound.{line-accepted}
use Rattle.script.proofs.Refusals.{Answers, Judges, Stops, stops-word, stops-bind, stops-map, stops-judged}
use Rattle.messages.specs.Told.{plain}
use Rattle.messages.specs.declared.Told.{Told}
use Rattle.messages.specs.Message.{Start, request_start, response_start, is_response, Message}
use Rattle.messages.specs.Names.{kept, kept_trailers}
use Rattle.messages.specs.Meaning.{field_means, content_of, meaning}
use Rattle.messages.specs.Answers.{record_from, record_of}
use Rattle.messages.specs.Valid.{is_scheme}
use Rattle.http1_lines.specs.Lines.{request_lens, on_request, request_of, RequestRead}
use Rattle.http1_lines.proofs.Views.{request-view}
use Rattle.http1_lines.specs.Read.{line_within, less, section, field_lines, after_request_line, request, read_request}
use Rattle.http1_lines.specs.declared.RequestLine.{RequestLine}
use Rattle.http1_sound.specs.Read.{request_numbers}
use Rattle.http1_sound.proofs.Refusals.{request-refused}
use Rattle.http1_sound.proofs.Sound.{request-sound}
use Rattle.sound.specs.Sound.{Sound}
use Rattle.sound.proofs.Refusals.{one_of}
use Rattle.ranges.specs.Ranges.{SmallRecord}
use Rattle.ranges.proofs.Outcomes.{sound-small}
use Rattle.stream.specs.Taking.{waits, next, take_f, take_off}
use Rattle.output.specs.Reply.{written_of}
use Rattle.listing.specs.Listing.{row, rows, end_line, title, listing_of}
use Rattle.listing.specs.Rows.{row_size, end_size}
use Rattle.listing.proofs.Laws.{row-length, end-length}
use Rattle.boundary.specs.Listed.{buffer_size, ListingFits, PrintsAll}
use Rattle.octets.specs.declared.Refusal.{Refusal}

-- ---- a request line has 12 octets at least

abbrev Long : List ℕ → Result RequestLine Refusal → Type 0
Long w (Ok q) = 12 ≤ length w
Long w (Err n) = Unit {0}

no : {A : Type 0} → ◌≡◌ {A = ℕ} 0 1 → A
no z = absurd (omega arith)

lens-long : (scheme : ℕ) (w : List ℕ) → Long w (request_lens scheme w)
lens-long scheme w = on (request_lens scheme w) refl
  where
    on : (x : Result RequestLine Refusal) → request_lens scheme w ≡ x → Long w x
    on (Ok q) e = let v = request-view scheme w q.method q.target e in omega (arith, v.some, v.more, v.size)
    on (Err n) e = tt

line-long : (scheme at : ℕ) (w : List ℕ) → Judges (λ n p. Unit {0}) (λ x. 12 ≤ length w) (request_of scheme (piece at w))
unfolding request_of
line-long scheme at w = on (request_lens scheme w) (lens-long scheme w)
  where
    on : (x : Result RequestLine Refusal) → Long w x → Judges (λ n p. Unit {0}) (λ q. 12 ≤ length w) (on_request (piece at w) x)
    on (Ok q) h = h
    on (Err n) h = tt

-- ---- a request has 16

module _ {s : List ℕ} where
  tail-long : (t : Told) (q : RequestRead) (left : ℕ) {at : ℕ} → Stops s (λ n p. Unit {0}) (λ n m. at + 2 ≤ n) at (after_request_line t q left)
  unfolding section field_lines ◌>>=◌
  tail-long t q left {at} = record { go = λ l. on l (run (after_request_line t q left) at (drop at s)) refl }
    where
      on : at ≤ length s → (x : Answer Message) → run (after_request_line t q left) at (drop at s) ≡ x
          → Answers (λ n p. Unit {0}) (λ n m. (n ≤ length s) × (at + 2 ≤ n)) x
      on l (accepted n m) e = let h = line-accepted _ _ _ _ at (drop at s) n m e in (omega (arith, h.1, l, length-drop at s), h.0)
      on l (refused n p) e = tt
      on l more e = tt

  stops-long : (t : Told) → Stops s (λ n p. Unit {0}) (λ n m. 16 ≤ n) 0 (request t)
  unfolding request
  stops-long t =
      stops-bind _ (stops-word (line_within head_most) (λ z. (tt, tt)) λ w g i.
      stops-judged (λ x. 12 ≤ length w) (request_of t.scheme (piece 0 w)) _ (line-long t.scheme 0 w) λ q h.
      let k = length-append w (13 ∷ 10 ∷ []) in
      stops-map (λ n m f. omega (arith, k, h, f)) (tail-long t q (less head_most (piece 0 w))))

request-long : (t : Told) (s : List ℕ) (n : ℕ) (m : Message) → read_request t s ≡ accepted n m → 16 ≤ n
unfolding read_request
request-long t s n m = go (is_scheme t.scheme)
  where
    by : (x : Answer Message) → Answers (λ n p. Unit {0}) (λ n m. (n ≤ length s) × (16 ≤ n)) x → x ≡ accepted n m → 16 ≤ n
    by (accepted k a) h e = let z : k ≡ n = cc in omega (arith, z, h.1)
    by (refused k p) h e = no cc
    by more h e = no cc

    go : (b : Bool) → cond b (run (request t) 0 s) (refused not_supported 0) ≡ accepted n m → 16 ≤ n
    go true e = by (run (request t) 0 s) ((stops-long {s = s} t).go (omega arith)) e
    go false e = no cc

-- ---- digits

more-0 : (f n : ℕ) → n < 10 → more_of f 10 n ≤ 0
unfolding more_of
more-0 zero n h = omega arith
more-0 (suc f) n h = rw (lt-ltb n 10 h) (omega arith)

more-step : (k f n : ℕ) → more_of f 10 (n / 10) ≤ k → more_of (suc f) 10 n ≤ k + 1
unfolding more_of
more-step k f n h = either (λ x. x ≤ k + 1) (ltb n 10) 0 (more_of f 10 (n / 10) + 1) (λ a. omega arith) (λ a. omega (arith, h))

count-2 : (n : ℕ) → n < 100 → count_of 10 n ≤ 2
unfolding count_of
count-2 n h = omega (arith, more-step 0 18 n (more-0 18 (n / 10) (omega (arith, h))))

count-5 : (n : ℕ) → n < 100000 → count_of 10 n ≤ 5
unfolding count_of
count-5 n h =
    let a : n / 10 < 10000 = omega (arith, h) in
    let b : n / 10 / 10 < 1000 = omega (arith, a) in
    let c : n / 10 / 10 / 10 < 100 = omega (arith, b) in
    let d : n / 10 / 10 / 10 / 10 < 10 = omega (arith, c) in
    omega (arith, more-step 3 18 n (more-step 2 17 (n / 10) (more-step 1 16 (n / 10 / 10) (more-step 0 15 (n / 10 / 10 / 10) (more-0 15 (n / 10 / 10 / 10 / 10) d)))))

-- ---- rows

row_small : (i at n f c t : ℕ) → i < 100000 → at < 100000 → n < 100000 → f < 100 → c < 100000 → t < 100 → row_size i at n f c t ≤ 30
row_small i at n f c t h j k l m q = omega (arith, count-5 i h, count-5 at j, count-5 n k, count-2 f l, count-5 c m, count-2 t q)

end-small : (p k : ℕ) → p < 100000 → k < 100 → end_size p k ≤ 13
end-small p k h j = omega (arith, count-5 p h, count-2 k j)

-- what is counted of a message
counts-small : (s : List ℕ) (m : Message) → Sound s m → (length (meaning m).headers ≤ lines_most) × (length (meaning m).content ≤ content_most) × (length (meaning m).trailers ≤ lines_most)
unfolding meaning record_of
counts-small s m h = go m.start (sound-small s 0 m h)
  where
    go : (x : Start) → SmallRecord (record_from x 0 m)
        → (length (map field_means (kept (is_response x) m.lines)) ≤ lines_most) × (length (content_of m.chunks) ≤ content_most)
        × (length (map field_means (kept_trailers m.trailers)) ≤ lines_most)
    go (request_start a b c d) k = (rw (length-map) k.headers, k.content, rw (length-map) k.trailers)
    go (response_start a b) k = (rw (length-map) k.headers, k.content, rw (length-map) k.trailers)

abbrev reader : List ℕ → Answer Message
reader = read_request (plain 0)

-- the last line
last-small : (i at : ℕ) (r : List ℕ) → at + length r ≤ listing_most → length (rows i at (waits r)) ≤ 13
unfolding rows
last-small i at r h =
    either (λ (l : List ℕ). length l ≤ 13) (is_empty r) (end_line at 0) (end_line (at + length r) more_needed)
    (λ a. omega (arith, end-length at 0, end-small at 0 (omega (arith, h)) (lit≤ tt)))
    (λ a. omega (arith, end-length (at + length r) more_needed, end-small (at + length r) more_needed (omega (arith, h)) (lit≤ tt)))

rows-small : (f : ℕ) (s : List ℕ) (i at : ℕ) → i ≤ at + 1 → at + length s ≤ listing_most
    → 16 * length (rows i at (take_f reader f s)) ≤ 30 * length s + 208
unfolding take_f rows row
rows-small zero s i at h g = omega (arith, last-small i at s g)
rows-small (suc f) s i at h g = on (reader s) refl (λ n. rows-small f (drop n s) (i + 1) (at + n))
  where
    on : (x : Answer Message) → reader s ≡ x
        → ((n : ℕ) → i + 1 ≤ at + n + 1 → at + n + length (drop n s) ≤ listing_most
        → 16 * length (rows (i + 1) (at + n) (take_f reader f (drop n s))) ≤ 30 * length (drop n s) + 208)
        → 16 * length (rows i at (next x s (λ r. take_f reader f r))) ≤ 30 * length s + 208
    on (accepted n m) e ih =
        let ok = request-sound (plain 0) s n m e in
        let a = request-long (plain 0) s n m e in
        let d = length-drop n s in
        let k = counts-small s m ok.sound in
        let b = row-length i at n (length (meaning m).headers) (length (meaning m).content) (length (meaning m).trailers) in
        let c = row_small i at n (length (meaning m).headers) (length (meaning m).content) (length (meaning m).trailers) (omega (arith, h, g)) (omega (arith, g))
        (omega (arith, ok.within, g)) (omega (arith, k.0)) (omega (arith, k.1)) (omega (arith, k.2)) in
        let r = ih n (omega (arith, a, h)) (omega (arith, d, ok.within, g)) in
        let l = length-append (row i at n m) (rows (i + 1) (at + n) (take_f reader f (drop n s))) in
        omega (arith, a, b, c, d, r, l, ok.within)
    on (refused k p) e ih =
        let q = request-refused (plain 0) s k p e in
        let z : k < 100 = one_of (λ j. j < 100) request_numbers (lit≤ tt, (lit≤ tt, (lit≤ tt, (lit≤ tt, (lit≤ tt, (lit≤ tt, (lit≤ tt, tt))))))) k q.of_form in
        omega (arith, end-length (at + p) k, end-small (at + p) k (omega (arith, q.inside, g)) z)
    on more e ih = omega (arith, last-small i at s g)

-- ---- the claims

pub listing-fits : ListingFits
unfolding listing_of take_off
listing-fits s =
    either (λ (l : List ℕ). length (title ++ l) ≤ buffer_size) (leb (length s) listing_most) (rows 1 0 (take_off reader s)) (end_line listing_most too_large)
    (λ a.
    let h = leb-true (length s) listing_most a in
    let r = rows-small (suc (length s)) s 1 0 (omega arith) (omega (arith, h)) in
    omega (arith, h, r, length-append title (rows 1 0 (take_f reader (suc (length s)) s))))
    (λ a. omega (arith, length-append title (end_line listing_most too_large), end-length listing_most too_large, end-small listing_most too_large (lit≤ tt) (lit≤ tt)))

pub prints-all : PrintsAll
unfolding written_of
prints-all s = rw (le-leb (length (listing_of s)) buffer_size (listing-fits s)) refl
