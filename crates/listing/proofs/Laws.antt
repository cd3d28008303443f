-- The row at a place, from the reader's outcome; and the rows from a place on, from the row there.
use Prim.Native.Nat.{ℕ, ◌+◌, ◌-◌, ◌<◌, ◌≤◌}
use mathlib.Core.Path.{◌≡◌, refl, sym, ap, subst, ◌∙◌}
use mathlib.Core.Bool.{Bool, true, false, cond}
use mathlib.Core.List.{List, [], ◌++◌, map}
use native.Mathlib.Omega.{arith}
use borrow.Author.Tests.{ne_eqb, le-leb, lt-leb, leb-true}
use lib.Dec.{leb}
use lib.Seq.{drop-drop}
use lib.ListN.{length, take, drop, length-append, length-drop, length-map, drop_of_length-le}
use Rattle.octets.specs.Refusals.{more_needed, too_large, no_room, refused_at}
use Rattle.octets.specs.Limits.{listing_most}
use Rattle.octets.specs.Text.{is_empty}
use Rattle.octets.proofs.Texts.{part-all}
use Rattle.script.specs.Script.{Answer, accepted, refused, more, line_of}
use Rattle.messages.specs.Message.{Start, request_start, response_start, is_response, Message}
use Rattle.messages.specs.Names.{kept, kept_trailers}
use Rattle.messages.specs.Meaning.{field_means, content_of, meaning}
use Rattle.messages.specs.Answers.{record_from, record_of}
use Rattle.messages.specs.Valid.{is_scheme}
use Rattle.messages.specs.declared.Record.{Record}
use Rattle.messages.specs.Answers.{Outcome}
use Rattle.std.proofs.Common.{Ok, Err}
use Rattle.messages.specs.declared.Stop.{Stop}
use Rattle.http1_lines.specs.Read.{read_request}
use Rattle.ranges.specs.Ranges.{Outcomed}
use Rattle.ranges.proofs.Outcomes.{given-message, given-refusal, given-more}
use Rattle.messages.specs.Told.{plain}
use Rattle.messages.specs.declared.Told.{Told}
use Rattle.http1_reader.proofs.Requests.{first-stopped}
use Rattle.http1_sound.proofs.Front.{request-within}
use Rattle.http1_sound.proofs.Refusals.{request-refused}
use Rattle.numbers.proofs.DigitLaws.{digits-length}
use Rattle.stream.specs.Taking.{next, take_off}
use Rattle.stream.proofs.Taking.{take_step}
use Rattle.output.specs.Splice.{splice, Put, Left}
use Rattle.output.specs.Reply.{writes, written_of, Served, Written}
use Rattle.output.proofs.Laws.{put_then, left_step}
use Rattle.output.proofs.Serve.{serve-small, serve-done}
use Rattle.listing.specs.Listing.{row, rows, end_line, title, listing_of}
use Rattle.listing.specs.Rows.{row_of, row_at, rows_at, row_text, title_size, row_size, end_size}
use Rattle.listing.specs.declared.Row.TheVariants as at_row

-- ---- the row at a place

empty-more : read_request (plain 0) [] ≡ more
unfolding line_of is_scheme
empty-more = first-stopped (plain 0) [] refl {e = Stop.More} refl

pub row-none : (s : List ℕ) (at : ℕ) → length s ≤ at → at_row.Stop at 0 ≡ row_at s at
unfolding row_at is_empty
row-none s at h = rw (drop_of_length-le s h, empty-more)

counts-are : (n : ℕ) (m : Message) → at_row.Message (record_of n m).length (record_of n m).headers (record_of n m).content (record_of n m).trailers
    ≡ at_row.Message n (length (meaning m).headers) (length (meaning m).content) (length (meaning m).trailers)
unfolding record_of meaning
counts-are n m = go m.start
  where
    go : (x : Start) → at_row.Message (record_from x n m).length (record_from x n m).headers (record_from x n m).content (record_from x n m).trailers
        ≡ at_row.Message n (length (map field_means (kept (is_response x) m.lines))) (length (content_of m.chunks)) (length (map field_means (kept_trailers m.trailers)))
    go (request_start a b c d) = rw (length-map, length-map)
    go (response_start a b) = rw (length-map, length-map)

of-message : {x : Answer Message} {hs hs' cs cs' ts ts' : List ℕ} {o : Outcome} → Outcomed x hs hs' cs cs' ts ts' o → (at : ℕ) (r : List ℕ) (z : Record)
    → o ≡ Ok z → at_row.Message z.length z.headers z.content z.trailers ≡ row_of at r x
of-message h at r z e =
    let g = given-message h z e in
    ap (λ (y : Record). at_row.Message y.length y.headers y.content y.trailers) g.numbers ∙ counts-are g.long g.message ∙ ap (row_of at r) (sym g.taken)

module _ (s : List ℕ) (at : ℕ) {hs hs' cs cs' ts ts' : List ℕ} {o : Outcome} {t : Told} (told : t ≡ plain 0)
    (h : Outcomed (read_request t (take (length s - at) (drop at s))) hs hs' cs cs' ts ts' o) where
  whole : Outcomed (read_request (plain 0) (drop at s)) hs hs' cs cs' ts ts' o
  whole = rw (part-all s at, told) at h

  pub row-message : (z : Record) → o ≡ Ok z → at_row.Message z.length z.headers z.content z.trailers ≡ row_at s at
  unfolding row_at
  row-message z e = of-message whole at (drop at s) z e

  module _ (k p : ℕ) (e : o ≡ Err (Stop.Refused (refused_at k p))) where
    is-refused : read_request (plain 0) (drop at s) ≡ refused k p
    is-refused = given-refusal whole k p e

    pub row-refused : at_row.Stop (at + p) k ≡ row_at s at
    unfolding row_at
    row-refused = rw is-refused

    pub refused-in : at ≤ length s → at + p ≤ length s
    refused-in g = omega (arith, (request-refused (plain 0) (drop at s) k p is-refused).inside, length-drop at s)

  pub row_more : at < length s → o ≡ Err Stop.More → at_row.Stop (length s) more_needed ≡ row_at s at
  unfolding row_at is_empty
  row_more g e =
      let l : length (drop at s) ≡ length s - at = length-drop at s in
      let n : at + length (drop at s) ≡ length s = omega arith in
      let z : length (drop at s) ≡ 0 → ⊥ = λ (w : length (drop at s) ≡ 0). absurd (omega arith) in
      rw (given-more whole e, n, ne_eqb _ _ z)

-- ---- the rows from a place on

pub row-length : (i at n f c t : ℕ) → length (row_text i at n f c t) ≡ row_size i at n f c t
row-length i at n f c t = simp (length-append, digits-length) (omega arith)

pub end-length : (p k : ℕ) → length (end_line p k) ≡ end_size p k
unfolding end_line
end-length p k = simp (length-append, digits-length) (omega arith)

-- a message's row is followed by the rows from its end on
pub record Follows (s : List ℕ) (i at n f c t : ℕ) : Type 0 where
  pub rows : rows_at s i at ≡ row_text i at n f c t ++ rows_at s (i + 1) (at + n)
  pub size : length (rows_at s i at) ≡ row_size i at n f c t + length (rows_at s (i + 1) (at + n))
  pub some : 0 < n
  pub within : at + n ≤ length s

module _ (s : List ℕ) (i at : ℕ) where
  step : rows_at s i at ≡ rows i at (next (read_request (plain 0) (drop at s)) (drop at s) (take_off (read_request (plain 0))))
  unfolding rows_at
  step = ap (rows i at) (take_step (read_request (plain 0)) (request-within (plain 0)) (drop at s))

  pub row_last : (p k : ℕ) → at_row.Stop p k ≡ row_at s at → rows_at s i at ≡ end_line p k
  unfolding row_at rows
  row_last p k e = step ∙ go (read_request (plain 0) (drop at s)) e
    where
      end : (b : Bool) → at_row.Stop p k ≡ cond b (at_row.Stop at 0) (at_row.Stop (at + length (drop at s)) more_needed)
          → cond b (end_line at 0) (end_line (at + length (drop at s)) more_needed) ≡ end_line p k
      end true g = let x : p ≡ at = cc in let y : k ≡ 0 = cc in rw (x, y)
      end false g = let x : p ≡ at + length (drop at s) = cc in let y : k ≡ more_needed = cc in rw (x, y)

      go : (x : Answer Message) → at_row.Stop p k ≡ row_of at (drop at s) x → rows i at (next x (drop at s) (take_off (read_request (plain 0)))) ≡ end_line p k
      go (accepted n m) g = let w : ◌≡◌ {A = ℕ} 0 1 = cc in absurd (omega arith)
      go (refused a b) g = let x : p ≡ at + b = cc in let y : k ≡ a = cc in rw (x, y)
      go more g = end (is_empty (drop at s)) g

  pub row-follows : (n f c t : ℕ) → at ≤ length s → at_row.Message n f c t ≡ row_at s at → Follows s i at n f c t
  unfolding row_at rows row rows_at
  row-follows n f c t h e = go (read_request (plain 0) (drop at s)) refl e step
    where
      made : (n : ℕ) (m : Message) → read_request (plain 0) (drop at s) ≡ accepted n m
          → rows_at s i at ≡ row i at n m ++ rows (i + 1) (at + n) (take_off (read_request (plain 0)) (drop n (drop at s)))
          → Follows s i at n (length (meaning m).headers) (length (meaning m).content) (length (meaning m).trailers)
      made n m q z =
          let d : drop n (drop at s) ≡ drop (at + n) s = drop-drop n at s in
          let y : rows_at s i at ≡ row i at n m ++ rows_at s (i + 1) (at + n) = rw d at z in
          let w = request-within (plain 0) (drop at s) n m q in
          let l : length (drop at s) ≡ length s - at = length-drop at s in
          record {
            rows = y;
            size = ap length y ∙ length-append (row i at n m) (rows_at s (i + 1) (at + n)) ∙ ap (λ (k : ℕ). k + length (rows_at s (i + 1) (at + n))) (row-length i at n _ _ _);
            some = w.0;
            within = omega (arith, w.1);
          }

      go : (x : Answer Message) → read_request (plain 0) (drop at s) ≡ x → at_row.Message n f c t ≡ row_of at (drop at s) x
          → rows_at s i at ≡ rows i at (next x (drop at s) (take_off (read_request (plain 0)))) → Follows s i at n f c t
      go (accepted k m) q g z =
          let a : k ≡ n = cc in
          let b : length (meaning m).headers ≡ f = cc in
          let d : length (meaning m).content ≡ c = cc in
          let j : length (meaning m).trailers ≡ t = cc in
          rw (← a, ← b, ← d, ← j) (made k m q z)
      go (refused a b) q g z = let w : ◌≡◌ {A = ℕ} 0 1 = cc in absurd (omega arith)
      go more q g z = end (is_empty (drop at s)) g
        where
          end : (b : Bool) → at_row.Message n f c t ≡ cond b (at_row.Stop at 0) (at_row.Stop (at + length (drop at s)) more_needed) → Follows s i at n f c t
          end true g = let w : ◌≡◌ {A = ℕ} 0 1 = cc in absurd (omega arith)
          end false g = let w : ◌≡◌ {A = ℕ} 0 1 = cc in absurd (omega arith)

-- ---- what is left to be written

module _ {o₀ o o₁ : List ℕ} {p₀ p r : ℕ} {bs : List ℕ} where
  pub left-row : {s : List ℕ} {i at n f c t : ℕ} → Follows s i at n f c t
      → Left o₀ p₀ bs (length bs) o p (rows_at s i at) (length (rows_at s i at)) → Put o p (row_text i at n f c t) (row_size i at n f c t) o₁ r
      → Left o₀ p₀ bs (length bs) o₁ r (rows_at s (i + 1) (at + n)) (length (rows_at s (i + 1) (at + n)))
  left-row {s} {i} {at} {n} {f} {c} {t} w l p =
      left_step (record { next = omega (arith, l.next, w.size); kept = l.kept; all = rw w.rows at l.all }) p

  pub left-last : {a b : List ℕ} {m : ℕ} → b ≡ a → Left o₀ p₀ bs (length bs) o p b (length b) → Put o p a m o₁ r → Put o₀ p₀ bs (length bs) o₁ r
  left-last {a} {b} e l q = record { next = omega (arith, l.next, q.next, q.size, ap length e); size = refl; all = q.all ∙ ap (splice o p) (sym e) ∙ l.all }

-- ---- the whole listing

pub title-length : length title ≡ title_size
title-length = refl

pub listing-small : (s : List ℕ) → length s ≤ listing_most → title ++ rows_at s 1 0 ≡ listing_of s
unfolding listing_of rows_at
listing-small s h = simp (le-leb _ _ h)

pub listing-large : (s : List ℕ) → listing_most < length s → title ++ end_line listing_most too_large ≡ listing_of s
unfolding listing_of
listing-large s h = simp (lt-leb _ _ h)

-- what is written fits
pub served-fits : {bs o o' : List ℕ} {n : ℕ} → Served (writes bs) o o' (Ok n) → n ≤ length o
unfolding written_of
served-fits {bs} {o} {o'} {n} h = go (leb (length bs) (length o)) refl h.answer
  where
    go : (b : Bool) → leb (length bs) (length o) ≡ b → Ok n ≡ cond b (Ok (length bs)) (Err (refused_at no_room 0)) → n ≤ length o
    go true e q = let z : n ≡ length bs = cc in omega (arith, leb-true (length bs) (length o) e)
    go false e q = let z : ◌≡◌ {A = ℕ} 0 1 = cc in absurd (omega arith)

module _ {o : List ℕ} {bs all : List ℕ} {n : ℕ} (e : title ++ bs ≡ all) where
  pub titled-small : length bs ≡ n → length o < title_size + n → Served (writes all) o o (Err (refused_at no_room 0))
  titled-small l h =
      let k : length (title ++ bs) ≡ title_size + length bs = length-append title bs in
      let g : length o < length (title ++ bs) = omega arith in
      subst (λ (x : List ℕ). Served (writes x) o o (Err (refused_at no_room 0))) e (serve-small g)

  pub titled-done : {o₁ o₂ : List ℕ} {r₁ r₂ : ℕ} → title_size + n ≤ length o → Put o 0 title title_size o₁ r₁ → Put o₁ r₁ bs n o₂ r₂ → Served (writes all) o o₂ (Ok r₂)
  titled-done {o₁} {o₂} {r₁} {r₂} h p q = subst (λ (x : List ℕ). Served (writes x) o o₂ (Ok r₂)) e (serve-done h (put_then p q))

pub served-as : {a b o o' : List ℕ} {r : Written} → a ≡ b → Served (writes a) o o' r → Served (writes b) o o' r
served-as e h = rw e at h

pub served-is : {bs o o' : List ℕ} {r : Written} {n : ℕ} → r ≡ Ok n → Served (writes bs) o o' r → n ≤ length o
served-is e h = served-fits (rw e at h)
