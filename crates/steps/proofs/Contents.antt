-- Content and chunks, octet by octet: only their count and, of a chunk, what stands behind its data need be known.
use Prim.Native.Nat.{ℕ, zero, suc, ◌+◌, ◌-◌, ◌*◌, ◌<◌, ◌≤◌}
use mathlib.Core.Path.{◌≡◌, refl, sym, ap, ap₂, ◌∙◌, subst}
use mathlib.Core.Bool.{Bool, true, false, cond, ◌&&◌}
use mathlib.Core.List.{List, [], ◌∷◌, ◌++◌, append-nil}
use native.Mathlib.Omega.{arith}
use borrow.Author.Tests.{eq-eqb, ne_eqb, eqb-true, eqb-false}
use lib.Dec.{eqb}
use lib.ListN.{length, get_or, take, drop, length-append, drop_of_length-le, get_or-append}
use lib.Seq.{drop-cons, drop-append-le, take-append-le, get_or_at, length-take-le}
use Rattle.octets.specs.Text.{same_text, is_empty}
use Rattle.octets.specs.Limits.{head_most, chunks_most, content_most, chunk_line_most}
use Rattle.octets.specs.Refusals.{bad_syntax}
use Rattle.octets.proofs.Kit.{either, and-false}
use Rattle.script.specs.Script.{Script, done, stop, need, some_octets}
use Rattle.script.specs.Do.{◌>>=◌, Piece, piece, tell}
use Rattle.script.specs.Feed.{ended, failed, after}
use Rattle.script.proofs.Feeding.{one-more, after_stop, after-done}
use Rattle.script.proofs.Words.{octets-end}
use Rattle.messages.specs.declared.Told.{Told}
use Rattle.messages.specs.declared.Body.TheVariants.{Sized}
use Rattle.messages.specs.Message.{FieldRead, Start, plain_message, non_empty}
use Rattle.messages.specs.Meaning.{content_of}
use Rattle.messages.specs.Names.{kept_trailers, end_to_end}
use Rattle.http1_lines.specs.Read.{Content, chunk_data, after_chunk_line, chunks_from, content, request}
use Rattle.step_lines.specs.Stepping.{fresh, one_more}
use Rattle.step_lines.proofs.Opening.{fresh-open}
use Rattle.steps.specs.States.{refuse, finish, reading, with_tally, SaneCounts}
use Rattle.steps.specs.Bodies.{content_tally, content_octet, chunk_tally, data_cr, chunk_end, chunk_octet}
use Rattle.steps.specs.Standing.{finishing, HeadRead, InSized, InChunkLine, InChunk, AtEnd, Stands, StandsIn}
use Rattle.steps.specs.declared.Phase.TheVariants as phase
use Rattle.steps.specs.declared.State.{State}
use Rattle.steps.proofs.Lines.{refuses}
use Rattle.steps.proofs.Starting.{stands-in, head-still}

pub long-more : (s : List ℕ) (b n : ℕ) → length s ≡ n → length (s ++ b ∷ []) ≡ n + 1
long-more s b n e = length-append s (b ∷ []) ∙ omega arith

-- ---- content of a stated length

content-long : (c : Piece) → length (content_of (non_empty c)) ≡ length c.text
unfolding content_of is_empty
content-long c = pick (eqb (length c.text) 0) refl
  where
    pick : (z : Bool) → eqb (length c.text) 0 ≡ z → length (content_of (cond z [] (c ∷ []))) ≡ length c.text
    pick true e = sym (eqb-true (length c.text) 0 e)
    pick false e = ap (λ (l : List ℕ). length l) (append-nil c.text)

pub no-trailers : length (kept_trailers []) ≡ 0
unfolding kept_trailers end_to_end
no-trailers = refl

module _ (t : Told) (st : State) (room s : List ℕ) (r : InSized t st room s) (b : ℕ) where
  sized-more : after (request t) 0 (s ++ b ∷ []) ≡ after (content (Sized st.present.left) >>= finishing r.g r.ls) st.present.at (r.w ++ b ∷ [])
  sized-more = one-more _ _ _ b _ _ _ r.stands

  last-octet : st.present.have + 1 ≡ st.present.left
      → AtEnd t (finish st (st.present.at + st.present.left) (content_tally st.tally st.present.left)) room (s ++ b ∷ [])
  unfolding content ◌>>=◌
  last-octet e = record {
    message = plain_message r.g r.ls (non_empty (piece st.present.at (r.w ++ b ∷ []))) [];
    good = r.head.common.good;
    stands = sized-more ∙ octets-end st.present.left _ st.present.at (r.w ++ b ∷ []) (long-more r.w b _ r.count ∙ e) ∙ after-done _ _ _;
    headers = r.head.headers;
    content = sym (content-long (piece st.present.at (r.w ++ b ∷ [])) ∙ long-more r.w b _ r.count ∙ e);
    trailers = r.none ∙ sym no-trailers;
    keeps = r.head.keeps;
  }

  pub content-takes : st.phase ≡ phase.Content → Stands t (content_octet st) room (s ++ b ∷ [])
  unfolding content_octet
  content-takes p = either (λ (z : State). Stands t z room (s ++ b ∷ [])) (eqb (st.present.have + 1) st.present.left)
      (finish st (st.present.at + st.present.left) (content_tally st.tally st.present.left)) (reading st st.phase (one_more st.present st.present.cr))
      (λ e. record { by = last-octet (eqb-true (st.present.have + 1) st.present.left e) })
      (λ e. let z = eqb-false (st.present.have + 1) st.present.left e in stands-in t _ room (s ++ b ∷ []) phase.Content p (record {
        g = r.g;
        ls = r.ls;
        head = head-still t st room s (s ++ b ∷ []) r.g r.ls st.phase (one_more st.present st.present.cr) r.head;
        w = r.w ++ b ∷ [];
        stands = sized-more;
        count = long-more r.w b _ r.count;
        short = omega (arith, r.short);
        sizes = r.sizes;
        none = r.none;
      }))

-- ---- chunks

and-true : (z : Bool) → (z && true) ≡ z
and-true true = refl
and-true false = refl

same_end : (c d : ℕ) → same_text (c ∷ d ∷ []) (13 ∷ 10 ∷ []) ≡ (eqb c 13 && eqb d 10)
unfolding same_text
same_end c d = ap (λ (z : Bool). eqb c 13 && z) (and-true (eqb d 10))

content-more : (cs : List Piece) (c : Piece) → length (content_of (cs ++ c ∷ [])) ≡ length (content_of cs) + length c.text
unfolding content_of
content-more [] c = ap (λ (l : List ℕ). length l) (append-nil c.text) ∙ omega arith
content-more (d ∷ cs) c = length-append d.text (content_of (cs ++ c ∷ [])) ∙ omega (arith, content-more cs c, length-append d.text (content_of cs))

-- the last octet of a chunk of n octets with its CR LF is b
module _ {A : Type 0} (k : Content → Script A) (next : List Piece → ℕ → Script Content) (n total at : ℕ) (cs : List Piece) (w : List ℕ) (b : ℕ) (h : length w ≡ n + 1) where
  ends_with : drop n (w ++ b ∷ []) ≡ get_or w n 0 ∷ b ∷ []
  ends_with =
      drop-append-le n w (b ∷ []) (omega arith)
      ∙ ap (λ (l : List ℕ). l ++ b ∷ []) (drop-cons w n 0 (omega arith) ∙ ap (λ (l : List ℕ). get_or w n 0 ∷ l) (drop_of_length-le w {i = suc n} (omega arith)))

  all_in : length (w ++ b ∷ []) ≡ n + 2
  all_in = length-append w (b ∷ []) ∙ omega arith

  chunk-good : get_or w n 0 ≡ 13 → b ≡ 10
      → after (after_chunk_line next cs total n >>= k) at (w ++ b ∷ []) ≡ after (next (cs ++ piece at (take n w) ∷ []) (total + n) >>= k) (at + (n + 2)) []
  unfolding ◌>>=◌ chunk_data same_text
  chunk-good x y = octets-end (n + 2) _ at (w ++ b ∷ []) all_in ∙ rw (ends_with, x, y, take-append-le n w (10 ∷ []) (omega arith))

  chunk-bad : (eqb (get_or w n 0) 13 && eqb b 10) ≡ false → after (after_chunk_line next cs total n >>= k) at (w ++ b ∷ []) ≡ failed bad_syntax (at + n)
  unfolding ◌>>=◌ chunk_data
  chunk-bad x = octets-end (n + 2) _ at (w ++ b ∷ []) all_in ∙ rw (ends_with, same_end (get_or w n 0) b, x) (after_stop _ _ _ _)

module _ (t : Told) (st : State) (room s : List ℕ) (r : InChunk t st room s) (b : ℕ) where
  more-is : after (request t) 0 (s ++ b ∷ [])
      ≡ after (after_chunk_line (chunks_from (chunks_most - st.tally.chunks)) r.cs st.tally.content st.tally.size >>= finishing r.g r.ls) st.present.at (r.w ++ b ∷ [])
  more-is = one-more _ _ _ b _ _ _ r.stands

  -- behind the data: what is known of its CR
  cr-known : st.tally.size < st.present.have + 1 → eqb (get_or (r.w ++ b ∷ []) st.tally.size 0) 13 ≡ eqb (data_cr st b) 1
  unfolding data_cr
  cr-known z = either (λ (c : ℕ). eqb (get_or (r.w ++ b ∷ []) st.tally.size 0) 13 ≡ eqb c 1) (eqb st.present.have st.tally.size) (cond (eqb b 13) 1 0) st.present.cr
      (λ y. ap (λ (c : ℕ). eqb c 13) (get_or_at r.w b [] 0 st.tally.size (r.long ∙ eqb-true st.present.have st.tally.size y)) ∙ one (eqb b 13))
      (λ y. let u = eqb-false st.present.have st.tally.size y in
      ap (λ (c : ℕ). eqb c 13) (get_or-append r.w (b ∷ []) 0 st.tally.size (omega (arith, r.long))) ∙ r.end (omega arith))
    where
      one : (y : Bool) → y ≡ eqb (cond y 1 0) 1
      one true = refl
      one false = refl

  goes_on : (st.present.have + 1 ≡ st.present.left → ⊥) → st.phase ≡ phase.Chunk → Stands t (reading st st.phase (one_more st.present (data_cr st b))) room (s ++ b ∷ [])
  goes_on z p = stands-in t _ room (s ++ b ∷ []) phase.Chunk p (record {
    g = r.g;
    ls = r.ls;
    head = head-still t st room s (s ++ b ∷ []) r.g r.ls st.phase (one_more st.present (data_cr st b)) r.head;
    cs = r.cs;
    w = r.w ++ b ∷ [];
    stands = more-is;
    all = long-more s b _ r.all ∙ omega arith;
    long = long-more r.w b _ r.long;
    short = omega (arith, r.short);
    count = r.count;
    end = cr-known;
    sizes = r.sizes;
    places = r.places;
    none = r.none;
  })

  module _ (z : st.present.have + 1 ≡ st.present.left) where
    w-long : length r.w ≡ st.tally.size + 1
    w-long = r.long ∙ omega (arith, r.count.2)

    cr-is : eqb (get_or r.w st.tally.size 0) 13 ≡ eqb st.present.cr 1
    cr-is = r.end (omega (arith, r.count.2))

    bad-end : (eqb st.present.cr 1 && eqb b 10) ≡ false → Stands t (refuse st bad_syntax (st.present.at + st.tally.size)) room (s ++ b ∷ [])
    bad-end x =
        refuses t st room (s ++ b ∷ []) bad_syntax (st.present.at + st.tally.size) r.head.common.good
        (more-is ∙ chunk-bad (finishing r.g r.ls) (chunks_from (chunks_most - st.tally.chunks)) st.tally.size st.tally.content st.present.at r.cs r.w b w-long (ap (λ (y : Bool). y && eqb b 10) cr-is ∙ x))

    good-end : st.present.cr ≡ 1 → b ≡ 10
        → InChunkLine t (reading (with_tally st (chunk_tally st.tally)) phase.ChunkLine (fresh (st.present.at + st.present.left) chunk_line_most st.control.end)) room (s ++ b ∷ [])
    unfolding chunks_from ◌>>=◌
    good-end x y =
        let c = r.head.common.counts in
        let n : length (take st.tally.size r.w) ≡ st.tally.size = length-take-le st.tally.size r.w (omega (arith, w-long)) in
        let u : chunks_most - st.tally.chunks ≡ suc (chunks_most - (st.tally.chunks + 1)) = omega (arith, r.sizes.0) in
        let a : st.present.at + (st.tally.size + 2) ≡ st.present.at + st.present.left = omega (arith, r.count.2) in
        record {
          g = r.g;
          ls = r.ls;
          head = record {
            common = record {
              good = r.head.common.good;
              scheme = r.head.common.scheme;
              counts = record { lines = c.lines; host = c.host; hostlen = c.hostlen; chunks = omega (arith, r.sizes.0); content = r.sizes.1; size = c.size; trailers = c.trailers };
            };
            keeps = r.head.keeps;
            space = r.head.space;
            headers = r.head.headers;
          };
          cs = r.cs ++ piece st.present.at (take st.tally.size r.w) ∷ [];
          stands =
              more-is ∙ chunk-good (finishing r.g r.ls) (chunks_from (chunks_most - st.tally.chunks)) st.tally.size st.tally.content st.present.at r.cs r.w b w-long (eqb-true _ 13 (cr-is ∙ eq-eqb st.present.cr 1 x)) y
              ∙ ap₂ (λ (i j : ℕ). after (chunks_from i (r.cs ++ piece st.present.at (take st.tally.size r.w) ∷ []) (st.tally.content + st.tally.size) >>= finishing r.g r.ls) j []) u a;
          line =
              fresh-open (st.present.at + st.present.left) chunk_line_most st.control.end room (s ++ b ∷ []) (omega arith) (long-more s b _ r.all ∙ omega arith)
              (omega (arith, r.head.keeps.small)) r.head.space;
          count = (
            length-append r.cs (piece st.present.at (take st.tally.size r.w) ∷ []) ∙ omega (arith, r.count.0),
            content-more r.cs (piece st.present.at (take st.tally.size r.w)) ∙ omega (arith, r.count.1, n),
          );
          whole = (refl, refl);
          places = omega (arith, r.places, r.sizes.0, r.sizes.1, r.count.2);
          none = r.none;
        }

    end-stands : Stands t (chunk_end st b) room (s ++ b ∷ [])
    unfolding chunk_end
    end-stands = either (λ (y : State). Stands t y room (s ++ b ∷ [])) (eqb st.present.cr 1)
        (cond (eqb b 10) (reading (with_tally st (chunk_tally st.tally)) phase.ChunkLine (fresh (st.present.at + st.present.left) chunk_line_most st.control.end))
        (refuse st bad_syntax (st.present.at + st.tally.size))) (refuse st bad_syntax (st.present.at + st.tally.size))
        (λ x. either (λ (y : State). Stands t y room (s ++ b ∷ [])) (eqb b 10)
        (reading (with_tally st (chunk_tally st.tally)) phase.ChunkLine (fresh (st.present.at + st.present.left) chunk_line_most st.control.end))
        (refuse st bad_syntax (st.present.at + st.tally.size))
        (λ y. record { by = good-end (eqb-true st.present.cr 1 x) (eqb-true b 10 y) })
        (λ y. bad-end (rw (x, y) refl)))
        (λ x. bad-end (rw x refl))

  pub chunk-takes : st.phase ≡ phase.Chunk → Stands t (chunk_octet st b) room (s ++ b ∷ [])
  unfolding chunk_octet
  chunk-takes p = either (λ (z : State). Stands t z room (s ++ b ∷ [])) (eqb (st.present.have + 1) st.present.left) (chunk_end st b)
      (reading st st.phase (one_more st.present (data_cr st b)))
      (λ z. end-stands (eqb-true (st.present.have + 1) st.present.left z)) (λ z. goes_on (eqb-false (st.present.have + 1) st.present.left z) p)
