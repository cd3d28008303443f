-- Chunk lines and trailer lines, octet by octet.
use Rattle.std.proofs.Common.{None, Option, Some}
use Prim.Native.Nat.{ℕ, ◌+◌, ◌-◌, ◌*◌, ◌<◌, ◌≤◌}
use mathlib.Core.Path.{◌≡◌, refl, sym, ap, ◌∙◌, subst}
use mathlib.Core.Bool.{Bool, true, false, cond}
use mathlib.Core.List.{List, [], ◌∷◌, ◌++◌, append-nil, map}
use native.Mathlib.Omega.{arith}
use borrow.Author.Tests.{eq-eqb, ne_eqb, le-leb, lt-leb, lt-ltb, le-ltb, eqb-true, eqb-false, leb-true, leb-false, ltb-true, ltb-false}
use lib.Dec.{eqb, leb, ltb}
use lib.ListN.{length, take, set, length-append, length-set}
use lib.Seq.{take-set-le}
use Rattle.octets.specs.Text.{lower_of}
use Rattle.octets.specs.Limits.{lines_most, trailer_most, chunks_most, content_most}
use Rattle.octets.specs.Refusals.{bad_syntax, bad_length, too_large}
use Rattle.octets.proofs.Kit.{either}
use Rattle.script.specs.Script.{Script, stop, cr_state}
use Rattle.script.specs.Do.{◌>>=◌}
use Rattle.script.specs.Feed.{failed, after}
use Rattle.script.proofs.Feeding.{after_stop, after-done}
use Rattle.script.proofs.Do.{bind-bind}
use Rattle.messages.specs.declared.Told.{Told}
use Rattle.messages.specs.Message.{FieldRead, Start, Message, plain_message}
use Rattle.messages.specs.Names.{kind_of, line_kind, is_end_to_end, end_to_end, kept_trailers, are_trailers}
use Rattle.messages.specs.Notes.{no_notes, note_of}
use Rattle.messages.proofs.Noting.{notes-none, notes-more, trailers-noted, end-to-end-append, trailers-few}
use Rattle.http1_lines.specs.Lines.{field_lens, chunk_lens, chunk_of, field_parts}
use Rattle.http1_lines.specs.Read.{Lines, Content, section, field_lines, trailer_section, after_chunk_line, chunks_from, request}
use Rattle.http1_lines.specs.declared.FieldLine.{FieldLine}
use Rattle.step_lines.specs.Stepping.{line_text, fresh, one_more, next_present}
use Rattle.step_lines.proofs.Opening.{line-open-more, goes_on, too_long, wrong-end, whole, next-open, text-long, fresh-open}
use Rattle.step_lines.proofs.Fields.{field_at, section-ends, lines-full, no-field-line, field-line-in, field-line-last}
use Rattle.steps.specs.States.{Held, refuse, finish, reading, in_section, with_tally, begins, SaneCounts}
use Rattle.steps.specs.Bodies.{size_tally, chunk_sized, on_chunk, chunk_in, trailer_tally, trailer_noted, trailer_held, on_trailer, trailers_end, trailer_in}
use Rattle.steps.specs.Steps.{whole_by, line_octet}
use Rattle.steps.specs.Standing.{finishing, chunk_rest, trailer_end, HeadRead, InChunkLine, InChunk, InTrailers, AtEnd, Stands}
use Rattle.steps.specs.declared.Phase.{Phase}
use Rattle.steps.specs.declared.Phase.TheVariants as phase
use Rattle.steps.specs.declared.State.{State}
use Rattle.steps.proofs.Lines.{refuses, line-ways, keeps-still}
use Rattle.steps.proofs.Starting.{stands-in, counts-still}
use Rattle.steps.proofs.Contents.{long-more}

-- a head that is read, with one octet more of a line in the room
head_more : (t : Told) (st : State) (room s s' : List ℕ) (g : Start) (ls : List FieldRead) (c b : ℕ) → st.control.end ≤ st.present.from → HeadRead t st room s g ls
    → HeadRead t (reading st st.phase (one_more st.present c)) (set room (st.present.from + st.present.have) b) s' g ls
head_more t st room s s' g ls c b e h =
    let i = st.present.from + st.present.have in
    record {
      common = record { good = h.common.good; scheme = h.common.scheme; counts = counts-still st st.phase h.common.counts };
      keeps = keeps-still st.control room (set room i b) (take-set-le st.control.end room i b (omega arith)) g h.keeps;
      space = rw (length-set room i b) h.space;
      headers = h.headers;
    }

-- ---- chunk lines

module _ (t : Told) (st : State) (room s : List ℕ) (r : InChunkLine t st room s) (b : ℕ) where
  goes : (c : ℕ) → (b ≡ 10 → ⊥) → st.present.have + 1 < st.present.left → c ≡ cr_state st.present.cr b
      → InChunkLine t (reading st st.phase (one_more st.present c)) (set room (st.present.from + st.present.have) b) (s ++ b ∷ [])
  goes c e k u = record {
    g = r.g;
    ls = r.ls;
    head = head_more t st room s (s ++ b ∷ []) r.g r.ls c b (omega (arith, r.whole.1)) r.head;
    cs = r.cs;
    stands = goes_on st.present room s r.line (request t) (chunk_rest (chunks_most - st.tally.chunks) r.cs st.tally.content (finishing r.g r.ls)) r.stands b c;
    line = line-open-more st.present room s r.line b c e k u;
    count = r.count;
    whole = r.whole;
    places = r.places;
    none = r.none;
  }

  wrong : b ≡ 10 → (st.present.cr ≡ 1 → ⊥) → after (request t) 0 (s ++ b ∷ []) ≡ failed bad_syntax st.present.at
  wrong e h = wrong-end st.present room s r.line (request t) (chunk_rest (chunks_most - st.tally.chunks) r.cs st.tally.content (finishing r.g r.ls)) r.stands b e h

  long : (b ≡ 10 → ⊥) → st.present.left ≤ st.present.have + 1 → after (request t) 0 (s ++ b ∷ []) ≡ failed too_large st.present.at
  long e h = too_long st.present room s r.line (request t) (chunk_rest (chunks_most - st.tally.chunks) r.cs st.tally.content (finishing r.g r.ls)) r.stands b e h

  module _ (e : b ≡ 10) (h : st.present.cr ≡ 1) where
    -- what the script does with a chunk line that states n octets
    abbrev sized : ℕ → Script Content
    sized n =
        cond (eqb n 0) (trailer_section r.cs)
        (cond (leb chunks_most (length r.cs)) (stop too_large st.present.at)
        (cond (ltb content_most (st.tally.content + n)) (stop too_large st.present.at) (after_chunk_line (chunks_from (chunks_most - st.tally.chunks)) r.cs st.tally.content n)))

    bad-is : chunk_lens (line_text st.present room) ≡ None → after (request t) 0 (s ++ b ∷ []) ≡ failed bad_syntax st.present.at
    unfolding ◌>>=◌ chunk_of
    bad-is y = whole st.present room s r.line (request t) (chunk_rest (chunks_most - st.tally.chunks) r.cs st.tally.content (finishing r.g r.ls)) r.stands b e h ∙ rw y (after_stop _ _ _ _)

    module _ (n : ℕ) (y : chunk_lens (line_text st.present room) ≡ Some n) where
      size_is : (z : Script Content) → sized n ≡ z → after (request t) 0 (s ++ b ∷ []) ≡ after (z >>= finishing r.g r.ls) (st.present.at + (st.present.have + 1)) []
      unfolding ◌>>=◌ chunk_of
      size_is z x = whole st.present room s r.line (request t) (chunk_rest (chunks_most - st.tally.chunks) r.cs st.tally.content (finishing r.g r.ls)) r.stands b e h ∙ rw y (ap (λ (w : Script Content). after (w >>= finishing r.g r.ls) (st.present.at + (st.present.have + 1)) []) x)

      s-long : length (s ++ b ∷ []) ≡ st.present.at + (st.present.have + 1)
      s-long = long-more s b _ r.line.long ∙ omega arith

      counts : SaneCounts st
      counts = r.head.common.counts

      trailers-begin : n ≡ 0
          → InTrailers t (in_section st phase.TrailerLine (fresh (st.present.at + (st.present.have + 1)) trailer_most st.control.end) 0 no_notes) room (s ++ b ∷ [])
      unfolding trailer_section section kept_trailers end_to_end
      trailers-begin x =
          let c = counts in
          record {
            g = r.g;
            ls = r.ls;
            head = record {
              common = record {
                good = r.head.common.good;
                scheme = r.head.common.scheme;
                counts = record { lines = omega arith; host = c.host; hostlen = c.hostlen; chunks = c.chunks; content = c.content; size = c.size; trailers = c.trailers };
              };
              keeps = r.head.keeps;
              space = r.head.space;
              headers = r.head.headers;
            };
            cs = r.cs;
            fs = [];
            stands =
                size_is (trailer_section r.cs) (rw (eq-eqb n 0 x) refl)
                ∙ ap (λ (z : Script _). after z (st.present.at + (st.present.have + 1)) []) (bind-bind (section trailer_most) (trailer_end r.cs) (finishing r.g r.ls));
            line =
                fresh-open (st.present.at + (st.present.have + 1)) trailer_most st.control.end room (s ++ b ∷ []) (omega arith) s-long (omega (arith, r.head.keeps.small)) r.head.space;
            count = refl;
            content = r.count.1;
            trailers = (r.none, notes-none true);
            whole = (refl, omega arith, omega (arith, r.places, r.line.short, r.whole.0));
          }

      module _ (some : n ≡ 0 → ⊥) where
        many_is : chunks_most ≤ st.tally.chunks → after (request t) 0 (s ++ b ∷ []) ≡ failed too_large st.present.at
        unfolding ◌>>=◌
        many_is x =
            size_is (stop too_large st.present.at) (rw (ne_eqb n 0 some, le-leb chunks_most (length r.cs) (rw r.count.0 x)) refl) ∙ after_stop _ _ _ _

        module _ (few : st.tally.chunks < chunks_most) where
          large_is : content_most < st.tally.content + n → after (request t) 0 (s ++ b ∷ []) ≡ failed too_large st.present.at
          unfolding ◌>>=◌
          large_is x =
              size_is (stop too_large st.present.at)
              (rw (ne_eqb n 0 some, lt-leb chunks_most (length r.cs) (rw r.count.0 few), lt-ltb content_most (st.tally.content + n) x) refl) ∙ after_stop _ _ _ _

          chunk-begins : st.tally.content + n ≤ content_most
              → InChunk t (reading (with_tally st (size_tally st.tally n)) phase.Chunk (fresh (st.present.at + (st.present.have + 1)) (n + 2) st.control.end)) room (s ++ b ∷ [])
          chunk-begins x =
              let c = counts in
              record {
                g = r.g;
                ls = r.ls;
                head = record {
                  common = record {
                    good = r.head.common.good;
                    scheme = r.head.common.scheme;
                    counts = record { lines = c.lines; host = c.host; hostlen = c.hostlen; chunks = c.chunks; content = c.content; size = omega arith; trailers = c.trailers };
                  };
                  keeps = r.head.keeps;
                  space = r.head.space;
                  headers = r.head.headers;
                };
                cs = r.cs;
                w = [];
                stands =
                    size_is (after_chunk_line (chunks_from (chunks_most - st.tally.chunks)) r.cs st.tally.content n)
                    (rw (ne_eqb n 0 some, lt-leb chunks_most (length r.cs) (rw r.count.0 few), le-ltb content_most (st.tally.content + n) x) refl);
                all = s-long ∙ omega arith;
                long = refl;
                short = omega arith;
                count = (r.count.0, r.count.1, refl);
                end = λ z. absurd (omega arith);
                sizes = (few, x);
                places = omega (arith, r.places, r.line.short, r.whole.0);
                none = r.none;
              }

      size-stands : Stands t (chunk_sized st n) room (s ++ b ∷ [])
      unfolding chunk_sized
      size-stands = either (λ (z : State). Stands t z room (s ++ b ∷ [])) (eqb n 0)
          (in_section st phase.TrailerLine (fresh (st.present.at + (st.present.have + 1)) trailer_most st.control.end) 0 no_notes)
          (cond (leb chunks_most st.tally.chunks) (refuse st too_large st.present.at) (cond (ltb content_most (st.tally.content + n)) (refuse st too_large st.present.at)
          (reading (with_tally st (size_tally st.tally n)) phase.Chunk (fresh (st.present.at + (st.present.have + 1)) (n + 2) st.control.end))))
          (λ x. record { by = trailers-begin (eqb-true n 0 x) })
          (λ x. let some = eqb-false n 0 x in either (λ (z : State). Stands t z room (s ++ b ∷ [])) (leb chunks_most st.tally.chunks) (refuse st too_large st.present.at)
          (cond (ltb content_most (st.tally.content + n)) (refuse st too_large st.present.at)
          (reading (with_tally st (size_tally st.tally n)) phase.Chunk (fresh (st.present.at + (st.present.have + 1)) (n + 2) st.control.end)))
          (λ z. refuses t st room (s ++ b ∷ []) too_large st.present.at r.head.common.good (many_is some (leb-true chunks_most st.tally.chunks z)))
          (λ z. let few = leb-false chunks_most st.tally.chunks z in either (λ (z : State). Stands t z room (s ++ b ∷ [])) (ltb content_most (st.tally.content + n)) (refuse st too_large st.present.at)
          (reading (with_tally st (size_tally st.tally n)) phase.Chunk (fresh (st.present.at + (st.present.have + 1)) (n + 2) st.control.end))
          (λ u. refuses t st room (s ++ b ∷ []) too_large st.present.at r.head.common.good (large_is some few (ltb-true content_most (st.tally.content + n) u)))
          (λ u. record { by = chunk-begins some few (ltb-false content_most (st.tally.content + n) u) })))

    line-in : Stands t (chunk_in st (line_text st.present room)) room (s ++ b ∷ [])
    unfolding chunk_in
    line-in = by (chunk_lens (line_text st.present room)) refl
      where
        by : (y : Option ℕ) → chunk_lens (line_text st.present room) ≡ y → Stands t (on_chunk st y) room (s ++ b ∷ [])
        by (Some n) y = size-stands n y
        by None y = refuses t st room (s ++ b ∷ []) bad_syntax st.present.at r.head.common.good (bad-is y)

  pub chunk-line-takes : (p : st.phase ≡ phase.ChunkLine) → Stands t (line_octet st room b).state (line_octet st room b).room (s ++ b ∷ [])
  chunk-line-takes p = line-ways st room b (λ (z : Held). Stands t z.state z.room (s ++ b ∷ []))
      (λ c g k u. stands-in t _ _ (s ++ b ∷ []) phase.ChunkLine p (goes c g k u))
      (λ e h. subst (λ (x : Phase). Stands t (whole_by x st room).state (whole_by x st room).room (s ++ b ∷ [])) (sym p) (line-in e h))
      (λ e h. refuses t st room (s ++ b ∷ []) bad_syntax st.present.at r.head.common.good (wrong e h))
      (λ e h. refuses t st room (s ++ b ∷ []) too_large st.present.at r.head.common.good (long e h))

-- ---- trailer lines

trailer-count : (fs : List FieldRead) (f : FieldRead) (n : ℕ) → n ≡ length (kept_trailers fs) → cond (is_end_to_end false (line_kind f)) (n + 1) n ≡ length (kept_trailers (fs ++ f ∷ []))
unfolding kept_trailers end_to_end
trailer-count fs f n e =
    pick (is_end_to_end false (line_kind f)) ∙ sym (ap (λ (l : List FieldRead). length l) (end-to-end-append false fs (f ∷ [])))
  where
    pick : (z : Bool) → cond z (n + 1) n ≡ length (end_to_end false fs ++ cond z (f ∷ []) [])
    pick true = omega (arith, length-append (end_to_end false fs) (f ∷ []), e)
    pick false = e ∙ ap (λ (l : List FieldRead). length l) (sym (append-nil (end_to_end false fs)))

module _ (t : Told) (st : State) (room s : List ℕ) (r : InTrailers t st room s) (b : ℕ) where
  abbrev k : Lines → Script Message
  k h = trailer_end r.cs h >>= finishing r.g r.ls

  trailer-goes : (c : ℕ) → (b ≡ 10 → ⊥) → st.present.have + 1 < st.present.left → c ≡ cr_state st.present.cr b
      → InTrailers t (reading st st.phase (one_more st.present c)) (set room (st.present.from + st.present.have) b) (s ++ b ∷ [])
  unfolding field_lines ◌>>=◌
  trailer-goes c e x u = record {
    g = r.g;
    ls = r.ls;
    head = head_more t st room s (s ++ b ∷ []) r.g r.ls c b (omega (arith, r.whole.0)) r.head;
    cs = r.cs;
    fs = r.fs;
    stands = goes_on st.present room s r.line (request t) _ r.stands b c;
    line = line-open-more st.present room s r.line b c e x u;
    count = r.count;
    content = r.content;
    trailers = r.trailers;
    whole = r.whole;
  }

  trailer-wrong : b ≡ 10 → (st.present.cr ≡ 1 → ⊥) → after (request t) 0 (s ++ b ∷ []) ≡ failed bad_syntax st.present.at
  unfolding field_lines ◌>>=◌
  trailer-wrong e h = wrong-end st.present room s r.line (request t) _ r.stands b e h

  trailer-long : (b ≡ 10 → ⊥) → st.present.left ≤ st.present.have + 1 → after (request t) 0 (s ++ b ∷ []) ≡ failed too_large st.present.at
  unfolding field_lines ◌>>=◌
  trailer-long e h = too_long st.present room s r.line (request t) _ r.stands b e h

  module _ (e : b ≡ 10) (h : st.present.cr ≡ 1) where
    v-long : length (line_text st.present room) ≡ st.present.have - 1
    v-long = text-long st.present room s r.line b h

    -- the end of the section
    module _ (none : st.present.have - 1 ≡ 0) where
      end_is : after (request t) 0 (s ++ b ∷ [])
          ≡ after (trailer_end r.cs (record { lines = r.fs; end = st.present.at + 2; left = st.present.left - 2 }) >>= finishing r.g r.ls) (st.present.at + 2) []
      end_is = section-ends (request t) k st.lines r.fs r.count st.present room s r.line r.stands b e h (v-long ∙ none)

      allowed-is : are_trailers r.fs ≡ st.notes.trailers
      allowed-is = trailers-noted true r.fs ∙ sym (ap (λ n. n.trailers) r.trailers.1)

      good-end : st.notes.trailers ≡ true → AtEnd t (finish st (st.present.at + 2) st.tally) room (s ++ b ∷ [])
      unfolding ◌>>=◌
      good-end x = record {
        message = plain_message r.g r.ls r.cs r.fs;
        good = r.head.common.good;
        stands = end_is ∙ rw (allowed-is ∙ x) (after-done _ _ _);
        headers = r.head.headers;
        content = sym r.content;
        trailers = r.trailers.0;
        keeps = r.head.keeps;
      }

      bad-end : st.notes.trailers ≡ false → after (request t) 0 (s ++ b ∷ []) ≡ failed bad_length (st.present.at + 2)
      unfolding ◌>>=◌
      bad-end x = end_is ∙ rw (allowed-is ∙ x) (after_stop _ _ _ _)

      end-stands : Stands t (trailers_end st) room (s ++ b ∷ [])
      unfolding trailers_end
      end-stands = either (λ (z : State). Stands t z room (s ++ b ∷ [])) st.notes.trailers (finish st (st.present.at + 2) st.tally) (refuse st bad_length (st.present.at + 2))
          (λ x. record { by = good-end x }) (λ x. refuses t st room (s ++ b ∷ []) bad_length (st.present.at + 2) r.head.common.good (bad-end x))

    -- a trailer line
    module _ (some : length (line_text st.present room) ≡ 0 → ⊥) (few : st.lines < lines_most) (m c l : ℕ) (y : field_lens (line_text st.present room) ≡ Some (field_parts m c l)) where
      abbrev f : FieldRead
      f = field_at st.present.at (line_text st.present room) m c l

      abbrev next : State
      next =
          in_section (with_tally st (trailer_tally st.tally (is_end_to_end false (line_kind f)))) st.phase (next_present st.present st.control.end) (st.lines + 1)
          (note_of true st.notes (line_kind f) st.present.at (st.present.at + c) f.value.text)

      tally-is : (trailer_tally st.tally (is_end_to_end false (line_kind f))).trailers ≡ length (kept_trailers (r.fs ++ f ∷ []))
      unfolding trailer_tally
      tally-is = trailer-count r.fs f st.tally.trailers r.trailers.0

      next-counts : SaneCounts next
      unfolding trailer_tally
      next-counts =
          let d = r.head.common.counts in
          record {
            lines = omega arith;
            host = d.host;
            hostlen = d.hostlen;
            chunks = d.chunks;
            content = d.content;
            size = d.size;
            trailers = omega (arith, tally-is, trailers-few (r.fs ++ f ∷ []), length-append r.fs (f ∷ []), r.count);
          }

      line-next : (st.present.left - (st.present.have + 1) ≡ 0 → ⊥) → InTrailers t next room (s ++ b ∷ [])
      unfolding trailer_tally
      line-next z = record {
        g = r.g;
        ls = r.ls;
        head = record {
          common = record { good = r.head.common.good; scheme = r.head.common.scheme; counts = next-counts };
          keeps = r.head.keeps;
          space = r.head.space;
          headers = r.head.headers;
        };
        cs = r.cs;
        fs = r.fs ++ f ∷ [];
        stands = field-line-in (request t) k st.lines r.fs r.count st.present room s r.line r.stands b e h some few m c l y;
        line = next-open st.present room s r.line b h st.control.end room refl z (omega (arith, r.whole.0));
        count = length-append r.fs (f ∷ []) ∙ omega (arith, r.count);
        content = r.content;
        trailers = (tally-is, ap (λ n. note_of true n (line_kind f) st.present.at (st.present.at + c) f.value.text) r.trailers.1 ∙ sym (notes-more true r.fs f));
        whole = (refl, omega (arith, r.whole.1), omega (arith, r.whole.2, r.line.short));
      }

      next-stands : st.phase ≡ phase.TrailerLine → Stands t (begins next) room (s ++ b ∷ [])
      unfolding begins
      next-stands p = either (λ (z : State). Stands t z room (s ++ b ∷ [])) (eqb (st.present.left - (st.present.have + 1)) 0)
          (refuse next too_large (st.present.at + (st.present.have + 1))) next
          (λ g. refuses t next room (s ++ b ∷ []) too_large (st.present.at + (st.present.have + 1)) r.head.common.good
          (field-line-last (request t) k st.lines r.fs r.count st.present room s r.line r.stands b e h some few m c l y
          (eqb-true (st.present.left - (st.present.have + 1)) 0 g)))
          (λ g. stands-in t next room (s ++ b ∷ []) phase.TrailerLine p (line-next (eqb-false (st.present.left - (st.present.have + 1)) 0 g)))

      held-stands : st.phase ≡ phase.TrailerLine
          → Stands t (trailer_held st (line_text st.present room) (kind_of (map lower_of (take m (line_text st.present room)))) c l) room (s ++ b ∷ [])
      unfolding trailer_held trailer_noted line_kind
      held-stands p = next-stands p

    trailer-in : st.phase ≡ phase.TrailerLine → Stands t (trailer_in st (line_text st.present room)) room (s ++ b ∷ [])
    unfolding trailer_in
    trailer-in p = either (λ (z : State). Stands t z room (s ++ b ∷ [])) (eqb (st.present.have - 1) 0) (trailers_end st)
        (cond (leb lines_most st.lines) (refuse st too_large st.present.at) (on_trailer st (line_text st.present room) (field_lens (line_text st.present room))))
        (λ g. end-stands (eqb-true (st.present.have - 1) 0 g))
        (λ g. let some = eqb-false (st.present.have - 1) 0 g in
        either (λ (z : State). Stands t z room (s ++ b ∷ [])) (leb lines_most st.lines) (refuse st too_large st.present.at)
        (on_trailer st (line_text st.present room) (field_lens (line_text st.present room)))
        (λ z. refuses t st room (s ++ b ∷ []) too_large st.present.at r.head.common.good
        (lines-full (request t) k st.lines r.fs r.count st.present room s r.line r.stands b e h (λ w. some (sym v-long ∙ w)) (leb-true lines_most st.lines z)))
        (λ z. by_field (λ w. some (sym v-long ∙ w)) (leb-false lines_most st.lines z) (field_lens (line_text st.present room)) refl))
      where
        by_field : (length (line_text st.present room) ≡ 0 → ⊥) → st.lines < lines_most → (y : Option FieldLine) → field_lens (line_text st.present room) ≡ y
            → Stands t (on_trailer st (line_text st.present room) y) room (s ++ b ∷ [])
        by_field some few (Some f) y = held-stands some few f.name f.value f.len y p
        by_field some few None y = refuses t st room (s ++ b ∷ []) bad_syntax st.present.at r.head.common.good
            (no-field-line (request t) k st.lines r.fs r.count st.present room s r.line r.stands b e h some few y)

  pub trailer-takes : (p : st.phase ≡ phase.TrailerLine) → Stands t (line_octet st room b).state (line_octet st room b).room (s ++ b ∷ [])
  trailer-takes p = line-ways st room b (λ (z : Held). Stands t z.state z.room (s ++ b ∷ []))
      (λ c g x u. stands-in t _ _ (s ++ b ∷ []) phase.TrailerLine p (trailer-goes c g x u))
      (λ e h. subst (λ (x : Phase). Stands t (whole_by x st room).state (whole_by x st room).room (s ++ b ∷ [])) (sym p) (trailer-in e h p))
      (λ e h. refuses t st room (s ++ b ∷ []) bad_syntax st.present.at r.head.common.good (trailer-wrong e h))
      (λ e h. refuses t st room (s ++ b ∷ []) too_large st.present.at r.head.common.good (trailer-long e h))
