-- One chunk, by what its line and its data are.
use Rattle.std.proofs.Common.{Some, None, Ok, Err}
use Prim.Native.Nat.{ℕ, suc, ◌+◌, ◌-◌, ◌<◌, ◌≤◌}
use mathlib.Core.Path.{◌≡◌, refl, ◌∙◌}
use mathlib.Core.List.{List, [], ◌∷◌}
use native.Mathlib.Omega.{arith}
use native.Mathlib.Numerals.{add-one}
use borrow.Author.Tests.{eq-eqb, ne_eqb, le-leb, lt-leb, lt-ltb, le-ltb}
use lib.ListN.{length, get_or, take, drop}
use lib.Seq.{drop-cons, drop-drop, take-take}
use Rattle.octets.specs.Text.{same_text}
use Rattle.octets.specs.Limits.{chunk_line_most, chunks_most, content_most}
use Rattle.octets.specs.Refusals.{bad_syntax, too_large, refused_at}
use Rattle.script.specs.Script.{run, line_of}
use Rattle.script.specs.Do.{◌>>=◌, Piece, piece, good, wrong}
use Rattle.script.specs.declared.Line.TheVariants.{Ends}
use Rattle.script.proofs.Laws.{run-stop}
use Rattle.script.proofs.Places.{line-ends, line-within, octets-more, octets-in}
use Rattle.messages.specs.declared.Stop.{Stop}
use Rattle.messages.specs.declared.Span.{Span}
use Rattle.http1_lines.specs.Lines.{chunk_lens, chunk_of}
use Rattle.http1_lines.specs.Read.{chunk_data, after_chunk_line, chunks_from}
use Rattle.http1_parts.specs.Stops.{line_ended}
use Rattle.http1_parts.specs.Chunk.{DataRead, Chunked}
use Rattle.http1_parts.specs.declared.ChunkRead.TheVariants as read
use Rattle.http1_parts.proofs.Stops.{line-stopped}
use Rattle.http1_parts.proofs.Parts.{drop-take}

-- ---- the data

two-of : (s : List ℕ) (i : ℕ) → i + 2 ≤ length s → take 2 (drop i s) ≡ get_or s i 0 ∷ get_or s (i + 1) 0 ∷ []
two-of s i h = rw (drop-cons s i 0 (omega arith), drop-cons s (suc i) 0 (omega arith), add-one i)

module _ (s : List ℕ) (start n : ℕ) (within : start ≤ length s) where
  pub data-short : length s - start < n + 2 → DataRead s start n (Err Stop.More)
  unfolding ◌>>=◌
  data-short h = record { says = λ f cs total. octets-more _ _ s start within h; lies = tt }

  module _ (h : n + 2 ≤ length s - start) where
    ending : drop n (take (n + 2) (drop start s)) ≡ get_or s (start + n) 0 ∷ get_or s (start + n + 1) 0 ∷ []
    ending =
        let e : n + 2 - n ≡ 2 = omega arith in
        rw (drop-take n (n + 2) (drop start s), e, drop-drop n start s) (two-of s (start + n) (omega arith))

    refuse : chunk_data n (piece start (take (n + 2) (drop start s))) ≡ wrong bad_syntax (start + n) → DataRead s start n (Err (Stop.Refused (refused_at bad_syntax (start + n))))
    unfolding ◌>>=◌
    refuse e = record { says = λ f cs total. octets-in _ _ s start within h ∙ rw (e, run-stop); lies = tt }

    pub data-cr : (get_or s (start + n) 0 ≡ 13 → ⊥) → DataRead s start n (Err (Stop.Refused (refused_at bad_syntax (start + n))))
    unfolding chunk_data same_text
    data-cr x = refuse (rw (ending, ne_eqb _ 13 x))

    module _ (x : get_or s (start + n) 0 ≡ 13) where
      pub data-lf : (get_or s (start + n + 1) 0 ≡ 10 → ⊥) → DataRead s start n (Err (Stop.Refused (refused_at bad_syntax (start + n))))
      unfolding chunk_data same_text
      data-lf y = refuse (rw (ending, eq-eqb _ 13 x, ne_eqb _ 10 y))

      good-data : get_or s (start + n + 1) 0 ≡ 10 → chunk_data n (piece start (take (n + 2) (drop start s))) ≡ good (piece start (take n (drop start s)))
      unfolding chunk_data same_text
      good-data y = rw (ending, eq-eqb _ 13 x, eq-eqb _ 10 y, take-take n (n + 2) (drop start s) (omega arith))

      pub data-good : get_or s (start + n + 1) 0 ≡ 10 → DataRead s start n (Ok (record { start = start; len = n }))
      unfolding ◌>>=◌
      data-good y = record { says = λ f cs total. octets-in _ _ s start within h ∙ rw (good-data y); lies = (refl, refl, omega arith) }

-- ---- the line

module _ (s : List ℕ) (i count total : ℕ) where
  pub chunk-stopped : {e : Stop} → Err e ≡ line_ended i (line_of (drop i s) chunk_line_most i 0) → Chunked s i count total (Err e)
  unfolding chunks_from ◌>>=◌
  chunk-stopped e = record { says = λ f cs c. line-stopped _ _ s i e; lies = tt }

  module _ (next : ℕ) (e : line_of (drop i s) chunk_line_most i 0 ≡ Ends next) where
    pub chunk-wrong : chunk_lens (take (next - 2 - i) (drop i s)) ≡ None → Chunked s i count total (Err (Stop.Refused (refused_at bad_syntax i)))
    unfolding chunks_from ◌>>=◌ chunk_of
    chunk-wrong q = record { says = λ f cs c. line-ends _ _ _ _ s i next e ∙ rw (q, run-stop); lies = tt }

    module _ (within : i ≤ length s) (n : ℕ) (q : chunk_lens (take (next - 2 - i) (drop i s)) ≡ Some n) where
      pub chunk-last : n ≡ 0 → Chunked s i count total (Ok (read.Last next))
      unfolding chunks_from ◌>>=◌ chunk_of
      chunk-last z =
          record {
            says = λ f cs c. line-ends _ _ _ _ s i next e ∙ rw (q, eq-eqb n 0 z);
            lies = ((line-within s chunk_line_most i next within e).1, omega (arith, line-within s chunk_line_most i next within e));
          }

      module _ (z : n ≡ 0 → ⊥) where
        pub chunk-many : chunks_most ≤ count → Chunked s i count total (Err (Stop.Refused (refused_at too_large i)))
        unfolding chunks_from ◌>>=◌ chunk_of
        chunk-many m =
            record { says = λ f cs c. line-ends _ _ _ _ s i next e ∙ rw (q, ne_eqb n 0 z, c, le-leb chunks_most count m, run-stop); lies = tt }

        module _ (m : count < chunks_most) where
          pub chunk-large : content_most < total + n → Chunked s i count total (Err (Stop.Refused (refused_at too_large i)))
          unfolding chunks_from ◌>>=◌ chunk_of
          chunk-large g =
              record {
                says = λ f cs c. line-ends _ _ _ _ s i next e ∙ rw (q, ne_eqb n 0 z, c, lt-leb chunks_most count m, lt-ltb content_most (total + n) g, run-stop);
                lies = tt;
              }

          module _ (g : total + n ≤ content_most) where
            to-data : (f : ℕ) (cs : List Piece) → length cs ≡ count
                → run (chunks_from (suc f) cs total) i (drop i s) ≡ run (after_chunk_line (chunks_from f) cs total n) next (drop next s)
            unfolding chunks_from ◌>>=◌ chunk_of
            to-data f cs c =
                line-ends _ _ _ _ s i next e ∙ rw (q, ne_eqb n 0 z, c, lt-leb chunks_most count m, le-ltb content_most (total + n) g)

            pub data-stopped : {x : Stop} → DataRead s next n (Err x) → Chunked s i count total (Err x)
            data-stopped {x} d = record { says = λ f cs c. to-data f cs c ∙ d.says f cs total; lies = tt }

            pub data-read : {p : Span} → DataRead s next n (Ok p) → Chunked s i count total (Ok (read.Next p))
            data-read {p} d =
                record {
                  says = λ f cs c. to-data f cs c ∙ d.says f cs total;
                  lies = (
                    omega (arith, d.lies, line-within s chunk_line_most i next within e),
                    omega (arith, d.lies),
                    omega (arith, d.lies, g),
                    m,
                  );
                }
