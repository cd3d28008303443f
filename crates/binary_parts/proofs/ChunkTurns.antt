-- One chunk, by what its length and its octets are.
use Prim.Native.Nat.{ℕ, suc, ◌+◌, ◌-◌, ◌<◌, ◌≤◌}
use mathlib.Core.Path.{◌≡◌, sym, subst}
use mathlib.Core.List.{List}
use mathlib.Core.Bool.{true, false}
use native.Mathlib.Omega.{arith}
use borrow.Author.Tests.{eq-eqb, ne_eqb, le-leb, lt-leb, lt-ltb, le-ltb, leb-true, leb-false}
use lib.Dec.{leb}
use lib.ListN.{length, drop}
use Rattle.octets.specs.Limits.{chunks_most, content_most}
use Rattle.std.proofs.Common.{Some, None, Ok, Err}
use Rattle.octets.specs.Refusals.{cut_off, too_large, refused_at}
use Rattle.octets.specs.declared.Refused.{Refused}
use Rattle.numbers.specs.Integer.{integer_of, read_int}
use Rattle.numbers.proofs.IntegerLaws.{int-within}
use Rattle.script.specs.Do.{Piece}
use Rattle.binary.specs.declared.Cursor.{Cursor}
use Rattle.binary.specs.Reader.{no, cursor, ◌>>=◌}
use Rattle.binary.specs.Read.{open_chunks}
use Rattle.binary_parts.specs.Content.{Chunked}
use Rattle.binary_parts.specs.declared.Chunk.TheVariants as chunk
use Rattle.binary_parts.proofs.Places.{integer-few, integer-cut, integer-got, octets-cut, octets-got}

-- a refusal, where the reader answers the same
refused-here : {s : List ℕ} {at : Cursor} {count total n p : ℕ} {x : Refused} → x ≡ refused_at n p
    → ((f : ℕ) (cs : List Piece) → length cs ≡ count → open_chunks (suc f) cs total at (drop at.at s) ≡ no n p) → Chunked s at count total (Err x)
refused-here {s} {at} {count} {total} q h =
    subst (λ (z : Refused). Chunked s at count total (Err z)) (sym q) (record { says = h; lies = tt })

module _ (s : List ℕ) (i long count total : ℕ) where
  pub chunk-none : {x : Refused} → x ≡ refused_at cut_off i → read_int i (drop i s) ≡ None → Chunked s (cursor i long) count total (Err x)
  unfolding open_chunks ◌>>=◌
  chunk-none q e = refused-here q (λ f cs c. rw (integer-cut s (cursor i long) cut_off i e))

  module _ {n next l : ℕ} (e : read_int i (drop i s) ≡ Some (integer_of n next l)) where
    pub chunk-last : long ≤ i → n ≡ 0 → Chunked s (cursor i long) count total (Ok (chunk.Last (cursor next (long + l))))
    unfolding open_chunks ◌>>=◌
    chunk-last b z = record { says = λ f cs c. rw (integer-got s (cursor i long) cut_off i e, eq-eqb n 0 z); lies = ((int-within s i e).1, integer-few s (cursor i long) b e) }

    module _ (z : n ≡ 0 → ⊥) where
      pub chunk-many : {x : Refused} → x ≡ refused_at too_large i → leb (count + 1) chunks_most ≡ false → Chunked s (cursor i long) count total (Err x)
      unfolding open_chunks ◌>>=◌
      chunk-many q m = refused-here q (λ f cs c. rw (integer-got s (cursor i long) cut_off i e, ne_eqb n 0 z, c, le-leb chunks_most count (omega (arith, leb-false (count + 1) chunks_most m))))

      module _ (fits : leb (count + 1) chunks_most ≡ true) where
        m : count < chunks_most
        m = omega (arith, leb-true (count + 1) chunks_most fits)

        pub chunk-large : {x : Refused} → x ≡ refused_at too_large i → leb (total + n) content_most ≡ false → Chunked s (cursor i long) count total (Err x)
        unfolding open_chunks ◌>>=◌
        chunk-large q g =
            refused-here q
            (λ f cs c. rw (integer-got s (cursor i long) cut_off i e, ne_eqb n 0 z, c, lt-leb chunks_most count m, lt-ltb content_most (total + n) (leb-false (total + n) content_most g)))

        module _ (all : leb (total + n) content_most ≡ true) where
          g : total + n ≤ content_most
          g = leb-true (total + n) content_most all

          pub chunk-short : {x : Refused} → x ≡ refused_at cut_off i → length s - next < n → Chunked s (cursor i long) count total (Err x)
          unfolding open_chunks ◌>>=◌
          chunk-short q h =
              refused-here q
              (λ f cs c. rw (integer-got s (cursor i long) cut_off i e, ne_eqb n 0 z, c, lt-leb chunks_most count m, le-ltb content_most (total + n) g, octets-cut s (cursor next (long + l)) n cut_off i h))

          pub chunk_next : long ≤ i → n ≤ length s - next → Chunked s (cursor i long) count total (Ok (chunk.Next next n (long + l)))
          unfolding open_chunks ◌>>=◌
          chunk_next b h =
              record {
                says = λ f cs c.
                    rw (integer-got s (cursor i long) cut_off i e, ne_eqb n 0 z, c, lt-leb chunks_most count m, le-ltb content_most (total + n) g, octets-got s (cursor next (long + l)) n cut_off i h);
                lies = (omega (arith, int-within s i e), g, m, omega (arith, integer-few s (cursor i long) b e));
              }
