-- Parts and control data are read back.
use mathlib.Core.Path.{◌≡◌, refl}
use mathlib.Core.Bool.{Bool, true, false, cond}
use mathlib.Core.List.{List, ◌++◌}
use Prim.Native.Nat.{ℕ, zero, suc, ◌+◌, ◌≤◌, ◌<◌}
use native.Mathlib.Omega.{arith}
use borrow.Author.Tests.{le-leb, ltb-true}
use lib.Dec.{eqb, lit<}
use lib.ListN.{length}
use Rattle.octets.specs.Ascii.{ascii}
use Rattle.octets.specs.Class.{path, authority}
use Rattle.octets.specs.Text.{same_text}
use Rattle.octets.specs.Limits.{method_most, authority_most, path_most}
use Rattle.octets.specs.Refusals.{cut_off}
use Rattle.numbers.specs.Integer.{integer_end}
use Rattle.script.specs.Do.{good}
use Rattle.messages.specs.Control.{method_verdict, path_verdict, authority_verdict, is_options}
use Rattle.messages.specs.Valid.{is_scheme, valid_control}
use Rattle.messages.proofs.Verdicts.{method-rule, path-rule}
use Rattle.messages.proofs.Valid.{request-ok}
use Rattle.messages.specs.Meaning.{request}
use Rattle.binary.specs.Reader.{rule}
use Rattle.binary.specs.Read.{part, part_within, ruled_part, scheme_of, scheme_part, after_scheme, request_control}
use Rattle.binary_writer.specs.Write.{counted, scheme_bytes}
use Rattle.binary_round_trip.specs.RoundTrip.{counted_at}
use Rattle.binary_round_trip.proofs.Judgement.{Reads, reads-give, reads_here, reads-tell, reads-integer, reads-octets, reads-bind, before, behind}
use Rattle.messages.specs.Control.{Verdict, passed}

pub reads-part : (at : ℕ) (w rest : List ℕ) → length w < integer_end → Reads part at (counted w) rest (counted_at at w)
unfolding part counted
reads-part at w rest h =
    before _ (reads_here at _) (reads-bind _ (reads-integer cut_off at at (length w) (w ++ rest) h) (reads-octets cut_off at _ w rest))

pub reads-within : (most at : ℕ) (w rest : List ℕ) → length w ≤ most → most < integer_end → Reads (part_within most) at (counted w) rest (counted_at at w)
unfolding part_within counted
reads-within most at w rest h g =
    before _ (reads_here at _)
    (reads-bind _ (reads-integer cut_off at at (length w) (w ++ rest) (omega arith)) (rw (le-leb (length w) most h) (reads-octets cut_off at _ w rest)))

pub reads-ruled : (most : ℕ) (verdict : List ℕ → Verdict) (at : ℕ) (w rest : List ℕ) → length w ≤ most → most < integer_end → verdict w ≡ passed
    → Reads (ruled_part most verdict) at (counted w) rest (counted_at at w)
unfolding ruled_part
reads-ruled most verdict at w rest h g e =
    before _ (reads_here at _) (behind _ (reads-within most at w rest h g) (reads-tell _ rest (rule (verdict w) at (counted_at at w)) (counted_at at w) (rw e)))

-- ---- control data

scheme-back : (s p : ℕ) → is_scheme s ≡ true → scheme_of (scheme_bytes s) p ≡ good s
unfolding is_scheme scheme_of scheme_bytes same_text
scheme-back zero p h = refl
scheme-back (suc zero) p h = refl
scheme-back (suc (suc s)) p h = let z = ltb-true (suc (suc s)) 2 h in absurd (omega arith)

scheme-short : (s : ℕ) → length (scheme_bytes s) ≤ 5
unfolding scheme_bytes
scheme-short s = go (eqb s 0)
  where
    go : (b : Bool) → length (cond b (ascii "http") (ascii "https")) ≤ 5
    go true = omega arith
    go false = omega arith

reads-scheme : (s at : ℕ) (rest : List ℕ) → is_scheme s ≡ true → Reads scheme_part at (counted (scheme_bytes s)) rest s
unfolding scheme_part
reads-scheme s at rest h =
    let l = scheme-short s in
    before _ (reads_here at _)
    (behind _ (reads-part at (scheme_bytes s) rest (omega arith)) (reads-tell _ rest (scheme_of (scheme_bytes s) at) s (scheme-back s at h)))

pub reads-request : (m a p : List ℕ) (s at : ℕ) (rest : List ℕ) → valid_control (request m s a p) ≡ true
    → Reads request_control at (counted m ++ (counted (scheme_bytes s) ++ (counted a ++ counted p))) rest
    (record {
      method = counted_at at m;
      scheme = s;
      authority = counted_at (at + length (counted m) + length (counted (scheme_bytes s))) a;
      path = counted_at (at + length (counted m) + length (counted (scheme_bytes s)) + length (counted a)) p;
    })
unfolding request_control after_scheme
reads-request m a p s at rest v =
    let o = request-ok m a p s v in
    reads-bind _ (reads-ruled method_most method_verdict at m _ (method-rule m o.method).2 (lit< tt) o.method)
    (reads-bind _ (reads-scheme s _ _ o.scheme)
    (reads-bind _ (reads-ruled authority_most authority_verdict _ a _ o.host.short (lit< tt) o.host.judged)
    (behind _ (reads-ruled path_most (path_verdict (is_options m)) _ p rest (path-rule (is_options m) p o.path).3 (lit< tt) o.path) (reads-give _ rest _))))
