-- One turn of the section loop, by what the next line is.
use Rattle.std.proofs.Common.{Result}
use Prim.Native.Nat.{ℕ, suc, ◌+◌, ◌-◌, ◌<◌, ◌≤◌}
use mathlib.Core.Path.{◌≡◌, refl, sym, ◌∙◌, subst}
use mathlib.Core.List.{List, [], ◌∷◌, ◌++◌}
use mathlib.Core.Bool.{Bool, true, false, cond}
use native.Mathlib.Omega.{arith}
use borrow.Author.Tests.{eq-eqb, ne_eqb, le-leb, lt-leb, leb-true, leb-false}
use lib.Dec.{eqb, leb}
use lib.ListN.{length, take, drop, length-drop}
use lib.Seq.{length-take-le}
use Rattle.octets.specs.Text.{is_empty}
use Rattle.octets.specs.Limits.{lines_most}
use Rattle.octets.specs.Refusals.{bad_syntax, too_large}
use Rattle.script.specs.Script.{Answer, accepted, refused, more, run, line_of}
use Rattle.script.specs.Do.{◌>>=◌, piece, good, wrong}
use Rattle.script.specs.declared.Line.TheVariants.{Ends, Bad, Long, More}
use Rattle.script.proofs.Laws.{run-done, run-stop}
use Rattle.script.proofs.Places.{line-more, line-bad, line-long, line-ends, line-within}
use Rattle.messages.specs.Message.{FieldRead}
use Rattle.messages.specs.declared.Stop.{Stop}
use Rattle.http1_lines.specs.Lines.{field_of}
use Rattle.http1_lines.specs.Read.{Lines, field_lines}
use Rattle.http1_parts.specs.Section.{no_field, line_at, SectionSays, Sectioned}
use Rattle.http1_lines.specs.Next.{next_line}
use Rattle.http1_lines.specs.declared.NextLine.TheVariants as line
use Rattle.http1_parts.proofs.Line.{EmptyLine, FieldAt, NoFieldAt, tells-field, field-bad, field-good, line-bounds}
use Rattle.http1_parts.specs.declared.Section.{Section}

-- an answer that equals another promises the same
pub sectioned-as : {x y : Answer Lines} {headers host : Bool} {k : ℕ} {o o' : List ℕ} {r : Result Section Stop} → x ≡ y → SectionSays y headers host k o o' r
    → Sectioned x headers host k o o' r
sectioned-as {headers = headers} {host = host} {k = k} {o = o} {o' = o'} {r = r} e h =
    record { says = subst (λ (z : Answer Lines). SectionSays z headers host k o o' r) (sym e) h }

module _ (s : List ℕ) (i left f : ℕ) (fs : List FieldRead) where
  pub turn_more : line_of (drop i s) left i 0 ≡ More → run (field_lines (suc f) left fs) i (drop i s) ≡ more
  unfolding field_lines ◌>>=◌
  turn_more e = line-more _ _ _ _ s i e

  pub turn-bad : line_of (drop i s) left i 0 ≡ Bad → run (field_lines (suc f) left fs) i (drop i s) ≡ refused bad_syntax i
  unfolding field_lines ◌>>=◌
  turn-bad e = line-bad _ _ _ _ s i e

  pub turn-long : line_of (drop i s) left i 0 ≡ Long → run (field_lines (suc f) left fs) i (drop i s) ≡ refused too_large i
  unfolding field_lines ◌>>=◌
  turn-long e = line-long _ _ _ _ s i e

  module _ (next : ℕ) (e : line_of (drop i s) left i 0 ≡ Ends next) (within : i ≤ length s) where
    pub long_as : length (take (next - 2 - i) (drop i s)) ≡ next - 2 - i
    long_as = length-take-le (next - 2 - i) (drop i s) (omega (arith, line-within s left i next within e, length-drop i s))

    pub turn-done : next - 2 ≡ i → run (field_lines (suc f) left fs) i (drop i s) ≡ accepted next (record { lines = fs; end = next; left = left - 2 })
    unfolding field_lines ◌>>=◌ is_empty
    turn-done h =
        let t : eqb (length (take (next - 2 - i) (drop i s))) 0 ≡ true = eq-eqb _ _ (long_as ∙ omega arith) in
        let n : i + 2 ≡ next = omega (arith, line-within s left i next within e) in
        line-ends _ _ _ _ s i next e ∙ rw (t, n, run-done)

    module _ (h : next - 2 ≡ i → ⊥) where
      some-text : is_empty (take (next - 2 - i) (drop i s)) ≡ false
      unfolding is_empty
      some-text = ne_eqb _ _ (λ (q : length (take (next - 2 - i) (drop i s)) ≡ 0). h (omega (arith, line-within s left i next within e, long_as)))

      pub turn-full : lines_most ≤ length fs → run (field_lines (suc f) left fs) i (drop i s) ≡ refused too_large i
      unfolding field_lines ◌>>=◌
      turn-full g = line-ends _ _ _ _ s i next e ∙ rw (some-text, le-leb _ _ g, run-stop)

      module _ (g : length fs < lines_most) where
        pub turn-wrong : {x p : ℕ} → field_of (piece i (take (next - 2 - i) (drop i s))) ≡ wrong x p → run (field_lines (suc f) left fs) i (drop i s) ≡ refused x p
        unfolding field_lines ◌>>=◌
        turn-wrong q = line-ends _ _ _ _ s i next e ∙ rw (some-text, lt-leb _ _ g, q, run-stop)

        pub turn-field : {x : FieldRead} (g' : ℕ) → f ≡ suc g' → field_of (piece i (take (next - 2 - i) (drop i s))) ≡ good x
            → run (field_lines (suc f) left fs) i (drop i s) ≡ run (field_lines (suc g') (left - (next - i)) (fs ++ x ∷ [])) next (drop next s)
        unfolding field_lines ◌>>=◌
        turn-field g' z q =
            let l : left - (length (take (next - 2 - i) (drop i s)) + 2) ≡ left - (next - i) = omega (arith, line-within s left i next within e, long_as) in
            line-ends _ _ _ _ s i next e ∙ rw (some-text, lt-leb _ _ g, q, l, z)

-- ---- by what the next line tells

module _ (s : List ℕ) (i left f : ℕ) (fs : List FieldRead) (within : i ≤ length s) where
  pub empty-at : {next : ℕ} (x : EmptyLine s i left next) → next - 2 ≡ i
  empty-at {next} x = omega (arith, x.none, long_as s i left f fs next x.ends within, line-within s left i next within x.ends)

  pub turn-empty : {next : ℕ} → EmptyLine s i left next → run (field_lines (suc f) left fs) i (drop i s) ≡ accepted next (record { lines = fs; end = next; left = left - 2 })
  turn-empty {next} x = turn-done s i left f fs next x.ends within (empty-at x)

  pub turn-none : NoFieldAt s i left → run (field_lines (suc f) left fs) i (drop i s) ≡ refused (no_field (length fs)) i
  unfolding no_field
  turn-none x = go (leb lines_most (length fs)) refl
    where
      some : x.next - 2 ≡ i → ⊥
      some q = x.some (long_as s i left f fs x.next x.ends within ∙ omega (arith, line-within s left i x.next within x.ends))

      go : (b : Bool) → leb lines_most (length fs) ≡ b → run (field_lines (suc f) left fs) i (drop i s) ≡ refused (cond b too_large bad_syntax) i
      go true e = turn-full s i left f fs x.next x.ends within some (leb-true _ _ e)
      go false e = turn-wrong s i left f fs x.next x.ends within some (leb-false _ _ e) (field-bad _ i x.bad)

  module _ {n v l next : ℕ} (x : FieldAt s i left n v l next) where
    pub field-bounds : (1 ≤ n) × (i + n ≤ next - 2) × (i + v + l ≤ next - 2) × (i + 2 ≤ next) × (next ≤ length s) × (next - i ≤ left)
    field-bounds =
        let w = line-within s left i next within x.ends in
        let b = line-bounds s i (next - 2) n v l (omega (arith, w)) (omega (arith, w)) x.field in
        (b.0, omega (arith, w, b), omega (arith, w, b), w.0, w.1, w.2)

    not-empty : next - 2 ≡ i → ⊥
    not-empty q = omega (arith, field-bounds)

    pub turn-over : lines_most ≤ length fs → run (field_lines (suc f) left fs) i (drop i s) ≡ refused too_large i
    turn-over g = turn-full s i left f fs next x.ends within not-empty g

    pub turn-taken : (g' rest : ℕ) → f ≡ suc g' → left - (next - i) ≡ rest → length fs < lines_most
        → run (field_lines (suc f) left fs) i (drop i s) ≡ run (field_lines (suc g') rest (fs ++ line_at s i n (i + v) l ∷ [])) next (drop next s)
    turn-taken g' rest z y g =
        let w = field-bounds in
        rw (← y) (turn-field s i left f fs next x.ends within not-empty g g' z (field-good s i (next - 2) n v l (omega (arith, w)) (omega (arith, w)) x.field))

-- where a field line ends that the next line is told to be
pub told-bounds : (s : List ℕ) (i left : ℕ) → i ≤ length s → {n v l next : ℕ} → next_line s i left ≡ line.Field n v l next
    → (1 ≤ n) × (i + n ≤ next - 2) × (i + v + l ≤ next - 2) × (i + 2 ≤ next) × (next ≤ length s) × (next - i ≤ left)
told-bounds s i left within e = field-bounds s i left 0 [] within (tells-field s i left _ _ _ _ e)
