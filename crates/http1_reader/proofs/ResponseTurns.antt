-- The heads of a response one after another, as the code reads them.
use Rattle.std.proofs.Common.{Ok, Err}
use Prim.Native.Nat.{ℕ, suc, ◌+◌, ◌-◌, ◌*◌, ◌<◌, ◌≤◌}
use mathlib.Core.Path.{◌≡◌, refl, ap, ◌∙◌, subst}
use mathlib.Core.List.{List, [], ◌∷◌, ◌++◌}
use mathlib.Core.Bool.{true}
use native.Mathlib.Omega.{arith}
use lib.ListN.{length, drop, length-append}
use Rattle.ranges.specs.Ranges.{Stores, SoManyHeads}
use Rattle.octets.specs.Limits.{head_most, lines_most, informational_most}
use Rattle.script.specs.Script.{run}
use Rattle.output.specs.Splice.{splice}
use Rattle.messages.specs.Message.{InformationalRead}
use Rattle.messages.specs.Names.{kept}
use Rattle.messages.specs.Answers.{fields_numbers, informational_numbers, informational_lines}
use Rattle.messages.specs.declared.Notes.{Notes}
use Rattle.messages.specs.declared.Stop.{Stop}
use Rattle.messages.proofs.Noting.{kept-few}
use Rattle.http1_lines.specs.Read.{Lines, informational_read, BehindHeads, next_head, heads_then}
use Rattle.ranges.proofs.Storing.{altered-none, stores-none}
use Rattle.ranges.proofs.HeadsStored.{lines_snoc, fields-more, numbers_more}
use Rattle.http1_reader.specs.Responses.{Onward, HeadStored, HeadSays, Headed, response_run, HeadsTaken}
use Rattle.http1_reader.specs.declared.HeadRead.{HeadRead}
use Rattle.http1_reader.specs.declared.HeadRead.TheVariants as head

-- what was read of s up to the place i: informational heads whose fields are stored in hs and whose numbers are stored in ns
pub record HeadsTo (s hs₀ hs ns₀ ns : List ℕ) (i left count base : ℕ) : Type 0 where
  pub read : List InformationalRead
  pub counted : length read ≡ count
  pub most : count ≤ informational_most
  pub within : i ≤ length s
  pub total : i + left ≡ head_most
  pub fields : length (informational_lines read) ≡ base
  pub few : base ≤ count * lines_most
  pub stored : Stores hs₀ 0 (fields_numbers (informational_lines read)) hs
  pub numbers : ns ≡ splice ns₀ 0 (informational_numbers read)
  pub turn : (v : BehindHeads) → response_run s v ≡ run (heads_then v (suc (informational_most - count)) read left) i (drop i s)

pub heads-start : (s hs ns : List ℕ) → HeadsTo s hs hs ns ns 0 head_most 0 0
unfolding informational_lines informational_numbers fields_numbers
heads-start s hs ns =
    record {
      read = [];
      counted = refl;
      most = omega arith;
      within = omega arith;
      total = refl;
      fields = refl;
      few = omega arith;
      stored = stores-none (altered-none 0 hs) (omega arith);
      numbers = refl;
      turn = λ v. refl;
    }

module _ {s hs₀ hs ns₀ ns : List ℕ} {i left count base : ℕ} (to : HeadsTo s hs₀ hs ns₀ ns i left count base) where
  -- what reads on behind an informational head: the heads that may still come
  abbrev onward : BehindHeads → Onward
  onward v = heads_then v (informational_most - count)

  turns : (v : BehindHeads) → response_run s v ≡ run (next_head (onward v) v to.read left) i (drop i s)
  unfolding heads_then
  turns v = to.turn v

  pub heads-stopped : {e : Stop} {hs' ns' : List ℕ} → Headed (SoManyHeads count) (λ is u v. run (next_head u v is left) i (drop i s)) s base hs hs' (Err e)
      → HeadsTaken (response_run s) s hs₀ hs' ns₀ ns' (Err e)
  heads-stopped w = record { says = λ v. turns v ∙ w.by to.read to.counted (onward v) v }

  -- the fields of one head more
  stored_more : {e k : ℕ} {h : Lines} {hs' : List ℕ} → HeadStored s base hs hs' e k h → Stores hs₀ 0 (fields_numbers (informational_lines to.read ++ kept true h.lines)) hs'
  stored_more {h = h} q = fields-more (informational_lines to.read) (kept true h.lines) to.fields to.stored q.stored

  module _ {hs' : List ℕ} {r : HeadRead} (w : Headed (SoManyHeads count) (λ is u v. run (next_head u v is left) i (drop i s)) s base hs hs' (Ok r)) where
    says : (r' : HeadRead) → r ≡ r' → HeadSays (λ u v. run (next_head u v to.read left) i (drop i s)) to.read s base hs hs' (Ok r')
    says r' e =
        subst (λ (z : HeadRead). HeadSays (λ u v. run (next_head u v to.read left) i (drop i s)) to.read s base hs hs' (Ok z)) e (w.by to.read to.counted)

    module _ {n e k : ℕ} where
      pub heads-final : {notes : Notes} → r ≡ head.Final n e k notes
          → HeadsTaken (response_run s) s hs₀ hs' ns₀ ns (Ok (record { status = n; end = e; heads = count; kept = k - base; notes = notes }))
      heads-final {notes} q =
          let d = says (head.Final n e k notes) q in
          record {
            says = (
              to.read,
              d.0,
              record { end = d.1.end; heads = to.counted; fields = omega (arith, d.1.count); noted = d.2 },
              d.1.within,
              omega (arith, d.1.left),
              λ v. turns v ∙ d.3 (onward v) v,
              stored_more d.1,
              to.numbers,
            );
          }

      pub final-some : {notes : Notes} → r ≡ head.Final n e k notes → base ≤ k
      final-some {notes} q = omega (arith, (says (head.Final n e k notes) q).1.count)

      module _ {l : ℕ} (q : r ≡ head.Informational n e l k) where
        pub informational-some : (base ≤ k) × (k ≤ base + lines_most) × (count < informational_most)
        informational-some =
            let d = says (head.Informational n e l k) q in
            (omega (arith, d.1.count), omega (arith, d.1.count, d.1.few, kept-few true d.0.lines), omega (arith, d.3, to.counted))

        pub heads-next : {ns' : List ℕ} → ns' ≡ splice ns (count * 2) (n ∷ (k - base) ∷ []) → HeadsTo s hs₀ hs' ns₀ ns' e l (count + 1) k
        heads-next stores =
            let d = says (head.Informational n e l k) q in
            let h : Lines = d.0 in
            let few = informational-some in
            let x : InformationalRead = informational_read n h in
            let f : length (kept true h.lines) ≡ k - base = omega (arith, d.1.count) in
            let g : informational_most - count ≡ suc (informational_most - (count + 1)) = omega (arith, few) in
            record {
              read = to.read ++ x ∷ [];
              counted = length-append to.read (x ∷ []) ∙ omega (arith, to.counted);
              most = omega (arith, few);
              within = d.1.within;
              total = omega (arith, d.1.left, d.2);
              fields = rw (lines_snoc to.read x) (length-append (informational_lines to.read) (kept true h.lines) ∙ omega (arith, to.fields, d.1.count));
              few = omega (arith, few, to.few);
              stored = rw (lines_snoc to.read x) (stored_more d.1);
              numbers = numbers_more ns₀ to.read x to.counted to.numbers f stores;
              turn = λ v. turns v ∙ d.4 (onward v) v ∙ ap (λ (m : ℕ). run (heads_then v m (to.read ++ x ∷ []) l) e (drop e s)) g;
            }
