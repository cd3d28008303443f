-- The heads of a response one after another, as the code reads them.
use Prim.Native.Nat.{ℕ, suc, ◌+◌, ◌-◌, ◌*◌, ◌<◌, ◌≤◌}
use mathlib.Core.Path.{◌≡◌, refl, ap, ◌∙◌, subst}
use mathlib.Core.List.{List, [], ◌∷◌, ◌++◌}
use mathlib.Core.Bool.{true}
use native.Mathlib.Omega.{arith}
use lib.ListN.{length, drop, length-append}
use Rattle.std.proofs.Common.{Ok, Err}
use Rattle.ranges.specs.Ranges.{Stores, SoManyHeads}
use Rattle.octets.specs.Limits.{lines_most, informational_most}
use Rattle.octets.specs.declared.Refused.{Refused}
use Rattle.output.specs.Splice.{splice}
use Rattle.messages.specs.Message.{InformationalRead, Section, Message}
use Rattle.messages.specs.Names.{kept}
use Rattle.messages.specs.Answers.{fields_numbers, informational_numbers, informational_lines}
use Rattle.messages.specs.declared.Notes.{Notes}
use Rattle.messages.specs.declared.Told.{Told}
use Rattle.messages.proofs.Noting.{kept-few}
use Rattle.ranges.proofs.Storing.{altered-none, stores-none}
use Rattle.ranges.proofs.HeadsStored.{lines_snoc, fields-more, numbers_more}
use Rattle.binary.specs.declared.Cursor.{Cursor}
use Rattle.binary.specs.Reader.{Got, cursor}
use Rattle.binary.specs.declared.Form.{Form}
use Rattle.binary.specs.Read.{informational_read, heads, response_message}
use Rattle.binary_reader.specs.Heads.{HeadStored, HeadSays, Headed, HeadsTaken}
use Rattle.binary_reader.specs.declared.Head.{Head}
use Rattle.binary_reader.specs.declared.Head.TheVariants as head
use Rattle.binary_reader.proofs.HeadLaws.{says-as}

-- what was read of s up to the place i, where the reader of the whole answers x, whatever is told: informational heads whose fields are stored in hs and whose numbers
-- are stored in ns
pub record HeadsTo (x : Told → Got Message) (form : Form) (s hs₀ hs ns₀ ns : List ℕ) (i count base longs : ℕ) : Type 0 where
  pub read : List InformationalRead
  pub counted : length read ≡ count
  pub most : count ≤ informational_most
  pub fields : length (informational_lines read) ≡ base
  pub few : base ≤ count * lines_most
  pub stored : Stores hs₀ 0 (fields_numbers (informational_lines read)) hs
  pub numbers : ns ≡ splice ns₀ 0 (informational_numbers read)
  pub turn : (t : Told) → x t ≡ heads t form (suc (informational_most - count)) read (cursor i longs) (drop i s)
  pub long : longs ≤ i

pub heads-start : (form : Form) (s hs ns : List ℕ) (from : Cursor) → from.long ≤ from.at
    → HeadsTo (λ t. response_message t form from (drop from.at s)) form s hs hs ns ns from.at 0 0 from.long
unfolding informational_lines informational_numbers fields_numbers
heads-start form s hs ns from few =
    record {
      read = [];
      counted = refl;
      most = omega arith;
      fields = refl;
      few = omega arith;
      stored = stores-none (altered-none 0 hs) (omega arith);
      numbers = refl;
      turn = λ t. refl;
      long = few;
    }

module _ {x : Told → Got Message} {form : Form} {s hs₀ hs hs' ns₀ ns : List ℕ} {i count base longs : ℕ} (to : HeadsTo x form s hs₀ hs ns₀ ns i count base longs) where
  pub heads-refused : {e : Refused} → Headed (SoManyHeads count) (λ f is t. heads t form (suc f) is (cursor i longs) (drop i s)) form s base hs hs' (Err e) → (ns' : List ℕ)
      → HeadsTaken x form s hs₀ hs' ns₀ ns' (Err e)
  heads-refused {e} w ns' =
      record { says = says-as form (informational_most - count) to.read s base hs hs' (Err e) to.turn (w.by (informational_most - count) to.read to.counted) }

module _ {x : Told → Got Message} {form : Form} {s hs₀ hs hs' ns₀ ns : List ℕ} {i count base longs : ℕ} (to : HeadsTo x form s hs₀ hs ns₀ ns i count base longs) {r : Head}
    (w : Headed (SoManyHeads count) (λ f is t. heads t form (suc f) is (cursor i longs) (drop i s)) form s base hs hs' (Ok r)) where
  says : {q : Head} → r ≡ q → HeadSays x form (informational_most - count) to.read s base hs hs' (Ok q)
  says {q} e =
      says-as form (informational_most - count) to.read s base hs hs' (Ok q) to.turn
      (subst
      (λ (z : Head).
      HeadSays (λ t. heads t form (suc (informational_most - count)) to.read (cursor i longs) (drop i s)) form (informational_most - count) to.read s base hs hs' (Ok z))
      e (w.by (informational_most - count) to.read to.counted))

  -- the fields of one head more
  stored_more : {e : Cursor} {k : ℕ} {h : Section} → HeadStored s base hs hs' e k h → Stores hs₀ 0 (fields_numbers (informational_lines to.read ++ kept true h.lines)) hs'
  stored_more {h = h} q = fields-more (informational_lines to.read) (kept true h.lines) to.fields to.stored q.stored

  module _ {n : ℕ} {e : Cursor} {k : ℕ} where
    module _ {notes : Notes} (q : r ≡ head.Final n e k notes) where
      pub final-some : base ≤ k
      final-some = omega (arith, (says q).1.count)

      pub heads-final : HeadsTaken x form s hs₀ hs' ns₀ ns (Ok (record { status = n; end = e; count = count; kept = k - base; notes = notes }))
      heads-final =
          let d = says q in
          record {
            says = (
              to.read,
              d.0,
              record { end = d.1.end; within = d.1.within; heads = to.counted; fields = omega (arith, d.1.count); noted = d.2; status = d.3; counted = d.1.counted },
              d.4,
              stored_more d.1,
              to.numbers,
            );
          }

    module _ (q : r ≡ head.Informational n e k) where
      pub informational-some : (base ≤ k) × (k ≤ base + lines_most) × (count < informational_most)
      informational-some =
          let d = says q in
          (omega (arith, d.1.count), omega (arith, d.1.count, d.1.few, kept-few true d.0.lines), omega (arith, d.2, to.counted))

      pub heads-next : {ns' : List ℕ} → ns' ≡ splice ns (count * 2) (n ∷ (k - base) ∷ []) → HeadsTo x form s hs₀ hs' ns₀ ns' e.at (count + 1) k e.long
      heads-next stores =
          let d = says q in
          let h : Section = d.0 in
          let few = informational-some in
          let y : InformationalRead = informational_read n h in
          let f : length (kept true h.lines) ≡ k - base = omega (arith, d.1.count) in
          let g : informational_most - count ≡ suc (informational_most - (count + 1)) = omega (arith, few) in
          record {
            read = to.read ++ y ∷ [];
            counted = length-append to.read (y ∷ []) ∙ omega (arith, to.counted);
            most = omega (arith, few);
            fields = rw (lines_snoc to.read y) (length-append (informational_lines to.read) (kept true h.lines) ∙ omega (arith, to.fields, d.1.count));
            few = omega (arith, few, to.few);
            stored = rw (lines_snoc to.read y) (stored_more d.1);
            numbers = numbers_more ns₀ to.read y to.counted to.numbers f stores;
            turn = λ t. d.3 t ∙ ap (λ (m : ℕ). heads t form m (to.read ++ y ∷ []) e (drop e.at s)) g;
            long = d.1.counted;
          }
