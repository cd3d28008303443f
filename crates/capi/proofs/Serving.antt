-- From a writer's answer to a writing entry's, and from the field question's to a field entry's.
use Prim.Native.Nat.{ℕ}
use mathlib.Core.Path.{◌≡◌, ap, subst, ◌∙◌}
use mathlib.Core.List.{List}
use Rattle.output.specs.Reply.{Reply, Served, written_number, written_place, Written}
use Rattle.script.specs.Script.{Answer}
use Rattle.messages.specs.Message.{Message}
use Rattle.turn.specs.Turn.{taken_from, TakenServed}
use Rattle.capi.specs.Entries.{EntryServed, EntryTaken, FieldEntered}
use Rattle.question.specs.Asking.{Asked}

-- what give_written ensures is taken as it stands
pub entry-served : {y : Reply} {o o' : List ℕ} {w : Written} {place number : ℕ} → Served y o o' w → (number ≡ written_number w) × (place ≡ written_place w)
    → EntryServed y o o' place number
entry-served h g = record { answers = g.0 ∙ ap written_number h.answer; places = g.1 ∙ ap written_place h.answer; after = h.after }

pub entry-taken : {x : Answer Message} {y : Reply} {o o' : List ℕ} {k : ℕ} {w : Written} {place number : ℕ} → TakenServed x y o o' k w
    → (number ≡ written_number w) × (place ≡ written_place w) → EntryTaken x y o o' k place number
entry-taken {x = x} h g = record { served = entry-served h.served g; takes = h.takes ∙ ap (taken_from x) h.served.answer }

-- the inner call's answer, by what it is
pub field-entered : {a b : Asked} {n p i l r : ℕ} → a ≡ b → FieldEntered a n p i l r → FieldEntered b n p i l r
field-entered {a} {b} {n} {p} {i} {l} {r} e h = subst (λ (z : Asked). FieldEntered z n p i l r) e h
