-- What the C entries on bundles answer, by value, and what they leave in what they are lent (02, items 1, 6 and 11), in terms of `walk`, `flock_list`,
-- `append_plan`, `rebuild_changes`, `mark_plan` and `sweep_changes`; a flock's answer is `totals_answer` (flock_table/Table), salvage answers as
-- `salvaging/Answers` says.
use Rattle.std.specs.Prelude.{ℕ, ◌*◌, ◌≡◌, cond, List, leb, eqb, length, Ok, Err}
use Rattle.octets.specs.Refusals.{no_room}
use Rattle.output.specs.Splice.{splice}
use Rattle.output.specs.Reply.{Reply, written_of, lent_after, Written}
use Rattle.bundle.specs.Bundle.{Walk}
use Rattle.bundle.specs.Answers.{numbers_from}
use Rattle.flock_table.specs.declared.Flock.{Flock}
use Rattle.bundle_edit.specs.Append.{appended, entered}
use Rattle.bundle_edit.specs.Changes.{changed_from}
use Rattle.bundle_edit.specs.Delivery.{marked, lessened, swept}
use Rattle.bundle_edit.specs.declared.Plan.{Plan}
use Rattle.bundle_edit.specs.declared.Changes.{Changes}
use Rattle.bundle_capi.specs.declared.BundleAnswer.{BundleAnswer}
use Rattle.bundle_capi.specs.declared.AppendAnswer.{AppendAnswer}
use Rattle.bundle_capi.specs.declared.ListAnswer.{ListAnswer}
use Rattle.bundle_capi.specs.declared.TableAnswer.{TableAnswer}

-- ---- the reader

-- a refusal has its number and its place, and no entries
abbrev pub bundle_refused : ℕ → ℕ → BundleAnswer
bundle_refused number place = record { number = number; place = place; count = 0 }

-- a bundle that was walked, where so many numbers are lent: three an entry; too few are 13 at 0, last
unfoldable pub bundle_answer : Walk → ℕ → BundleAnswer
bundle_answer w room =
    cond (eqb w.stop 0)
    (cond (leb (length w.entries * 3) room) (record { number = 0; place = w.end; count = length w.entries }) (bundle_refused no_room 0))
    (bundle_refused w.stop w.end)

-- the lent numbers afterwards: head, start and length of each entry, in order; a refusal alters none
unfoldable pub bundle_after : Walk → List ℕ → List ℕ
bundle_after w o = cond (eqb w.stop 0) (cond (leb (length w.entries * 3) (length o)) (splice o 0 (numbers_from 0 w.entries)) o) o

-- the promise of the entry that was lent o
pub record BundleEntered (w : Walk) (o o' : List ℕ) (r : BundleAnswer) : Type 0 where
  pub answer : r ≡ bundle_answer w (length o)
  pub after : o' ≡ bundle_after w o

-- ---- calls beside a table of flock records (02, items 6 and 11)

-- of an append's plan what C sees
abbrev pub append_of : Plan → AppendAnswer
append_of p = record { number = p.number; place = p.place; used = p.used; long = p.long }

-- the promise of an append by this plan, that was lent the table t and the buffer b
abbrev pub AppendEntered : Plan → List Flock → List Flock → List ℕ → List ℕ → ℕ → ℕ → List ℕ → AppendAnswer → Type 0
AppendEntered p t t' b b' used f m r = (r ≡ append_of p) × ((t' ≡ entered p t) × (b' ≡ appended (length t) b used f m))

-- of a change of all records what C sees
abbrev pub outcome_of : Changes → TableAnswer
outcome_of c = record { number = c.number; place = c.place; used = c.used }

-- the promise of a rebuild by these changes, that was lent the table t
abbrev pub RebuildEntered : Changes → List Flock → List Flock → TableAnswer → Type 0
RebuildEntered c t t' r = (r ≡ outcome_of c) × (t' ≡ changed_from c 0 t)

-- of a mark's plan what C sees (02, item 11)
abbrev pub mark_of : Plan → TableAnswer
mark_of p = record { number = p.number; place = p.place; used = p.used }

-- the promise of a mark by this plan, that was lent the table t and the buffer b
abbrev pub MarkEntered : Plan → List Flock → List Flock → List ℕ → List ℕ → ℕ → ℕ → TableAnswer → Type 0
MarkEntered p t t' b b' used i r = (r ≡ mark_of p) × ((t' ≡ lessened p t) × (b' ≡ marked (length t) b used i))

-- the promise of a sweep by these changes, that was lent the table t and the buffer b
abbrev pub SweepEntered : Changes → List Flock → List Flock → List ℕ → List ℕ → ℕ → TableAnswer → Type 0
SweepEntered c t t' b b' used r = (r ≡ outcome_of c) × ((t' ≡ changed_from c 0 t) × (b' ≡ swept (length t) b used))

-- ---- the list, and the line of the salvage program

-- the length written, or the refusal's number and place
abbrev pub list_of : Written → ListAnswer
list_of (Ok n) = record { number = 0; place = 0; len = n }
list_of (Err e) = record { number = e.number; place = e.place; len = 0 }

-- the promise of the entry that was lent o
pub record ListEntered (y : Reply) (o o' : List ℕ) (r : ListAnswer) : Type 0 where
  pub answer : r ≡ list_of (written_of y (length o))
  pub after : o' ≡ lent_after y o
