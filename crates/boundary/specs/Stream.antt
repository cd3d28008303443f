-- Demand 3 of the entry that the box calls (00; 01, "Streams under one scheme"): a list of calls of `ospirnar_binary_to_http1` in one lent space, each as its
-- promise says (capi: `EntryServed`), is a list of demand 3's calls, so that every sentence of `Demand3` speaks of it.
use Rattle.std.specs.Prelude.{ℕ, ◌+◌, ◌≡◌, cond, List, [], ◌∷◌, ◌++◌, eqb, take}
use Rattle.messages.specs.Told.{plain, answering, keeping, in_edition}
use Rattle.messages.specs.declared.Told.{Told}
use Rattle.turn.specs.Turn.{binary_to_http1}
use Rattle.demands.specs.Demand3.{Call, Space, fresh, lent_in, space_of}
use Rattle.capi.specs.Entries.{EntryServed}

-- what the whole list is told: the scheme, and the rule on empty content
abbrev pub told_to : ℕ → ℕ → Told
told_to scheme former = keeping former (plain scheme)

-- the box behind a call that left o', a place and a number: what was written before it is as it was, and where the number is 0 the box goes on behind the
-- octets written
abbrev pub behind_call : Space → List ℕ → ℕ → ℕ → Space
behind_call z o' place number = record { whole = take z.written z.whole ++ o'; written = z.written + cond (eqb number 0) place 0 }

-- a call of the entry on c, lent the space behind what was written, leaves the space z'
pub record Calls (scheme former : ℕ) (z : Space) (c : Call) (z' : Space) : Type 0 where
  pub output : List ℕ
  pub place : ℕ
  pub number : ℕ
  pub promised : EntryServed (binary_to_http1 (in_edition c.edition (keeping former (answering c.head (plain scheme)))) c.input) (lent_in z) output place number
  pub behind : z' ≡ behind_call z output place number

-- a list of such calls, one behind the other
abbrev pub CallsAll : ℕ → ℕ → Space → List Call → Space → Type 0
CallsAll scheme former z [] z' = z' ≡ z
CallsAll scheme former z (c ∷ cs) z' = (z₁ : Space) × Calls scheme former z c z₁ × CallsAll scheme former z₁ cs z'

-- what the box has then is what demand 3 speaks of
abbrev pub StreamOfEntries : Type 0
StreamOfEntries =
    (scheme former : ℕ) (o : List ℕ) (cs : List Call) (z : Space) → CallsAll scheme former (fresh o) cs z → z ≡ space_of (told_to scheme former) o cs
