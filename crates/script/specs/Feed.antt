-- A script that is fed octet by octet: what is known after the octets so far (02, item 13), for every script.
use Rattle.std.specs.Prelude.{ℕ, ◌<◌, ◌≡◌, Bool, true, false, List, [], ◌∷◌, ◌++◌, length}
use Rattle.script.specs.Script.{Answer, accepted, refused, more, Cut, cut, bad, short, Cutter, Script, done, stop, need, cr_state, cut_by, free}

-- where a script stands: accepted up to a place; refused with a number at a place; or it waits for the word of a cutter, which began at a place and of
-- which some octets are in
pub data Waiting (A : Type 0) : Type 0 where
  ended : ℕ → A → Waiting A
  failed : ℕ → ℕ → Waiting A
  waits : Cutter → (ℕ → List ℕ → Script A) → ℕ → List ℕ → Waiting A

-- a cut of s at the place `at` is handed on, or the script stands there
abbrev pub on_word : {A : Type 0} → Cutter → (ℕ → List ℕ → Script A) → ℕ → List ℕ → Cut → (ℕ → List ℕ → List ℕ → Waiting A) → Waiting A
on_word c f at s (cut next w r) k = k next w r
on_word c f at s (bad m) k = failed m at
on_word c f at s short k = waits c f at s

-- where the script that began at the place `at` stands after the octets s
unfoldable pub after : {A : Type 0} → Script A → ℕ → List ℕ → Waiting A
after (done a) at s = ended at a
after (stop n p) at s = failed n p
after (need c f) at s = on_word c f at s (cut_by c at s) (λ next w r. after (f at w) next r)

-- one octet more. What is settled stays
unfoldable pub feed : {A : Type 0} → Waiting A → ℕ → Waiting A
feed (ended n a) b = ended n a
feed (failed n p) b = failed n p
feed (waits c f at w) b = after (need c f) at (w ++ b ∷ [])

-- octets, one after another
unfoldable pub feed_all : {A : Type 0} → Waiting A → List ℕ → Waiting A
feed_all x [] = x
feed_all x (b ∷ s) = feed_all (feed x b) s

-- the answer on the octets so far
abbrev pub says : {A : Type 0} → Waiting A → Answer A
says (ended n a) = accepted n a
says (failed n p) = refused n p
says (waits c f at w) = more

-- nothing more is asked for
abbrev pub is_settled : {A : Type 0} → Waiting A → Bool
is_settled (ended n a) = true
is_settled (failed n p) = true
is_settled (waits c f at w) = false

-- ---- lines, as a stepper sees them

-- what is known of the octets w of a line: 0 no CR; 1 they end with their first CR; 2 a CR that no LF follows
unfoldable pub state_from : ℕ → List ℕ → ℕ
state_from st [] = st
state_from st (x ∷ w) = state_from (cr_state st x) w

-- the octets w of a line of at most n octets hold no LF, there are fewer than n of them, and the line's state is st: the line is not settled
pub record Open (n st : ℕ) (w : List ℕ) : Type 0 where
  pub clear : free 10 w ≡ true
  pub fits : length w < n
  pub state : state_from 0 w ≡ st
