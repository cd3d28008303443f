-- What a writer leaves in the octets that it was lent, and the part of a source that it copies (01, "Numbers a call answers with": a refusal writes
-- nothing, and all behind what is written stays).
use Rattle.std.specs.Prelude.{◌≡◌, Bool, false, cond, List, [], ◌∷◌, ℕ, zero, suc, ◌+◌, ◌≤◌, leb, length, get_or, set}

-- the octets `bs` put into `o` one by one from the place `at` on, all else as it was
abbrev pub splice : List ℕ → ℕ → List ℕ → List ℕ
splice o at [] = o
splice o at (b ∷ bs) = splice (set o at b) (at + 1) bs

-- `n` elements of `l` from the place `from` on, and `d` for each that is past the end
abbrev pub elements : {A : Type 0} → A → List A → ℕ → ℕ → List A
elements d l from zero = []
elements d l from (suc n) = get_or l from d ∷ elements d l (from + 1) n

-- `n` octets of `s` from the place `from` on
abbrev pub part : List ℕ → ℕ → ℕ → List ℕ
part = elements 0

-- what a writer leaves: the octets `bs`, which are n, in `o` from `at` on; its answer is the place behind them
pub record Put (o : List ℕ) (at : ℕ) (bs : List ℕ) (n : ℕ) (o' : List ℕ) (r : ℕ) : Type 0 where
  pub next : r ≡ at + n
  pub size : length bs ≡ n
  pub all : o' ≡ splice o at bs

-- whether `n` octets from the place `at` on lie within `o`: where they are to be written, that there is room
abbrev pub lies_within : List ℕ → ℕ → ℕ → Bool
lies_within o at n = leb (at + n) (length o)

-- whether `n` octets of `src` from the place `from` on may be copied into `o` from `at` on: both have them
abbrev pub may_copy : List ℕ → ℕ → ℕ → List ℕ → ℕ → Bool
may_copy src from n o at = cond (lies_within src from n) (lies_within o at n) false

-- what a writer of all or nothing leaves, which writes where the test `may` passes: the same; else `o` as it was, and its answer is `at`
pub record PutIf (may : Bool) (o : List ℕ) (at : ℕ) (bs : List ℕ) (n : ℕ) (o' : List ℕ) (r : ℕ) : Type 0 where
  pub next : r ≡ cond may (at + n) at
  pub size : length bs ≡ n
  pub all : o' ≡ cond may (splice o at bs) o

-- the same, given that there is room
abbrev pub Puts : List ℕ → ℕ → List ℕ → ℕ → List ℕ → ℕ → Type 0
Puts o at bs n o' r = at + n ≤ length o → Put o at bs n o' r

-- what is left of a run of writes: the octets `bs`, n of them, put into `o` from `at` on give what `bs₀` give in `o₀` from `at₀` on
pub record Left (o₀ : List ℕ) (at₀ : ℕ) (bs₀ : List ℕ) (n₀ : ℕ) (o : List ℕ) (at : ℕ) (bs : List ℕ) (n : ℕ) : Type 0 where
  pub next : at + n ≡ at₀ + n₀
  pub kept : length o ≡ length o₀
  pub all : splice o at bs ≡ splice o₀ at₀ bs₀
