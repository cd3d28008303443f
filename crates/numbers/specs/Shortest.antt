-- Which integers are counted as long (02, item 8: "whether the form was the shortest").
use Rattle.std.specs.Prelude.{ℕ, ◌+◌, ◌≡◌, ◌↔◌, List, Some}
use Rattle.numbers.specs.Integer.{read_int, int_len, integer_of}

-- an integer that was read is counted 0 exactly where its octets are as many as those of the shortest form, and else 1
abbrev pub LongIsNotShortest : Type 0
LongIsNotShortest =
    (at : ℕ) (s : List ℕ) (v next long : ℕ) → read_int at s ≡ Some (integer_of v next long)
    → ((long ≡ 0) ↔ (next ≡ at + int_len v)) × ((long ≡ 1) ↔ (next ≡ at + int_len v → ⊥))
