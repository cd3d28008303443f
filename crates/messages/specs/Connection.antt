-- What a Connection line names (02, item 3; RFC 9110, section 7.6.1): its value is a list of members between commas. Fields of these names do not travel, and
-- "close" says that the sender means to close.
use Rattle.std.specs.Prelude.{ℕ, ◌+◌, ◌-◌, ◌≤◌, ◌≡◌, Bool, true, false, cond, List, [], ◌∷◌, map, eqb, length, take, drop}
use Rattle.octets.specs.Class.{is_blank}
use Rattle.octets.specs.Text.{span_len, is_other, lower_of, same_text, trim_back}
use Rattle.messages.specs.declared.Member.{Member}

abbrev pub comma : ℕ
comma = 44

-- one octet more in front of the first member
abbrev pub in_front : ℕ → List (List ℕ) → List (List ℕ)
in_front b [] = (b ∷ []) ∷ []
in_front b (m ∷ ms) = (b ∷ m) ∷ ms

-- the members of a list: every comma splits, within quotes too
unfoldable pub members : List ℕ → List (List ℕ)
members [] = [] ∷ []
members (b ∷ v) = cond (eqb b comma) ([] ∷ members v) (in_front b (members v))

-- a text without the spaces and tabs at its end
unfoldable pub trimmed_end : List ℕ → List ℕ
trimmed_end m = take (trim_back is_blank m (length m)) m

-- a member without those at its ends
unfoldable pub trimmed : List ℕ → List ℕ
trimmed m = trimmed_end (drop (span_len is_blank m) m)

-- whether a member is the name n, which is in lower case. A member that is no token is no field's name, so it names nothing
unfoldable pub is_member : List ℕ → List ℕ → Bool
is_member n m = same_text (map lower_of (trimmed m)) n

-- whether one of the members is
unfoldable pub any_member : List ℕ → List (List ℕ) → Bool
any_member n [] = false
any_member n (m ∷ ms) = cond (is_member n m) true (any_member n ms)

-- whether one of the values of Connection lines names n
unfoldable pub is_named : List (List ℕ) → List ℕ → Bool
is_named [] n = false
is_named (v ∷ vs) n = cond (any_member n (members v)) true (is_named vs n)

-- ---- as the code finds them

-- m is the member of the list v that begins at the place `from`: it ends at the next comma or with the list, and is len octets from start on
pub record MemberFrom (v : List ℕ) (from : ℕ) (m : Member) : Type 0 where
  pub end : m.end ≡ from + span_len (is_other comma) (drop from v)
  pub text : take m.len (drop m.start v) ≡ trimmed (take (m.end - from) (drop from v))
  pub inside : m.start + m.len ≤ m.end
  pub within : m.end ≤ from + (length v - from)
