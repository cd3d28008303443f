-- What lent room keeps of the lines of a head (02, item 13): of a line that may travel its name in lower case, of Host and Connection the value, of others
-- nothing. One entry stands behind another, each with LF behind it. No value has LF; a mark that begins no name stands before a value.
use Rattle.std.specs.Prelude.{ℕ, ◌+◌, ◌≤◌, ◌≡◌, Bool, true, false, cond, not, List, [], ◌∷◌, ◌++◌, map, eqb, length}
use Rattle.octets.specs.Class.{has_class, token}
use Rattle.octets.specs.Text.{all, lower_of}
use Rattle.script.specs.Script.{free}
use Rattle.messages.specs.Message.{FieldRead}
use Rattle.messages.specs.Names.{line_kind}
use Rattle.messages.specs.Connection.{in_front, members, any_member}
use Rattle.messages.specs.declared.Kind.{Kind}
use Rattle.messages.specs.declared.Kind.TheVariants as kind

-- the marks: ":" and ","
abbrev pub host_mark : ℕ
host_mark = 58

abbrev pub connection_mark : ℕ
connection_mark = 44

-- the text that is kept of a line, by its kind, its name and its value
abbrev pub kept_text : Kind → List ℕ → List ℕ → List ℕ
kept_text kind.Ordinary n v = map lower_of n ++ 10 ∷ []
kept_text kind.HopByHop n v = []
kept_text kind.Host n v = host_mark ∷ (v ++ 10 ∷ [])
kept_text kind.ContentLength n v = []
kept_text kind.TransferEncoding n v = []
kept_text kind.Connection n v = connection_mark ∷ (v ++ 10 ∷ [])

-- the text of lines
unfoldable pub text_of : List FieldRead → List ℕ
text_of [] = []
text_of (f ∷ fs) = kept_text (line_kind f) f.name.text f.value.text ++ text_of fs

-- ---- the entries of a text

-- each without its LF
unfoldable pub entries : List ℕ → List (List ℕ)
entries [] = []
entries (b ∷ t) = cond (eqb b 10) ([] ∷ entries t) (in_front b (entries t))

-- whether an entry is a value of Connection that names n, which is in lower case
unfoldable pub names_it : List ℕ → List ℕ → Bool
names_it n [] = false
names_it n (b ∷ v) = cond (eqb b connection_mark) (any_member n (members v)) false

-- whether one of the entries does
unfoldable pub named_in : List (List ℕ) → List ℕ → Bool
named_in [] n = false
named_in (e ∷ es) n = cond (names_it n e) true (named_in es n)

-- whether an entry is a name
unfoldable pub is_name : List ℕ → Bool
is_name [] = false
is_name (b ∷ v) = cond (eqb b connection_mark) false (not (eqb b host_mark))

-- one for a name that none of the entries names
unfoldable pub worth : List (List ℕ) → List ℕ → ℕ
worth es e = cond (is_name e) (cond (named_in es e) 0 1) 0

-- how many of the entries are such names, by all entries es
unfoldable pub count_in : List (List ℕ) → List (List ℕ) → ℕ
count_in es [] = 0
count_in es (e ∷ rest) = worth es e + count_in es rest

-- ---- lines whose text can be told apart: a name is a token, and no value has LF

pub record PlainLine (f : FieldRead) : Type 0 where
  pub name : all (has_class token) f.name.text ≡ true
  pub some : 1 ≤ length f.name.text
  pub value : free 10 f.value.text ≡ true

abbrev pub AllPlain : List FieldRead → Type 0
AllPlain [] = Unit {0}
AllPlain (f ∷ fs) = PlainLine f × AllPlain fs
