-- What the salvage program prints for an input (02, item 12): "A program prints one line, `kept ENTRIES BYTES left BYTES stop NUMBER`; above 65,536 bytes of
-- input it is `kept 0 0 left 65536 stop 8`".
use Rattle.std.specs.Prelude.{ℕ, ◌+◌, cond, List, [], ◌∷◌, ◌++◌, leb, length}
use Rattle.octets.specs.Ascii.{ascii}
use Rattle.octets.specs.Refusals.{too_large}
use Rattle.numbers.specs.Digits.{digits, count_of}
use Rattle.bundle.specs.Salvage.{salvage_of}
use Rattle.salvaging.specs.Answers.{front_of}
use Rattle.salvaging.specs.declared.Front.{Front}

-- a word, and a number behind it in decimal digits
abbrev pub labelled : List ℕ → ℕ → List ℕ
labelled word n = word ++ digits 10 n

-- the line, with LF at its end
abbrev pub line_of : Front → List ℕ
line_of f =
    labelled (ascii "kept ") f.entries ++ labelled (ascii " ") f.kept ++ labelled (ascii " left ") f.left ++ labelled (ascii " stop ") f.stop
    ++ 10 ∷ []

-- octets of input at most
abbrev pub input_most : ℕ
input_most = 65536

-- the front that is told of an input above that
abbrev pub too_much : Front
too_much = record { entries = 0; kept = 0; left = input_most; stop = too_large }

-- of an input
unfoldable pub salvage_line : List ℕ → List ℕ
salvage_line s = cond (leb (length s) input_most) (line_of (front_of (salvage_of s))) (line_of too_much)

-- ---- how long it is

-- a word and a number
abbrev pub labelled_size : List ℕ → ℕ → ℕ
labelled_size word n = length word + count_of 10 n

-- the line: its words, spaces and LF are 19
abbrev pub line_size : Front → ℕ
line_size f = 19 + (count_of 10 f.entries + count_of 10 f.kept) + (count_of 10 f.left + count_of 10 f.stop)

-- at most: a number below 2^64 has at most 20 digits
abbrev pub line_most : ℕ
line_most = 99
