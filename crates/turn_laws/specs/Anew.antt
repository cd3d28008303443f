-- What follows from demand 2 (demands/Demand2) of writing Binary HTTP anew (01, "The two forms and the meaning between them": "writing an accepted Binary
-- message anew as Binary").
use Rattle.std.specs.Prelude.{ℕ, ◌≡◌, true, List, length}
use Rattle.script.specs.Script.{accepted, means}
use Rattle.messages.specs.declared.Told.{Told}
use Rattle.messages.specs.Told.{in_edition}
use Rattle.messages.specs.Message.{Message}
use Rattle.messages.specs.Meaning.{meaning}
use Rattle.binary.specs.Read.{read_binary}
use Rattle.binary_writer.specs.Write.{binary_of, binary_fits}
use Rattle.output.specs.Reply.{writes}
use Rattle.turn.specs.Turn.{binary_to_binary}

pub record Anew : Type 0 where
  -- what an accepted Binary message means, written anew, is read as the same meaning
  pub reads : (t : Told) (s : List ℕ) (n : ℕ) (m : Message) → read_binary t s ≡ accepted n m → binary_fits (meaning m) ≡ true
      → means meaning (read_binary (in_edition 0 t) (binary_of (meaning m))) ≡ accepted (length (binary_of (meaning m))) (meaning m)
  -- writing anew twice is writing anew once: RFC 9292 is written, so it is read the second time
  pub once : (t : Told) (s b : List ℕ) → binary_to_binary t s ≡ writes b → binary_to_binary (in_edition 0 t) b ≡ writes b
  -- two Binary messages, whatever is told of each, are written anew alike exactly when they mean the same
  pub alike : (t u : Told) (r s : List ℕ) (k n : ℕ) (l m : Message) → read_binary t r ≡ accepted k l → read_binary u s ≡ accepted n m → meaning l ≡ meaning m
      → binary_to_binary t r ≡ binary_to_binary u s
  pub apart : (t u : Told) (r s b : List ℕ) (k n : ℕ) (l m : Message) → read_binary t r ≡ accepted k l → read_binary u s ≡ accepted n m
      → binary_to_binary t r ≡ writes b → binary_to_binary u s ≡ writes b → meaning l ≡ meaning m
