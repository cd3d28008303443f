use Rattle.std.proofs.lemmas.Result.{err_from_is_err_and}
use mathlib.Core.Path.{ap, ◌∙◌}
use native.Mathlib.Omega.{arith}
use Rattle.bundle.specs.Bundle.{head_of}
use Prim.Native.Nat.{ℕ}
use Rattle.turn.specs.Turn.{binary_to_binary}
use Rattle.messages.specs.Told.{plain as told_plain}
use Rattle.flock_table.proofs.Counted.{flock-least}
use Rattle.bundle_edit.specs.Append.{message_entry}
use Rattle.bundle_edit.proofs.Appends.{paired, behind-refused, behind-done, entry_done}
use Rattle.bundle_edit.proofs.put_entry.Goals as goal

pub returns-in_err-n : goal.returns-in_err-n
returns-in_err-n c = let p = err_from_is_err_and c.from_residual.result c.from_residual.ensures.1 in rw (p.1, p.2) (behind-refused c.args.flock (binary_to_binary (told_plain 0) c.args.message.now) (message_entry c.args.flock c.args.message.now) (paired c.args.flock c.args.message.now) c.requires.0 c.behind_head-from.ensures c.in_err-n.ensures)

pub bounds-buf-from : goal.bounds-buf-from
bounds-buf-from c = let s = behind-done c.args.flock (binary_to_binary (told_plain 0) c.args.message.now) (message_entry c.args.flock c.args.message.now) (paired c.args.flock c.args.message.now) c.requires.0 c.behind_head-from.ensures c.in_ok-n.ensures in omega (arith, s.place, s.room, s.some, c.lend_behind.auto)

pub head_word-word-requires : goal.head_word-word-requires
head_word-word-requires c = let s = behind-done c.args.flock (binary_to_binary (told_plain 0) c.args.message.now) (message_entry c.args.flock c.args.message.now) (paired c.args.flock c.args.message.now) c.requires.0 c.behind_head-from.ensures c.in_ok-n.ensures in ((flock-least _ c.requires.1).1, rw s.kind s.headed.low, omega (arith, s.size, s.headed.small))

pub put_head-requires : goal.put_head-requires
put_head-requires c = let s = behind-done c.args.flock (binary_to_binary (told_plain 0) c.args.message.now) (message_entry c.args.flock c.args.message.now) (paired c.args.flock c.args.message.now) c.requires.0 c.behind_head-from.ensures c.in_ok-n.ensures in omega (arith, s.room, c.lend_behind.auto)

pub returns : goal.returns
returns c = let s = behind-done c.args.flock (binary_to_binary (told_plain 0) c.args.message.now) (message_entry c.args.flock c.args.message.now) (paired c.args.flock c.args.message.now) c.requires.0 c.behind_head-from.ensures c.in_ok-n.ensures in entry_done s (c.head_word-word.ensures ∙ ap (λ (k : ℕ). head_of c.args.flock 0 k c.in_ok-n.n) s.kind) c.put_head.ensures
