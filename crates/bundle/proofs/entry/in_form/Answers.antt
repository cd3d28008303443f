use Rattle.messages.specs.Meaning.{meaning}
use Rattle.binary_writer.specs.Write.{to_binary}
use Rattle.bundle.proofs.Messages.{small, form-refused, done-stand, form-done}
use Rattle.bundle.proofs.entry.in_form.Goals as goal

pub returns-in-Err : goal.returns-in-Err
returns-in-Err c = record { by = λ n m h. form-refused (to_binary (meaning m)) c.args.s.now (small (meaning m)) c.requires.binary_most_in_bounds (c.in-Err.ensures.by n m h) }

pub are_first-requires : goal.are_first-requires
are_first-requires c = let p = c.requires.by_index in (done-stand (to_binary (meaning p.1)) (c.in-Ok.ensures.by p.0 p.1 p.2)).within

pub returns-in-Ok : goal.returns-in-Ok
returns-in-Ok c = record { by = λ n m h. form-done (to_binary (meaning m)) c.args.s.now (c.in-Ok.ensures.by n m h) c.are_first.ensures }
