use mathlib.Core.Path.{refl}
use Rattle.binary_writer.proofs.Lengths.{counted_is, path-long}
use Rattle.output.proofs.Laws.{put_as}
use Rattle.output.proofs.Room.{puts, puts_then}
use Rattle.binary_writer.proofs.put.put_counted_path.Goals as goal

pub returns : goal.returns
returns c = put_as (counted_is _ _ (path-long c.args.s.now c.args.prefix c.args.path), refl) (puts_then (puts (rw c.path_size.ensures.0 at c.put_int-a.ensures)) (λ h. c.put_path.ensures) c.requires.1)
