use mathlib.Core.Path.{refl}
use Rattle.messages.specs.Answers.{no_ranges, padded}
use Rattle.messages.proofs.answers.no_ranges.Goals as goal

pub returns : goal.returns
unfolding no_ranges padded
returns c = refl
