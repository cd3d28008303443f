-- That a message answers a HEAD changes nothing where its framing indicator is not a response's.
use Rattle.binary.specs.Reader.{◌>>=◌}
use Rattle.binary.specs.Read.{after_indicator, message, read_sized, read_binary}
use Rattle.binary_sound.specs.Sound.{BinaryHeadUnused}

pub binary-head-unused : BinaryHeadUnused
unfolding read_binary read_sized message after_indicator ◌>>=◌
binary-head-unused t h s f e r q a b = rw (q, a, b)
