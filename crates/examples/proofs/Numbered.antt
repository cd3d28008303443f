-- 01's numbers, by computation.
use mathlib.Core.Path.{refl}
use Rattle.examples.specs.Numbers.{Statement}

pub numbers : Statement
numbers = record {
  sizes = record {
    method = refl;
    authority = refl;
    path = refl;
    heads = refl;
    trailers = refl;
    chunk_line = refl;
    lines = refl;
    chunks = refl;
    content = refl;
    binary = refl;
    informational = refl;
    listing = refl;
  };
  refusals = record {
    more = refl;
    line = refl;
    version = refl;
    supported = refl;
    status = refl;
    host = refl;
    lengths = refl;
    size = refl;
    cut = refl;
    indicator = refl;
    section = refl;
    padding = refl;
    room = refl;
    scheme = refl;
  };
}
