-- Every worked row, by computation.
use mathlib.Core.Path.{refl}
use Rattle.output.specs.Reply.{written_of, lent_after}
use Rattle.examples.specs.Examples.{hex, post_text, post_binary, figure13}
use Rattle.examples.specs.Rows.{Statement, refusals, chunked_head, orders, host_head, limits, empty_get, writings, stream_text, title_text, listing_text, upper_text, ranged_text, ranged_ranges}
use Rattle.examples.specs.Computing.{computing}

pub worked : Statement
unfolding computing written_of lent_after hex post_text post_binary figure13 refusals chunked_head orders host_head limits empty_get writings stream_text title_text listing_text upper_text ranged_text ranged_ranges
worked = record {
  refusals = ((refl, refl), ((refl, refl), ((refl, refl), ((refl, refl), ((refl, refl), ((refl, refl), ((refl, refl), ((refl, refl), ((refl, refl), ((refl, refl), ((refl, refl), ((refl, refl), ((refl, refl), tt)))))))))))));
  orders = ((refl, refl), ((refl, refl), ((refl, refl), ((refl, refl), ((refl, refl), ((refl, refl), ((refl, refl), ((refl, refl), ((refl, refl), ((refl, refl), ((refl, refl), ((refl, refl), ((refl, refl), ((refl, refl), ((refl, refl), ((refl, refl), ((refl, refl), tt)))))))))))))))));
  limits = ((refl, refl), ((refl, refl), ((refl, refl), ((refl, refl), ((refl, refl), ((refl, refl), ((refl, refl), ((refl, refl), ((refl, refl), ((refl, refl), ((refl, refl), ((refl, refl), ((refl, refl), ((refl, refl), ((refl, refl), ((refl, refl), ((refl, refl), ((refl, refl), ((refl, refl), ((refl, refl), ((refl, refl), ((refl, refl), ((refl, refl), ((refl, refl), ((refl, refl), ((refl, refl), ((refl, refl), ((refl, refl), ((refl, refl), ((refl, refl), tt))))))))))))))))))))))))))))));
  writings = (refl, (refl, (refl, (refl, (refl, (refl, tt))))));
  no_scheme = refl;
  no_connection = refl;
  small = refl;
  unaltered = refl;
  enough = refl;
  behind = refl;
  other_scheme = refl;
  listing = refl;
  listed = refl;
  unlisted = refl;
  asked = refl;
  missing = refl;
  asked_of_none = refl;
  numbers = refl;
  ranges = refl;
}
