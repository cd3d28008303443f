-- Every row of the table for 02, by computation.
use mathlib.Core.Path.{refl}
use Rattle.examples.specs.Examples.{figure13, hex}
use Rattle.examples.specs.Changes.{Statement, widths, head_text, stated_text, stated_binary, wide_text, replies, old_text, old_binary, measured_text, closings, silent_text, saying_text, empties, figure8, figure9, figure11, empty_value, empty_host, editions, long_post, long_chunks, forms, binary_get, binary_options, targets, get_binary, none_kept, one_kept, named}
use Rattle.examples.specs.Computing.{computing}

pub changed : Statement
unfolding computing widths head_text stated_text stated_binary wide_text replies old_text old_binary measured_text closings silent_text saying_text empties figure8 figure9 figure11 figure13 empty_value empty_host editions long_post long_chunks forms binary_get binary_options targets get_binary none_kept one_kept named hex
changed = record {
  item2 = ((refl, refl), ((refl, refl), ((refl, refl), ((refl, refl), ((refl, refl), ((refl, refl), ((refl, refl), ((refl, refl), ((refl, refl), ((refl, refl), ((refl, refl), ((refl, refl), ((refl, refl), ((refl, refl), ((refl, refl), ((refl, refl), ((refl, refl), ((refl, refl, refl), ((refl, refl, refl), ((refl, refl, refl), ((refl, refl, refl), ((refl, refl, refl), (refl, (refl, (refl, (refl, (refl, (refl, (refl, ((refl, refl), ((refl, refl), ((refl, refl), ((refl, refl), tt)))))))))))))))))))))))))))))))));
  item3 = (refl, (refl, (refl, (refl, (refl, (refl, (refl, (refl, (refl, (refl, ((refl, refl), (refl, (refl, (refl, (refl, (refl, (refl, tt)))))))))))))))));
  item4 = (refl, (refl, (refl, (refl, (refl, tt)))));
  item5 = (
    (refl, refl),
    ((refl, refl), (refl, ((refl, refl), (refl, ((refl, refl), (refl, ((refl, refl), ((refl, refl), ((refl, refl), ((refl, refl), ((refl, refl), tt))))))))))),
  );
  item7 = ((refl, refl), ((refl, refl), ((refl, refl), ((refl, refl), ((refl, refl), ((refl, refl), ((refl, refl), ((refl, refl), ((refl, refl), ((refl, refl), ((refl, refl), ((refl, refl), ((refl, refl), ((refl, refl), ((refl, refl), ((refl, refl), (refl, ((refl, refl), ((refl, refl), (refl, (refl, tt)))))))))))))))))))));
  item8 = (refl, (refl, (refl, (refl, (refl, (refl, (refl, (refl, (refl, (refl, (refl, (refl, tt))))))))))));
  item9 = (refl, (refl, (refl, (refl, (refl, tt)))));
  item10 = ((refl, refl), ((refl, refl), (refl, (refl, ((refl, refl), ((refl, refl), ((refl, refl), ((refl, refl), ((refl, refl), ((refl, refl), ((refl, refl), ((refl, refl), ((refl, refl), ((refl, refl), tt))))))))))))));
}
