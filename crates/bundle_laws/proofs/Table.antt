-- Every row of the table, by computation.
use mathlib.Core.Path.{◌≡◌, refl}
use Rattle.examples.specs.Examples.{hex, figure13, post_binary}
use Rattle.examples.specs.Computing.{computing}
use Rattle.bundle_laws.specs.Table.{All, entry13, delivered13, entry_p5, table, opened, opened_tables}

pub rows : All table
unfolding computing opened opened_tables hex figure13 post_binary entry13 delivered13 entry_p5 table
rows = (refl, (refl, ((refl, refl, refl), ((refl, refl, refl), ((refl, refl, refl), ((refl, refl, refl), ((refl, refl, refl), ((refl, refl, refl), ((refl, refl, refl), ((refl, refl, refl), ((refl, refl, refl), ((refl, refl, refl), ((refl, refl, refl), (refl, (refl, (refl, (refl, (refl, (refl, (refl, (refl, (refl, (refl, (refl, (refl, (refl, (refl, (refl, (refl, (refl, (refl, (refl, (refl, (refl, (refl, (refl, (refl, (refl, ((refl, refl), ((refl, refl), ((refl, refl), ((refl, refl, refl), ((refl, refl, refl), ((refl, refl, refl), ((refl, refl, refl), ((refl, refl, refl), ((refl, refl, refl, refl), ((refl, refl, refl, refl), ((refl, refl, refl, refl), ((refl, refl, refl, refl), tt))))))))))))))))))))))))))))))))))))))))))))))))))
