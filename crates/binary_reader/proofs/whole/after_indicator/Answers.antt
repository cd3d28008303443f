use Rattle.binary_reader.proofs.WholeLaws.{indicated-even, indicated-odd, indicated-other}
use Rattle.binary_reader.proofs.whole.after_indicator.Goals as goal

pub returns-then-indicator-gt3 : goal.returns-then-indicator-gt3
returns-then-indicator-gt3 c = indicated-other _ _ _ c.at.ensures c.if-indicator-gt3.true

pub returns-then-indicator-eq0 : goal.returns-then-indicator-eq0
returns-then-indicator-eq0 c = indicated-even _ _ _ c.if-indicator-gt3.false c.form_of-form.ensures c.if-indicator-eq0.true c.request_in.ensures

pub returns-else-indicator-eq0 : goal.returns-else-indicator-eq0
returns-else-indicator-eq0 c = indicated-odd _ _ _ c.if-indicator-gt3.false c.form_of-form.ensures c.if-indicator-eq0.false c.response_in.ensures
