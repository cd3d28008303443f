use Rattle.steps.proofs.Turns.{data_is, counts-are, data-none, data-uncounted, data-taken}
use Rattle.steps.proofs.reader.take_data.Goals as goal

pub data_octet-requires : goal.data_octet-requires
data_octet-requires c = (data_is _ c.is_data.ensures c.if-is_data.true, counts-are _ c.is_counted.ensures c.if-is_counted.true)

pub returns-then-is_counted : goal.returns-then-is_counted
returns-then-is_counted c = data-taken _ _ c.is_data.ensures c.if-is_data.true c.is_counted.ensures c.if-is_counted.true c.data_octet.ensures

pub returns-then-is_data : goal.returns-then-is_data
returns-then-is_data c = data-uncounted _ _ c.is_data.ensures c.if-is_data.true c.is_counted.ensures c.if-is_counted.false

pub returns : goal.returns
returns c = data-none _ _ c.is_data.ensures c.if-is_data.false
