use Rattle.http1_writer.proofs.Fits.{connected-response, connected-request}
use Rattle.http1_writer.proofs.fitting.is_connected.Goals as goal

pub returns-then-r : goal.returns-then-r
returns-then-r c = connected-response c.args.r c.args.told c.if-r.true

pub returns : goal.returns
returns c = connected-request c.args.r c.args.told c.if-r.false
