use Rattle.bundle_edit.proofs.Appends.{fair, plan-served}
use Rattle.bundle_edit.proofs.append.Goals as goal

pub plan_of-requires : goal.plan_of-requires
plan_of-requires c = fair c.args.n c.args.buf.now c.args.used c.args.flock c.args.message.now c.append_beside-w.ensures

pub returns : goal.returns
returns c = plan-served c.args.n c.args.buf.now c.args.used c.args.flock c.args.message.now c.append_beside-w.ensures _ c.long_forms.ensures c.plan_of.ensures
