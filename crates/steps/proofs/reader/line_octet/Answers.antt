use Rattle.step_lines.specs.declared.LineStep.TheVariants.{Whole}
use Rattle.steps.proofs.Turns.{octet-as, octet-goes, octet-bad, octet-long}
use Rattle.steps.proofs.reader.line_octet.Goals as goal

pub returns-in-Goes : goal.returns-in-Goes
returns-in-Goes c = octet-goes c.args.st c.args.room.now _ c.line_step-k.ensures _ c.in-Goes.is c.one_more-p.ensures c.onward.ensures

pub returns-in-Whole : goal.returns-in-Whole
returns-in-Whole c = octet-as c.args.st c.args.room.now _ c.line_step-k.ensures Whole c.in-Whole.is c.whole_line.ensures

pub returns-in-Bad : goal.returns-in-Bad
returns-in-Bad c = octet-bad c.args.st c.args.room.now _ c.line_step-k.ensures c.in-Bad.is c.refused.ensures

pub returns-in-Long : goal.returns-in-Long
returns-in-Long c = octet-long c.args.st c.args.room.now _ c.line_step-k.ensures c.in-Long.is c.refused-in-Long.ensures
