use Rattle.steps.proofs.Picks.{stood, head-hosted, head-unhosted}
use Rattle.steps.proofs.head.head_end.Goals as goal

pub head_body-requires-clause-end_le_host : goal.head_body-requires-clause-end_le_host
head_body-requires-clause-end_le_host c = stood c.args.st c.args.room.now c.args.st.notes.hosts (c.is_hosted.ensures c.class_table-t.ensures) c.if-is_hosted.true

pub returns-then-is_hosted : goal.returns-then-is_hosted
returns-then-is_hosted c = head-hosted _ _ (c.is_hosted.ensures c.class_table-t.ensures) c.if-is_hosted.true c.head_body.ensures

pub returns : goal.returns
returns c = head-unhosted _ _ (c.is_hosted.ensures c.class_table-t.ensures) c.if-is_hosted.false c.refused.ensures
