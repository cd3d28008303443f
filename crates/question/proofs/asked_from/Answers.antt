use Rattle.question.proofs.asked_from.Goals as goal

pub fields_before-k-requires : goal.fields_before-k-requires
fields_before-k-requires c = let w = c.requires.message _ c.in-Ok.is in (w.heads, w.few)
