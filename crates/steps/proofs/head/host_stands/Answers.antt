use Rattle.steps.proofs.Picks.{stands-given, stands-before, stands-behind, stands_by}
use Rattle.steps.proofs.head.host_stands.Goals as goal

pub returns-then-c : goal.returns-then-c
returns-then-c c = λ h. stands-given _ _ c.if-c.true

pub returns-then-to-st : goal.returns-then-to-st
returns-then-to-st c = λ h. stands_by _ _ c.if-c.false c.if-c-host.true c.if-to-st.true (c.is_host.ensures h)

pub returns-then-c-host : goal.returns-then-c-host
returns-then-c-host c = λ h. stands-behind _ _ c.if-c.false c.if-c-host.true c.if-to-st.false

pub returns : goal.returns
returns c = λ h. stands-before _ _ c.if-c.false c.if-c-host.false
