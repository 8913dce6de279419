-- `repair_ahead::single::single_step` meets its contract: the one step is the first, if it is wanted.
use Rattle.repair_ahead.proofs.SoughtLaws.{the_one, behind-one, not-wanted}
use Rattle.repair_ahead.proofs.single.single_step.Goals as goal

pub returns-then-i-eq0 : goal.returns-then-i-eq0
returns-then-i-eq0 c = the_one _ _ _ c.if-wanted.true c.if-i-eq0.true

pub returns-then-wanted : goal.returns-then-wanted
returns-then-wanted c = behind-one _ _ _ c.if-wanted.true c.if-i-eq0.false

pub returns : goal.returns
returns c = not-wanted _ _ _ c.if-wanted.false
