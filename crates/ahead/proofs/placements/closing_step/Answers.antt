-- `ahead::placements::closing_step` meets its contract: two steps where the block is full then, and else none.
use native.Mathlib.Omega.{arith}
use Rattle.ahead.proofs.PlacementLaws.{least_step, greatest-step, closed-step, open_step}
use Rattle.ahead.proofs.placements.closing_step.Goals as goal

pub returns-then-s-eq0 : goal.returns-then-s-eq0
returns-then-s-eq0 c =
    let a = c.args in
    least_step a.geo a.p a.s _ c.if-p.true c.if-s-eq0.true (omega (arith, c.start-start.ensures))

pub returns-then-s-eq1 : goal.returns-then-s-eq1
returns-then-s-eq1 c =
    let a = c.args in
    greatest-step a.geo a.p a.s _ c.if-p.true c.if-s-eq1.true (omega (arith, c.start-start.ensures))

pub returns-else-s-eq1 : goal.returns-else-s-eq1
returns-else-s-eq1 c =
    let a = c.args in
    closed-step a.geo a.p a.s c.if-p.true (omega arith)

pub returns-else-p : goal.returns-else-p
returns-else-p c = let a = c.args in open_step a.geo a.p a.s c.if-p.false
