-- `ahead::placements::placement_step` meets its contract: the map word, the old entry if there is one, and a step from the contents on.
use mathlib.Core.Path.{refl}
use native.Mathlib.Omega.{arith}
use Rattle.ahead.proofs.PlacementLaws.{found-place-small, take_step, outdate-step, after-outdated, none-outdated}
use Rattle.ahead.proofs.placements.placement_step.Goals as goal

pub returns-then-s-eq0 : goal.returns-then-s-eq0
returns-then-s-eq0 c =
    let a = c.args in
    take_step a.geo a.p a.s a.words.now _ _
    c.if-s-eq0.true
    (omega (arith, c.map_start.ensures))
    refl

pub overflow_add-at-then-s-eq1 : goal.overflow_add-at-then-s-eq1
overflow_add-at-then-s-eq1 c = omega (arith, c.entries_start.ensures, found-place-small c.args.geo c.requires.limits c.requires.placeable.old_is c.in-Some.is)

pub returns-then-s-eq1 : goal.returns-then-s-eq1
returns-then-s-eq1 c =
    let a = c.args in
    outdate-step a.geo a.p a.s a.words.now _ _ _ _
    c.in-Some.is
    c.if-s-eq1.true
    (omega (arith, c.entries_start.ensures))
    c.clear_bit.ensures

pub returns-else-s-eq1 : goal.returns-else-s-eq1
returns-else-s-eq1 c =
    let a = c.args in
    after-outdated a.geo a.p a.s a.words.now _ _ _ c.in-Some.is c.step_from_contents.ensures (omega arith)

pub returns-in-None : goal.returns-in-None
returns-in-None c =
    let a = c.args in
    none-outdated a.geo a.p a.s a.words.now _ c.in-None.is c.step_from_contents-in-None.ensures (omega arith)
