-- `ahead::placements::step_behind` meets its contract: the two steps of the entry, the old entry if there is one, and those of (g).
use mathlib.Core.Path.{ap, ◌∙◌}
use Prim.Native.Nat.{ℕ, ◌^◌, ◌<◌}
use native.Mathlib.Omega.{arith}
use Rattle.bits.specs.Word.{cleared}
use Rattle.geometry.proofs.Laws.{logical-small}
use Rattle.ahead.proofs.PlacementLaws.{found-place-small, entry-small, begin-step, complete-step, retire-step, after-retired, none-retired}
use Rattle.ahead.proofs.placements.step_behind.Goals.{Start}
use Rattle.ahead.proofs.placements.step_behind.Goals as goal

-- a number fits beside the three bits of an entry
number_small : (c : Start) → c.args.p.number < 2 ^ 29
number_small c = omega (arith, logical-small c.args.geo c.requires.limits, c.requires.placeable.number_is)

pub overflow_add-entry : goal.overflow_add-entry
overflow_add-entry c = omega (arith, c.entries_start.ensures, entry-small c.args.geo c.requires.limits c.requires.placeable.block_is c.requires.placeable.slot_is)

pub returns-then-s-eq0 : goal.returns-then-s-eq0
returns-then-s-eq0 c =
    let a = c.args in
    begin-step a.geo a.p a.s _ _
    c.if-s-eq0.true
    (omega (arith, c.entries_start.ensures))
    (omega arith)

pub returns-then-s-eq1 : goal.returns-then-s-eq1
returns-then-s-eq1 c =
    let a = c.args in
    complete-step a.geo a.p a.s _ _
    c.if-s-eq1.true
    (omega (arith, c.entries_start.ensures))
    (omega arith)

pub overflow_add-at : goal.overflow_add-at
overflow_add-at c = omega (arith, c.entries_start-then-s-eq2.ensures, found-place-small c.args.geo c.requires.limits c.requires.placeable.old_is c.in-Some.is)

pub returns-then-s-eq2 : goal.returns-then-s-eq2
returns-then-s-eq2 c =
    let a = c.args in
    retire-step a.geo a.p a.s _ _ _ _
    c.in-Some.is
    c.if-s-eq2.true
    (omega (arith, c.entries_start-then-s-eq2.ensures))
    (c.clear_bit-invalid.ensures ∙ ap (λ (w : ℕ). cleared w 31) c.clear_bit.ensures)

pub returns-else-s-eq2 : goal.returns-else-s-eq2
returns-else-s-eq2 c =
    let a = c.args in
    after-retired a.geo a.p a.s _ _ _ c.in-Some.is c.closing_step.ensures (omega arith)

pub returns-in-None : goal.returns-in-None
returns-in-None c =
    let a = c.args in
    none-retired a.geo a.p a.s _ c.in-None.is c.closing_step-in-None.ensures (omega arith)
