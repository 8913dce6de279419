-- `retiring::retire_in_block` meets its contract: the steps of the slots passed are carried out, as many as there are left.
use Rattle.std.proofs.Common.{◌≡◌, ap, ◌∙◌, arith}
use Rattle.geometry.specs.Geometry.{d}
use Rattle.image.specs.Words.{Words32}
use Rattle.flash.specs.Repairing.{clears_slot}
use Rattle.flash.proofs.RunLaws.{as-steps, by-geo, done}
use Rattle.flash.proofs.Joins.{none-joined, next-joined, joined-early}
use Rattle.retiring.proofs.Retired.{Turn, steps-same}
use Rattle.retiring.proofs.CodeLaws.{completes-still, slot_turn}
use Rattle.retiring.proofs.retire_in_block.Goals.{After-d-d, Else-run-eq0}
use Rattle.retiring.proofs.retire_in_block.Goals as goal

-- how many slots there are
slots : (c : After-d-d) → c.d-d.result ≡ d c.args.run.now.geo
slots c = c.d-d.ensures ∙ ap d c.view.ensures.geo

pub loop-i-init : goal.loop-i-init
loop-i-init c = (omega arith, none-joined _ _)

pub returns-then-run-eq0 : goal.returns-then-run-eq0
returns-then-run-eq0 c = joined-early _ c.loop-i.invariant.1 c.if-run-eq0.true (omega (arith, slots (goal.at.returns-then-run-eq0 c).After-d-d))

-- what the turn of slot i finds
turn : (c : Else-run-eq0) →
    let r = c.args.run.now in
    Turn r.geo r.words.now c.args.b c.args.b c.loop-i.i c.loop-i.run.words.now
turn c =
    let r = c.args.run.now in
    let words : Words32 r.words.now = rw c.view.ensures.words at c.view.result.words32 in
    slot_turn r.geo r.words.now r.shaped words c.requires.b_lt_blocks (omega (arith, ap d c.view.ensures.geo)) (done c.loop-i.invariant.1 c.if-run-eq0.false)

pub retire_slot-requires-clause-completes : goal.retire_slot-requires-clause-completes
retire_slot-requires-clause-completes c =
    rw (c.loop-i.invariant.1.same_geo)
    (completes-still (turn (goal.at.retire_slot-requires-clause-completes c).Else-run-eq0).retired c.requires.completes)

pub loop-i-preserved : goal.loop-i-preserved
loop-i-preserved c =
    let r = c.args.run.now in
    let now = c.loop-i.run in
    let told = by-geo (λ geo. clears_slot geo now.words.now c.args.b c.loop-i.i) c.retire_slot.ensures c.loop-i.invariant.1.same_geo in (
      omega arith,
      next-joined _ c.loop-i.invariant.1
          (as-steps told (steps-same r.geo r.words.now c.args.b (turn (goal.at.loop-i-preserved c).Else-run-eq0) c.requires.b_lt_blocks c.loop-i.i (omega arith) (omega (arith, ap d c.view.ensures.geo)))),
    )
