-- `restoring::restore_bounds` meets its contract: the steps of the blocks passed are carried out, as many as there are left, and those of the next are as
-- the first image tells. Assumes nothing.
use Rattle.std.proofs.Common.{◌≡◌, ap, ◌∙◌, arith}
use Rattle.image.proofs.Mending.{mendable-facts}
use Rattle.flash.specs.Repairing.{bounding}
use Rattle.flash.proofs.RunLaws.{as-steps, by-geo, done}
use Rattle.flash.proofs.Joins.{none-joined, next-joined, joined-early}
use Rattle.restoring.proofs.LowWords.{mendable-map}
use Rattle.restoring.proofs.Bounded.{bounds, Bounding, bounding-first, bounds-then}
use Rattle.restoring.proofs.restore_bounds.Goals.{Else-run-eq0}
use Rattle.restoring.proofs.restore_bounds.Goals as goal

-- how things stand before block b
state : (c : Else-run-eq0) → let r = c.args.run.now in Bounding r.geo r.words.now c.loop-b.run.words.now
state c =
    let r = c.args.run.now in
    rw (done c.loop-b.invariant.1 c.if-run-eq0.false)
    (bounding-first r.geo r.words.now r.shaped (mendable-facts r.geo r.words.now c.requires.image_value) c.requires.none_superseded c.loop-b.b (omega arith))

pub loop-b-init : goal.loop-b-init
loop-b-init c = (omega arith, none-joined _ _)

pub returns-then-run-eq0 : goal.returns-then-run-eq0
unfolding bounding
returns-then-run-eq0 c = joined-early _ c.loop-b.invariant.1 c.if-run-eq0.true (omega arith)

pub restore_block-requires-clause-none_superseded : goal.restore_block-requires-clause-none_superseded
restore_block-requires-clause-none_superseded c =
    rw (c.loop-b.invariant.1.same_geo) (state (goal.at.restore_block-requires-clause-none_superseded c).Else-run-eq0).current

pub restore_block-requires-clause-b_value : goal.restore_block-requires-clause-b_value
restore_block-requires-clause-b_value c =
    let r = c.args.run.now in
    rw (c.loop-b.invariant.1.same_geo)
    (mendable-map r.geo c.loop-b.run.words.now (state (goal.at.restore_block-requires-clause-b_value c).Else-run-eq0).mendable c.loop-b.b c.loop-b-test.true)

pub loop-b-preserved : goal.loop-b-preserved
loop-b-preserved c =
    let r = c.args.run.now in
    let now = c.loop-b.run in
    let told = by-geo (λ geo. bounds geo now.words.now c.loop-b.b) c.restore_block.ensures c.loop-b.invariant.1.same_geo in
    let same =
    ap (λ image. bounds r.geo image c.loop-b.b) (done c.loop-b.invariant.1 c.if-run-eq0.false)
    ∙ bounds-then r.geo r.words.now r.shaped (mendable-facts r.geo r.words.now c.requires.image_value) c.requires.none_superseded c.loop-b.b c.loop-b-test.true in
    (omega arith, next-joined _ c.loop-b.invariant.1 (as-steps told same))

pub returns : goal.returns
unfolding bounding
returns c =
    let end : c.loop-b.b ≡ c.args.run.now.geo.blocks = omega arith in
    rw end at c.loop-b.invariant.1
