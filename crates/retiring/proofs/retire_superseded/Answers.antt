-- `retiring::retire_superseded` meets its contract: the steps of the blocks passed are carried out, as many as there are left. The marks that were made
-- before the first stay right.
use Rattle.std.proofs.Common.{◌≡◌, arith}
use Rattle.geometry.proofs.Laws.{logical-small}
use Rattle.rules.proofs.MarkLaws.{marks-start}
use Rattle.image.specs.Words.{Words32}
use Rattle.flash.specs.Repairing.{clearing}
use Rattle.flash.proofs.RunLaws.{as-steps, by-geo, done}
use Rattle.flash.proofs.Joins.{none-joined, next-joined, joined-early}
use Rattle.retiring.proofs.Retired.{Turn, clears_block}
use Rattle.retiring.proofs.CodeLaws.{completes-still, block-turn, block-steps}
use Rattle.retiring.proofs.retire_superseded.Goals.{Else-run-eq0}
use Rattle.retiring.proofs.retire_superseded.Goals as goal

pub mark_all_completes-requires : goal.mark_all_completes-requires
mark_all_completes-requires c = rw c.new-completes.ensures (marks-start _ _ (omega (arith, logical-small c.view.result.geo c.view.result.shaped.limits)))

pub loop-b-init : goal.loop-b-init
loop-b-init c = (omega arith, none-joined _ _)

pub returns-then-run-eq0-clause-run_after : goal.returns-then-run-eq0-clause-run_after
unfolding clearing
returns-then-run-eq0-clause-run_after c = joined-early _ c.loop-b.invariant.1 c.if-run-eq0.true (omega arith)

-- what the turn of block b finds
turn : (c : Else-run-eq0) → let r = c.args.run.now in Turn r.geo r.words.now 0 c.loop-b.b 0 c.loop-b.run.words.now
turn c =
    let r = c.args.run.now in
    let words : Words32 r.words.now = rw c.view.ensures.words at c.view.result.words32 in
    block-turn r.geo r.words.now r.shaped words (omega arith) (done c.loop-b.invariant.1 c.if-run-eq0.false)

pub retire_in_block-requires-clause-completes : goal.retire_in_block-requires-clause-completes
retire_in_block-requires-clause-completes c =
    rw (c.loop-b.invariant.1.same_geo)
    (completes-still (turn (goal.at.retire_in_block-requires-clause-completes c).Else-run-eq0).retired
    (rw (c.view.ensures.words, c.view.ensures.geo) at c.mark_all_completes.ensures))

pub loop-b-preserved : goal.loop-b-preserved
loop-b-preserved c =
    let now = c.loop-b.run in
    let told = by-geo (λ geo. clears_block geo now.words.now c.loop-b.b) c.retire_in_block.ensures c.loop-b.invariant.1.same_geo in (
      omega arith,
      next-joined _ c.loop-b.invariant.1 (as-steps told (block-steps (turn (goal.at.loop-b-preserved c).Else-run-eq0) c.loop-b-test.true)),
    )

pub returns-clause-run_after : goal.returns-clause-run_after
unfolding clearing
returns-clause-run_after c =
    let end : c.loop-b.b ≡ c.args.run.now.geo.blocks = omega arith in
    rw end at c.loop-b.invariant.1
