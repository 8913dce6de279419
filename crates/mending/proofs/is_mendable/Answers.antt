-- `mending::is_mendable` meets its contract: the blocks passed are mendable, the marks know their numbers, and those are counted whose count was
-- not programmed; a block that is not mendable decides. Assumes nothing.
use mathlib.Core.Path.{◌≡◌, refl, sym, ap, ◌∙◌}
use native.Mathlib.Numerals.{add-one}
use native.Mathlib.Omega.{arith}
use Rattle.ranges.specs.Range.{one_if, all_below, sum_below}
use Rattle.ranges.proofs.Tests.{not-all}
use Rattle.ranges.proofs.Sums.{count-le}
use Rattle.geometry.proofs.Laws.{logical-small}
use Rattle.image.specs.Mending.{count_unset, mendable_block, mendable}
use Rattle.rules.proofs.RuleLaws.{all_more}
use Rattle.rules.proofs.MarkLaws.{marks-start}
use Rattle.mending.proofs.BlockLaws.{keeps-map}
use Rattle.mending.proofs.is_mendable.Goals.{else-count_unset, then-count_unset}
use Rattle.mending.proofs.is_mendable.Goals.{After-mendable_block}
use Rattle.mending.proofs.is_mendable.Goals as goal

pub mark_all_completes-requires : goal.mark_all_completes-requires
mark_all_completes-requires c = rw c.new-completes.ensures (marks-start _ _ (omega (arith, logical-small c.args.image.now.geo c.args.image.now.shaped.limits)))

pub loop-b-init : goal.loop-b-init
unfolding all_below sum_below
loop-b-init c = (rw c.new-marks.ensures (marks-start _ _ (omega (arith, logical-small c.args.image.now.geo c.args.image.now.shaped.limits))), refl, refl)

-- what block b answered
answered : (c : After-mendable_block) → c.mendable_block.result ≡ mendable_block c.args.image.now.geo c.args.image.now.words.now c.loop-b.b
answered c = rw (c.block.ensures.image, c.block.ensures.index) at c.mendable_block.ensures.value

pub returns-then-not-mendable_block : goal.returns-then-not-mendable_block
unfolding mendable
returns-then-not-mendable_block c =
    let here = (goal.at.returns-then-not-mendable_block c).After-mendable_block in
    let broken = not-all _ (mendable_block c.args.image.now.geo c.args.image.now.words.now) c.loop-b-test.true (sym (answered here) ∙ c.if-not-mendable_block.true) in
    sym (rw broken)

pub count_unset-requires : goal.count_unset-requires
count_unset-requires c = keeps-map _ _ _ (sym c.mendable_block.ensures.value ∙ c.if-not-mendable_block.false)

pub overflow_add-unset : goal.overflow_add-unset
overflow_add-unset c =
    let geo = c.args.image.now.geo in
    omega (
      arith,
      c.loop-b.invariant.2,
      count-le c.loop-b.b (count_unset geo c.args.image.now.words.now),
      c.args.image.now.shaped.limits.blocks_high,
    )

pub loop-b-preserved : goal.loop-b-preserved
unfolding sum_below
loop-b-preserved c =
    let loop = c.loop-b in
    let kept = c.if-not-mendable_block.false in
    let is = sym (rw (c.block.ensures.image, c.block.ensures.index) at c.count_unset.ensures) in (
      rw add-one (rw (c.block.ensures.image, c.block.ensures.index) at c.mendable_block.ensures.marks_2 kept),
      all_more loop.b _ loop.invariant.1 (sym (answered (goal.at.loop-b-preserved c).After-mendable_block) ∙ kept),
      rw add-one
          (elim c.if-count_unset.branch [
            | then-count_unset w ↦ omega (arith, loop.invariant.2, ap one_if (is ∙ w.if-count_unset.true))
            | else-count_unset w ↦ omega (arith, loop.invariant.2, ap one_if (is ∙ w.if-count_unset.false))
          ]),
    )

pub returns : goal.returns
unfolding mendable
returns c =
    let end : c.loop-b.b ≡ c.args.image.now.geo.blocks = omega arith in
    rw (rw end at c.loop-b.invariant.1, ← rw end at c.loop-b.invariant.2)
