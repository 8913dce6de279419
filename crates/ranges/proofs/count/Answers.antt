-- `ranges::count` meets its contract: `passed` is the count of the indices passed.
use Rattle.std.proofs.Common.{arith, ◌∙◌, refl, sym}
use Rattle.ranges.specs.Range.{sum_below}
use Rattle.ranges.proofs.Sums.{count-more, count-same}
use Rattle.ranges.proofs.count.Goals.{then-test, else-test}
use Rattle.ranges.proofs.count.Goals as goal

pub loop-i-init : goal.loop-i-init
unfolding sum_below
loop-i-init g c = (omega arith, λ f tells. refl)

pub loop-i-preserved : goal.loop-i-preserved
loop-i-preserved g c = (
  elim c.if-test.branch [ then-test w ↦ omega arith | else-test w ↦ omega arith ],
  λ f tells.
      let told = sym (tells _ _ c.loop-i-test.true c.test.ensures) in
      let before = c.loop-i.invariant.1 f tells in
      elim c.if-test.branch [
        | then-test w ↦ w.passed-is ∙ count-more c.loop-i.i f before (told ∙ w.if-test.true)
        | else-test w ↦ w.passed-is ∙ count-same c.loop-i.i f before (told ∙ w.if-test.false)
      ],
)
