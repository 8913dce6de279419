-- `ranges::largest` meets its contract: `largest` is the largest value of the indices passed.
use Rattle.std.proofs.Common.{arith, refl}
use Rattle.ranges.specs.Range.{largest_below}
use Rattle.ranges.proofs.LargestLaws.{largest-next}
use Rattle.ranges.proofs.largest.Goals.{then-largest-here, else-largest-here}
use Rattle.ranges.proofs.largest.Goals as goal

pub loop-i-init : goal.loop-i-init
unfolding largest_below
loop-i-init g c = λ f tells. refl

pub loop-i-preserved : goal.loop-i-preserved
loop-i-preserved g c = λ f tells.
    let told = tells _ _ c.loop-i-test.true c.value-here.ensures in
    largest-next c.loop-i.i f (c.loop-i.invariant f tells)
    (elim c.if-largest-here.branch [ then-largest-here w ↦ omega arith | else-largest-here w ↦ omega arith ])
