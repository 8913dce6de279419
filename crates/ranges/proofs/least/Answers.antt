-- `ranges::least` meets its contract: `best` is the definition's answer for the indices passed, with its key.
use Rattle.std.proofs.Common.{refl}
use Rattle.ranges.specs.Range.{best_below}
use Rattle.ranges.proofs.Chosen.{chosen-fails, chosen-first, chosen-stays, chosen-next}
use Rattle.ranges.proofs.least.Goals.{then-test+in-Some, then-test+in_default-2, then-test+in_default, else-test}
use Rattle.ranges.proofs.least.Goals as goal

pub loop-i-init : goal.loop-i-init
unfolding best_below
loop-i-init g c = λ f k tells keys. refl

pub loop-i-preserved : goal.loop-i-preserved
loop-i-preserved g c = λ f k tells keys.
    let before = c.loop-i.invariant f k tells keys in
    let told = tells _ _ c.loop-i-test.true c.test.ensures in
    let i = c.loop-i.i in
    elim c.if-test.branch [
      | then-test+in-Some w ↦
          rw w.best-is (chosen-stays k f i _ before w.in-Some.is (keys _ _ c.loop-i-test.true w.key-rank.ensures) w.is_below.ensures w.if-not-is_below.true)
      | then-test+in_default-2 w ↦
          rw w.best-is
          (chosen-next k f i _ before told w.if-test.true w.in-Some.is (keys _ _ c.loop-i-test.true w.key-rank.ensures) w.is_below.ensures w.if-not-is_below.false)
      | then-test+in_default w ↦
          rw w.best-is (chosen-first k f i _ before told w.if-test.true w.in_default.is (keys _ _ c.loop-i-test.true w.key-rank.ensures))
      | else-test w ↦ rw w.best-is (chosen-fails k f i _ before told w.if-test.false)
    ]
