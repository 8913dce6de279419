-- `ranges::nth` meets its contract: of the indices passed, as many passed the test as were taken off, and none has n such before it.
use Rattle.std.proofs.Common.{arith, ◌∙◌, refl, sym, false}
use Rattle.ranges.specs.Range.{sum_below, best_below}
use Rattle.ranges.proofs.Sums.{count-more, count-same}
use Rattle.ranges.proofs.Searches.{first-here, best-missing, nth-here, nth-later, nth-fails}
use Rattle.ranges.proofs.nth.Goals.{then-test+else-left-eq0, else-test}
use Rattle.ranges.proofs.nth.Goals as goal

pub loop-i-init : goal.loop-i-init
unfolding sum_below best_below
loop-i-init g c = λ f tells. (omega arith, refl)

pub returns-then-left-eq0 : goal.returns-then-left-eq0
returns-then-left-eq0 g c = λ f tells.
    let (counts, none) = c.loop-i.invariant f tells in
    first-here c.args.m _ none c.loop-i-test.true (nth-here c.args.n f (sym (tells _ _ c.loop-i-test.true c.test.ensures) ∙ c.if-test.true) (omega arith))

pub loop-i-preserved : goal.loop-i-preserved
loop-i-preserved g c = λ f tells.
    let told = sym (tells _ _ c.loop-i-test.true c.test.ensures) in
    let (counts, none) = c.loop-i.invariant f tells in
    let i = c.loop-i.i in
    elim c.if-test.branch [
      | then-test+else-left-eq0 w ↦
          let passes = told ∙ w.if-test.true in
          (omega (arith, w.left-is, count-more i f refl passes), best-missing (λ i r. false) i _ none (omega arith) (nth-later c.args.n f i (omega arith)))
      | else-test w ↦
          let fails = told ∙ w.if-test.false in
          (omega (arith, w.left-is, count-same i f refl fails), best-missing (λ i r. false) i _ none (omega arith) (nth-fails c.args.n f i fails))
    ]
