-- `ranges::all` meets its contract: every index passed has passed the test.
use Rattle.std.proofs.Common.{◌∙◌, refl, sym}
use Rattle.ranges.specs.Range.{all_below}
use Rattle.ranges.proofs.Tests.{not-all, all-next}
use Rattle.ranges.proofs.all.Goals as goal

pub loop-i-init : goal.loop-i-init
unfolding all_below
loop-i-init g c = λ f tells. refl

pub returns-then-not-test : goal.returns-then-not-test
returns-then-not-test g c = λ f tells. sym (not-all c.args.m f c.loop-i-test.true (sym (tells _ _ c.loop-i-test.true c.test.ensures) ∙ search))

pub loop-i-preserved : goal.loop-i-preserved
loop-i-preserved g c = λ f tells.
    let passes = sym (tells _ _ c.loop-i-test.true c.test.ensures) ∙ c.if-not-test.false in
    sym (all-next c.loop-i.i f (sym (c.loop-i.invariant f tells)) (sym passes))
