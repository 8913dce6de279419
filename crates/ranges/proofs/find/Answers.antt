-- `ranges::find` meets its contract: no index passed has passed the test.
use Rattle.std.proofs.Common.{arith, ◌∙◌, refl, sym, false}
use Rattle.ranges.specs.Range.{best_below}
use Rattle.ranges.proofs.Searches.{first-here, best-missing}
use Rattle.ranges.proofs.find.Goals as goal

pub loop-first-init : goal.loop-first-init
unfolding best_below
loop-first-init g c = λ f tells. refl

pub returns-then-test : goal.returns-then-test
returns-then-test g c = λ f tells. first-here c.args.m f (c.loop-first.invariant f tells) c.loop-first-test.true (sym (tells _ _ c.loop-first-test.true c.test.ensures) ∙ c.if-test.true)

pub loop-first-preserved : goal.loop-first-preserved
loop-first-preserved g c = λ f tells.
    best-missing (λ i r. false) c.loop-first.first f (c.loop-first.invariant f tells) (omega arith) (sym (tells _ _ c.loop-first-test.true c.test.ensures) ∙ c.if-test.false)
