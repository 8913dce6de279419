-- `repair_ahead::among::step_among` meets its contract: the lists passed have too few steps, and the first that has enough decides.
use Rattle.std.proofs.Common.{arith, ◌∙◌, refl}
use Rattle.repair_ahead.proofs.SoughtLaws.{none_passed, found_there, one-passed}
use Rattle.repair_ahead.proofs.among.step_among.Goals as goal

pub loop-index-init : goal.loop-index-init
loop-index-init g c = (omega arith, λ steps tells. none_passed steps c.args.i)

pub part-told-requires : goal.part-told-requires
part-told-requires g c = c.requires c.loop-index.left c.loop-index.index c.loop-index-test.true

pub returns-in_default : goal.returns-in_default
returns-in_default g c = λ steps tells. c.in_default.is
    ∙ found_there steps c.args.i c.loop-index.index (c.loop-index.invariant.1 steps tells) c.args.count c.loop-index-test.true
    (tells _ _ _ c.loop-index-test.true c.in_default.ensures) refl

pub loop-index-preserved : goal.loop-index-preserved
loop-index-preserved g c = (
  omega arith,
  λ steps tells. one-passed steps c.args.i c.loop-index.index (c.loop-index.invariant.1 steps tells) (tells _ _ _ c.loop-index-test.true c.in-Continue.ensures) refl,
)
