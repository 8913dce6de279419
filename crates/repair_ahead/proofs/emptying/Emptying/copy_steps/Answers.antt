-- `repair_ahead::emptying::Emptying::copy_steps` meets its contract: 133 steps for each live slot, and two more where the target is full by the last.
use Rattle.std.proofs.Common.{◌≤◌, arith}
use Rattle.ranges.proofs.Sums.{count-le}
use Rattle.geometry.specs.Geometry.{d}
use Rattle.geometry.proofs.Laws.{d_small}
use Rattle.image.specs.Slots.{slot, is_live}
use Rattle.repair_ahead.proofs.emptying.Emptying.copy_steps.Goals.{After-count_live-live}
use Rattle.repair_ahead.proofs.emptying.Emptying.copy_steps.Goals as goal

-- the live slots are few
few : (c : After-count_live-live) → c.count_live-live.result ≤ 63
few c =
    let v = c.args.self.now.victim.block in
    omega (arith, c.count_live-live.ensures, count-le (d v.image.geo) (λ i. is_live (slot v.image.geo v.image.words.now v.index i)), d_small v.image.geo v.image.shaped.limits)

pub overflow_mul-result : goal.overflow_mul-result
overflow_mul-result c = omega (arith, few (goal.at.overflow_mul-result c).After-count_live-live)

pub overflow_add-result : goal.overflow_add-result
overflow_add-result c = omega (arith, few (goal.at.overflow_add-result c).After-count_live-live)

pub overflow_mul-result-2 : goal.overflow_mul-result-2
overflow_mul-result-2 c = omega (arith, few (goal.at.overflow_mul-result-2 c).After-count_live-live)
