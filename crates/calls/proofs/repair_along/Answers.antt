-- `calls::repair_along` meets its contract: it does the first steps of the repair that this plan is of.
use mathlib.Core.Path.{refl}
use Rattle.std.proofs.Common.{rules}
use Rattle.calls.proofs.AcceptedCalls.{repair-accepted, repair-steps}
use Rattle.calls.proofs.Changing.{carried-counts, erased-fits}
use Rattle.calls.proofs.Courses.{repair-course-along}
use Rattle.calls.proofs.repair_along.Goals as goal

pub invariant_of-run : goal.invariant_of-run
invariant_of-run c = record { shaped = (repair-accepted _ _ (repair-course-along _ _ c.requires).0).0 }

pub repair_along-emptied-requires : goal.repair_along-emptied-requires
repair_along-emptied-requires c =
    let (accepted, along) = repair-course-along _ _ c.requires in
    record { image_value = (repair-accepted _ _ accepted).1; plan_value = along }

pub overflow_sub-result-2 : goal.overflow_sub-result-2
overflow_sub-result-2 c = erased-fits _ _ c.repair_along-emptied.ensures.run_after.left_after c.repair_along-emptied.ensures.value

pub returns-clause-value : goal.returns-clause-value
returns-clause-value c =
    let steps = repair-steps c.args.geo c.args.image.now (repair-course-along _ _ c.requires).0 in
    rw steps (carried-counts _ _ c.repair_along-emptied.ensures.run_after.left_after c.repair_along-emptied.ensures.value refl)

pub returns-clause-image_after : goal.returns-clause-image_after
returns-clause-image_after c =
    let steps = repair-steps c.args.geo c.args.image.now (repair-course-along _ _ c.requires).0 in
    rw steps (search rules)
