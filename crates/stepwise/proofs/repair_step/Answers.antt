-- `stepwise::repair_step` meets its contract: where the repair is accepted, the step is that of its plan.
use mathlib.Core.Path.{◌≡◌, sym, ap, ◌∙◌}
use Rattle.std.specs.Prelude.{Ok}
use Rattle.repairing.specs.Planned.{repair_planned, plan_or_refusal}
use Rattle.answers.specs.Answers.{Accepted}
use Rattle.calls.specs.Refusals.{repair_answer}
use Rattle.calls.proofs.AcceptedCalls.{repair-accepted, repair-steps}
use Rattle.calls.proofs.Courses.{repair-course-refused, repair-course-along}
use Rattle.stepwise.proofs.repair_step.Goals.{In-Ok}
use Rattle.stepwise.proofs.repair_step.Goals as goal

-- the repair is accepted, and goes by its plan
accepted-along : (c : In-Ok) →
    let a = c.args in
    (repair_answer a.geo a.image.now ≡ Accepted) × (plan_or_refusal (repair_planned a.geo a.image.now) ≡ Ok c.in-Ok.plan)
accepted-along c = repair-course-along _ _ (sym c.repair_course.ensures ∙ c.in-Ok.is)

pub returns-in-Err : goal.returns-in-Err
returns-in-Err c =
    rw (repair-course-refused _ _ (sym c.repair_course.ensures ∙ c.in-Err.is))

pub invariant_of-image-clause-shaped : goal.invariant_of-image-clause-shaped
invariant_of-image-clause-shaped c = (repair-accepted _ _ (accepted-along (goal.at.invariant_of-image-clause-shaped c).In-Ok).0).0

pub repair_step-requires : goal.repair_step-requires
repair_step-requires c =
    let (accepted, along) = accepted-along (goal.at.repair_step-requires c).In-Ok in
    record { image_value = (repair-accepted _ _ accepted).1; plan_value = along }

pub returns-in-Ok : goal.returns-in-Ok
returns-in-Ok c =
    let accepted = (accepted-along (goal.at.returns-in-Ok c).In-Ok).0 in
    rw (repair-steps c.args.geo c.args.image.now accepted, accepted) (ap Ok c.repair_step.ensures)
