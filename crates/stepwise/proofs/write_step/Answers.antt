-- `stepwise::write_step` meets its contract: it goes by the write's plan, and step i is that of the steps of this plan.
use mathlib.Core.Bool.{false}
use mathlib.Core.Path.{◌≡◌, sym, ap, ◌∙◌}
use Prim.Native.Nat.{ℕ}
use Rattle.std.specs.Prelude.{Ok}
use Rattle.flash.specs.Writing.{Reclaim, must_reclaim, reclaiming_first, planned}
use Rattle.flash.proofs.Planned.{plan-says, writing-fills, writing-reclaims}
use Rattle.answers.specs.Answers.{Accepted}
use Rattle.calls.specs.Refusals.{write_answer}
use Rattle.calls.specs.Calls.{write_steps}
use Rattle.calls.proofs.AcceptedCalls.{write-accepted, write-sized}
use Rattle.calls.proofs.Courses.{write-course-refused, write-course-fill, write-course-reclaim}
use Rattle.stepwise.proofs.write_step.Goals.{In-Fill, In-Reclaim}
use Rattle.stepwise.proofs.write_step.Goals as goal

-- by rule 1 or 2, and by rule 3
plainly : (c : In-Fill) →
    let a = c.args in
    (write_answer a.geo a.image.now a.n a.buffer.now ≡ Accepted) × (must_reclaim a.geo a.image.now ≡ false)
plainly c = write-course-fill _ _ _ _ (sym c.write_course.ensures ∙ c.in-Ok.is ∙ ap Ok c.in-Fill.is)

reclaiming-it : (c : In-Reclaim) →
    let a = c.args in
    (write_answer a.geo a.image.now a.n a.buffer.now ≡ Accepted) × (planned a.geo a.image.now ≡ Reclaim c.in-Reclaim.v)
reclaiming-it c = write-course-reclaim _ _ _ _ _ (sym c.write_course.ensures ∙ c.in-Ok.is ∙ ap Ok c.in-Reclaim.is)

pub returns-in-Err : goal.returns-in-Err
returns-in-Err c =
    rw (write-course-refused _ _ _ _ (sym c.write_course.ensures ∙ c.in-Err.is))

pub invariant_of-image-clause-shaped : goal.invariant_of-image-clause-shaped
invariant_of-image-clause-shaped c = (write-accepted _ _ _ _ (plainly (goal.at.invariant_of-image-clause-shaped c).In-Fill).0).0

pub invariant_of-sector-clause-whole : goal.invariant_of-sector-clause-whole
invariant_of-sector-clause-whole c = (write-sized _ _ _ _ (plainly (goal.at.invariant_of-sector-clause-whole c).In-Fill).0).1

pub fill_step-requires : goal.fill_step-requires
fill_step-requires c =
    let accepted = (plainly (goal.at.fill_step-requires c).In-Fill).0 in
    record { image_value = (write-accepted _ _ _ _ accepted).1; number_lt_logical = (write-sized _ _ _ _ accepted).0 }

pub invariant_of-image-in-Reclaim-clause-shaped : goal.invariant_of-image-in-Reclaim-clause-shaped
invariant_of-image-in-Reclaim-clause-shaped c =
    (write-accepted _ _ _ _ (reclaiming-it (goal.at.invariant_of-image-in-Reclaim-clause-shaped c).In-Reclaim).0).0

pub invariant_of-sector-in-Reclaim-clause-whole : goal.invariant_of-sector-in-Reclaim-clause-whole
invariant_of-sector-in-Reclaim-clause-whole c =
    (write-sized _ _ _ _ (reclaiming-it (goal.at.invariant_of-sector-in-Reclaim-clause-whole c).In-Reclaim).0).1

pub reclaim_step-requires : goal.reclaim_step-requires
reclaim_step-requires c =
    let (accepted, reclaims) = reclaiming-it (goal.at.reclaim_step-requires c).In-Reclaim in
    record { image_value = (write-accepted _ _ _ _ accepted).1; plan = reclaims; number_lt_logical = (write-sized _ _ _ _ accepted).0 }

pub returns-in-Fill : goal.returns-in-Fill
unfolding write_steps
returns-in-Fill c =
    let a = c.args in
    let (accepted, plain) = plainly (goal.at.returns-in-Fill c).In-Fill in
    rw (accepted, writing-fills a.geo a.image.now plain a.n a.buffer.now) (ap Ok c.fill_step.ensures)

pub returns-in-Reclaim : goal.returns-in-Reclaim
unfolding write_steps
returns-in-Reclaim c =
    let a = c.args in
    let (accepted, reclaims) = reclaiming-it (goal.at.returns-in-Reclaim c).In-Reclaim in
    let says = plan-says a.geo a.image.now c.in-Reclaim.v reclaims in
    let steps =
    writing-reclaims a.geo a.image.now says.0 a.n a.buffer.now
    ∙ ap (λ (x : ℕ). reclaiming_first a.geo a.image.now x a.n a.buffer.now) (sym says.1) in
    rw (accepted, steps) (ap Ok c.reclaim_step.ensures)
