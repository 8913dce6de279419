-- `stepwise::release_step` meets its contract: where the number was found, the one step is that of its entry.
use mathlib.Core.Path.{◌≡◌, sym, ap, ◌∙◌}
use Rattle.std.specs.Prelude.{Ok}
use Rattle.image.specs.Slots.{find}
use Rattle.flash.specs.Placing.{releasing}
use Rattle.flash.proofs.CodeLaws.{found_inside}
use Rattle.answers.specs.Answers.{Accepted}
use Rattle.calls.specs.Refusals.{release_answer}
use Rattle.calls.specs.Calls.{release_steps}
use Rattle.calls.proofs.AcceptedCalls.{release-accepted}
use Rattle.calls.proofs.Courses.{release-course-refused, release-course-found}
use Rattle.stepwise.proofs.release_step.Goals.{In-Ok}
use Rattle.stepwise.proofs.release_step.Goals as goal

-- the number was found there
live-there : (c : In-Ok) →
    let a = c.args in
    (release_answer a.geo a.image.now a.n ≡ Accepted) × (find a.geo a.image.now a.n ≡ c.in-Ok.live)
live-there c = release-course-found _ _ _ (sym c.release_course.ensures ∙ c.in-Ok.is)

pub returns-in-Err : goal.returns-in-Err
returns-in-Err c =
    rw (release-course-refused _ _ _ (sym c.release_course.ensures ∙ c.in-Err.is))

pub invariant_of-image-clause-shaped : goal.invariant_of-image-clause-shaped
invariant_of-image-clause-shaped c = (release-accepted _ _ _ (live-there (goal.at.invariant_of-image-clause-shaped c).In-Ok).0).0

pub release_step-requires : goal.release_step-requires
release_step-requires c = found_inside _ _ _ (sym (live-there (goal.at.release_step-requires c).In-Ok).1)

pub returns-in-Ok : goal.returns-in-Ok
unfolding release_steps releasing
returns-in-Ok c =
    let (accepted, found) = live-there (goal.at.returns-in-Ok c).In-Ok in
    rw (accepted, found) (ap Ok c.release_step.ensures)
