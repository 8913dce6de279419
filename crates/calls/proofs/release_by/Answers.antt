-- `calls::release_by` meets its contract: the first steps are all, since no release has as many.
use mathlib.Core.Path.{ap, ◌∙◌}
use native.Mathlib.Omega.{arith}
use lib.Seq.{take_all}
use Rattle.flash.specs.Steps.{run}
use Rattle.calls.specs.Refusals.{release_answer}
use Rattle.calls.specs.Outcomes.{counts_of}
use Rattle.calls.specs.Calls.{outcome, release_steps}
use Rattle.calls.proofs.Courses.{release-few}
use Rattle.calls.proofs.release_by.Goals as goal

pub returns-clause-value : goal.returns-clause-value
returns-clause-value c =
    let a = c.args in
    c.release_within.ensures.value
    ∙ ap (λ s. counts_of (outcome (release_answer a.geo a.image.now a.n) s)) (take_all 0xFFFFFFFF (release_steps a.geo a.image.now a.n) (omega (arith, release-few a.geo a.image.now a.n)))

pub returns-clause-image_after : goal.returns-clause-image_after
returns-clause-image_after c =
    let a = c.args in
    c.release_within.ensures.image_after
    ∙ ap (run _ _) (take_all 0xFFFFFFFF (release_steps a.geo a.image.now a.n) (omega (arith, release-few a.geo a.image.now a.n)))
