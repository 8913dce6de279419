-- `calls::repair_within` meets its contract: refused, or the first steps of its plan.
use mathlib.Core.Path.{sym, ◌∙◌}
use Rattle.flash.specs.Repairing.{repairing}
use Rattle.calls.specs.Calls.{repair_steps}
use Rattle.calls.proofs.Changing.{refused-counts, refused-image, accepted-counts}
use Rattle.calls.proofs.Courses.{repair-course-refused, repair-course-along}
use Rattle.calls.proofs.repair_within.Goals as goal

pub returns-in-Err : goal.returns-in-Err
unfolding repair_steps
returns-in-Err c =
    let a = c.args in
    let refused = repair-course-refused _ _ (sym c.repair_course.ensures ∙ c.in-Err.is) in
    record {
      value = refused-counts a.geo a.image.now _ (repairing a.geo a.image.now) a.most refused;
      image_after = refused-image a.geo a.image.now _ (repairing a.geo a.image.now) a.most refused;
    }

pub returns-in-Ok-clause-value : goal.returns-in-Ok-clause-value
returns-in-Ok-clause-value c =
    accepted-counts _ _ (repair-course-along _ _ (sym c.repair_course.ensures ∙ c.in-Ok.is)).0 c.repair_along.ensures.value
