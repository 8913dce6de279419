-- `calls::write_within` meets its contract: refused, or the first steps of its plan.
use mathlib.Core.Path.{sym, ◌∙◌}
use Rattle.flash.specs.Writing.{writing}
use Rattle.flash.specs.Tables.{table_written}
use Rattle.answers.proofs.Acceptance.{gave}
use Rattle.calls.specs.Refusals.{write_answer}
use Rattle.calls.specs.Calls.{write_steps}
use Rattle.calls.specs.Courses.{write_course}
use Rattle.calls.proofs.Changing.{refused-counts, refused-image, refused-table, accepted-counts}
use Rattle.calls.proofs.Courses.{write-course-refused}
use Rattle.calls.proofs.write_within.Goals as goal

pub returns-in-Err : goal.returns-in-Err
unfolding write_steps
returns-in-Err c =
    let a = c.args in
    let refused = write-course-refused _ _ _ _ (sym c.write_course.ensures ∙ c.in-Err.is) in
    let steps = writing a.geo a.image.now a.n a.buffer.now in
    record {
      value = refused-counts a.geo a.image.now _ steps a.most refused;
      image_after = refused-image a.geo a.image.now _ steps a.most refused;
      table_after = λ l. refused-table a.geo a.image.now _ steps a.most (table_written a.geo a.image.now a.n a.table.now) a.table.now refused;
    }

pub returns-in-Ok-clause-value : goal.returns-in-Ok-clause-value
unfolding write_course
returns-in-Ok-clause-value c =
    accepted-counts _ _ (gave (write_answer c.args.geo c.args.image.now c.args.n c.args.buffer.now) (sym c.write_course.ensures ∙ c.in-Ok.is)).0
    c.write_along.ensures.value
