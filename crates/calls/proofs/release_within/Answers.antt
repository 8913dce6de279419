-- `calls::release_within` meets its contract: where the number was found, the first steps of the release are done.
use mathlib.Core.Path.{◌≡◌, sym, ap, ◌∙◌}
use mathlib.Core.List.{[]}
use native.Mathlib.Omega.{arith}
use Rattle.std.proofs.Common.{rules}
use Rattle.image.specs.Found.{Found}
use Rattle.image.specs.Slots.{find}
use Rattle.flash.specs.Steps.{erasures_in, first_of}
use Rattle.flash.specs.Placing.{invalidates, releasing}
use Rattle.flash.specs.Tables.{table_released}
use Rattle.flash.proofs.CodeLaws.{found_inside}
use Rattle.flash.proofs.Counts.{releasing-erasures}
use Rattle.flash.proofs.Parts.{erases-none-first}
use Rattle.answers.specs.Answers.{Accepted}
use Rattle.answers.proofs.Acceptance.{if-accepted}
use Rattle.calls.specs.Refusals.{release_answer}
use Rattle.calls.specs.Calls.{release_steps}
use Rattle.calls.proofs.AcceptedCalls.{release-accepted}
use Rattle.calls.proofs.Changing.{refused-counts, refused-image, refused-table, accepted-counts, carried-counts}
use Rattle.calls.proofs.Courses.{release-course-refused, release-course-found}
use Rattle.calls.proofs.release_within.Goals.{In-Ok}
use Rattle.calls.proofs.release_within.Goals as goal

-- the number was found there
live-there : (c : In-Ok) →
    let a = c.args in
    (release_answer a.geo a.image.now a.n ≡ Accepted) × (find a.geo a.image.now a.n ≡ c.in-Ok.live)
live-there c = release-course-found _ _ _ (sym c.release_course.ensures ∙ c.in-Ok.is)

pub returns-in-Err : goal.returns-in-Err
unfolding release_steps
returns-in-Err c =
    let a = c.args in
    let refused = release-course-refused _ _ _ (sym c.release_course.ensures ∙ c.in-Err.is) in
    let steps = releasing a.geo a.image.now a.n in
    record {
      value = refused-counts a.geo a.image.now _ steps a.most refused;
      image_after = refused-image a.geo a.image.now _ steps a.most refused;
      table_after = refused-table a.geo a.image.now _ steps a.most (table_released a.geo a.n a.table.now) a.table.now refused;
    }

pub invariant_of-run : goal.invariant_of-run
invariant_of-run c = record { shaped = (release-accepted _ _ _ (live-there (goal.at.invariant_of-run c).In-Ok).0).0 }

pub release-requires : goal.release-requires
release-requires c = found_inside _ _ _ (sym (live-there (goal.at.release-requires c).In-Ok).1)

-- the steps of the release, and none of them erases a block
steps-are : (c : In-Ok) →
    let a = c.args in
    release_steps a.geo a.image.now a.n ≡ invalidates a.geo a.image.now c.in-Ok.live
unfolding release_steps releasing
steps-are c =
    let a = c.args in
    let (accepted, found) = live-there c in
    if-accepted (releasing a.geo a.image.now a.n) [] accepted ∙ ap (λ (f : Found). invalidates a.geo a.image.now f) found

none-erased : (c : In-Ok) → let a = c.args in 0 ≡ erasures_in (first_of a.most (invalidates a.geo a.image.now c.in-Ok.live))
unfolding releasing
none-erased c =
    let a = c.args in
    let (accepted, found) = live-there c in
    sym (erases-none-first a.most (releasing a.geo a.image.now a.n) (releasing-erasures a.geo a.image.now a.n))
    ∙ ap (λ (f : Found). erasures_in (first_of a.most (invalidates a.geo a.image.now f))) found

pub returns-clause-value : goal.returns-clause-value
returns-clause-value c =
    let ok = (goal.at.returns-clause-value c).In-Ok in
    accepted-counts _ _ (live-there ok).0
    (rw (steps-are ok) (carried-counts c.args.most (invalidates c.args.geo c.args.image.now c.in-Ok.live) c.release.ensures.left_after (none-erased ok) (omega arith)))

pub returns-clause-image_after : goal.returns-clause-image_after
returns-clause-image_after c =
    let steps = steps-are (goal.at.returns-clause-image_after c).In-Ok in
    rw steps (search rules)

pub returns-clause-table_after : goal.returns-clause-table_after
unfolding table_released
returns-clause-table_after c = c.note.ensures ∙ sym (if-accepted _ _ (live-there (goal.at.returns-clause-table_after c).In-Ok).0)
