-- `calls::repair_course` meets its contract: its tests are rows 1 and 4, and its plan says which of rows 10 and 6 applies.
use mathlib.Core.Bool.{true, false, not}
use mathlib.Core.Path.{◌≡◌, sym, ap, ◌∙◌}
use Rattle.std.specs.Prelude.{Err}
use Rattle.image.specs.Mending.{mendable}
use Rattle.image.specs.Views.{of_image}
use Rattle.image.proofs.Mending.{formed-mendable}
use Rattle.calls.specs.Refusals.{row1, repair_answer}
use Rattle.calls.proofs.CallLaws.{no-fault, refusal-named, none-refused, rules-hold}
use Rattle.calls.proofs.Courses.{no-repair, repair-planned}
use Rattle.calls.proofs.repair_course.Goals.{then-not-is_mendable+in_default-first_fault, else-not-is_mendable, In-Some, Joined-not-is_mendable}
use Rattle.calls.proofs.repair_course.Goals as goal

-- past the first test
left1 : (c : In-Some) → (row1 c.args.geo c.args.image.now).applies ≡ false
left1 c = ap not (sym c.in-Some.ensures.fits)

pub returns-in_default : goal.returns-in_default
unfolding repair_answer
returns-in_default c = no-repair _ _ (rw (ap not (sym c.in_default.ensures.fits)))

pub returns-in-Err : goal.returns-in-Err
unfolding repair_answer
returns-in-Err c =
    let cannot = ap not (sym (rw (c.in-Some.ensures.image.0, c.in-Some.ensures.image.1) at c.is_mendable.ensures) ∙ c.if-not-is_mendable.true) in
    let fault = sym (rw (c.in-Some.ensures.image.0, c.in-Some.ensures.image.1) at c.first_fault.ensures) ∙ c.in-Err.is in
    ap Err c.from.ensures ∙ no-repair _ _ (rw (left1 (goal.at.returns-in-Err c).In-Some, cannot) (ap Err (refusal-named _ _ fault)))

-- past the second: where there is a fault that cannot be mended, the check has found one
mends : (c : Joined-not-is_mendable) → of_image mendable c.in-Some.image ≡ true
mends c =
    elim c.if-not-is_mendable.branch [
      | then-not-is_mendable+in_default-first_fault w ↦
          formed-mendable _ _ (rules-hold _ _ (none-refused _ _ (sym w.first_fault.ensures ∙ no-fault _ w.in_default-first_fault.not-Err)))
      | else-not-is_mendable w ↦ sym c.is_mendable.ensures ∙ w.if-not-is_mendable.false
    ]

pub plan-requires : goal.plan-requires
plan-requires c = mends (goal.at.plan-requires c).Joined-not-is_mendable

pub returns : goal.returns
returns c =
    let at = goal.at.returns c in
    rw (c.in-Some.ensures.image.0, c.in-Some.ensures.image.1) at c.plan.ensures
    ∙ repair-planned _ _ (left1 at.In-Some) (ap not (rw (c.in-Some.ensures.image.0, c.in-Some.ensures.image.1) at (mends at.Joined-not-is_mendable)))
