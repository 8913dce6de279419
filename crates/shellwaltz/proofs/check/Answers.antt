-- `shellwaltz::check` meets its contract: its tests are rows 1 and 4, asked in that order, and the first that applies is the answer.
use mathlib.Core.Bool.{not}
use mathlib.Core.Path.{sym, ap, ◌∙◌}
use Rattle.std.specs.Prelude.{Err}
use Rattle.calls.specs.Refusals.{check_answer}
use Rattle.calls.proofs.CallLaws.{fault-refuses, none-refused}
use Rattle.shellwaltz.proofs.check.Goals as goal

pub returns-in_default : goal.returns-in_default
unfolding check_answer
returns-in_default c = rw (ap not (sym c.in_default.ensures.fits))

pub returns-in-Err : goal.returns-in-Err
unfolding check_answer
returns-in-Err c =
    let fault = sym (rw (c.in-Some.ensures.image.0, c.in-Some.ensures.image.1) at c.first_fault.ensures) ∙ c.in-Err.is in
    ap Err c.from.ensures ∙ rw (ap not (sym c.in-Some.ensures.fits)) (sym (fault-refuses _ _ fault))

pub returns-in-Ok : goal.returns-in-Ok
unfolding check_answer
returns-in-Ok c =
    let formed = sym (rw (c.in-Some.ensures.image.0, c.in-Some.ensures.image.1) at c.first_fault.ensures) ∙ c.in-Ok.is in
    rw (ap not (sym c.in-Some.ensures.fits)) (sym (none-refused _ _ formed))
