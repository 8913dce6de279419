-- `calls::repair_by` meets its contract: the first steps are all, since no repair has as many.
use mathlib.Core.Path.{ap, ◌∙◌}
use native.Mathlib.Omega.{arith}
use lib.Seq.{take_all}
use Rattle.image.specs.Words.{Words32}
use Rattle.flash.specs.Steps.{run}
use Rattle.calls.specs.Refusals.{repair_answer}
use Rattle.calls.specs.Outcomes.{counts_of}
use Rattle.calls.specs.Calls.{outcome, repair_steps}
use Rattle.calls.proofs.Courses.{repair-few}
use Rattle.calls.proofs.repair_by.Goals.{After-slice_known-1}
use Rattle.calls.proofs.repair_by.Goals as goal

pub returns : goal.returns
returns c =
    let a = c.args in
    let words : Words32 a.image.now = record { small = λ q. ((goal.at.returns c).After-slice_known-1.type_inv.image q).fits } in
    let all = take_all 0xFFFFFFFF (repair_steps a.geo a.image.now) (omega (arith, repair-few a.geo a.image.now words)) in
    record {
      value = c.repair_within.ensures.value ∙ ap (λ s. counts_of (outcome (repair_answer a.geo a.image.now) s)) all;
      image_after = c.repair_within.ensures.image_after ∙ ap (run _ _) all;
    }
