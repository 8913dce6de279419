-- `calls::write_by` meets its contract: the first steps are all, since no write has as many.
use mathlib.Core.Path.{ap, ◌∙◌}
use native.Mathlib.Omega.{arith}
use lib.Seq.{take_all}
use Rattle.image.specs.Words.{Words32}
use Rattle.flash.specs.Steps.{run}
use Rattle.calls.specs.Refusals.{write_answer}
use Rattle.calls.specs.Outcomes.{counts_of}
use Rattle.calls.specs.Calls.{outcome, write_steps}
use Rattle.calls.proofs.Courses.{write-few}
use Rattle.calls.proofs.write_by.Goals.{After-shared_slice_known-1}
use Rattle.calls.proofs.write_by.Goals as goal

pub returns : goal.returns
returns c =
    let a = c.args in
    let words : Words32 a.image.now = record { small = λ q. ((goal.at.returns c).After-shared_slice_known-1.type_inv.image q).fits } in
    let handed : Words32 a.buffer.now = record { small = λ q. (c.type_inv.buffer q).fits } in
    let few = write-few a.geo a.image.now a.n a.buffer.now words handed in
    let all = take_all 0xFFFFFFFF (write_steps a.geo a.image.now a.n a.buffer.now) (omega (arith, few)) in
    record {
      value = c.write_within.ensures.value ∙ ap (λ s. counts_of (outcome (write_answer a.geo a.image.now a.n a.buffer.now) s)) all;
      image_after = c.write_within.ensures.image_after ∙ ap (run _ _) all;
      table_after = c.write_within.ensures.table_after few;
    }
