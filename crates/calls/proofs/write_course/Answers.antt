-- `calls::write_course` meets its contract: its tests are rows 1, 2, 3, 4 and 6, asked in that order.
use mathlib.Core.Path.{◌≡◌, sym, ◌∙◌}
use mathlib.Core.Bool.{true}
use Rattle.image.specs.WellFormed.{well_formed}
use Rattle.image.specs.Views.{of_image}
use Rattle.image.proofs.Facts.{formed-sound}
use Rattle.flash.proofs.Written.{victim_in}
use Rattle.calls.proofs.CallLaws.{write-refused, write-passed, sector-formed, formed-ready}
use Rattle.calls.proofs.Courses.{no-write, write-planned}
use Rattle.calls.proofs.write_course.Goals.{In-Ok}
use Rattle.calls.proofs.write_course.Goals as goal

-- past the fourth row the image is one to plan on, and the last row decides
formed : (c : In-Ok) → of_image well_formed c.in-Ok.image ≡ true
formed c = rw (c.in-Ok.ensures.image.0, c.in-Ok.ensures.image.1) (sector-formed _ _ _ _ (sym c.in-Ok.ensures.answer)).1

pub returns-in-Err : goal.returns-in-Err
returns-in-Err c =
    no-write _ _ _ _ (write-refused _ _ _ _ (sym c.in-Err.ensures.answer))

pub plan-requires-clause-image_value : goal.plan-requires-clause-image_value
plan-requires-clause-image_value c = formed-sound _ _ (formed (goal.at.plan-requires-clause-image_value c).In-Ok)

pub plan-requires-clause-image_bound : goal.plan-requires-clause-image_bound
plan-requires-clause-image_bound c =
    let image = c.in-Ok.image in
    λ must. victim_in _ _ (formed-ready image.geo image.words.now image.shaped image.words32 (formed (goal.at.plan-requires-clause-image_bound c).In-Ok)).0 must

pub returns : goal.returns
returns c =
    rw (c.in-Ok.ensures.image.0, c.in-Ok.ensures.image.1) at c.plan.ensures ∙ write-planned _ _ _ _ (write-passed _ _ _ _ (sym c.in-Ok.ensures.answer))
