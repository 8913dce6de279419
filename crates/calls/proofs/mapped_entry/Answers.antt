-- `calls::mapped_entry` meets its contract: of an image past rows 1 and 3 its tests are rows 4 and 5.
use mathlib.Core.Bool.{false}
use mathlib.Core.Path.{◌≡◌, sym, ap, ◌∙◌}
use Rattle.std.specs.Prelude.{Ok, Err}
use Rattle.image.proofs.Facts.{formed-sound}
use Rattle.image.specs.declared.view.View.{View}
use Rattle.checking.specs.FirstFault.{fault_if_any}
use Rattle.calls.specs.Refusals.{row1}
use Rattle.calls.specs.Courses.{release_course}
use Rattle.calls.proofs.CallLaws.{no-fault, fault-refuses, none-refused, rules-hold, release-refused, release-passed, shaped-passes}
use Rattle.calls.proofs.Courses.{no-release}
use Rattle.calls.proofs.mapped_entry.Goals.{In_default}
use Rattle.calls.proofs.mapped_entry.Goals as goal

fits : (image : View) → (row1 image.geo image.words.now).applies ≡ false
fits image = shaped-passes image.geo image.words.now image.shaped

formed : (c : In_default) → fault_if_any c.args.image.now.geo c.args.image.now.words.now ≡ Ok tt
formed c = sym c.first_fault.ensures ∙ no-fault _ c.in_default.not-Err

pub returns-in-Err : goal.returns-in-Err
returns-in-Err c =
    ap Err c.from.ensures
    ∙ no-release _ _ _ (release-refused _ _ _ (fits c.args.image.now) c.requires (fault-refuses _ _ (sym c.first_fault.ensures ∙ c.in-Err.is)))

pub look_up-requires-clause-image_value : goal.look_up-requires-clause-image_value
look_up-requires-clause-image_value c = formed-sound _ _ (rules-hold _ _ (none-refused _ _ (formed (goal.at.look_up-requires-clause-image_value c).In_default)))

pub returns-in-Some : goal.returns-in-Some
unfolding release_course
returns-in-Some c =
    rw (
      release-passed _ _ _ (fits c.args.image.now) c.requires (none-refused _ _ (formed (goal.at.returns-in-Some c).In_default)),
      sym c.look_up.ensures ∙ c.in-Some.is,
    )

pub returns-in-None : goal.returns-in-None
returns-in-None c =
    no-release _ _ _
    (rw (
      release-passed _ _ _ (fits c.args.image.now) c.requires (none-refused _ _ (formed (goal.at.returns-in-None c).In_default)),
      sym c.look_up.ensures ∙ c.in-None.is,
    ))
