-- `tabled::build` meets its contract: a table of another length is refused, an image is checked, and past both it is built.
use mathlib.Core.Path.{◌≡◌, sym, ◌∙◌}
use Rattle.image.proofs.Facts.{formed-sound}
use Rattle.answers.specs.Answers.{Accepted}
use Rattle.calls.specs.Refusals.{check_answer}
use Rattle.calls.proofs.AcceptedCalls.{check-accepted}
use Rattle.tabled.specs.Calls.{table_built}
use Rattle.tabled.proofs.TableLaws.{LentWell, lent-well, build-refused, build-checks}
use Rattle.tabled.proofs.build.Goals.{In_default, In_default-check}
use Rattle.tabled.proofs.build.Goals as goal

-- past the first test, and past the second
well : (c : In_default) → LentWell c.args.geo c.args.image.now c.args.table.now
well c = lent-well _ _ _ (sym c.check_table.ensures ∙ c.in_default.is)

passed : (c : In_default-check) → check_answer c.args.geo c.args.image.now ≡ Accepted
passed c = sym c.check.ensures ∙ c.in_default-check.is

pub returns-in-Err : goal.returns-in-Err
unfolding table_built
returns-in-Err c =
    let refused = build-refused _ _ _ (sym c.check_table.ensures ∙ c.in-Err.is) in
    record { value = sym refused; table_after = rw refused }

pub returns-in-Err-check : goal.returns-in-Err-check
unfolding table_built
returns-in-Err-check c =
    let refused =
    build-checks _ _ _ (well (goal.at.returns-in-Err-check c).In_default).table_fits ∙ sym c.check.ensures ∙ c.in-Err-check.is in
    record { value = sym refused; table_after = rw refused }

pub invariant_of-build-clause-shaped : goal.invariant_of-build-clause-shaped
invariant_of-build-clause-shaped c = (check-accepted _ _ (passed (goal.at.invariant_of-build-clause-shaped c).In_default-check)).0

pub build-requires-clause-image_value : goal.build-requires-clause-image_value
build-requires-clause-image_value c = formed-sound _ _ (check-accepted _ _ (passed (goal.at.build-requires-clause-image_value c).In_default-check)).1

pub returns : goal.returns
unfolding table_built
returns c =
    let accepted = build-checks _ _ _ (well (goal.at.returns c).In_default).table_fits ∙ passed (goal.at.returns c).In_default-check in
    record { value = sym accepted; table_after = rw accepted c.build.ensures }
