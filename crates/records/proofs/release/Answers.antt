-- `records::release` meets its contract: the line is that of what the call answers, and the image is what it leaves.
use mathlib.Core.Path.{ap, ◌∙◌}
use Rattle.calls.specs.Outcomes.{outcome_of}
use Rattle.calls.proofs.Told.{outcome-told, refused-release}
use Rattle.records.specs.Records.{outcome_line}
use Rattle.records.proofs.release.Goals as goal

pub returns-clause-value : goal.returns-clause-value
returns-clause-value c =
    let geo = c.script_geometry.ensures in
    c.outcome_line.ensures
    ∙ ap (outcome_line 68 c.args.number)
    (ap outcome_of (rw geo at c.release-done.ensures.value) ∙ outcome-told _ _ (refused-release _ _ c.args.number))
