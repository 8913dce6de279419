-- `shellwaltz_c::by_steps::shellwaltz_release_step` meets its contract: it passes on what the call answers and which step it gives.
use mathlib.Core.Path.{ap, ◌∙◌}
use Rattle.answers.specs.Answers.{number_of}
use Rattle.stepwise.specs.Calls.{step_of}
use Rattle.calls.proofs.Told.{refused-release}
use Rattle.shellwaltz_c.specs.Told.{kind_of, place_of, word_of}
use Rattle.shellwaltz_c.proofs.SameCalls.{names, release-step-same, step-told, no-step}
use Rattle.shellwaltz_c.proofs.by_steps.shellwaltz_release_step.Goals as goal

pub returns : goal.returns
returns c =
    let a = c.args in
    let (answer, next) = step-told _ (c.release_step-told.ensures ∙ ap step_of (release-step-same _ _ _ c.geometry-geo.ensures a.image.now a.number a.step)) (no-step _ (refused-release _ _ a.number)) in
    let tells = c.tell_step.ensures in
    let pair = names tells.bad_block_after tells.bad_rule_after answer in
    record {
      value = tells.value ∙ ap number_of answer;
      kind_after = tells.kind_after ∙ ap kind_of next;
      place_after = tells.place_after ∙ ap place_of next;
      word_after = tells.word_after ∙ ap word_of next;
      bad_block_after = pair.0;
      bad_rule_after = pair.1;
    }
