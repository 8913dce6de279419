-- `shellwaltz_c::shellwaltz_check` meets its contract: it passes on what the call answers and leaves.
use mathlib.Core.Path.{ap, ◌∙◌}
use Rattle.answers.specs.Answers.{number_of}
use Rattle.shellwaltz_c.proofs.SameCalls.{names, check-same}
use Rattle.shellwaltz_c.proofs.shellwaltz_check.Goals as goal

pub returns : goal.returns
returns c =
    let same = check-same _ _ _ c.geometry.ensures _ in
    let answer = c.check-found.ensures ∙ same in
    let tells = c.tell.ensures in
    let pair = names tells.bad_block_after tells.bad_rule_after answer in
    record {
      value = tells.value ∙ ap number_of answer;
      bad_block_after = pair.0;
      bad_rule_after = pair.1;
    }
