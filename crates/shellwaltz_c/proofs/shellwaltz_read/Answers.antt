-- `shellwaltz_c::shellwaltz_read` meets its contract: it passes on what the call answers and leaves.
use mathlib.Core.Path.{ap, ◌∙◌}
use Rattle.answers.specs.Answers.{number_of}
use Rattle.shellwaltz_c.proofs.SameCalls.{names, read_same}
use Rattle.shellwaltz_c.proofs.shellwaltz_read.Goals as goal

pub returns : goal.returns
returns c =
    let same = read_same _ _ _ c.geometry.ensures _ _ _ in
    let answer = c.read-told.ensures.value ∙ same.0 in
    let tells = c.tell.ensures in
    let pair = names tells.bad_block_after tells.bad_rule_after answer in
    record {
      value = tells.value ∙ ap number_of answer;
      buffer_after = c.read-told.ensures.buffer_after ∙ same.1;
      bad_block_after = pair.0;
      bad_rule_after = pair.1;
    }
