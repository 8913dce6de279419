-- `shellwaltz_c::by_steps::shellwaltz_write_first` meets its contract: it passes on what the call answers and leaves.
use mathlib.Core.Path.{refl, ap, ◌∙◌}
use Rattle.calls.specs.Outcomes.{counts_of, outcome_of}
use Rattle.calls.proofs.Told.{outcome-told, refused-write, none-first}
use Rattle.shellwaltz_c.proofs.SameCalls.{parts-and-pair, write-first-same}
use Rattle.shellwaltz_c.proofs.by_steps.shellwaltz_write_first.Goals as goal

pub returns : goal.returns
returns c =
    let a = c.args in
    let same = write-first-same _ _ _ c.geometry-geo.ensures a.image.now a.number a.buffer.now a.most in
    let told = ap outcome_of (c.write_first-wrote.ensures.value ∙ ap counts_of same.0) ∙ outcome-told _ _ (none-first _ (refused-write _ _ a.number a.buffer.now)) in
    let tells = c.tell_counts.ensures in
    let said = parts-and-pair tells.value tells.bad_block_after tells.bad_rule_after (told, c.write_first-wrote.ensures.image_after) (refl, same.1) in
    record {
      value = said.0;
      image_after = said.1.0;
      words_after = tells.words_after ∙ said.1.1.0;
      erasures_after = tells.erasures_after ∙ said.1.1.1.0;
      bad_block_after = said.1.1.1.1.0;
      bad_rule_after = said.1.1.1.1.1;
    }
