-- `shellwaltz_c::shellwaltz_repair` meets its contract: it passes on what the call answers and leaves.
use mathlib.Core.Path.{refl, ap, ◌∙◌}
use Rattle.calls.specs.Outcomes.{counts_of, outcome_of}
use Rattle.calls.proofs.Told.{outcome-told, refused-repair}
use Rattle.shellwaltz_c.proofs.SameCalls.{parts-and-pair, repair-same}
use Rattle.shellwaltz_c.proofs.shellwaltz_repair.Goals as goal

pub returns : goal.returns
returns c =
    let a = c.args in
    let same = repair-same _ _ _ c.geometry.ensures a.image.now in
    let told = ap outcome_of (c.repair-mended.ensures.value ∙ ap counts_of same.0) ∙ outcome-told _ _ (refused-repair _ _) in
    let tells = c.tell_counts.ensures in
    let said = parts-and-pair tells.value tells.bad_block_after tells.bad_rule_after (told, c.repair-mended.ensures.image_after) (refl, same.1) in
    record {
      value = said.0;
      image_after = said.1.0;
      words_after = tells.words_after ∙ said.1.1.0;
      erasures_after = tells.erasures_after ∙ said.1.1.1.0;
      bad_block_after = said.1.1.1.1.0;
      bad_rule_after = said.1.1.1.1.1;
    }
