-- `shellwaltz_c::with_table::shellwaltz_release_with_table` meets its contract: it passes on what the call answers and leaves.
use mathlib.Core.Path.{refl, ap, ◌∙◌}
use Rattle.calls.specs.Outcomes.{counts_of, outcome_of}
use Rattle.calls.proofs.Told.{outcome-told}
use Rattle.shellwaltz_c.proofs.SameCalls.{parts-and-pair, release-with-same, refused-release-with}
use Rattle.shellwaltz_c.proofs.with_table.shellwaltz_release_with_table.Goals as goal

pub returns : goal.returns
returns c =
    let a = c.args in
    let same = release-with-same _ _ _ c.geometry.ensures a.image.now a.number a.table.now in
    let told = ap outcome_of (c.release-freed.ensures.value ∙ ap counts_of same.0) ∙ outcome-told _ _ (refused-release-with _ _ a.number a.table.now) in
    let tells = c.tell_counts.ensures in
    let said = parts-and-pair tells.value tells.bad_block_after tells.bad_rule_after (told, c.release-freed.ensures.image_after) (refl, same.1.0) in
    record {
      value = said.0;
      image_after = said.1.0;
      table_after = c.release-freed.ensures.table_after ∙ same.1.1;
      words_after = tells.words_after ∙ said.1.1.0;
      erasures_after = tells.erasures_after ∙ said.1.1.1.0;
      bad_block_after = said.1.1.1.1.0;
      bad_rule_after = said.1.1.1.1.1;
    }
