-- `shellwaltz_c::shellwaltz_report` meets its contract: it passes on what the call answers, and its numbers.
use mathlib.Core.Path.{ap, ◌∙◌}
use Rattle.answers.specs.Answers.{number_of, block_of, rule_of}
use Rattle.calls.specs.Outcomes.{sums_of, totals_of_sums}
use Rattle.calls.proofs.Told.{report-told}
use Rattle.shellwaltz_c.proofs.SameCalls.{report-same}
use Rattle.shellwaltz_c.proofs.shellwaltz_report.Goals as goal

pub returns : goal.returns
returns c =
    let told =
    ap totals_of_sums (c.report-added.ensures ∙ ap sums_of (report-same _ _ _ c.geometry.ensures c.args.image.now))
    ∙ report-told _ _ in
    let tells = c.tell_totals.ensures in
    record {
      value = tells.value ∙ ap (λ t. number_of t.answer) told;
      mapped_after = tells.mapped_after ∙ ap (λ t. t.mapped) told;
      free_after = tells.free_after ∙ ap (λ t. t.free) told;
      dead_after = tells.dead_after ∙ ap (λ t. t.dead) told;
      erase_sum_after = tells.erase_sum_after ∙ ap (λ t. t.erase_sum) told;
      bad_block_after = tells.bad_block_after ∙ ap (λ t. block_of t.answer) told;
      bad_rule_after = tells.bad_rule_after ∙ ap (λ t. rule_of t.answer) told;
    }
