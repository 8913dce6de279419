-- `text::last` meets its contract: the totals are those of a report, zeros where it is refused.
use mathlib.Core.Path.{ap, ◌∙◌}
use lib.ListN.{length}
use Rattle.calls.specs.Outcomes.{totals_of_sums}
use Rattle.calls.proofs.Told.{report-told}
use Rattle.text.specs.Lines.{totals_text, put_first}
use Rattle.text.proofs.last.Goals as goal

pub returns : goal.returns
returns c =
    let told = ap totals_of_sums c.end.ensures ∙ report-told _ c.args.image.now in
    record {
      value = c.totals_text.ensures.value ∙ ap (λ t. length (totals_text t)) told;
      out_after = c.totals_text.ensures.out_after ∙ ap (λ t. put_first (totals_text t) c.args.out.now) told;
    }
