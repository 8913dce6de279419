-- `shellwaltz_c::shellwaltz_format` meets its contract: it passes on what the call answers and leaves.
use mathlib.Core.Path.{ap, ◌∙◌}
use Rattle.answers.specs.Answers.{number_of}
use Rattle.calls.specs.Outcomes.{counts_of, outcome_of}
use Rattle.calls.proofs.Told.{format-told}
use Rattle.shellwaltz_c.proofs.SameCalls.{format-same}
use Rattle.shellwaltz_c.proofs.shellwaltz_format.Goals as goal

pub returns : goal.returns
returns c =
    let same = format-same _ _ _ c.geometry.ensures c.args.image.now in
    let told = ap outcome_of (c.format-made.ensures.value ∙ ap counts_of same.0) ∙ format-told _ _ in
    let tells = c.tell_counts.ensures in
    record {
      value = tells.value ∙ ap (λ o. number_of o.answer) told;
      image_after = c.format-made.ensures.image_after ∙ same.1;
      words_after = tells.words_after ∙ ap (λ o. o.words) told;
      erasures_after = tells.erasures_after ∙ ap (λ o. o.erasures) told;
    }
