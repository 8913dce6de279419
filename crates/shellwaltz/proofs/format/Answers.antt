-- `shellwaltz::format` meets its contract: its test is row 1, and past it all words are set to ones, then the counts to 0.
use mathlib.Core.Bool.{not}
use mathlib.Core.Path.{ap, ◌∙◌}
use lib.ListN.{length, length-replicate}
use Rattle.image.specs.Words.{Shaped}
use Rattle.calls.specs.Refusals.{format_answer}
use Rattle.calls.specs.Calls.{fresh, formatted}
use Rattle.calls.proofs.CallLaws.{as-tested, shaped-left}
use Rattle.shellwaltz.proofs.format.Goals.{Else-not-fits}
use Rattle.shellwaltz.proofs.format.Goals as goal

-- past the test
shaped : (c : Else-not-fits) → Shaped c.args.geo c.args.image.now
shaped c = shaped-left _ _ (as-tested c.fits.ensures (ap not c.if-not-fits.false))

pub returns-then-not-fits : goal.returns-then-not-fits
unfolding format_answer formatted
returns-then-not-fits c =
    let applies = as-tested c.fits.ensures (ap not c.if-not-fits.true) in
    record { value = rw applies; image_after = rw applies }

pub zero_counts-requires : goal.zero_counts-requires
zero_counts-requires c =
    let s = shaped (goal.at.zero_counts-requires c).Else-not-fits in
    record { limits = s.limits; long = ap length c.erase.ensures ∙ length-replicate _ _ ∙ s.long }

pub returns : goal.returns
unfolding format_answer formatted fresh
returns c =
    let passes = as-tested c.fits.ensures (ap not c.if-not-fits.false) in
    record {
      value = rw passes;
      image_after = rw passes (c.zero_counts.ensures ∙ rw (c.erase.ensures, (shaped (goal.at.returns c).Else-not-fits).long));
    }
