-- `ahead::reclaims::reclaim_step` meets its contract: the victim that is planned is a block, and another is blank.
use Rattle.std.proofs.Common.{sym, ◌∙◌, arith}
use Rattle.ranges.proofs.Searches.{index-none}
use Rattle.image.proofs.Facts.{sound-maps}
use Rattle.flash.proofs.Written.{Reclaims, reclaims, blank-in}
use Rattle.ahead.proofs.reclaims.reclaim_step.Goals.{Start}
use Rattle.ahead.proofs.reclaims.reclaim_step.Goals as goal

-- what the contract asks, as the laws want it
planned-so : (c : Start) → let image = c.args.image.now in Reclaims image.geo image.words.now c.args.v
planned-so c = let image = c.args.image.now in reclaims image.geo image.words.now c.args.v image.shaped c.requires.image_value c.requires.plan image.words32

pub least_worn_blank-requires : goal.least_worn_blank-requires
least_worn_blank-requires c = sound-maps _ _ (planned-so (goal.at.least_worn_blank-requires c).Start).ready.sound

pub returns-in-None : goal.returns-in-None
returns-in-None c =
    let image = c.args.image.now in
    let r = planned-so (goal.at.returns-in-None c).Start in
    absurd (omega (arith, index-none (sym c.least_worn_blank.ensures ∙ c.in-None.is), blank-in image.geo image.words.now r.ready r.must c.args.v r.victim-is))

pub invariant_of-victim : goal.invariant_of-victim
invariant_of-victim c = record { in_image = (planned-so (goal.at.invariant_of-victim c).Start).victim-is.block }
