-- `mending::bounds_mendable` meets its contract: each way tests what is left of R7 there. Assumes nothing.
use Rattle.std.proofs.Common.{◌≡◌, sym, ◌∙◌, cond, eqb}
use borrow.Author.Tests.{eq-eqb, ne_eqb}
use Rattle.bits.specs.Word.{ones}
use Rattle.image.specs.Slots.{slot}
use Rattle.image.specs.WellFormed.{outside, none_with}
use Rattle.image.specs.Mending.{bounds_mendable}
use Rattle.image.specs.Views.{of_image, of_block}
use Rattle.mending.proofs.bounds_mendable.Goals.{Else-not-is_full}
use Rattle.mending.proofs.bounds_mendable.Goals as goal

pub returns-then-not-is_full : goal.returns-then-not-is_full
unfolding bounds_mendable
returns-then-not-is_full c = rw (sym c.is_full.ensures ∙ c.if-not-is_full.true, c.least_mapped-least.ensures, c.greatest_mapped-greatest.ensures)

-- in a full block: what is left to be asked of its live numbers, by the words that were read
full-left : (c : Else-not-is_full) →
    let least = c.least_mapped-least.result in
    of_block bounds_mendable c.args.judged.now.block
    ≡ none_with c.args.judged.now.block.image.geo (of_image slot c.args.judged.now.block.image)
    (outside (cond (eqb least ones) 0 least) c.greatest_mapped-greatest.result)
    c.args.judged.now.block.index
unfolding bounds_mendable
full-left c = rw (sym c.is_full.ensures ∙ c.if-not-is_full.false, ← c.least_mapped-least.ensures, ← c.greatest_mapped-greatest.ensures)

pub returns-then-least : goal.returns-then-least
returns-then-least c = rw (full-left (goal.at.returns-then-least c).Else-not-is_full, eq-eqb _ _ c.if-least.true) c.live_between.ensures

pub returns : goal.returns
returns c = rw (full-left (goal.at.returns c).Else-not-is_full, ne_eqb _ _ c.if-least.false) c.live_between-2.ensures
