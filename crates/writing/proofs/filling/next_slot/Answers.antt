-- `writing::filling::next_slot` meets its contract: rule 1 where a block is open, and else rule 2.
use Rattle.std.proofs.Common.{sym, ◌∙◌}
use Rattle.writing.proofs.NextSlot.{found-open, found-blank}
use Rattle.writing.proofs.filling.next_slot.Goals as goal

pub returns-in-Some : goal.returns-in-Some
returns-in-Some c =
    let low = rw (c.block.ensures.image, c.block.ensures.index) at c.lowest_free.ensures in
    found-open _ _ (sym c.in-Some.is ∙ c.lowest_open.ensures) low

pub returns-in-Some-least_worn_blank : goal.returns-in-Some-least_worn_blank
returns-in-Some-least_worn_blank c =
    found-blank _ _ (sym c.in_default.is ∙ c.lowest_open.ensures) (sym c.in-Some-least_worn_blank.is ∙ c.least_worn_blank.ensures)
