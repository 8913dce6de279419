-- `repairing::room` meets its contract: the free slots of the first open block are counted, if there is one. Assumes nothing.
use Rattle.std.proofs.Common.{◌∙◌, refl, sym}
use Rattle.ranges.proofs.Searches.{index-some, index-none}
use Rattle.repairing.proofs.Decided.{room_open, room-none}
use Rattle.repairing.proofs.room.Goals as goal

pub returns-in-Some : goal.returns-in-Some
returns-in-Some c =
    let found = index-some (sym c.lowest_open.ensures ∙ c.in-Some.is) in
    rw (c.block.ensures.image, c.block.ensures.index) at c.free_slots.ensures ∙ room_open _ _ (sym found.0) found.1

pub returns-in-None : goal.returns-in-None
returns-in-None c = room-none _ _ refl (index-none (sym c.lowest_open.ensures ∙ c.in-None.is))
