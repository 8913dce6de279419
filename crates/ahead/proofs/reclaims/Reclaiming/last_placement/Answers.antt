-- `ahead::reclaims::Reclaiming::last_placement` meets its contract: it is what the definition has, field by field.
use Rattle.flash.proofs.CodeLaws.{found_inside}
use Rattle.ahead.proofs.ReclaimLaws.{planned_so}
use Rattle.ahead.proofs.reclaims.Reclaiming.last_placement.Goals as goal

pub live_slots-slot-requires : goal.live_slots-slot-requires
live_slots-slot-requires c = (planned_so c.args.self.now).ready.sound.current

pub find-found-requires-clause-none_superseded : goal.find-found-requires-clause-none_superseded
find-found-requires-clause-none_superseded c = (planned_so c.args.self.now).ready.sound.current

pub moved_to-requires : goal.moved_to-requires
moved_to-requires c = found_inside _ _ c.args.n c.find-found.ensures

pub moved_entry-requires-clause-in_image : goal.moved_entry-requires-clause-in_image
moved_entry-requires-clause-in_image c = found_inside _ _ c.args.n c.find-found.ensures

pub bounds_with-requires-clause-none_superseded : goal.bounds_with-requires-clause-none_superseded
bounds_with-requires-clause-none_superseded c = (planned_so c.args.self.now).ready.sound.current
