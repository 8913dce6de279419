-- `ahead::reclaims::Reclaiming::block_after` meets its contract: the victim can be erased once more, and the target is a block.
use native.Mathlib.Omega.{arith}
use Rattle.ahead.proofs.ReclaimLaws.{planned_so, target_in}
use Rattle.ahead.proofs.reclaims.Reclaiming.block_after.Goals as goal

pub live_slots-requires : goal.live_slots-requires
live_slots-requires c = (planned_so c.args.self.now).ready.sound.current

pub overflow_add-erased : goal.overflow_add-erased
overflow_add-erased c = omega (arith, (planned_so c.args.self.now).victim-is.wearable)

pub invariant_of-target : goal.invariant_of-target
invariant_of-target c = record { in_image = target_in c.args.self.now }
