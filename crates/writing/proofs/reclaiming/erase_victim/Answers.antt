-- `writing::reclaiming::erase_victim` meets its contract: the erase is a step, and the count is the next.
use Rattle.std.proofs.Common.{refl, arith}
use Rattle.flash.proofs.RunLaws.{both, at-place}
use Rattle.writing.proofs.reclaiming.erase_victim.Goals as goal

pub returns : goal.returns
returns c = both c.erase.ensures (at-place c.program.ensures (omega (arith, c.start-start.ensures)) refl)
