-- `restoring::program_where` meets its contract: the step of the definition, or none. Assumes nothing.
use Rattle.flash.proofs.RunLaws.{nothing}
use Rattle.restoring.proofs.program_where.Goals as goal

pub returns-else-asks : goal.returns-else-asks
returns-else-asks c = rw c.if-asks.false (nothing _)
