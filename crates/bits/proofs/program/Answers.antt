-- `bits::program` meets its contract: the machine's and is the definition's, bit by bit.
use mathlib.Core.Path.{sym}
use Rattle.bits.proofs.Programming.{programmed-and}
use Rattle.bits.proofs.program.Goals as goal

pub returns : goal.returns
returns c = sym (programmed-and c.args.old c.args.asked c.ranges.old.fits)
