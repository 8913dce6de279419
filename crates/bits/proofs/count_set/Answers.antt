-- `bits::count_set` meets its contract: the machine's count of ones is the number of set bits.
use mathlib.Core.Path.{sym}
use Rattle.bits.proofs.Counting.{set-ones}
use Rattle.bits.proofs.count_set.Goals as goal

pub returns : goal.returns
returns c = sym (set-ones c.args.w c.ranges.w.fits)
