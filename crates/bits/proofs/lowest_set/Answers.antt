-- `bits::lowest_set` meets its contract: the trailing zeros end at the lowest set bit.
use mathlib.Core.Path.{sym}
use Rattle.bits.proofs.Counting.{lowest-trailing}
use Rattle.bits.proofs.lowest_set.Goals as goal

pub returns : goal.returns
returns c = sym (lowest-trailing c.args.w)
