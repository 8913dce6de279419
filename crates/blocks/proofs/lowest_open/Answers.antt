-- `blocks::lowest_open` meets its contract.
use Rattle.std.proofs.Common.{rules}
use Rattle.image.specs.Blocks.{is_open, lowest_open}
use Rattle.blocks.proofs.lowest_open.Goals as goal

pub returns : goal.returns
unfolding lowest_open
returns c = c.find.ensures (is_open c.args.image.now.geo c.args.image.now.words.now) (search rules)
