-- `blocks::is_open` meets its contract: by the number of its free slots.
use Rattle.std.proofs.Common.{sym}
use Rattle.blocks.proofs.FreeMap.{open_by_count}
use Rattle.blocks.proofs.is_open.Goals as goal

pub returns : goal.returns
returns c = sym (open_by_count c.args.block.now.image.geo c.args.block.now.image.words.now c.args.block.now.index c.free_slots-free.result c.d.result c.free_slots-free.ensures c.d.ensures)
