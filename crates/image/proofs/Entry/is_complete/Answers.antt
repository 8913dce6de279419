-- `image::Entry::is_complete` meets its contract: an entry is complete by its upper three bits.
use Rattle.std.proofs.Common.{sym, arith}
use Rattle.image.proofs.Entries.{complete-is-6}
use Rattle.image.proofs.Entry.is_complete.Goals as goal

pub returns : goal.returns
returns c = sym (complete-is-6 c.args.self.0 (omega arith))
