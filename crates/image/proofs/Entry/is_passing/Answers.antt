-- `image::Entry::is_passing` meets its contract: an entry is in passing by its upper three bits.
use Rattle.std.proofs.Common.{sym, arith}
use Rattle.image.proofs.Entries.{passing-is-4}
use Rattle.image.proofs.Entry.is_passing.Goals as goal

pub returns : goal.returns
returns c = sym (passing-is-4 c.args.self.0 (omega arith))
