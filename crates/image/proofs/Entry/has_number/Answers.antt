-- `image::Entry::has_number` meets its contract: each of the two is told by the upper three bits.
use Rattle.std.proofs.Common.{◌||◌, sym, ap₂, arith}
use Rattle.image.proofs.Entries.{complete-is-6, passing-is-4}
use Rattle.image.proofs.Entry.has_number.Goals as goal

pub returns : goal.returns
returns c = ap₂ ◌||◌ (sym (complete-is-6 c.args.self.0 (omega arith))) (sym (passing-is-4 c.args.self.0 (omega arith)))
