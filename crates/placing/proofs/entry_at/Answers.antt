-- `placing::entry_at` meets its contract: it reads the entry where the definition has it.
use Rattle.std.proofs.Common.{ap, length, arith}
use Rattle.image.proofs.Places.{entries-long, entries-at}
use Rattle.placing.proofs.entry_at.Goals as goal

pub bounds-entries-i : goal.bounds-entries-i
bounds-entries-i c =
    let image = c.args.image.now in
    let is = rw (c.block.ensures.image, c.block.ensures.index) at c.entries.ensures in
    omega (arith, ap length is, entries-long image.geo image.words.now image.shaped (c.requires.block _ _ c.in-Some.is), c.requires.slot_is _ _ c.in-Some.is)

pub returns-in-Some : goal.returns-in-Some
returns-in-Some c =
    let image = c.args.image.now in
    let is = rw (c.block.ensures.image, c.block.ensures.index) at c.entries.ensures in
    rw (c.in-Some.is, is) (entries-at image.geo image.words.now c.in-Some.b c.in-Some.i (c.requires.slot_is _ _ c.in-Some.is))
