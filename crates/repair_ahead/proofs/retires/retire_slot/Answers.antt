-- `repair_ahead::retires::retire_slot` meets its contract: it reads the entry where the definition has it.
use Rattle.std.proofs.Common.{◌≡◌, ap, ◌∙◌, ◌+◌, arith, length, get_or}
use Rattle.geometry.specs.Places.{place, entry_word}
use Rattle.image.specs.Words.{entry}
use Rattle.ahead.proofs.PlacementLaws.{entry-small}
use Rattle.image.proofs.Places.{entries-long, entries-at}
use Rattle.repair_ahead.proofs.retires.retire_slot.Goals as goal

pub overflow_add-at : goal.overflow_add-at
overflow_add-at c =
    let b = c.args.judged.now.block in
    omega (arith, c.entries_start.ensures, entry-small b.image.geo b.image.shaped.limits b.in_image c.requires)

pub bounds-entries-slot : goal.bounds-entries-slot
bounds-entries-slot c =
    let b = c.args.judged.now.block in
    omega (arith, c.requires, ap length c.entries.ensures, entries-long b.image.geo b.image.words.now b.image.shaped b.in_image)

pub returns : goal.returns
returns c =
    let b = c.args.judged.now.block in
    let at : c.entries_start.result + c.args.slot ≡ place b.image.geo b.index (entry_word b.image.geo c.args.slot) = omega (arith, c.entries_start.ensures) in
    let read : get_or c.entries.result.now c.args.slot 0 ≡ entry b.image.geo b.image.words.now b.index c.args.slot =
    ap (λ ws. get_or ws c.args.slot 0) c.entries.ensures ∙ entries-at b.image.geo b.image.words.now b.index c.args.slot c.requires in
    c.single_step.ensures
    ∙ rw (c.clear_bit.ensures, at, read, c.is_superseded.ensures)
