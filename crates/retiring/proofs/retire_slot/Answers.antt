-- `retiring::retire_slot` meets its contract: where the slot is superseded, the entry with bit 31 cleared is programmed, and else nothing.
use Rattle.std.proofs.Common.{length, ◌<◌, ◌≡◌, ap, sym, ◌∙◌, ◌+◌, ℕ, arith}
use Rattle.bits.specs.Word.{cleared}
use Rattle.geometry.specs.Places.{place, entry_word}
use Rattle.image.specs.Words.{word, entry}
use Rattle.image.specs.Slots.{valid_bit, superseded}
use Rattle.image.proofs.Reading.{entry-inside}
use Rattle.flash.specs.Runs.{of_run}
use Rattle.flash.proofs.RunLaws.{nothing, at-place}
use Rattle.retiring.proofs.retire_slot.Goals.{After-entries_start, After-is_superseded}
use Rattle.retiring.proofs.retire_slot.Goals as goal

-- the test of the slot
tested : (c : After-is_superseded) → c.is_superseded.result ≡ of_run superseded c.args.run.now c.args.b c.args.i
tested c = rw (c.block-block.ensures.image, c.block-block.ensures.index, c.view.ensures.words, c.view.ensures.geo) at c.is_superseded.ensures

-- the entry lies in the image
room : (c : After-entries_start) → c.entries_start.result + c.args.i < length c.args.run.now.words.now
room c = omega (arith, entry-inside _ _ c.args.run.now.shaped {i = c.args.i} c.requires.b_lt_blocks c.requires.i_bound)

pub overflow_add-at : goal.overflow_add-at
overflow_add-at c = omega (arith, room (goal.at.overflow_add-at c).After-entries_start)

pub offset_bounds-run-at : goal.offset_bounds-run-at
offset_bounds-run-at c = omega (arith, room (goal.at.offset_bounds-run-at c).After-entries_start)

pub bounds-run-at : goal.bounds-run-at
bounds-run-at c = room (goal.at.bounds-run-at c).After-entries_start

pub program-requires : goal.program-requires
program-requires c = room (goal.at.program-requires c).After-entries_start

pub returns-then-is_superseded : goal.returns-then-is_superseded
unfolding entry
returns-then-is_superseded c =
    let r = c.args.run.now in
    let at : c.entries_start.result + c.args.i ≡ place r.geo c.args.b (entry_word r.geo c.args.i) = omega arith in
    rw (sym (tested (goal.at.returns-then-is_superseded c).After-is_superseded) ∙ c.if-is_superseded.true)
    (at-place c.program.ensures at (c.clear_bit.ensures ∙ ap (λ (p : ℕ). cleared (word r.words.now p) valid_bit) at))

pub returns-else-is_superseded : goal.returns-else-is_superseded
returns-else-is_superseded c =
    rw (sym (tested (goal.at.returns-else-is_superseded c).After-is_superseded) ∙ c.if-is_superseded.false) (nothing _)
