-- `blocks::count_unset` meets its contract: a count that was programmed decides, and without one the block's slots do. Assumes nothing.
use mathlib.Core.Path.{sym, ◌∙◌}
use mathlib.Core.Bool.{and-true, and-false}
use borrow.Author.Tests.{eq-eqb, ne_eqb}
use Rattle.image.specs.Blocks.{blank}
use Rattle.image.specs.Mending.{count_unset}
use Rattle.blocks.proofs.count_unset.Goals as goal

pub returns-else-erase_count-eq4294967295 : goal.returns-else-erase_count-eq4294967295
unfolding count_unset
returns-else-erase_count-eq4294967295 c = sym
    (rw (← c.erase_count.ensures, ne_eqb _ _ c.if-erase_count-eq4294967295.false)
    (and-false (blank c.args.block.now.image.geo c.args.block.now.image.words.now c.args.block.now.index)))

pub returns-then-erase_count-eq4294967295 : goal.returns-then-erase_count-eq4294967295
unfolding count_unset
returns-then-erase_count-eq4294967295 c = c.is_blank.ensures
    ∙ sym
    (rw (← c.erase_count.ensures, eq-eqb _ _ c.if-erase_count-eq4294967295.true)
    (and-true (blank c.args.block.now.image.geo c.args.block.now.image.words.now c.args.block.now.index)))
