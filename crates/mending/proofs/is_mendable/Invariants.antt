-- `mending::is_mendable` meets its contract: the blocks passed are mendable, the marks know their numbers, and those are counted whose count was
-- not programmed; a block that is not mendable decides. Assumes nothing.
use mathlib.Core.Path.{◌≡◌}
use mathlib.Core.Bool.{true}
use Rattle.ranges.specs.Range.{all_below, count_below}
use Rattle.image.specs.Slots.{slot}
use Rattle.image.specs.Mending.{count_unset, mendable_block}
use Rattle.rules.specs.Marks.{Marks}
use Rattle.mending.proofs.is_mendable.Given as goal

abbrev pub invariant-loop-b : goal.invariant-loop-b
invariant-loop-b l =
    let geo = l.image.geo in
    let image = l.image.words.now in
    Marks geo (slot geo image) l.b 0 l.marks.words
    × (all_below l.b (mendable_block geo image) ≡ true)
    × (l.unset ≡ count_below l.b (count_unset geo image))
