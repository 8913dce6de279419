-- `naming::first_bad` meets its contract: the blocks passed are sound and the marks know their numbers; a block that is not decides, and
-- the image has one.
use mathlib.Core.Path.{◌≡◌}
use mathlib.Core.Bool.{true}
use Rattle.ranges.specs.Range.{all_below}
use Rattle.image.specs.Slots.{slot}
use Rattle.image.specs.WellFormed.{sound_block}
use Rattle.rules.specs.Marks.{Marks}
use Rattle.naming.proofs.first_bad.Given as goal

abbrev pub invariant-loop-b : goal.invariant-loop-b
invariant-loop-b l = Marks l.image.geo (slot l.image.geo l.image.words.now) l.b 0 l.marks.words × (all_below l.b (sound_block l.image.geo l.image.words.now) ≡ true)
