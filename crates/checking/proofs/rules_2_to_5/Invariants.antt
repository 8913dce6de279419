-- `checking::rules_2_to_5` meets its contract: the marks know the numbers of all slots before this one, every slot passed keeps the
-- four rules, and the first that breaks one decides.
use mathlib.Core.Path.{◌≡◌}
use mathlib.Core.Bool.{true}
use Rattle.ranges.specs.Range.{all_below}
use Rattle.image.specs.Slots.{own_slot}
use Rattle.rules.specs.Marks.{Marks}
use Rattle.checking.proofs.CheckLaws.{keeps}
use Rattle.checking.proofs.rules_2_to_5.Given as goal

abbrev pub invariant-loop-i : goal.invariant-loop-i
invariant-loop-i l =
    let geo = l.block.image.geo in
    let image = l.block.image.words.now in
    Marks geo (own_slot geo image) l.block.index l.i l.marks.words × (all_below l.i (keeps geo image l.block.index) ≡ true)
