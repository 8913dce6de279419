-- `checking::is_sound` meets its contract: the blocks passed keep their rules by own kinds and the marks know their numbers; a block that does
-- not decides, and the whole is the law of proofs/OwnLaws.antt.
use mathlib.Core.Path.{◌≡◌}
use mathlib.Core.Bool.{true}
use Rattle.ranges.specs.Range.{all_below}
use Rattle.image.specs.Slots.{own_slot}
use Rattle.rules.specs.Marks.{Marks}
use Rattle.checking.specs.OwnKinds.{sound_by_own}
use Rattle.checking.proofs.is_sound.Given as goal

abbrev pub invariant-loop-b : goal.invariant-loop-b
invariant-loop-b l =
    let geo = l.image.geo in
    let image = l.image.words.now in
    Marks geo (own_slot geo image) l.b 0 l.marks.words × (all_below l.b (sound_by_own geo image) ≡ true)
