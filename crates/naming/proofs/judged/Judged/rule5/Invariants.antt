-- `naming::judged::Judged::rule5` meets its contract: the marks know the live numbers of all slots before this one, none was live twice so far, and the first that
-- is decides.
use mathlib.Core.Path.{◌≡◌}
use mathlib.Core.Bool.{true, not}
use Rattle.ranges.specs.Range.{all_below}
use Rattle.image.specs.Slots.{slot, is_live_with}
use Rattle.image.specs.WellFormed.{live_before}
use Rattle.rules.specs.Marks.{Marks}
use Rattle.naming.proofs.judged.Judged.rule5.Given as goal

abbrev pub invariant-loop-i : goal.invariant-loop-i
invariant-loop-i l =
    let geo = l.self.block.image.geo in
    let kinds = slot geo l.self.block.image.words.now in
    let b = l.self.block.index in
    Marks geo kinds b l.i l.marks.words
    × (all_below l.i (λ j. not (is_live_with (live_before geo kinds b j) (kinds b j))) ≡ true)
