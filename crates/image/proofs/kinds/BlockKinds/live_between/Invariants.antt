-- `image::kinds::BlockKinds::live_between` meets its contract: whether the live numbers of the slots passed lie between the two words, whatever the map bits are.
use Rattle.std.proofs.Common.{◌≡◌, ℕ, Bool, not, get_or}
use Rattle.ranges.specs.Range.{all_below}
use Rattle.image.specs.declared.Slot.{Slot}
use Rattle.image.specs.Slots.{slot_of, is_live_with}
use Rattle.image.specs.WellFormed.{outside}
use Rattle.image.proofs.kinds.BlockKinds.live_between.Given as goal

-- the test of a slot, by its kind
abbrev pub fits : ℕ → ℕ → Slot → Bool
fits least greatest s = not (is_live_with (outside least greatest) s)

abbrev pub invariant-loop-entry : goal.invariant-loop-entry
invariant-loop-entry l = (set : ℕ → Bool) → l.inside ≡ all_below l.entry-index (λ j. fits l.least l.greatest (slot_of l.self.image.geo.logical (set j) (get_or l.entry-items j 0)))
