-- `shellwaltz::add_up` meets its contract: each total is the sum over the blocks passed. No sum wraps: there are at most 64 blocks, each of at
-- most 63 slots and, in a well-formed image, erased at most a million times.
use mathlib.Core.Path.{◌≡◌}
use Prim.Native.Nat.{◌-◌, ◌≤◌}
use Rattle.ranges.specs.Range.{sum_below}
use Rattle.image.specs.Words.{erase_count}
use Rattle.image.specs.Blocks.{free_slots, live_slots, dead_slots}
use Rattle.shellwaltz.proofs.add_up.Given as goal

abbrev pub invariant-loop-b : goal.invariant-loop-b
invariant-loop-b l = (l.b ≤ l.blocks)
    × (l.mapped ≡ sum_below l.b (live_slots l.image.geo l.image.words.now))
    × (l.free ≡ sum_below l.b (free_slots l.image.geo l.image.words.now))
    × (l.dead ≡ sum_below l.b (dead_slots l.image.geo l.image.words.now))
    × (l.erase_sum ≡ sum_below l.b (erase_count l.image.geo l.image.words.now))

abbrev pub decreases-loop-b : goal.decreases-loop-b
decreases-loop-b l = l.blocks - l.b
