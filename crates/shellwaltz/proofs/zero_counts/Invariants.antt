-- `shellwaltz::zero_counts` meets its contract: the counts of the blocks passed are zeroed.
use mathlib.Core.Path.{◌≡◌}
use Prim.Native.Nat.{◌-◌, ◌≤◌}
use lib.ListN.{length}
use Rattle.calls.specs.Calls.{counts_zeroed}
use Rattle.shellwaltz.proofs.zero_counts.Given as goal

abbrev pub invariant-loop-b : goal.invariant-loop-b
invariant-loop-b l = (l.b ≤ l.blocks) × (length l.image ≡ length l.initial.image) × (l.image ≡ counts_zeroed l.geo l.initial.image l.b)

abbrev pub decreases-loop-b : goal.decreases-loop-b
decreases-loop-b l = l.blocks - l.b
