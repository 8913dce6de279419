-- `placing::live_bounds` meets its contract: the two numbers are the first and the last of those that are live in the slots passed, or L and 0.
use mathlib.Core.Path.{◌≡◌}
use Prim.Native.Nat.{◌-◌, ◌≤◌}
use Rattle.placing.specs.Bounds.{live_among}
use Rattle.placing.proofs.BoundLaws.{Passed}
use Rattle.placing.proofs.live_bounds.Given as goal

abbrev pub invariant-loop-i : goal.invariant-loop-i
invariant-loop-i g l =
    let block = g.K.Kinds.block_of l.kinds in
    (l.i ≤ l.d) × Passed block.image.geo.logical (live_among (g.K.Kinds.kind l.kinds block.index) l.i) l.least l.greatest

abbrev pub decreases-loop-i : goal.decreases-loop-i
decreases-loop-i g l = l.d - l.i
