-- `restoring::restore_bounds` meets its contract: the steps of the blocks passed are carried out, as many as there are left. Assumes nothing.
use Prim.Native.Nat.{◌-◌, ◌≤◌}
use Rattle.ranges.specs.Range.{join_below}
use Rattle.flash.specs.Runs.{Does, of_run}
use Rattle.restoring.proofs.Bounded.{bounds}
use Rattle.restoring.proofs.restore_bounds.Given as goal

abbrev pub invariant-loop-b : goal.invariant-loop-b
invariant-loop-b l = (l.b ≤ l.blocks) × Does l.initial.run l.run (join_below l.b (of_run bounds l.initial.run))

abbrev pub decreases-loop-b : goal.decreases-loop-b
decreases-loop-b l = l.blocks - l.b
