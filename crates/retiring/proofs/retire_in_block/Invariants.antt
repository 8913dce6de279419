-- `retiring::retire_in_block` meets its contract: the steps of the slots passed are carried out, as many as there are left.
use Prim.Native.Nat.{◌-◌, ◌≤◌}
use Rattle.ranges.specs.Range.{join_below}
use Rattle.flash.specs.Repairing.{clears_slot}
use Rattle.flash.specs.Runs.{Does, of_run}
use Rattle.retiring.proofs.retire_in_block.Given as goal

abbrev pub invariant-loop-i : goal.invariant-loop-i
invariant-loop-i l = (l.i ≤ l.d) × Does l.initial.run l.run (join_below l.i (of_run clears_slot l.initial.run l.b))

abbrev pub decreases-loop-i : goal.decreases-loop-i
decreases-loop-i l = l.d - l.i
