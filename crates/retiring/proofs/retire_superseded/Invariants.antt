-- `retiring::retire_superseded` meets its contract: the steps of the blocks passed are carried out, as many as there are left.
use Prim.Native.Nat.{◌-◌, ◌≤◌}
use Rattle.ranges.specs.Range.{join_below}
use Rattle.flash.specs.Runs.{Does, of_run}
use Rattle.retiring.proofs.Retired.{clears_block}
use Rattle.retiring.proofs.retire_superseded.Given as goal

abbrev pub invariant-loop-b : goal.invariant-loop-b
invariant-loop-b l = (l.b ≤ l.blocks) × Does l.initial.run l.run (join_below l.b (of_run clears_block l.initial.run))

abbrev pub decreases-loop-b : goal.decreases-loop-b
decreases-loop-b l = l.blocks - l.b
