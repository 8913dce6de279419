use Rattle.std.proofs.Common.{Bool, ◌≡◌, ℕ, ◌≤◌}
use Rattle.ranges.specs.Asked.{Tells}
use Rattle.ranges.specs.Range.{count_below}
use Rattle.ranges.proofs.count.Given as goal

abbrev pub invariant-loop-i : goal.invariant-loop-i
invariant-loop-i g l = (l.passed ≤ l.i) × ((f : ℕ → Bool) → Tells (goal.F-post g l.test) l.m f → l.passed ≡ count_below l.i f)
