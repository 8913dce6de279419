use Rattle.std.proofs.Common.{Bool, true, ◌≡◌, ℕ}
use Rattle.ranges.specs.Asked.{Tells}
use Rattle.ranges.specs.Range.{all_below}
use Rattle.ranges.proofs.all.Given as goal

abbrev pub invariant-loop-i : goal.invariant-loop-i
invariant-loop-i g l = (f : ℕ → Bool) → Tells (goal.F-post g l.test) l.m f → all_below l.i f ≡ true
