use Rattle.std.proofs.Common.{◌≡◌, ℕ}
use Rattle.ranges.specs.Asked.{Tells}
use Rattle.ranges.specs.Range.{largest_below}
use Rattle.ranges.proofs.largest.Given as goal

abbrev pub invariant-loop-i : goal.invariant-loop-i
invariant-loop-i g l = (f : ℕ → ℕ) → Tells (goal.F-post g l.value) l.m f → l.largest ≡ largest_below l.i f
