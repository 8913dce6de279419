use Rattle.std.proofs.Common.{Bool, ◌≡◌, ℕ}
use Rattle.ranges.specs.Asked.{Tells}
use Rattle.ranges.specs.Range.{first_below}
use Rattle.ranges.proofs.find.Given as goal

abbrev pub invariant-loop-first : goal.invariant-loop-first
invariant-loop-first g l = (f : ℕ → Bool) → Tells (goal.F-post g l.test) l.m f → l.first ≡ first_below l.first f
