use Rattle.std.proofs.Common.{Bool, ◌≡◌, ℕ, ◌+◌}
use Rattle.ranges.specs.Asked.{Tells}
use Rattle.ranges.specs.Range.{count_below, first_below, nth_passing}
use Rattle.ranges.proofs.nth.Given as goal

abbrev pub invariant-loop-i : goal.invariant-loop-i
invariant-loop-i g l =
    (f : ℕ → Bool) → Tells (goal.F-post g l.test) l.m f → (l.left + count_below l.i f ≡ l.n) × (l.i ≡ first_below l.i (nth_passing l.n f))
