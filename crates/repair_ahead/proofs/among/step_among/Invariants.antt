-- `repair_ahead::among::step_among` meets its contract: the lists passed have too few steps, and the first that has enough decides.
use mathlib.Core.List.{List}
use mathlib.Core.Path.{◌≡◌}
use Prim.Native.Nat.{ℕ, ◌≤◌}
use Rattle.std.specs.declared.ops.ControlFlow.TheVariants.{Continue}
use Rattle.ranges.specs.Asked.{Tells}
use Rattle.ranges.specs.Range.{join_below}
use Rattle.flash.specs.declared.Step.{Step}
use Rattle.repair_ahead.specs.Sought.{sought}
use Rattle.repair_ahead.proofs.among.step_among.Given as goal

abbrev pub invariant-loop-index : goal.invariant-loop-index
invariant-loop-index g l =
    (l.index ≤ l.count)
    × ((steps : ℕ → List Step) →
    ((k : ℕ) → Tells (λ b. goal.F-post g l.part b k) l.count (λ b. sought (steps b) k)) → sought (join_below l.index steps) l.i ≡ Continue l.left)
