use Rattle.std.proofs.Common.{Bool, ℕ}
use Rattle.ranges.specs.Asked.{Tells}
use Rattle.ranges.proofs.Chosen.{Chosen}
use Rattle.ranges.proofs.least.Given as goal

abbrev pub invariant-loop-i : goal.invariant-loop-i
invariant-loop-i g l = (f : ℕ → Bool) (k : ℕ → ℕ × ℕ) → Tells (goal.F-post g l.test) l.m f → Tells (goal.K-post g l.key) l.m k → Chosen k f l.i l.best
