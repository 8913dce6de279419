-- Step s of a list that begins with some steps, or with a range of them. Assumes nothing.
use mathlib.Core.Path.{◌≡◌, ap, ◌∙◌}
use mathlib.Core.List.{List, ◌++◌}
use Prim.Native.Nat.{ℕ, zero, suc, ◌+◌, ◌<◌}
use native.Mathlib.Omega.{arith}
use lib.ListN.{length}
use Rattle.ranges.specs.Range.{list_below}
use Rattle.ranges.proofs.Lists.{list_length, list-first}
use Rattle.flash.specs.declared.Step.{Step}
use Rattle.flash.specs.declared.NextStep.TheVariants.{Next}
use Rattle.flash.specs.Steps.{step_at}
use Rattle.flash.proofs.Parts.{step-behind}

-- behind the first steps: r is the number from there
pub step-on : (xs ys : List Step) (s r : ℕ) → s ≡ length xs + r → step_at (xs ++ ys) s ≡ step_at ys r
step-on xs ys s r e = ap (step_at (xs ++ ys)) e ∙ step-behind xs ys r

-- in a range, its own
pub step-in-list : (m : ℕ) (f : ℕ → Step) (ys : List Step) {s : ℕ} → s < m → step_at (list_below m f ++ ys) s ≡ Next (f s)
unfolding step_at
step-in-list zero f ys l = absurd (omega arith)
step-in-list (suc m) f ys {s = zero} l = rw (list-first m f)
step-in-list (suc m) f ys {s = suc s} l = rw (list-first m f) (step-in-list m (λ i. f (suc i)) ys {s = s} (omega arith))

-- and behind it those of the rest
pub step-behind-list : (m : ℕ) (f : ℕ → Step) (ys : List Step) (s r : ℕ) → s ≡ m + r → step_at (list_below m f ++ ys) s ≡ step_at ys r
step-behind-list m f ys s r e = step-on (list_below m f) ys s r (omega (arith, list_length m f))
