-- The laws of `largest_below`. Assumes nothing.
use Prim.Native.Nat.{ℕ, zero, suc, ◌+◌, ◌≤◌, ◌<◌, max}
use mathlib.Core.Path.{◌≡◌, refl, ap₂}
use native.Mathlib.Nat.{le_step, lt-suc_self, max-le}
use native.Mathlib.Numerals.{add-one}
use native.Mathlib.Omega.{arith}
use Rattle.ranges.specs.Range.{largest_below}

-- terms of at most c
pub largest-bound : (m c : ℕ) {f : ℕ → ℕ} → ((i : ℕ) → i < m → f i ≤ c) → largest_below m f ≤ c
unfolding largest_below
largest-bound zero c h = omega arith
largest-bound (suc m) c h = max-le (largest-bound m c (λ i l. h i (le_step l))) (h m (lt-suc_self m))

-- equal terms
pub largest-ext : (m : ℕ) {f g : ℕ → ℕ} → ((i : ℕ) → i < m → f i ≡ g i) → largest_below m f ≡ largest_below m g
unfolding largest_below
largest-ext zero h = refl
largest-ext (suc m) h = ap₂ max (largest-ext m (λ i l. h i (le_step l))) (h m (lt-suc_self m))

-- one index more
pub largest-next : (i : ℕ) (f : ℕ → ℕ) {so_far now : ℕ} → so_far ≡ largest_below i f → now ≡ max so_far (f i) → now ≡ largest_below (i + 1) f
unfolding largest_below
largest-next i f before here = rw (add-one i, ← before) here
