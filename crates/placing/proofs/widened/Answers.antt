-- `placing::widened` meets its contract: the new number alone where there was none, and else the lower and the higher of it and the bounds.
use mathlib.Core.Bool.{Bool, false}
use mathlib.Core.Path.{◌≡◌, sym, ap, ap₂, ◌∙◌}
use Prim.Native.Nat.{ℕ, ◌<◌, ◌≤◌, min, max}
use native.Mathlib.Omega.{arith}
use Rattle.ranges.specs.Range.{or_at, first_below}
use Rattle.ranges.proofs.Searches.{best-le}
use Rattle.flash.specs.declared.LiveBounds.{LiveBounds}
use Rattle.placing.specs.Bounds.{bounds_of}
use Rattle.placing.proofs.BoundLaws.{first_more, last_one, last_more, bounds-some, bounds-none}
use Rattle.placing.proofs.widened.Goals as goal

module _ (m n : ℕ) (l : n < m) (f : ℕ → Bool) where
  -- no number passes
  alone : m ≤ first_below m f → record { least = n; greatest = n } ≡ bounds_of m (or_at f n)
  alone e =
      let none : first_below m f ≡ m = omega (arith, best-le (λ i r. false) m f) in
      ap₂ (λ (x y : ℕ). record { least = x; greatest = y }) (omega (arith, first_more m f l, none)) (sym (last_one m f l none))

  -- some do
  among :
      {live : LiveBounds} {least greatest : ℕ} →
      (live ≡ bounds_of m f) × (first_below m f < m) →
      least ≡ min live.least n →
      greatest ≡ max live.greatest n →
      record { least = least; greatest = greatest } ≡ bounds_of m (or_at f n)
  among some low high =
      let first = ap (λ (x : LiveBounds). x.least) some.0 in
      let last = ap (λ (x : LiveBounds). x.greatest) some.0 in
      ap₂ (λ (x y : ℕ). record { least = x; greatest = y }) (omega (arith, low, first, first_more m f l)) (omega (arith, high, last, last_more m f l some.1))

pub returns-in-None : goal.returns-in-None
returns-in-None c m f l e = alone m c.args.n l f (bounds-none m (bounds_of m f) (sym c.in-None.is ∙ e))

pub returns-in-Some : goal.returns-in-Some
returns-in-Some c m f l e =
    among m c.args.n l f (bounds-some m (bounds_of m f) (sym c.in-Some.is ∙ e)) (omega (arith, c.lesser.ensures)) (omega (arith, c.greater.ensures))
