-- The bounds of the numbers that pass one of two tests, from those of each. Assumes nothing.
use mathlib.Core.Path.{◌≡◌, refl, sym, ap, ap₂, ◌∙◌}
use mathlib.Core.Logic.{⊎_elim}
use mathlib.Core.Bool.{Bool, true, false, ◌||◌, or-true, or-false, true≢false}
use Prim.Native.Nat.{ℕ, ◌<◌}
use native.Mathlib.Omega.{arith}
use lib.Dec.{eqb}
use borrow.Author.Tests.{eq-eqb, eqb-true}
use Rattle.std.specs.Prelude.{Option, Some}
use Rattle.ranges.specs.Range.{or_at, first_below, last_below}
use Rattle.ranges.proofs.Tests.{either-passes, neither-passes}
use Rattle.ranges.proofs.Searches.{best-le, best-passes, best-some, first-before, first-is, last-after, last-is}
use Rattle.flash.specs.declared.LiveBounds.{LiveBounds}
use Rattle.placing.specs.Bounds.{bounds_of, bounds_below}
use Rattle.placing.proofs.BoundLaws.{bounds-ext, bounds-some, bounds-found, first_more}

module _ (m : ℕ) (f g : ℕ → Bool) where
  -- where the second passes nowhere, they are those of the first
  pub second_none : first_below m g ≡ m → bounds_of m f ≡ bounds_of m (λ x. f x || g x)
  second_none e = bounds-ext m (λ x l. sym (rw (first-before m g {i = x} (omega arith)) (or-false (f x))))

  -- and else those of the first with the least and the greatest of the second
  module _ (some : first_below m g < m) where
    abbrev least : ℕ
    least = first_below m g

    abbrev greatest : ℕ
    greatest = last_below m g

    least-passes : g least ≡ true
    least-passes = best-passes (λ i r. false) m g some

    pub greatest-below : greatest < m
    greatest-below = best-some (λ i r. true) m g some least-passes

    abbrev ends : ℕ → Bool
    ends = or_at (or_at f least) greatest

    ends-pass : (x : ℕ) → ends x ≡ true → (f x || g x) ≡ true
    ends-pass x e =
        ⊎_elim
        (λ h. ⊎_elim (λ k. ap (◌|| g x) k) (λ k. second (ap g (sym (eqb-true least x k)) ∙ least-passes)) (either-passes (f x) (eqb least x) h))
        (λ h. second (ap g (sym (eqb-true greatest x h)) ∙ best-passes (λ i r. true) m g greatest-below))
        (either-passes (or_at f least x) (eqb greatest x) e)
      where
        second : g x ≡ true → (f x || g x) ≡ true
        second k = ap (f x ||◌) k ∙ or-true (f x)

    -- where they fail and the second does, both do
    neither : (x : ℕ) → ends x ≡ false → g x ≡ false → (f x || g x) ≡ false
    neither x e h = ap₂ ◌||◌ (neither-passes (f x) (eqb least x) (neither-passes (or_at f least x) (eqb greatest x) e).0).0 h

    first-joined : first_below m (λ x. f x || g x) ≡ first_below m ends
    first-joined =
        first-is m (λ x. f x || g x) (first_below m ends) (best-le (λ i r. false) m ends)
        (λ x l. neither x (first-before m ends l) (first-before m g (omega (arith, not-before))))
        (λ l. ends-pass (first_below m ends) (best-passes (λ i r. false) m ends l))
      where
        not-before : least < first_below m ends → ⊥
        not-before l =
            true≢false
            (sym (rw (eq-eqb least least refl) (ap (◌|| eqb greatest least) (or-true (f least)))) ∙ first-before m ends l)

    last-joined : last_below m (λ x. f x || g x) ≡ last_below m ends
    last-joined =
        last-is m (λ x. f x || g x) (last_below m ends) below (ends-pass (last_below m ends) (best-passes (λ i r. true) m ends below))
        (λ x l h. neither x (last-after m ends l h) (last-after m g (omega (arith, not_behind)) h))
      where
        at-end : ends greatest ≡ true
        at-end = ap (or_at f least greatest ||◌) (eq-eqb greatest greatest refl) ∙ or-true (or_at f least greatest)

        below : last_below m ends < m
        below = best-some (λ i r. true) m ends greatest-below at-end

        not_behind : last_below m ends < greatest → ⊥
        not_behind l = true≢false (sym at-end ∙ last-after m ends l greatest-below)

    pub joined : bounds_of m (or_at (or_at f (first_below m g)) (last_below m g)) ≡ bounds_of m (λ x. f x || g x)
    joined = ap₂ (λ (x y : ℕ). record { least = x; greatest = y }) (sym first-joined) (sym last-joined)

-- ---- and as the code joins them: the second's are there, and the first's widened by both

module _ (m : ℕ) (f g : ℕ → Bool) where
  one-at-least : {n : ℕ} → n < m → first_below m (or_at f n) < m
  one-at-least l = omega (arith, first_more m f l)

  pub both-widened :
      {there : Option LiveBounds} {moved wider widest : LiveBounds} →
      there ≡ bounds_below m (bounds_of m f) →
      Some moved ≡ bounds_below m (bounds_of m g) →
      ((k : ℕ) (h : ℕ → Bool) → moved.least < k → there ≡ bounds_below k (bounds_of k h) → wider ≡ bounds_of k (or_at h moved.least)) →
      ((k : ℕ) (h : ℕ → Bool) → moved.greatest < k → Some wider ≡ bounds_below k (bounds_of k h) → widest ≡ bounds_of k (or_at h moved.greatest)) →
      widest ≡ bounds_of m (λ x. f x || g x)
  both-widened {moved = moved} e h widens widens_more =
      let (is, some) = bounds-some m (bounds_of m g) h in
      let least-is : moved.least ≡ first_below m g = ap (λ (b : LiveBounds). b.least) is in
      let greatest-is : moved.greatest ≡ last_below m g = ap (λ (b : LiveBounds). b.greatest) is in
      let l : moved.least < m = omega arith in
      widens_more m (or_at f moved.least) (omega (arith, greatest-is, greatest-below m f g some))
      (bounds-found m (bounds_of m (or_at f moved.least)) (widens m f l e) (one-at-least l))
      ∙ ap₂ (λ (x y : ℕ). bounds_of m (or_at (or_at f x) y)) least-is greatest-is
      ∙ joined m f g some
