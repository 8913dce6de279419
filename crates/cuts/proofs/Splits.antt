-- The first steps of a list in two parts: some of the first part, or all of it and some of the second. Assumes nothing.
use mathlib.Core.Path.{◌≡◌, ap, ap₂, ◌∙◌}
use mathlib.Core.Logic.{◌⊎◌, inl, inr}
use mathlib.Core.List.{List, ◌++◌, append-nil}
use Prim.Native.Nat.{ℕ, suc, ◌-◌, ◌<◌}
use native.Mathlib.Decide.{dec_lt}
use native.Mathlib.Omega.{arith}
use lib.ListN.{length}
use lib.Seq.{take_all}
use Rattle.flash.specs.declared.Step.{Step}
use Rattle.flash.specs.Steps.{first_of}
use Rattle.flash.proofs.Parts.{first-parts}

pub first-split :
    (j : ℕ) (xs ys : List Step) →
    (first_of j (xs ++ ys) ≡ first_of j xs) ⊎ ((i : ℕ) × (first_of j (xs ++ ys) ≡ xs ++ first_of (suc i) ys))
first-split j xs ys = go (dec_lt (length xs) j)
  where
    go : Dec (length xs < j) → (first_of j (xs ++ ys) ≡ first_of j xs) ⊎ ((i : ℕ) × (first_of j (xs ++ ys) ≡ xs ++ first_of (suc i) ys))
    go (yes l) =
        let more : j - length xs ≡ suc (j - length xs - 1) = omega arith in
        inr (j - length xs - 1, first-parts j xs ys ∙ ap₂ ◌++◌ (take_all j xs (omega arith)) (ap (λ (m : ℕ). first_of m ys) more))
    go (no l) =
        let none : j - length xs ≡ 0 = omega arith in
        inl (first-parts j xs ys ∙ ap (λ (m : ℕ). first_of j xs ++ first_of m ys) none ∙ append-nil (first_of j xs))
