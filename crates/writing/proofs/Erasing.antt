-- How many blocks the first steps of a reclaim erase: none, or the one, as soon as its erase is among them. Assumes nothing.
use mathlib.Core.Path.{◌≡◌, refl, ap, ◌∙◌}
use mathlib.Core.List.{List, [], ◌∷◌, ◌++◌}
use Prim.Native.Nat.{ℕ, zero, suc, ◌+◌, ◌-◌, ◌<◌, ◌≤◌}
use native.Mathlib.Omega.{arith}
use lib.ListN.{length, length-append}
use lib.Seq.{take-append-le}
use Rattle.geometry.specs.declared.Geometry.{Geometry}
use Rattle.geometry.specs.Places.{place, erase_word}
use Rattle.flash.specs.declared.Step.{Step}
use Rattle.flash.specs.declared.Step.TheVariants.{Program}
use Rattle.flash.specs.Steps.{erasures_in, first_of}
use Rattle.flash.specs.Writing.{erases_victim}
use Rattle.flash.proofs.Stores.{erasures-append}
use Rattle.flash.proofs.Parts.{first-parts, erases-none-first}

module _ (geo : Geometry) (v count : ℕ) where
  abbrev erase : List Step
  erase = erases_victim geo v count

  -- the erase comes first
  pub erase-first : (left : ℕ) → (left ≡ 0 → ⊥) → erasures_in (first_of left erase) ≡ 1
  unfolding erasures_in
  erase-first zero some = absurd (some refl)
  erase-first (suc left) some = omega (arith, erases-none-first left (Program (place geo v erase_word) (count + 1) ∷ []) refl)

  -- between steps that erase none it is among the first steps as soon as one of them is behind the first part
  module _ (xs ys : List Step) (none : erasures_in xs ≡ 0) (no_more : erasures_in ys ≡ 0) (most : ℕ) where
    pub before-erase : most ≤ length xs → erasures_in (first_of most ((xs ++ erase) ++ ys)) ≡ 0
    before-erase l =
        ap erasures_in (take-append-le most (xs ++ erase) ys (omega (arith, length-append xs erase)) ∙ take-append-le most xs erase l)
        ∙ erases-none-first most xs none

    pub behind-erase : length xs < most → erasures_in (first_of most ((xs ++ erase) ++ ys)) ≡ 1
    behind-erase l =
        let left = most - length xs in
        let rest = most - length (xs ++ erase) in
        ap erasures_in (first-parts most (xs ++ erase) ys ∙ ap (λ (zs : List Step). zs ++ first_of rest ys) (first-parts most xs erase))
        ∙ omega (
          arith,
          erasures-append (first_of most xs ++ first_of left erase) (first_of rest ys),
          erasures-append (first_of most xs) (first_of left erase),
          erases-none-first most xs none,
          erases-none-first rest ys no_more,
          erase-first left (omega arith),
        )
