-- How far a repair comes as steps are left: (i) to (iii) and the copying of (iv), which erase nothing, and the steps behind them. Assumes nothing.
use mathlib.Core.Path.{◌≡◌, refl, sym, ap, ap₂, ◌∙◌}
use mathlib.Core.List.{List, [], ◌++◌}
use Prim.Native.Nat.{ℕ, zero, suc, ◌-◌}
use native.Mathlib.Omega.{arith}
use lib.ListN.{length}
use Rattle.ranges.proofs.Sums.{count-fails}
use Rattle.geometry.specs.declared.Geometry.{Geometry}
use Rattle.geometry.specs.Geometry.{d}
use Rattle.image.specs.declared.Slot.{Slot}
use Rattle.image.specs.declared.Slot.TheVariants.{Free, Live, Dead, Faulty, Superseded}
use Rattle.image.specs.Words.{Image, contents}
use Rattle.image.specs.Slots.{slot, is_live}
use Rattle.image.specs.Blocks.{live_slots, lowest_free}
use Rattle.flash.specs.declared.Step.{Step}
use Rattle.flash.specs.declared.run.Run.{Run}
use Rattle.flash.specs.Runs.{Does, of_run}
use Rattle.flash.specs.Steps.{run, erasures_in, first_of}
use Rattle.flash.specs.Writing.{copied_slot, copying}
use Rattle.flash.specs.Repairing.{clearing, bounding, counting, settled, bounded}
use Rattle.flash.proofs.Stores.{erasures-append}
use Rattle.flash.proofs.Counts.{placing-erasures}
use Rattle.flash.proofs.Parts.{first-parts, erases-none-first}
use Rattle.flash.proofs.RunLaws.{as-steps, by-geo, both, none-left, done}
use Rattle.cuts.proofs.Reclaims.{nothing_copied}
use Rattle.repairing.specs.Planned.{mending}

-- steps that erase nothing, carried out as a first part: the blocks erased are those that what follows erases
module _ {before now : Run} {xs : List Step} (first : Does before now xs) (none : erasures_in xs ≡ 0) where
  pub erasures-behind : (ys : List Step) → erasures_in (first_of now.left ys) ≡ erasures_in (first_of before.left (xs ++ ys))
  erasures-behind ys =
      let rest : first_of now.left ys ≡ first_of (before.left - length xs) ys = ap (λ (m : ℕ). first_of m ys) first.left_after in
      omega (
        arith,
        ap erasures_in rest,
        ap erasures_in (first-parts before.left xs ys),
        erasures-append (first_of before.left xs) (first_of (before.left - length xs) ys),
        erases-none-first before.left xs none,
      )

  -- where no step is left, none
  pub none-erased : now.left ≡ 0 → (ys : List Step) → 0 ≡ erasures_in (first_of before.left (xs ++ ys))
  unfolding erasures_in
  none-erased end ys = sym (ap (λ (m : ℕ). erasures_in (first_of m ys)) end) ∙ erasures-behind ys

-- ---- (i) to (iii)

module _ {before retired : Run} (first : Does before retired (of_run clearing before)) where
  pub stopped-in-first : retired.left ≡ 0 → Does before retired (of_run mending before)
  stopped-in-first none = none-left first none _

  module _ (some : retired.left ≡ 0 → ⊥) where
    pub first_done : retired.words.now ≡ of_run settled before
    unfolding settled
    first_done = done first some

    module _ {restored : Run} (second : Does retired restored (of_run bounding retired)) where
      told-second : Does retired restored (bounding before.geo (of_run settled before))
      told-second = as-steps (by-geo (λ geo. bounding geo retired.words.now) second first.same_geo) (ap (bounding before.geo) first_done)

      pub stopped-in-second : restored.left ≡ 0 → Does before restored (of_run mending before)
      stopped-in-second none = both first (none-left told-second none (counting before.geo (of_run bounded before)))

      module _ (more : restored.left ≡ 0 → ⊥) where
        pub second-done : restored.words.now ≡ of_run bounded before
        unfolding bounded
        second-done = done told-second more ∙ ap₂ (λ geo image. run geo image (bounding before.geo (of_run settled before))) first.same_geo first_done

        pub three-done : {end : Run} → Does restored end (of_run counting restored) → Does before end (of_run mending before)
        three-done third =
            let told = as-steps (by-geo (λ geo. counting geo restored.words.now) third (second.same_geo ∙ first.same_geo)) (ap (counting before.geo) second-done) in
            both first (both told-second told)

-- ---- (iv)

-- the copying of a reclaim erases nothing
pub copying-erasures : (geo : Geometry) (image : Image) (v t m : ℕ) → erasures_in (copying geo image v t m) ≡ 0
unfolding copying erasures_in
copying-erasures geo image v t zero = refl
copying-erasures geo image v t (suc m) =
    let now : Image = run geo image (copying geo image v t m) in
    omega (
      arith,
      erasures-append (copying geo image v t m) (copied_slot geo now v t m (slot geo now v m)),
      copying-erasures geo image v t m,
      of-slot now (slot geo now v m),
    )
  where
    of-slot : (now : Image) (s : Slot) → erasures_in (copied_slot geo now v t m s) ≡ 0
    of-slot now Free = refl
    of-slot now (Live n) = placing-erasures geo now n (contents geo now v m) t (lowest_free geo now t)
    of-slot now Dead = refl
    of-slot now Faulty = refl
    of-slot now Superseded = refl

-- and where v has no live slot there is nothing to copy
pub no_copies : (geo : Geometry) (image : Image) (v t : ℕ) → live_slots geo image v ≡ 0 → copying geo image v t (d geo) ≡ []
no_copies geo image v t none =
    nothing_copied geo image v t (count-fails (d geo) (λ j. is_live (slot geo image v j)) none) (d geo) (omega arith)
