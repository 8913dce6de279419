-- The steps of a repair, each by itself: it leaves the word that it asks for, programs no unused word, and erases no block but the one that (iv) empties.
-- Assumes nothing.
use mathlib.Core.Path.{◌≡◌, refl, sym, ap₂, ◌∙◌}
use mathlib.Core.Logic.{inl, inr}
use mathlib.Core.Bool.{Bool, true, false, not, cond, ◌&&◌, ◌||◌, true≢false}
use mathlib.Core.List.{List, [], ◌++◌}
use Prim.Native.Nat.{ℕ, ◌+◌, ◌<◌}
use native.Mathlib.Omega.{arith}
use Rattle.ranges.specs.Range.{one_if}
use Rattle.geometry.specs.declared.Geometry.{Geometry}
use Rattle.geometry.specs.Geometry.{Limits, d}
use Rattle.geometry.specs.Places.{erase_word, least_word, greatest_word}
use Rattle.image.specs.Words.{Image, Shaped, Words32, erase_count}
use Rattle.image.specs.Slots.{superseded}
use Rattle.image.specs.Blocks.{full, lowest_open}
use Rattle.image.specs.WellFormed.{ceiling, R6}
use Rattle.image.specs.Mending.{least_unset, greatest_unset, count_unset, emptiest}
use Rattle.image.proofs.Mending.{Mendable}
use Rattle.flash.specs.declared.Step.{Step}
use Rattle.flash.specs.Steps.{run, erasures_in, erases_block, leaves_asked}
use Rattle.flash.specs.Placing.{least_live, greatest_live}
use Rattle.flash.specs.Writing.{reclaiming}
use Rattle.flash.specs.Repairing.{clears_slot, clearing, or_zero, sets_least, sets_greatest, bounding, sets_count, counting, emptying, settled, bounded, counted, repairing, lacks_room, victim_worn}
use Rattle.flash.proofs.Stores.{asked-append, exact_none, counts-erasures}
use Rattle.flash.proofs.Clearing.{erases-append, erases-none, erases-victim}
use Rattle.flash.proofs.Unused.{SparesUnused, spares-append, spares-none, spares-join, low-spares, slot-spares, erasing-spares}
use Rattle.flash.proofs.Erased.{erasing-asked}
use Rattle.flash.proofs.Reclaimed.{reclaimed}
use Rattle.cuts.proofs.Reclaims.{nothing_copied}
use Rattle.retiring.proofs.Retired.{clearing-asked, clearing-erasures}
use Rattle.restoring.proofs.Bounded.{bounding-asked, bounding-erasures}
use Rattle.restoring.proofs.Counted.{counting-asked, counting-erasures}
use Rattle.repairing.proofs.Mended.{settled-settling, settled-clear, bounded-bounding, bounded-settling, counted_ready}
use Rattle.repairing.proofs.Emptied.{emptying-is, TargetOrNone, target-or-none, emptied-in, emptied-below, none-emptied}
use Rattle.repairing.proofs.Costs.{repair-erasures}

-- steps from an image on, of which none erases another block than v
pub record Careful (geo : Geometry) (v : ℕ) (image : Image) (steps : List Step) : Type 0 where
  pub asked : leaves_asked geo image steps ≡ true
  pub spares : SparesUnused geo steps
  pub which : (b : ℕ) → erases_block steps b ≡ true → b ≡ v

module _ (geo : Geometry) (v : ℕ) where
  -- steps that erase nothing
  careful-programs :
      (image : Image) (steps : List Step) → leaves_asked geo image steps ≡ true → SparesUnused geo steps → erasures_in steps ≡ 0 → Careful geo v image steps
  careful-programs image steps asked spares none =
      record { asked = asked; spares = spares; which = λ b e. absurd (true≢false (sym e ∙ erases-none steps none b)) }

  careful-append :
      (image : Image) (xs ys : List Step) → Careful geo v image xs → Careful geo v (run geo image xs) ys → Careful geo v image (xs ++ ys)
  careful-append image xs ys p q =
      record {
        asked = asked-append geo image xs ys ∙ ap₂ ◌&&◌ p.asked q.asked;
        spares = spares-append geo xs ys p.spares q.spares;
        which = λ b e. go b (erases_block xs b) refl (sym (erases-append xs ys b) ∙ e);
      }
    where
      go : (b : ℕ) (x : Bool) → erases_block xs b ≡ x → (erases_block xs b || erases_block ys b) ≡ true → b ≡ v
      go b true here t = p.which b here
      go b false here t = q.which b (rw here at t)

-- ---- (i) to (iii): no unused word is programmed

-- steps that a test asks for, or none
spares-where : (geo : Geometry) (asks : Bool) (steps : List Step) → SparesUnused geo steps → SparesUnused geo (cond asks steps [])
spares-where geo true steps h = h
spares-where geo false steps h = spares-none geo

module _ (geo : Geometry) (within : Limits geo) (image : Image) where
  clearing-spares : SparesUnused geo (clearing geo image)
  unfolding clearing
  clearing-spares =
      spares-join geo geo.blocks _
      (λ b l. spares-join geo (d geo) (clears_slot geo image b) (λ i h. spares-where geo (superseded geo image b i) _ (slot-spares geo within b i _ h)))

  bounding-spares : SparesUnused geo (bounding geo image)
  unfolding bounding
  bounding-spares =
      spares-join geo geo.blocks _
      (λ b l.
      spares-append geo (sets_least geo image b) (sets_greatest geo image b)
      (spares-where geo (full geo image b && least_unset geo image b) _
      (low-spares geo within b least_word (or_zero geo image b (least_live geo image b)) (omega arith)))
      (spares-where geo (full geo image b && greatest_unset geo image b) _
      (low-spares geo within b greatest_word (or_zero geo image b (greatest_live geo image b)) (omega arith))))

  counting-spares : SparesUnused geo (counting geo image)
  unfolding counting
  counting-spares =
      spares-join geo geo.blocks (sets_count geo image)
      (λ b l. spares-where geo (count_unset geo image b) _ (low-spares geo within b erase_word _ (omega arith)))

-- ---- a repair that is not refused

module _
    (geo : Geometry) (image : Image) (shaped : Shaped geo image) (words : Words32 image) (mend : Mendable geo image)
    (roomy : lacks_room geo image ≡ false) (wearable : victim_worn geo image ≡ false)
  where
    abbrev v : ℕ
    v = emptiest geo image

    abbrev t : ℕ
    t = lowest_open geo image

    abbrev now : Image
    now = counted geo image

    -- (iv), where it is done: with something to copy and a block to copy it to, or with nothing
    reclaiming-careful : R6 geo image ≡ false → Careful geo v now (reclaiming geo now v t)
    unfolding reclaiming
    reclaiming-careful none = go (target-or-none geo image shaped words mend none roomy)
      where
        inside : v < geo.blocks
        inside = emptied-in geo image shaped words mend none roomy

        below : erase_count geo now v < ceiling
        below = emptied-below geo image shaped words mend none roomy wearable

        go : TargetOrNone geo image shaped words mend none roomy → Careful geo v now (reclaiming geo now v t)
        go (inl (target_in, apart, room)) =
            let r = reclaimed geo now v t (counted_ready geo image shaped words mend) inside target_in apart room below in
            record { asked = r.asked; spares = r.spares; which = r.which }
        go (inr (shut, nothing)) =
            rw (nothing_copied geo now v t nothing (d geo) (omega arith))
            (record {
              asked = erasing-asked geo now (counted_ready geo image shaped words mend) v (erase_count geo now v + 1) inside (omega (arith, below));
              spares = erasing-spares geo shaped.limits now v;
              which = erases-victim geo v (erase_count geo now v);
            })

    emptying-careful : Careful geo v now (emptying geo now)
    emptying-careful = go (R6 geo image) refl
      where
        go : (x : Bool) → R6 geo image ≡ x → Careful geo v now (emptying geo now)
        go true e =
            rw (none-emptied geo image shaped words mend roomy wearable e)
            (careful-programs geo v now [] (exact_none geo now).asked (spares-none geo) counts-erasures.none)
        go false e = rw (emptying-is geo image shaped words mend e) (reclaiming-careful e)

    pub repair-careful : Careful geo v image (repairing geo image)
    unfolding repairing settled bounded counted
    repair-careful =
        let s = (settled-settling geo image shaped words mend).mends in
        let b = (bounded-settling geo image shaped words mend).mends in
        let within = shaped.limits in
        careful-append geo v image (clearing geo image) _
        (careful-programs geo v image (clearing geo image) (clearing-asked geo image shaped words) (clearing-spares geo within image) (clearing-erasures geo image))
        (careful-append geo v (settled geo image) (bounding geo (settled geo image)) _
        (careful-programs geo v (settled geo image) (bounding geo (settled geo image))
        (bounding-asked geo (settled geo image) s.shaped s.mendable (settled-clear geo image shaped words mend))
        (bounding-spares geo within (settled geo image)) (bounding-erasures geo (settled geo image)))
        (careful-append geo v (bounded geo image) (counting geo (bounded geo image)) (emptying geo now)
        (careful-programs geo v (bounded geo image) (counting geo (bounded geo image))
        (counting-asked geo (bounded geo image) b.shaped b.mendable (bounded-bounding geo image shaped words mend).current)
        (counting-spares geo within (bounded geo image)) (counting-erasures geo (bounded geo image)))
        emptying-careful))

    -- a block is erased only where none is blank: once, and it is the emptiest
    pub repair-erases :
        (b : ℕ) → erases_block (repairing geo image) b ≡ true → (R6 geo image ≡ false) × (b ≡ v) × (erasures_in (repairing geo image) ≡ 1)
    repair-erases b e = go (R6 geo image) refl (repair-erasures geo image shaped words mend roomy wearable)
      where
        go :
            (x : Bool) →
            R6 geo image ≡ x →
            erasures_in (repairing geo image) ≡ one_if (not x) →
            (x ≡ false) × (b ≡ v) × (erasures_in (repairing geo image) ≡ 1)
        go true spare none = absurd (true≢false (sym e ∙ erases-none (repairing geo image) none b))
        go false spare once = (refl, repair-careful.which b e, once)
