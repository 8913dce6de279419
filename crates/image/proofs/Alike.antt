-- Two images that agree in part: what their slots, their blocks and the blocks that a write chooses have in common. Assumes nothing.
use mathlib.Core.Path.{◌≡◌, refl, ap, ap₂}
use mathlib.Core.Bool.{Bool, not, ◌&&◌}
use Prim.Native.Nat.{ℕ, ◌<◌}
use Rattle.ranges.specs.Range.{any_below}
use Rattle.ranges.proofs.Tests.{all-ext, any-ext}
use Rattle.ranges.proofs.Sums.{count-ext}
use Rattle.ranges.proofs.Searches.{best-ext}
use Rattle.geometry.specs.declared.Geometry.{Geometry}
use Rattle.geometry.specs.Geometry.{d}
use Rattle.image.specs.Words.{Image, map_bit, entry}
use Rattle.image.specs.Slots.{is_complete_for, number_in, slot_of, has_complete, superseded, own_slot, slot, is_free, is_live}
use Rattle.image.specs.Blocks.{blank, full, is_open, free_slots, live_slots, lowest_open}
use Rattle.image.specs.WellFormed.{R6}

module _ (geo : Geometry) (image after : Image) where
  -- ---- slots by their entries and map bits

  -- one slot by itself
  pub own-alike :
      (b i : ℕ) →
      entry geo after b i ≡ entry geo image b i →
      map_bit geo after b i ≡ map_bit geo image b i →
      own_slot geo after b i ≡ own_slot geo image b i
  unfolding own_slot
  own-alike b i e m = ap₂ (slot_of geo.logical) m e

  -- as one of the image, while the same numbers have complete entries
  module _ (completes : (n : ℕ) → has_complete geo after n ≡ has_complete geo image n) (b i : ℕ) (same : entry geo after b i ≡ entry geo image b i) where
    pub superseded-kept : superseded geo after b i ≡ superseded geo image b i
    unfolding superseded
    superseded-kept = rw (same, completes (number_in (entry geo image b i)))

    pub slot_kept : map_bit geo after b i ≡ map_bit geo image b i → slot geo after b i ≡ slot geo image b i
    unfolding slot
    slot_kept m = rw (superseded-kept, own-alike b i same m)

  -- which numbers have one, all the entries say
  module _ (entries : (b i : ℕ) → b < geo.blocks → i < d geo → entry geo after b i ≡ entry geo image b i) where
    complete-alike : (n : ℕ) → has_complete geo after n ≡ has_complete geo image n
    unfolding has_complete
    complete-alike n = any-ext geo.blocks (λ b l. any-ext (d geo) (λ i h. ap (is_complete_for n) (entries b i l h)))

    pub superseded-alike : (b i : ℕ) → b < geo.blocks → i < d geo → superseded geo after b i ≡ superseded geo image b i
    superseded-alike b i l h = superseded-kept complete-alike b i (entries b i l h)

    pub slot-alike :
        ((b i : ℕ) → b < geo.blocks → i < d geo → map_bit geo after b i ≡ map_bit geo image b i) →
        (b i : ℕ) →
        b < geo.blocks →
        i < d geo →
        slot geo after b i ≡ slot geo image b i
    slot-alike bits b i l h = slot_kept complete-alike b i (entries b i l h) (bits b i l h)

  -- ---- a block by its slots

  -- the same slots are free
  module _ (b : ℕ) (frees : (i : ℕ) → i < d geo → is_free (slot geo after b i) ≡ is_free (slot geo image b i)) where
    pub free-slots-alike : free_slots geo after b ≡ free_slots geo image b
    free-slots-alike = count-ext (d geo) frees

    pub blank-alike : blank geo after b ≡ blank geo image b
    unfolding blank
    blank-alike = all-ext (d geo) frees

    pub full-alike : full geo after b ≡ full geo image b
    unfolding full
    full-alike = ap not (any-ext (d geo) frees)

  -- the same slots are live
  pub live-slots-alike :
      (b : ℕ) → ((i : ℕ) → i < d geo → is_live (slot geo after b i) ≡ is_live (slot geo image b i)) → live_slots geo after b ≡ live_slots geo image b
  live-slots-alike b lives = count-ext (d geo) lives

  -- ---- the image by its blocks

  -- the same blocks are blank
  module _ (blanks : (b : ℕ) → b < geo.blocks → blank geo after b ≡ blank geo image b) where
    pub R6-alike : R6 geo after ≡ R6 geo image
    unfolding R6
    R6-alike = any-ext geo.blocks blanks

    -- the same are blank and the same full: so the same are open
    module _ (fulls : (b : ℕ) → b < geo.blocks → full geo after b ≡ full geo image b) where
      open-alike : (b : ℕ) → b < geo.blocks → is_open geo after b ≡ is_open geo image b
      open-alike b l = ap₂ (λ (x y : Bool). not x && not y) (blanks b l) (fulls b l)

      pub any-open-alike : any_below geo.blocks (is_open geo after) ≡ any_below geo.blocks (is_open geo image)
      any-open-alike = any-ext geo.blocks open-alike

      pub lowest-open-alike : lowest_open geo after ≡ lowest_open geo image
      unfolding lowest_open
      lowest-open-alike = best-ext geo.blocks open-alike (λ i r l m. refl)
