-- The rules of a block by the slots' own kinds, as one pass over an image asks them: every block keeps these exactly where the image is sound
-- (proofs/OwnLaws.antt). Of one block they need not say what its rules do: a slot that is live by its own entry may be superseded. Internal to
-- the check.
use Rattle.std.specs.Prelude.{Bool, ◌&&◌, ℕ}
use Rattle.geometry.specs.declared.Geometry.{Geometry}
use Rattle.image.specs.Words.{Image}
use Rattle.image.specs.Slots.{own_slot}
use Rattle.image.specs.WellFormed.{none_twice, bounds_kept, R1, R2, R3, R4}

module _ (geo : Geometry) (image : Image) where
  -- R2 to R5
  abbrev pub four_by_own : ℕ → Bool
  four_by_own b = R2 geo image b && R3 geo image b && R4 geo image b && none_twice geo (own_slot geo image) b

  -- with R1 and R7. R8 asks nothing: no slot is superseded by its own entry
  abbrev pub sound_by_own : ℕ → Bool
  sound_by_own b =
      R1 geo image b
      && R2 geo image b
      && R3 geo image b
      && R4 geo image b
      && none_twice geo (own_slot geo image) b
      && bounds_kept geo image (own_slot geo image) b
