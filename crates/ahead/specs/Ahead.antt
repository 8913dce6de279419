-- What the code of a write's steps goes by: the live slot of a reclaim's victim that is copied as the r-th, and a placing that lies in an image.
use Rattle.std.specs.Prelude.{◌&&◌, ℕ, ◌<◌, eqb}
use Rattle.ranges.specs.Range.{first_below}
use Rattle.geometry.specs.declared.Geometry.{Geometry}
use Rattle.geometry.specs.Geometry.{d}
use Rattle.image.specs.Words.{Image}
use Rattle.image.specs.Slots.{slot, is_live}
use Rattle.flash.specs.declared.Placement.{Placement}
use Rattle.flash.specs.Placing.{InImage}
use Rattle.flash.specs.Ahead.{live_before}

module _ (geo : Geometry) where
  -- the live slot of block v that has r live ones before it; d where there is none
  unfoldable pub nth_live : Image → ℕ → ℕ → ℕ
  nth_live image v r = first_below (d geo) (λ m. is_live (slot geo image v m) && eqb (live_before geo image v m) r)

-- its number, its slot and that of the old entry are the image's
pub record Placeable (geo : Geometry) (p : Placement) : Type 0 where
  pub number_is : p.number < geo.logical
  pub block_is : p.block < geo.blocks
  pub slot_is : p.slot < d geo
  pub old_is : InImage geo p.old
