-- K2: the table that a write or a release leaves, whatever it held before (FORMAT.md, The lookup table).
use Rattle.std.specs.Prelude.{cond, ℕ, zero, suc}
use Rattle.geometry.specs.declared.Geometry.{Geometry}
use Rattle.geometry.specs.Geometry.{d}
use Rattle.image.specs.Found.{At, Nothing}
use Rattle.image.specs.Words.{Image}
use Rattle.image.specs.Slots.{slot}
use Rattle.image.specs.Blocks.{lowest_free, least_worn_blank, victim}
use Rattle.tables.specs.Tables.{Table, noted, slot_noted}
use Rattle.flash.specs.Steps.{run}
use Rattle.flash.specs.Writing.{next_slot, must_reclaim, at_turn, reclaiming}

module _ (geo : Geometry) where
  -- the copying of a reclaim, for the first m slots of v: the number of each live one is noted where it is placed, in block t
  unfoldable pub table_copied : Image → ℕ → ℕ → Table → ℕ → Table
  table_copied image v t table zero = table
  table_copied image v t table (suc m) =
      let now = at_turn geo image v t m in
      slot_noted geo (table_copied image v t table m) (slot geo now v m) (At t (lowest_free geo now t))

  -- the reclaim of block v: the erasing moves no number
  unfoldable pub table_reclaimed : Image → ℕ → Table → Table
  table_reclaimed image v table = table_copied image v (least_worn_blank geo image) table (d geo)

  -- rules 1 and 2: the number of the write is noted in the slot that they take
  unfoldable pub table_filled : Image → ℕ → Table → Table
  table_filled image n table = noted geo table n (next_slot geo image)

  -- rule 3, with the victim v, and then rule 1 or 2 on the image that the reclaim leaves
  unfoldable pub table_reclaimed_first : Image → ℕ → ℕ → Table → Table
  table_reclaimed_first image v n table = table_filled (run geo image (reclaiming geo image v (least_worn_blank geo image))) n (table_reclaimed image v table)

  -- a write of n
  unfoldable pub table_written : Image → ℕ → Table → Table
  table_written image n table =
      cond (must_reclaim geo image) (table_reclaimed_first image (victim geo image) n table) (table_filled image n table)

  -- a release of n
  unfoldable pub table_released : ℕ → Table → Table
  table_released n table = noted geo table n Nothing
