-- K4: what a repair can mend (FORMAT.md, Repair): what is left of the rules where the four faults are let pass, a superseded slot (i), words 1 and 2
-- of a full block that were not programmed (ii), the count of a blank block that was not (iii), and that no block is blank (iv).
use Rattle.std.specs.Prelude.{Bool, cond, ◌&&◌, ◌||◌, ℕ, leb, ltb, eqb}
use Rattle.ranges.specs.Range.{all_below, count_below, best_below}
use Rattle.bits.specs.Word.{ones}
use Rattle.geometry.specs.declared.Geometry.{Geometry}
use Rattle.image.specs.Words.{Image, erase_count, least_mapped, greatest_mapped}
use Rattle.image.specs.Slots.{slot}
use Rattle.image.specs.Blocks.{blank, full, live_slots, less_worn}
use Rattle.image.specs.WellFormed.{outside, none_with, bounds_blank, R1, R2, R3, R4, R5}

module _ (geo : Geometry) (image : Image) where
  -- (ii): word 1 of block b is not programmed, and word 2 likewise
  abbrev pub least_unset : ℕ → Bool
  least_unset b = eqb (least_mapped geo image b) ones

  abbrev pub greatest_unset : ℕ → Bool
  greatest_unset b = eqb (greatest_mapped geo image b) ones

  -- (iii): block b is blank, and was not given its count
  unfoldable pub count_unset : ℕ → Bool
  count_unset b = blank geo image b && eqb (erase_count geo image b) ones

  -- what is left of R7: in a full block each of words 1 and 2 that is programmed bounds the live numbers. (No number is above a word 2 that is not.)
  abbrev pub least_bound : ℕ → ℕ
  least_bound b = cond (least_unset b) 0 (least_mapped geo image b)

  unfoldable pub bounds_mendable : ℕ → Bool
  bounds_mendable b =
      cond (full geo image b)
      (none_with geo (slot geo image) (outside (least_bound b) (greatest_mapped geo image b)) b)
      (bounds_blank geo image b)

  -- a block without any other fault, and an image whose blocks all are so, with (iii) in one of them at most
  unfoldable pub mendable_block : ℕ → Bool
  mendable_block b =
      (R1 geo image b || count_unset b) && R2 geo image b && R3 geo image b && R4 geo image b && R5 geo image b && bounds_mendable b

  unfoldable pub mendable : Bool
  mendable = all_below geo.blocks mendable_block && leb (count_below geo.blocks count_unset) 1

  -- (iv): the block that is emptied, told before (i): of the full blocks the one with fewest live slots, the least worn among equals, and the first of
  -- those; B where there is none. It is the victim of the image that (i) leaves, where a slot of a full block is live or dead.
  abbrev pub emptier : ℕ → ℕ → Bool
  emptier b r = ltb (live_slots geo image b) (live_slots geo image r) || eqb (live_slots geo image b) (live_slots geo image r) && less_worn geo image b r

  unfoldable pub emptiest : ℕ
  emptiest = best_below emptier geo.blocks (full geo image)
