-- R1 to R5, R7 and R8 as tests of one block, R6 of the image (FORMAT.md, Rules of a well-formed image).
use Rattle.std.specs.Prelude.{Bool, true, false, not, cond, ◌&&◌, ◌||◌, List, ◌≡◌, ℕ, ◌+◌, ◌*◌, ◌-◌, ◌<◌, leb, eqb, get_or}
use Rattle.ranges.specs.Range.{◌implies◌, all_below, any_below}
use Rattle.bits.specs.Word.{ones}
use Rattle.geometry.specs.declared.Geometry.{Geometry}
use Rattle.geometry.specs.Geometry.{d, k, sector_words}
use Rattle.image.specs.Words.{Image, erase_count, least_mapped, greatest_mapped, map_bit, entry, contents}
use Rattle.image.specs.declared.Slot.{Slot}
use Rattle.image.specs.Slots.{slot, superseded, is_free_entry, is_free, is_faulty, is_live_with, is_live_for}
use Rattle.image.specs.Blocks.{blank, full}

-- the ceiling: the highest erase count that a block can have
abbrev pub ceiling : ℕ
ceiling = 1_000_000

-- a sector as an erasure leaves it
abbrev pub all_ones : List ℕ → Bool
all_ones ws = all_below sector_words (λ j. eqb (get_or ws j 0) ones)

-- a number that does not lie between two words
abbrev pub outside : ℕ → ℕ → ℕ → Bool
outside least greatest n = not (leb least n && leb n greatest)

-- Rules about the live numbers of a block, whatever the kinds of the slots are taken from: R5 and R7 take them from `slot`.
module _ (geo : Geometry) (kind : ℕ → ℕ → Slot) where
  -- n is live in a slot before slot i of block b: in an earlier block, or earlier in this one
  abbrev pub live_before : ℕ → ℕ → ℕ → Bool
  live_before b i n = any_below b (λ c. any_below (d geo) (λ j. is_live_for n (kind c j))) || any_below i (λ j. is_live_for n (kind b j))

  -- no live number of block b passes a test
  abbrev pub none_with : (ℕ → Bool) → ℕ → Bool
  none_with f b = all_below (d geo) (λ i. not (is_live_with f (kind b i)))

  -- none is live a second time in block b
  abbrev pub none_twice : ℕ → Bool
  none_twice b = all_below (d geo) (λ i. not (is_live_with (live_before b i) (kind b i)))

module _ (geo : Geometry) (image : Image) where
  -- R1: the erase count is not above the ceiling
  unfoldable pub R1 : ℕ → Bool
  R1 b = leb (erase_count geo image b) ceiling

  -- R2: the map has no bit set for an entry in use, and those that belong to no slot are set
  abbrev pub map_agrees : ℕ → Bool
  map_agrees b = all_below (d geo) (λ i. map_bit geo image b i implies is_free_entry (entry geo image b i))

  abbrev pub rest_set : ℕ → Bool
  rest_set b = all_below (32 * k geo - d geo) (λ j. map_bit geo image b (d geo + j))

  unfoldable pub R2 : ℕ → Bool
  R2 b = map_agrees b && rest_set b

  -- R3: the contents of a free slot are as an erasure leaves them, so that any contents can be programmed there
  unfoldable pub R3 : ℕ → Bool
  R3 b = all_below (d geo) (λ i. is_free (slot geo image b i) implies all_ones (contents geo image b i))

  -- R4: no slot is faulty
  unfoldable pub R4 : ℕ → Bool
  R4 b = all_below (d geo) (λ i. not (is_faulty (slot geo image b i)))

  -- R5, of block b: none of its numbers is live in an earlier slot of the block, or in an earlier block
  unfoldable pub R5 : ℕ → Bool
  R5 = none_twice geo (slot geo image)

  -- R6: some block is blank, so that a reclaim has where to copy to
  unfoldable pub R6 : Bool
  R6 = any_below geo.blocks (blank geo image)

  -- R7: words 1 and 2 are not programmed while a slot is free; in a full block both are, and they bound its live numbers
  abbrev pub bounds_blank : ℕ → Bool
  bounds_blank b = eqb (least_mapped geo image b) ones && eqb (greatest_mapped geo image b) ones

  abbrev pub bounds_set : ℕ → Bool
  bounds_set b = not (eqb (least_mapped geo image b) ones || eqb (greatest_mapped geo image b) ones)

  abbrev pub out_of_bounds : ℕ → ℕ → Bool
  out_of_bounds b = outside (least_mapped geo image b) (greatest_mapped geo image b)

  abbrev pub bounds_kept : (ℕ → ℕ → Slot) → ℕ → Bool
  bounds_kept kind b = cond (full geo image b) (bounds_set b && none_with geo kind (out_of_bounds b) b) (bounds_blank b)

  unfoldable pub R7 : ℕ → Bool
  R7 = bounds_kept (slot geo image)

  -- R8 (K4): no slot is superseded
  unfoldable pub R8 : ℕ → Bool
  R8 b = not (any_below (d geo) (superseded geo image b))

  -- a block that meets its seven rules, and an image whose blocks all do: what every placing keeps
  unfoldable pub sound_block : ℕ → Bool
  sound_block b = R1 b && R2 b && R3 b && R4 b && R5 b && R7 b && R8 b

  unfoldable pub sound : Bool
  sound = all_below geo.blocks sound_block

  -- well formed: all eight rules
  unfoldable pub well_formed : Bool
  well_formed = sound && R6

  -- the number of the first of R1 to R5, R7 and R8 that block b breaks, in that order; 0 where it keeps them all
  unfoldable pub broken_rule : ℕ → ℕ
  broken_rule b =
      cond (not (R1 b)) 1
      (cond (not (R2 b)) 2
      (cond (not (R3 b)) 3
      (cond (not (R4 b)) 4
      (cond (not (R5 b)) 5
      (cond (not (R7 b)) 7
      (cond (not (R8 b)) 8
      0))))))

-- R2 holds of every block: a map bit is set exactly where its slot is free (proofs/Reading: map-says)
pub record MapsAgree (geo : Geometry) (image : Image) : Type 0 where
  pub agrees : (b : ℕ) → b < geo.blocks → R2 geo image b ≡ true

-- R8 holds of every block: each slot is what its own entry and map bit say
pub record NoneSuperseded (geo : Geometry) (image : Image) : Type 0 where
  pub none : (b i : ℕ) → b < geo.blocks → i < d geo → superseded geo image b i ≡ false
