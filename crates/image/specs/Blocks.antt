-- What the slots of a block say of the block, and the blocks that a write chooses by them.
use Rattle.std.specs.Prelude.{Bool, not, ◌&&◌, ◌||◌, ℕ, ltb, eqb}
use Rattle.ranges.specs.Range.{all_below, any_below, count_below, best_below, first_below}
use Rattle.geometry.specs.declared.Geometry.{Geometry}
use Rattle.geometry.specs.Geometry.{d}
use Rattle.image.specs.declared.Tally.{Tally}
use Rattle.image.specs.Words.{Image, erase_count}
use Rattle.image.specs.Slots.{slot, is_free, is_live, is_dead}

module _ (geo : Geometry) (image : Image) where
  -- blank, full and open, by the free slots (FORMAT.md, Slots and blocks)
  unfoldable pub blank : ℕ → Bool
  blank b = all_below (d geo) (λ i. is_free (slot geo image b i))

  unfoldable pub full : ℕ → Bool
  full b = not (any_below (d geo) (λ i. is_free (slot geo image b i)))

  abbrev pub is_open : ℕ → Bool
  is_open b = not (blank b) && not (full b)

  -- the free, live and dead slots of a block
  abbrev pub free_slots : ℕ → ℕ
  free_slots b = count_below (d geo) (λ i. is_free (slot geo image b i))

  abbrev pub live_slots : ℕ → ℕ
  live_slots b = count_below (d geo) (λ i. is_live (slot geo image b i))

  abbrev pub dead_slots : ℕ → ℕ
  dead_slots b = count_below (d geo) (λ i. is_dead (slot geo image b i))

  abbrev pub tally : ℕ → Tally
  tally b = record { free = free_slots b; live = live_slots b; dead = dead_slots b }

  -- the free slot that rule 1 takes: the first of the block; d where there is none
  unfoldable pub lowest_free : ℕ → ℕ
  lowest_free b = first_below (d geo) (λ i. is_free (slot geo image b i))

  -- the open block that rule 1 takes: the first; B where there is none
  unfoldable pub lowest_open : ℕ
  lowest_open = first_below geo.blocks is_open

  -- the blank block that rule 2 takes: the least worn, the first among equals; B where there is none
  abbrev pub less_worn : ℕ → ℕ → Bool
  less_worn b r = ltb (erase_count geo image b) (erase_count geo image r)

  unfoldable pub least_worn_blank : ℕ
  least_worn_blank = best_below less_worn geo.blocks blank

  -- the victim of rule 3: of the full blocks the one with most dead slots, the least worn among equals, and the first of those; B where
  -- there is none
  abbrev pub preferred : ℕ → ℕ → Bool
  preferred b r = ltb (dead_slots r) (dead_slots b) || eqb (dead_slots r) (dead_slots b) && less_worn b r

  unfoldable pub victim : ℕ
  victim = best_below preferred geo.blocks full
