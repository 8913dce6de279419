-- K4: a repair as a list of steps, (i) to (iv) in this order, and what it decides before the first of them (FORMAT.md, Repair).
use Rattle.std.specs.Prelude.{Bool, not, cond, ◌&&◌, ◌||◌, List, [], ◌∷◌, ◌++◌, ℕ, leb, ltb, eqb}
use Rattle.ranges.specs.Range.{join_below, largest_below}
use Rattle.geometry.specs.declared.Geometry.{Geometry}
use Rattle.geometry.specs.Geometry.{d}
use Rattle.geometry.specs.Places.{place, erase_word, least_word, greatest_word}
use Rattle.image.specs.Found.{At}
use Rattle.image.specs.Words.{Image, erase_count}
use Rattle.image.specs.Slots.{superseded}
use Rattle.image.specs.Blocks.{full, free_slots, live_slots, lowest_open, victim}
use Rattle.image.specs.WellFormed.{ceiling, R6}
use Rattle.image.specs.Mending.{least_unset, greatest_unset, count_unset}
use Rattle.flash.specs.declared.Step.{Step}
use Rattle.flash.specs.declared.Step.TheVariants.{Program}
use Rattle.flash.specs.Steps.{run}
use Rattle.flash.specs.Placing.{least_live, greatest_live, invalidates}
use Rattle.flash.specs.Writing.{any_open, reclaiming}

module _ (geo : Geometry) (image : Image) where
  -- (i): the entry of a superseded slot is made invalid, as by a release; block by block, slot by slot
  abbrev pub clears_slot : ℕ → ℕ → List Step
  clears_slot b i = cond (superseded geo image b i) (invalidates geo image (At b i)) []

  unfoldable pub clearing : List Step
  clearing = join_below geo.blocks (λ b. join_below (d geo) (clears_slot b))

  -- (ii): in a full block each of words 1 and 2 that is not programmed, with what (g) would ask for, or with 0 where no number is live
  abbrev pub or_zero : ℕ → ℕ → ℕ
  or_zero b bound = cond (eqb (live_slots geo image b) 0) 0 bound

  abbrev pub sets_least : ℕ → List Step
  sets_least b =
      cond (full geo image b && least_unset geo image b) (Program (place geo b least_word) (or_zero b (least_live geo image b)) ∷ []) []

  abbrev pub sets_greatest : ℕ → List Step
  sets_greatest b =
      cond (full geo image b && greatest_unset geo image b) (Program (place geo b greatest_word) (or_zero b (greatest_live geo image b)) ∷ []) []

  unfoldable pub bounding : List Step
  bounding = join_below geo.blocks (λ b. sets_least b ++ sets_greatest b)

  -- (iii): a blank block that was not given its count gets the largest that another block has
  abbrev pub largest_other : ℕ → ℕ
  largest_other b = largest_below geo.blocks (λ c. cond (eqb c b) 0 (erase_count geo image c))

  abbrev pub sets_count : ℕ → List Step
  sets_count b = cond (count_unset geo image b) (Program (place geo b erase_word) (largest_other b) ∷ []) []

  unfoldable pub counting : List Step
  counting = join_below geo.blocks sets_count

  -- (iv): where no block is blank, the victim is reclaimed into the first open block
  unfoldable pub emptying : List Step
  emptying = cond (R6 geo image) [] (reclaiming geo image (victim geo image) (lowest_open geo image))

  -- the free slots of that open block, 0 where none is open
  abbrev pub room_in : ℕ
  room_in = cond (any_open geo image) (free_slots geo image (lowest_open geo image)) 0

module _ (geo : Geometry) (image : Image) where
  -- the image when (i) is done, then (ii), then (iii)
  unfoldable pub settled : Image
  settled = run geo image (clearing geo image)

  unfoldable pub bounded : Image
  bounded = run geo settled (bounding geo settled)

  unfoldable pub counted : Image
  counted = run geo bounded (counting geo bounded)

  -- a repair: each of the four on the image that those before it leave
  unfoldable pub repairing : List Step
  repairing = clearing geo image ++ (bounding geo settled ++ (counting geo bounded ++ emptying geo counted))

  -- Decided before the first step, by the image as (i) would leave it. There is no room (refusal 10) where (iv) is to be done and no block is full, or
  -- the first open block has fewer free slots than the victim has live ones.
  unfoldable pub lacks_room : Bool
  lacks_room =
      not (R6 geo settled)
      && (leb geo.blocks (victim geo settled) || ltb (room_in geo settled) (live_slots geo settled (victim geo settled)))

  -- and the victim's count is at the ceiling (refusal 6)
  unfoldable pub victim_worn : Bool
  victim_worn = not (R6 geo settled) && eqb (erase_count geo settled (victim geo settled)) ceiling
