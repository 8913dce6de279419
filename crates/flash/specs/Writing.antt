-- A write as a list of steps: rules 1, 2 and 3 (FORMAT.md, Writing).
use Rattle.std.specs.Prelude.{Bool, true, not, cond, ◌&&◌, List, [], ◌∷◌, ◌++◌, ◌≡◌, ℕ, zero, suc, ◌+◌, ◌<◌, eqb}
use Rattle.ranges.specs.Range.{any_below, count_below}
use Rattle.geometry.specs.declared.Geometry.{Geometry}
use Rattle.geometry.specs.Geometry.{d}
use Rattle.geometry.specs.Places.{place, erase_word}
use Rattle.image.specs.Found.{Found}
use Rattle.image.specs.Found.{At, Nothing}
use Rattle.image.specs.declared.Slot.{Slot}
use Rattle.image.specs.declared.Slot.TheVariants.{Free, Live, Dead, Faulty, Superseded}
use Rattle.image.specs.Words.{Image, erase_count, contents}
use Rattle.image.specs.Slots.{slot, find}
use Rattle.image.specs.Blocks.{blank, is_open, lowest_free, lowest_open, least_worn_blank, victim}
use Rattle.image.specs.WellFormed.{ceiling, sound}
use Rattle.flash.specs.declared.Step.{Step}
use Rattle.flash.specs.declared.Step.TheVariants.{Program, Erase}
use Rattle.flash.specs.Steps.{run}
use Rattle.flash.specs.Placing.{placing}

-- how a write goes about it: by rule 1 or 2; by rule 3 with this victim; or not, since the victim's count is at the ceiling
pub data Plan : Type 0 where
  Fill : Plan
  Reclaim : ℕ → Plan
  Worn : Plan

module _ (geo : Geometry) where
  -- rule 1: the first free slot of the first open block
  abbrev pub open_slot : Image → Found
  open_slot image = At (lowest_open geo image) (lowest_free geo image (lowest_open geo image))

  -- rule 2: slot 0 of the least worn blank block
  abbrev pub blank_slot : Image → Found
  blank_slot image = At (least_worn_blank geo image) 0

  abbrev pub any_open : Image → Bool
  any_open image = any_below geo.blocks (is_open geo image)

  -- the slot of the next write: by rule 1 where a block is open, and else by rule 2. It is always a place, never `Nothing`
  abbrev pub next_slot : Image → Found
  next_slot image = cond (any_open image) (open_slot image) (blank_slot image)

  -- n placed in a slot that is given as a place
  abbrev pub placing_at : Image → ℕ → List ℕ → Found → List Step
  placing_at image n ws (At b i) = placing geo image n ws b i
  placing_at image n ws Nothing = []

  -- rules 1 and 2: n placed in that slot
  unfoldable pub filling : Image → ℕ → List ℕ → List Step
  filling image n ws = placing_at image n ws (next_slot image)

  -- rule 3 applies: no block is open, and a single one is blank
  unfoldable pub must_reclaim : Image → Bool
  must_reclaim image = not (any_open image) && eqb (count_below geo.blocks (blank geo image)) 1

  -- slot i of block v, as the image now stands, placed in the lowest free slot of block t if it is live
  abbrev pub copied_slot : Image → ℕ → ℕ → ℕ → Slot → List Step
  copied_slot now v t i Free = []
  copied_slot now v t i (Live n) = placing geo now n (contents geo now v i) t (lowest_free geo now t)
  copied_slot now v t i Dead = []
  copied_slot now v t i Faulty = []
  copied_slot now v t i Superseded = []

  -- the copying of a reclaim, for the first m slots of v: the live ones go to the lowest free slots of t, each in its turn; of a blank block these
  -- are slots 0, 1, ..
  unfoldable pub copying : Image → ℕ → ℕ → ℕ → List Step
  copying image v t zero = []
  copying image v t (suc m) =
      let before = copying image v t m in
      let now = run geo image before in
      before ++ copied_slot now v t m (slot geo now v m)

  -- the image when slot m of v has its turn
  abbrev pub at_turn : Image → ℕ → ℕ → ℕ → Image
  at_turn image v t m = run geo image (copying image v t m)

  -- Each slot of v in its turn: the image is sound then; and where the slot is live, its number is found there, and a slot of t is free for it. So
  -- wherever t has a free slot for each live one of v (proofs/Moving: each-in-turn), as the blank block of every reclaim of a well-formed image has.
  pub record EachInTurn (image : Image) (v t : ℕ) : Type 0 where
    pub sound_then : (m : ℕ) → m < d geo → sound geo (at_turn image v t m) ≡ true
    pub found_there : (m n : ℕ) → m < d geo → slot geo (at_turn image v t m) v m ≡ Live n → find geo (at_turn image v t m) n ≡ At v m
    pub room_there : (m n : ℕ) → m < d geo → slot geo (at_turn image v t m) v m ≡ Live n → lowest_free geo (at_turn image v t m) t < d geo

  -- the end of a reclaim: v is erased, and its word 0 programmed with one more than it was
  abbrev pub erases_victim : ℕ → ℕ → List Step
  erases_victim v count = Erase v ∷ Program (place geo v erase_word) (count + 1) ∷ []

  abbrev pub erasing : Image → ℕ → List Step
  erasing image v = erases_victim v (erase_count geo image v)

  -- the reclaim of block v into block t
  unfoldable pub reclaiming : Image → ℕ → ℕ → List Step
  reclaiming image v t = copying image v t (d geo) ++ erasing image v

  -- rule 3, with the victim v: the reclaim into the blank block, which is the least worn as there is a single one, and then rule 1 or 2 on the
  -- image that it leaves
  unfoldable pub reclaiming_first : Image → ℕ → ℕ → List ℕ → List Step
  reclaiming_first image v n ws =
      let reclaimed = reclaiming image v (least_worn_blank geo image) in
      reclaimed ++ filling (run geo image reclaimed) n ws

  -- a write of n with the contents ws
  unfoldable pub writing : Image → ℕ → List ℕ → List Step
  writing image n ws =
      cond (must_reclaim image) (reclaiming_first image (victim geo image) n ws) (filling image n ws)

  -- how a write goes about it: by rule 1 or 2, or by rule 3 unless the victim's count is at the ceiling
  unfoldable pub planned : Image → Plan
  planned image =
      cond (must_reclaim image)
      (cond (eqb (erase_count geo image (victim geo image)) ceiling) Worn (Reclaim (victim geo image)))
      Fill
