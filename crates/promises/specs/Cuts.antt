-- K4: what a cut of the supply between two steps can do, and what a repair makes of it (FORMAT.md, Repair). proofs/Cuts.antt proves each statement
-- under its name in small letters.
use Rattle.std.specs.Prelude.{true, not, cond, ◌&&◌, ◌≡◌, ◌⊎◌, List, [], ◌∷◌, ℕ, ◌+◌, ◌-◌, ◌*◌, ◌≤◌, max, ltb, eqb}
use Rattle.ranges.specs.Range.{one_if, sum_below, count_below}
use Rattle.geometry.specs.declared.Geometry.{Geometry}
use Rattle.geometry.specs.Geometry.{d, g}
use Rattle.image.specs.Words.{Image, Words32}
use Rattle.image.specs.Slots.{superseded, map_of}
use Rattle.image.specs.Blocks.{full, free_slots, live_slots, lowest_open}
use Rattle.image.specs.WellFormed.{R6, well_formed}
use Rattle.image.specs.Mending.{least_unset, greatest_unset, count_unset, emptiest}
use Rattle.flash.specs.declared.Step.{Step}
use Rattle.flash.specs.Steps.{run, erasures_in, first_of}
use Rattle.answers.specs.Answers.{Accepted}
use Rattle.calls.specs.Refusals.{check_answer, repair_answer}
use Rattle.calls.specs.Calls.{write_steps, release_steps, repair_steps, repair_outcome, repaired}

-- the call that is cut first: a write of these words as this number, or a release of it
pub data Changing : Type 0 where
  Write : ℕ → List ℕ → Changing
  Release : ℕ → Changing

-- the words of a buffer to write are of 32 bits, as those of every slice are
abbrev pub OfWords : Changing → Type 0
OfWords (Write n buffer) = Words32 buffer
OfWords (Release n) = Unit {0}

-- how it stands after some cuts: the image, the cuts since the last erasure or, before any, since the call began, and the most that these ever were
pub record Cut : Type 0 where
  pub image : Image
  pub since : ℕ
  pub most : ℕ

module _ (geo : Geometry) where
  -- the steps of the call, from the image before it
  unfoldable pub changing : Image → Changing → List Step
  changing image (Write n buffer) = write_steps geo image n buffer
  changing image (Release n) = release_steps geo image n

  -- one cut more: of these steps only the first j are done. Where they erased a block, this cut is the first since
  unfoldable pub cut_after : Cut → ℕ → List Step → Cut
  cut_after s j steps =
      let done = first_of j steps in
      let cuts = cond (eqb (erasures_in done) 0) (s.since + 1) 1 in
      record { image = run geo s.image done; since = cuts; most = max s.most cuts }

  -- one repair after the other, each cut after its number of steps
  unfoldable pub repairs_cut : Cut → List ℕ → Cut
  repairs_cut s [] = s
  repairs_cut s (j ∷ js) = repairs_cut (cut_after s j (repair_steps geo s.image)) js

  -- the call cut after j steps, and then the repairs after theirs
  abbrev pub after_cuts : Image → Changing → ℕ → List ℕ → Cut
  after_cuts image call j js = repairs_cut (cut_after (record { image = image; since = 0; most = 0 }) j (changing image call)) js

  -- the image that the call would have left
  abbrev pub changed : Image → Changing → Image
  changed image call = run geo image (changing image call)

  -- two images have the same map, for all numbers at once
  abbrev pub SameMap : Image → Image → Type 0
  SameMap image other = (m : ℕ) → map_of geo image m ≡ map_of geo other m

-- From a well-formed image: a write or a release is cut after any step, and so is any number of repairs after it, with at most g cuts since the last
-- erasure at any time. Then a repair that is not cut is accepted, and leaves a well-formed image, whose map is the one before the call or the one after
-- it. That no victim is at the ceiling need not be asked: an accepted write has seen to it of its own victim, and a repair takes no other.
abbrev pub CutsAreMended : Type 0
CutsAreMended =
    (geo : Geometry) (image : Image) (call : Changing) (j : ℕ) (js : List ℕ) →
    Words32 image →
    OfWords call →
    check_answer geo image ≡ Accepted →
    let cut : Cut = after_cuts geo image call j js in
    cut.most ≤ g geo →
    let end : Image = repaired geo cut.image in
    (repair_answer geo cut.image ≡ Accepted)
    × (well_formed geo end ≡ true)
    × (SameMap geo end image ⊎ SameMap geo end (changed geo image call))

-- An accepted repair, of whatever image, leaves a well-formed one, and the map as it was; after each of its steps too.
abbrev pub RepairKeepsTheMap : Type 0
RepairKeepsTheMap =
    (geo : Geometry) (image : Image) →
    Words32 image →
    repair_answer geo image ≡ Accepted →
    (well_formed geo (repaired geo image) ≡ true)
    × ((j : ℕ) → SameMap geo (run geo image (first_of j (repair_steps geo image))) image)

-- A repair of a well-formed image is accepted, and has no step.
abbrev pub NothingToRepair : Type 0
NothingToRepair =
    (geo : Geometry) (image : Image) → check_answer geo image ≡ Accepted → (repair_answer geo image ≡ Accepted) × (repair_steps geo image ≡ [])

module _ (geo : Geometry) (image : Image) where
  -- what (i), (ii) and (iii) of a repair program: a word for each superseded slot, for each of words 1 and 2 of a full block that was not
  -- programmed, and for a count that was not
  abbrev pub words_to_mend : ℕ
  words_to_mend =
      sum_below geo.blocks (λ b. count_below (d geo) (superseded geo image b))
      + sum_below geo.blocks (λ b. one_if (full geo image b && least_unset geo image b) + one_if (full geo image b && greatest_unset geo image b))
      + count_below geo.blocks (count_unset geo image)

  -- what (iv) programs: 133 words for each copy, 2 more where the copies fill the open block, and the new count
  abbrev pub live_to_move : ℕ
  live_to_move = live_slots geo image (emptiest geo image)

  abbrev pub fills_the_open_block : ℕ
  fills_the_open_block = one_if (ltb 0 live_to_move && eqb (free_slots geo image (lowest_open geo image)) live_to_move)

  abbrev pub words_to_empty : ℕ
  words_to_empty = cond (R6 geo image) 0 (133 * live_to_move + 2 * fills_the_open_block + 1)

-- What an accepted repair costs, to the word; and so how much at most: a block is erased where none was blank, and B·d + 2·B + 133·(d − 1) + 3 words
-- are programmed at most.
abbrev pub RepairCosts : Type 0
RepairCosts =
    (geo : Geometry) (image : Image) →
    Words32 image →
    repair_answer geo image ≡ Accepted →
    ((repair_outcome geo image).erasures ≡ one_if (not (R6 geo image)))
    × ((repair_outcome geo image).words ≡ words_to_mend geo image + words_to_empty geo image)
    × ((repair_outcome geo image).words ≤ geo.blocks * d geo + 2 * geo.blocks + 133 * (d geo - 1) + 3)
