-- K4: what a repair costs that is not refused, to the word; and so how much at most. Assumes nothing.
use mathlib.Core.Path.{◌≡◌, refl, sym, ap, ◌∙◌}
use mathlib.Core.Bool.{Bool, true, false, not, cond, ◌&&◌}
use mathlib.Core.List.{◌++◌}
use Prim.Native.Nat.{ℕ, zero, suc, ◌+◌, ◌-◌, ◌*◌, ◌<◌, ◌≤◌}
use native.Mathlib.Decide.{ℕ_discrete}
use native.Mathlib.Omega.{arith}
use lib.Dec.{ltb, eqb}
use lib.ListN.{length}
use borrow.Author.Tests.{lt-ltb, eqb-false, ne_eqb, not-true}
use Rattle.ranges.specs.Range.{one_if, sum_below, count_below}
use Rattle.ranges.proofs.Tests.{both-pass}
use Rattle.ranges.proofs.Sums.{sum-ext, sum_bound, one-if-le, count-ext, count-le, count-fails, count-at-most-one}
use Rattle.geometry.specs.declared.Geometry.{Geometry}
use Rattle.geometry.specs.Geometry.{d}
use Rattle.image.specs.Words.{Image, Shaped, Words32, least_mapped, greatest_mapped}
use Rattle.image.specs.Slots.{slot, is_free, is_live, superseded}
use Rattle.image.specs.Blocks.{blank, full, free_slots, live_slots, lowest_open}
use Rattle.image.specs.WellFormed.{R6}
use Rattle.image.specs.Mending.{least_unset, greatest_unset, count_unset, emptiest}
use Rattle.image.proofs.Reading.{blank-count}
use Rattle.image.proofs.Mending.{Mendable}
use Rattle.flash.specs.Steps.{words_in, erasures_in}
use Rattle.flash.specs.Writing.{reclaiming}
use Rattle.flash.specs.Ahead.{filled_by_copies}
use Rattle.flash.specs.Repairing.{clearing, bounding, counting, emptying, settled, bounded, counted, repairing, lacks_room, victim_worn}
use Rattle.flash.proofs.Stores.{counts-words, counts-erasures, words_append, erasures-append}
use Rattle.flash.proofs.Parts.{steps-counted}
use Rattle.flash.proofs.CopiesInto.{Emptiable, reclaiming-long}
use Rattle.flash.proofs.Reclaimed.{reclaimed}
use Rattle.cuts.proofs.Reclaims.{nothing_copied}
use Rattle.retiring.proofs.Retired.{settled-retired, clearing-words}
use Rattle.restoring.proofs.Bounded.{bounding-words}
use Rattle.restoring.proofs.Counted.{counting-words, counting-unless-blank}
use Rattle.repairing.proofs.Mended.{Settling, settled-settling, bounded-bounding, bounded-settling, counted-settling}
use Rattle.repairing.specs.Planned.{mending}
use Rattle.repairing.proofs.Mended.{repairing-parts, mending-erasures}
use Rattle.repairing.proofs.Emptied.{emptying-is, target-open, emptied-able, emptied-below, none-emptied}

-- ---- what there is to do

module _ (geo : Geometry) (image : Image) where
  -- a word for each superseded slot (i), for each of words 1 and 2 of a full block that was not programmed (ii), and for a count that was not (iii)
  abbrev pub to_clear : ℕ
  to_clear = sum_below geo.blocks (λ b. count_below (d geo) (superseded geo image b))

  abbrev pub to_bound : ℕ
  to_bound =
      sum_below geo.blocks (λ b. one_if (full geo image b && least_unset geo image b) + one_if (full geo image b && greatest_unset geo image b))

  abbrev pub to_count : ℕ
  to_count = count_below geo.blocks (count_unset geo image)

  -- (iv): 133 words for each copy, two more where the copies fill the open block, and the new count
  abbrev pub to_move : ℕ
  to_move = live_slots geo image (emptiest geo image)

  abbrev pub fills_open : Bool
  fills_open = ltb 0 to_move && eqb (free_slots geo image (lowest_open geo image)) to_move

  abbrev pub to_empty : ℕ
  to_empty = cond (R6 geo image) 0 (133 * to_move + 2 * one_if fills_open + 1)

-- how many they are at most
module _ (geo : Geometry) (image : Image) where
  clear-most : to_clear geo image ≤ geo.blocks * d geo
  clear-most = sum_bound geo.blocks (d geo) (λ b l. count-le (d geo) (superseded geo image b))

  bound-most : to_bound geo image ≤ geo.blocks * 2
  bound-most =
      sum_bound geo.blocks 2
      (λ b l. omega (arith, one-if-le (full geo image b && least_unset geo image b), one-if-le (full geo image b && greatest_unset geo image b)))

  count_most : Mendable geo image → to_count geo image ≤ 1
  count_most mend = count-at-most-one geo.blocks (count_unset geo image) (λ b c. mend.single b c)

  -- and where no block is blank there is no count to set
  count-unless-blank : R6 geo image ≡ false → to_count geo image ≡ 0
  count-unless-blank none = sym (counting-words geo image) ∙ ap words_in (counting-unless-blank geo image none) ∙ counts-words.none

-- ---- (i) to (iii), told by the image before the repair
module _ (geo : Geometry) (image : Image) (shaped : Shaped geo image) (words : Words32 image) (mend : Mendable geo image) where
  bound-same : to_bound geo (settled geo image) ≡ to_bound geo image
  bound-same = sum-ext geo.blocks (λ b l. rw (fulls b l, (low b l).0, (low b l).1))
    where
      fulls : (b : ℕ) → b < geo.blocks → full geo (settled geo image) b ≡ full geo image b
      fulls = (settled-settling geo image shaped words mend).fulls

      low :
          (b : ℕ) →
          b < geo.blocks →
          (least_mapped geo (settled geo image) b ≡ least_mapped geo image b) × (greatest_mapped geo (settled geo image) b ≡ greatest_mapped geo image b)
      low = (settled-retired geo image shaped words).bounds

  count_same : to_count geo (bounded geo image) ≡ to_count geo image
  unfolding count_unset
  count_same =
      count-ext geo.blocks {f = count_unset geo (bounded geo image)} {g = count_unset geo image}
      (λ b l.
      rw (
        (bounded-settling geo image shaped words mend).blanks b l,
        (bounded-bounding geo image shaped words mend).counts b l ∙ (settled-retired geo image shaped words).counts b l,
      ))

  mending-words : words_in (mending geo image) ≡ to_clear geo image + to_bound geo image + to_count geo image
  mending-words =
      omega (
        arith,
        words_append (clearing geo image) (bounding geo (settled geo image) ++ counting geo (bounded geo image)),
        words_append (bounding geo (settled geo image)) (counting geo (bounded geo image)),
        clearing-words geo image,
        bounding-words geo (settled geo image) ∙ bound-same,
        counting-words geo (bounded geo image) ∙ count_same,
      )

-- ---- (iv)

-- a number above 0, as either test tells it
above_zero : (n : ℕ) → not (eqb n 0) ≡ ltb 0 n
above_zero zero = refl
above_zero (suc n) = ap not (ne_eqb (suc n) 0 (λ e. omega arith)) ∙ sym (lt-ltb 0 (suc n) (omega arith))

module _
    (geo : Geometry) (image : Image) (shaped : Shaped geo image) (words : Words32 image) (mend : Mendable geo image)
    (none : R6 geo image ≡ false) (roomy : lacks_room geo image ≡ false) (wearable : victim_worn geo image ≡ false)
  where
    abbrev v : ℕ
    v = emptiest geo image

    abbrev t : ℕ
    t = lowest_open geo image

    abbrev now : Image
    now = counted geo image

    settling : Settling geo image now
    settling = counted-settling geo image shaped words mend

    able : Emptiable geo now v t
    able = emptied-able geo image shaped words mend none roomy

    same_live : live_slots geo now v ≡ to_move geo image
    same_live = settling.lives v able.victim_in

    -- one block is erased, where something is copied and where nothing is
    emptying-erasures : erasures_in (emptying geo now) ≡ 1
    unfolding reclaiming erasures_in
    emptying-erasures = rw (emptying-is geo image shaped words mend none) (go (ℕ_discrete (live_slots geo now v) 0))
      where
        go : Dec (live_slots geo now v ≡ 0) → erasures_in (reclaiming geo now v t) ≡ 1
        go (yes e) = rw (nothing_copied geo now v t (count-fails (d geo) (λ j. is_live (slot geo now v j)) e) (d geo) (omega arith))
        go (no e) =
            (reclaimed geo now v t able.ready able.victim_in (able.target_in (omega (arith, e))) able.apart able.room
            (emptied-below geo image shaped words mend none roomy wearable)).erasures

    -- the free slots of the open block count only where something is copied; then there is one
    fills_same : filled_by_copies geo now v t ≡ fills_open geo image
    fills_same = go (ℕ_discrete (live_slots geo now v) 0)
      where
        go : Dec (live_slots geo now v ≡ 0) → filled_by_copies geo now v t ≡ fills_open geo image
        go (yes e) = rw (above_zero (live_slots geo now v), same_live, sym same_live ∙ e)
        go (no e) =
            let inside = able.target_in (omega (arith, e)) in
            rw (above_zero (live_slots geo now v), same_live, settling.frees t inside)

    emptying-words : words_in (emptying geo now) ≡ 133 * to_move geo image + 2 * one_if (fills_open geo image) + 1
    emptying-words =
        let is = emptying-is geo image shaped words mend none in
        let long = ap length is ∙ reclaiming-long geo now v t able in
        omega (arith, steps-counted (emptying geo now), emptying-erasures, long, ap one_if fills_same, same_live)

    -- an open block has a slot that is not free
    move-most : to_move geo image ≤ d geo - 1
    move-most = go (ℕ_discrete (to_move geo image) 0)
      where
        go : Dec (to_move geo image ≡ 0) → to_move geo image ≤ d geo - 1
        go (yes e) = omega arith
        go (no e) =
            let inside = able.target_in (omega (arith, e, same_live)) in
            let is_open = target-open geo image shaped words mend none roomy inside in
            let not-blank = not-true (blank geo image t) (both-pass (not (blank geo image t)) _ is_open).0 in
            let not-all = eqb-false (free_slots geo image t) (d geo) (sym (blank-count geo image t) ∙ not-blank) in
            omega (arith, not-all, same_live, settling.frees t inside, able.room, count-le (d geo) (λ i. is_free (slot geo image t i)))

-- ---- a repair as a whole, of an image that is not refused

module _
    (geo : Geometry) (image : Image) (shaped : Shaped geo image) (words : Words32 image) (mend : Mendable geo image)
    (roomy : lacks_room geo image ≡ false) (wearable : victim_worn geo image ≡ false)
  where
    -- (iv) is done where no block is blank
    last-erasures : erasures_in (emptying geo (counted geo image)) ≡ one_if (not (R6 geo image))
    last-erasures = go (R6 geo image) refl
      where
        go : (x : Bool) → R6 geo image ≡ x → erasures_in (emptying geo (counted geo image)) ≡ one_if (not x)
        go true e = ap erasures_in (none-emptied geo image shaped words mend roomy wearable e) ∙ counts-erasures.none
        go false e = emptying-erasures geo image shaped words mend e roomy wearable

    last-words : words_in (emptying geo (counted geo image)) ≡ to_empty geo image
    last-words = go (R6 geo image) refl
      where
        go :
            (x : Bool) →
            R6 geo image ≡ x →
            words_in (emptying geo (counted geo image)) ≡ cond x 0 (133 * to_move geo image + 2 * one_if (fills_open geo image) + 1)
        go true e = ap words_in (none-emptied geo image shaped words mend roomy wearable e) ∙ counts-words.none
        go false e = emptying-words geo image shaped words mend e roomy wearable

    pub repair-erasures : erasures_in (repairing geo image) ≡ one_if (not (R6 geo image))
    repair-erasures =
        rw (repairing-parts geo image shaped words mend)
        (omega (
          arith,
          erasures-append (mending geo image) (emptying geo (counted geo image)),
          mending-erasures geo image shaped words mend,
          last-erasures,
        ))

    pub repair-words : words_in (repairing geo image) ≡ (to_clear geo image + to_bound geo image + to_count geo image) + to_empty geo image
    repair-words =
        rw (repairing-parts geo image shaped words mend)
        (omega (
          arith,
          words_append (mending geo image) (emptying geo (counted geo image)),
          mending-words geo image shaped words mend,
          last-words,
        ))

    -- (iii) sets the count of a blank block, and (iv) is done where none is: so they are never both done
    count-or-empty : to_count geo image + to_empty geo image ≤ 133 * (d geo - 1) + 3
    count-or-empty = go (R6 geo image) refl
      where
        go :
            (x : Bool) →
            R6 geo image ≡ x →
            to_count geo image + cond x 0 (133 * to_move geo image + 2 * one_if (fills_open geo image) + 1) ≤ 133 * (d geo - 1) + 3
        go true e = omega (arith, count_most geo image mend)
        go false e =
            omega (
              arith,
              count-unless-blank geo image e,
              move-most geo image shaped words mend e roomy wearable,
              one-if-le (fills_open geo image),
            )

    pub repair-most : words_in (repairing geo image) ≤ geo.blocks * d geo + 2 * geo.blocks + 133 * (d geo - 1) + 3
    repair-most = omega (arith, repair-words, clear-most geo image, bound-most geo image, count-or-empty)
