-- What the code of (iv) of a repair stands on: all that is copied, told from the image before (i), is so in the image that (i) to (iii) leave.
-- Assumes nothing.
use mathlib.Core.Path.{◌≡◌, refl, sym, ap, ap₂, ◌∙◌}
use mathlib.Core.Logic.{dite}
use mathlib.Core.Bool.{Bool, true, false, ◌&&◌, ◌||◌}
use mathlib.Core.List.{List}
use Prim.Native.Nat.{ℕ, ◌+◌, ◌-◌, ◌*◌, ◌/◌, ◌<◌, ◌≤◌, min}
use native.Mathlib.Decide.{ℕ_discrete}
use native.Mathlib.Omega.{arith}
use lib.Dec.{eqb}
use borrow.Author.Tests.{eq-eqb, ne_eqb}
use Rattle.ranges.specs.Range.{one_if, count_below}
use Rattle.ranges.proofs.Tests.{any-ext}
use Rattle.ranges.proofs.Sums.{count-ext, count-nth}
use Rattle.ranges.proofs.Searches.{best-some, best-ext}
use Rattle.geometry.specs.declared.Geometry.{Geometry}
use Rattle.geometry.specs.Geometry.{d}
use Rattle.geometry.specs.Places.{place, erase_word}
use Rattle.image.specs.Found.{At}
use Rattle.image.specs.declared.Slot.{Slot}
use Rattle.image.specs.declared.Slot.TheVariants.{Free, Live, Dead, Faulty, Superseded}
use Rattle.image.specs.Words.{Image, erase_count, free_map, entry, contents}
use Rattle.image.specs.Slots.{slot, is_free, is_live, is_live_with, live_in}
use Rattle.image.specs.Blocks.{free_slots, live_slots}
use Rattle.image.specs.WellFormed.{ceiling}
use Rattle.image.proofs.Facts.{live-for, live-is-for, sound-facts}
use Rattle.image.proofs.Own.{live-number}
use Rattle.flash.specs.declared.LiveBounds.{LiveBounds}
use Rattle.flash.specs.declared.Placement.{Placement}
use Rattle.flash.specs.declared.Step.TheVariants.{Program, Erase}
use Rattle.flash.specs.declared.NextStep.TheVariants.{Next, Done}
use Rattle.flash.specs.Steps.{step_at}
use Rattle.flash.specs.Writing.{erasing, reclaiming}
use Rattle.flash.specs.Ahead.{taken_with, placement_steps, live_before, free_before, nth_free, copy_slot, bounds_of_both, copy_into, copy_steps}
use Rattle.flash.proofs.Parts.{step_past}
use Rattle.flash.proofs.CopiesInto.{Emptiable, counted-in, slot-inside, copied-step, step-behind-copies}
use Rattle.placing.proofs.BoundLaws.{bounds-ext}
use Rattle.ahead.specs.Ahead.{Placeable}
use Rattle.ahead.proofs.ReclaimLaws.{at-inside}
use Rattle.repair_ahead.specs.Emptying.{SameToCopy}

-- live, as a test of the number
any-number : (s : Slot) → is_live s ≡ is_live_with (λ n. true) s
any-number Free = refl
any-number (Live n) = refl
any-number Dead = refl
any-number Faulty = refl
any-number Superseded = refl

-- ---- a slot that is sought, and a copy as the code makes it

-- a free one with r before it is there where more than r slots are free
pub free-inside : (geo : Geometry) (image : Image) (b r : ℕ) → r < free_slots geo image b → nth_free geo image b r < d geo
unfolding nth_free
free-inside geo image b r l =
    let frees : ℕ → Bool = λ j. is_free (slot geo image b j) in
    let nth = count-nth (d geo) frees r l in
    best-some (λ x y. false) (d geo) (λ j. frees j && eqb (count_below j frees) r) nth.below
    (rw nth.passes (eq-eqb (count_below nth.i frees) r nth.before))

module _ (geo : Geometry) (image : Image) (v t m n : ℕ) where
  -- part by part
  pub copy-made :
      (r slot map kept : ℕ) (closes : Bool) (bounds : LiveBounds) →
      r ≡ live_before geo image v m →
      slot ≡ nth_free geo image t r →
      map ≡ taken_with (free_map geo image t slot) slot →
      kept ≡ entry geo image v m →
      closes ≡ eqb (free_slots geo image t) (r + 1) →
      bounds ≡ bounds_of_both geo image t v →
      record { number = n; block = t; slot = slot; map = map; old = At v m; entry = kept; closes = closes; bounds = bounds }
      ≡ copy_into geo image v t m n
  copy-made r slot map kept closes bounds e f g h i j = rw (j, i, h, g, f, e)

-- ---- how many steps the copies have

module _ (geo : Geometry) (image : Image) (v t : ℕ) where
  abbrev live : ℕ
  live = live_slots geo image v

  pub no_steps : live ≡ 0 → copy_steps geo image v t ≡ 0
  no_steps none = rw none

  -- with a copy at least, t is full by them where it has as many free slots
  pub some-steps : (live ≡ 0 → ⊥) → copy_steps geo image v t ≡ 133 * live + 2 * one_if (eqb (free_slots geo image t) live)
  some-steps some = rw (ne_eqb live 0 some)

  -- behind 133 steps for each are two of the last: which copy step i belongs to
  pub in-copy :
      (i r : ℕ) →
      i < copy_steps geo image v t →
      r ≡ min (i / 133) (live - 1) → (r < live) × (133 * r ≤ i) × (i - 133 * r < 133 + 2 * one_if (eqb (free_slots geo image t) (r + 1)))
  in-copy i r l e = dite (ℕ_discrete live 0) (λ none. absurd (omega (arith, l, no_steps none))) (λ some. (omega arith, omega arith, within some))
    where
      within : (live ≡ 0 → ⊥) → i - 133 * r < 133 + 2 * one_if (eqb (free_slots geo image t) (r + 1))
      within some =
          dite (ℕ_discrete (r + 1) live)
          (λ last. rw last (omega (arith, l, some-steps some)))
          (λ other. omega arith)

-- ---- from the one image to the other

module _ (geo : Geometry) (image later : Image) (v t : ℕ) (same : SameToCopy geo image later v t) where
  abbrev victim : v < geo.blocks
  victim = same.victim_in

  before_same : (m : ℕ) → m ≤ d geo → live_before geo later v m ≡ live_before geo image v m
  before_same m l =
      count-ext m
      (λ i q. any-number (slot geo later v i) ∙ same.lives (λ n. true) v i victim (omega arith) ∙ sym (any-number (slot geo image v i)))

  live_same : live_slots geo later v ≡ live_slots geo image v
  live_same = before_same (d geo) (omega arith)

  live-there : (m n : ℕ) → m < d geo → slot geo image v m ≡ Live n → slot geo later v m ≡ Live n
  live-there m n l e = live-for n (slot geo later v m) (same.lives (λ x. eqb x n) v m victim l ∙ live-is-for e)

  in-same : (b n : ℕ) → b < geo.blocks → live_in geo later b n ≡ live_in geo image b n
  in-same b n l = any-ext (d geo) (λ i h. same.lives (λ x. eqb x n) b i l h)

  module _ (block : t < geo.blocks) where
    free-before-same : (j : ℕ) → j ≤ d geo → free_before geo later t j ≡ free_before geo image t j
    free-before-same j l = count-ext j (λ i q. same.frees t i block (omega arith))

    free-same : free_slots geo later t ≡ free_slots geo image t
    free-same = free-before-same (d geo) (omega arith)

    nth-same : (r : ℕ) → nth_free geo later t r ≡ nth_free geo image t r
    unfolding nth_free
    nth-same r =
        best-ext (d geo)
        (λ j l. ap₂ ◌&&◌ (same.frees t j block l) (ap (λ (c : ℕ). eqb c r) (free-before-same j (omega arith))))
        (λ j k l h. refl)

    both-same : bounds_of_both geo later t v ≡ bounds_of_both geo image t v
    both-same = bounds-ext geo.logical (λ n l. ap₂ ◌||◌ (in-same t n block) (in-same v n victim))

  -- v can be reclaimed into t then
  able : Emptiable geo later v t
  able =
      record {
        ready = record { shaped = same.shaped; words = same.words; sound = sound-facts geo later same.well };
        victim_in = victim;
        target_in = λ some. same.target_in (omega (arith, live_same));
        apart = same.apart;
        room =
            dite (ℕ_discrete (live_slots geo image v) 0)
            (λ e. omega (arith, live_same))
            (λ e. omega (arith, live_same, same.room, free-same (same.target_in (omega arith))));
      }

  -- ---- a copy

  module _ (m n : ℕ) (l : m < d geo) (live : slot geo image v m ≡ Live n) where
    copied : 1 ≤ live_slots geo image v
    copied = omega (arith, live_same, counted-in geo later v t able m n l (live-there m n l live))

    block : t < geo.blocks
    block = same.target_in copied

    to_same : copy_slot geo later v t m ≡ copy_slot geo image v t m
    to_same = ap (nth_free geo later t) (before_same m (omega arith)) ∙ nth-same block (live_before geo image v m)

    to_inside : copy_slot geo image v t m < d geo
    to_inside = rw to_same at (slot-inside geo later v t able m n l (live-there m n l live))

    copy-same : copy_into geo later v t m n ≡ copy_into geo image v t m n
    copy-same =
        rw (
          to_same,
          same.maps t (copy_slot geo image v t m) block to_inside,
          same.entries v m victim l (ap is_live live),
          before_same m (omega arith),
          free-same block,
          both-same block,
        )

    -- it fits the image
    pub copy-fits : (p : Placement) → p ≡ copy_into geo image v t m n → Placeable geo p
    copy-fits p e =
        rw e
        record { number_is = live-number geo image v m live; block_is = block; slot_is = to_inside; old_is = at-inside geo v m victim l }

    step_same :
        (s : ℕ) →
        s < 133 + 2 * one_if (eqb (free_slots geo image t) (live_before geo image v m + 1)) →
        step_at (placement_steps geo (copy_into geo image v t m n) (contents geo image v m)) s
        ≡ step_at (reclaiming geo later v t) (133 * live_before geo image v m + s)
    step_same s q =
        let first = before_same m (omega arith) in
        ap₂ (λ (p : Placement) (ws : List ℕ). step_at (placement_steps geo p ws) s) (sym copy-same) (sym (same.kept v m victim l))
        ∙ sym (copied-step geo later v t able m n l (live-there m n l live) s (rw (first, free-same block) q))
        ∙ ap (λ (c : ℕ). step_at (reclaiming geo later v t) (133 * c + s)) first

    -- step i, where r copies are done before this one
    pub told-step :
        (i r : ℕ) →
        live_before geo image v m ≡ r →
        133 * r ≤ i →
        i - 133 * r < 133 + 2 * one_if (eqb (free_slots geo image t) (r + 1)) →
        step_at (placement_steps geo (copy_into geo image v t m n) (contents geo image v m)) (i - 133 * r) ≡ step_at (reclaiming geo later v t) i
    told-step i r e h q =
        let at : 133 * live_before geo image v m + (i - 133 * r) ≡ i = omega (arith, e) in
        step_same (i - 133 * r) (rw e q) ∙ ap (step_at (reclaiming geo later v t)) at

  -- ---- behind the copies

  -- there are none where t is no block
  pub nothing-copied : geo.blocks ≤ t → copy_steps geo image v t ≡ 0
  nothing-copied none =
      dite (ℕ_discrete (live_slots geo image v) 0)
      (no_steps geo image v t)
      (λ some. absurd (omega (arith, same.target_in (omega arith))))

  steps-same : copy_steps geo later v t ≡ copy_steps geo image v t
  steps-same =
      dite (ℕ_discrete (live_slots geo image v) 0)
      (λ e. rw (live_same, e))
      (λ e. rw (live_same, free-same (same.target_in (omega arith))))

  behind : (i s : ℕ) → i ≡ copy_steps geo image v t + s → step_at (erasing geo later v) s ≡ step_at (reclaiming geo later v t) i
  behind i s e =
      let at : copy_steps geo later v t + s ≡ i = omega (arith, e, steps-same) in
      sym (step-behind-copies geo later v t able s) ∙ ap (step_at (reclaiming geo later v t)) at

  pub told-erase : (i : ℕ) → i ≡ copy_steps geo image v t → Next (Erase v) ≡ step_at (reclaiming geo later v t) i
  unfolding step_at
  told-erase i e = behind i 0 (omega (arith, e))

  pub told-count :
      (i at count : ℕ) →
      i ≡ copy_steps geo image v t + 1 →
      at ≡ place geo v erase_word →
      count ≡ erase_count geo image v → Next (Program at (count + 1)) ≡ step_at (reclaiming geo later v t) i
  unfolding step_at
  told-count i at count e f g =
      ap₂ (λ (x y : ℕ). Next (Program x (y + 1))) f (g ∙ sym same.count) ∙ behind i 1 e

  pub told-done : (i : ℕ) → copy_steps geo image v t + 2 ≤ i → Done ≡ step_at (reclaiming geo later v t) i
  told-done i l =
      let s = i - copy_steps geo image v t in
      sym (step_past (erasing geo later v) s (omega (arith, l))) ∙ behind i s (omega (arith, l))

  -- the new count fits a word
  pub count_low : erase_count geo image v ≤ ceiling
  count_low = omega (arith, same.count, able.ready.sound.worn v victim)
