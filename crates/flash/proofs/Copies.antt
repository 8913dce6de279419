-- K4: in a write with a reclaim the steps of each copy, and those that erase the victim, are known before the first step. Assumes nothing.
use mathlib.Core.Path.{◌≡◌, sym, ap, ◌∙◌}
use mathlib.Core.Bool.{true, false, and-false}
use mathlib.Core.List.{List, ◌++◌}
use Prim.Native.Nat.{ℕ, ◌+◌, ◌-◌, ◌*◌, ◌%◌, ◌^◌, ◌<◌, ◌≤◌}
use native.Mathlib.Decide.{dec_lt}
use native.Mathlib.Omega.{arith}
use lib.Dec.{eqb}
use lib.ListN.{length}
use lib.Pow.{pow_pos}
use borrow.Author.Tests.{ne_eqb}
use Rattle.ranges.proofs.Sums.{count-from, count-every}
use Rattle.bits.specs.Word.{bit}
use Rattle.bits.proofs.Bit.{bit-set, bit-clear, upper-set, upper-clear, bits-same}
use Rattle.bits.proofs.Upper.{lower-cleared, upper-kept}
use Rattle.geometry.specs.declared.Geometry.{Geometry}
use Rattle.geometry.specs.Geometry.{d}
use Rattle.geometry.specs.Places.{place, erase_word}
use Rattle.image.specs.declared.Slot.TheVariants.{Free, Live}
use Rattle.image.specs.Words.{Image, free_map, erase_count, contents}
use Rattle.image.specs.Slots.{slot, is_free}
use Rattle.image.specs.Blocks.{free_slots, live_slots, least_worn_blank}
use Rattle.flash.specs.declared.Step.{Step}
use Rattle.flash.specs.declared.Step.TheVariants.{Program, Erase}
use Rattle.flash.specs.declared.NextStep.TheVariants.{Next}
use Rattle.flash.specs.Steps.{run, step_at}
use Rattle.flash.specs.Writing.{erasing, filling, must_reclaim, reclaiming, reclaiming_first}
use Rattle.flash.specs.Ahead.{placement_steps, live_before, free_before, nth_free, copy_slot, copy_into, copy_steps, copy_placement}
use Rattle.flash.proofs.Parts.{step-before, step-behind}
use Rattle.flash.proofs.Filling.{Ready}
use Rattle.flash.proofs.Chosen.{blank-slot}
use Rattle.flash.proofs.Written.{Reclaimable, blank-in, is-blank, apart, spare}
use Rattle.flash.proofs.CopiesInto.{beside, bit-of-slot, bit-of-free, map-small, nth-first, Emptiable, counted-in, copied-step, reclaiming-long, step-behind-copies}

-- ---- a block whose slots before i are taken, and whose others are free

pub record TakenUpTo (geo : Geometry) (image : Image) (b i : ℕ) : Type 0 where
  pub block : b < geo.blocks
  pub inside : i < d geo
  pub before : (j : ℕ) → j < i → is_free (slot geo image b j) ≡ false
  pub behind : (j : ℕ) → i ≤ j → j < d geo → slot geo image b j ≡ Free

module _ (geo : Geometry) (image : Image) (b i : ℕ) (ready : Ready geo image) (up_to_lem : TakenUpTo geo image b i) where
  pub free-of-taken : free_slots geo image b + i ≡ d geo
  free-of-taken =
      let inside = up_to_lem.inside in
      count-from (d geo) i {f = λ j. is_free (slot geo image b j)} (omega arith) up_to_lem.before (λ j l h. ap is_free (up_to_lem.behind j l h))

  -- so this is its map word
  pub map-of-taken : free_map geo image b i ≡ 2 ^ 32 - 2 ^ (i % 32)
  map-of-taken =
      bits-same 32 (free_map geo image b i) (2 ^ 32 - 2 ^ (i % 32)) (map-small geo image b i ready.words)
      (omega (arith, pow_pos (i % 32)))
      (λ c l. go c l (dec_lt c (i % 32)))
    where
      go : (c : ℕ) → c < 32 → Dec (c < i % 32) → bit (free_map geo image b i) c ≡ bit (2 ^ 32 - 2 ^ (i % 32)) c
      go c l (yes h) =
          let inside = up_to_lem.inside in
          bit-clear (free_map geo image b i) c
          (bit-of-slot geo image b i ready up_to_lem.block inside c l (omega arith) ∙ up_to_lem.before (beside i c) (omega arith))
          ∙ sym (upper-clear 32 (i % 32) c (omega arith) h)
      go c l (no h) =
          bit-set (free_map geo image b i) c
          (bit-of-free geo image b i ready up_to_lem.block up_to_lem.inside c l (λ q. up_to_lem.behind (beside i c) (omega arith) q))
          ∙ sym (upper-set 32 (i % 32) c (omega arith) l)

-- ---- the copies, and the erasing

module _
    (geo : Geometry) (image : Image) (start : Ready geo image)
    (must : must_reclaim geo image ≡ true)
    (v : ℕ) (victim-is : Reclaimable geo image v)
  where
    abbrev t : ℕ
    t = least_worn_blank geo image

    abbrev room : live_slots geo image v < d geo
    room = spare geo image start must v victim-is

    was_free : (j : ℕ) → j < d geo → slot geo image t j ≡ Free
    was_free = blank-slot geo image t (is-blank geo image start must v victim-is)

    all-before : (j : ℕ) → j ≤ d geo → free_before geo image t j ≡ j
    all-before j l = count-every j (λ i q. ap is_free (was_free i (omega arith)))

    able : Emptiable geo image v t
    able =
        record {
          ready = start;
          victim_in = victim-is.block;
          target_in = λ some. blank-in geo image start must v victim-is;
          apart = apart geo image start must v victim-is;
          room = omega (arith, room, all-before (d geo) (omega arith));
        }

    -- t keeps a free slot
    stays_open : (r : ℕ) → r < d geo → eqb (free_slots geo image t) r ≡ false
    stays_open r l = ne_eqb (free_slots geo image t) r (λ e. omega (arith, all-before (d geo) (omega arith)))

    -- so each copy has 133 steps
    all-long : copy_steps geo image v t ≡ 133 * live_slots geo image v
    all-long = rw (stays_open (live_slots geo image v) room, and-false) (omega arith)

    -- ---- a live slot in its turn

    module _ (m x : ℕ) (l : m < d geo) (live : slot geo image v m ≡ Live x) where
      abbrev taken : ℕ
      taken = live_before geo image v m

      few : taken + 1 ≤ live_slots geo image v
      few = counted-in geo image v t able m x l live

      inside : taken < d geo
      inside = omega (arith, few, room)

      slot_is : copy_slot geo image v t m ≡ taken
      unfolding nth_free
      slot_is =
          ap (nth_free geo image t) (sym (all-before taken (omega (arith, inside))))
          ∙ nth-first (d geo) (λ j. is_free (slot geo image t j)) taken inside (ap is_free (was_free taken inside))

      -- every bit of the map was set
      map_is : free_map geo image t taken - free_map geo image t taken % 2 ^ (taken % 32) ≡ 2 ^ 32 - 2 ^ (taken % 32)
      map_is =
          bits-same 32 _ (2 ^ 32 - 2 ^ (taken % 32)) (omega (arith, map-small geo image t taken start.words))
          (omega (arith, pow_pos (taken % 32)))
          (λ c q. go c q (dec_lt c (taken % 32)))
        where
          block : t < geo.blocks
          block = blank-in geo image start must v victim-is

          w : ℕ
          w = free_map geo image t taken

          go : (c : ℕ) → c < 32 → Dec (c < taken % 32) → bit (w - w % 2 ^ (taken % 32)) c ≡ bit (2 ^ 32 - 2 ^ (taken % 32)) c
          go c q (yes h) = lower-cleared w (taken % 32) c h ∙ sym (upper-clear 32 (taken % 32) c (omega arith) h)
          go c q (no h) =
              upper-kept w (taken % 32) c (omega arith)
              ∙ bit-set w c (bit-of-free geo image t taken start block inside c q (λ r. was_free (beside taken c) r))
              ∙ sym (upper-set 32 (taken % 32) c (omega arith) q)

      same-steps :
          (ws : List ℕ) → placement_steps geo (copy_into geo image v t m x) ws ≡ placement_steps geo (copy_placement geo image v t m x) ws
      unfolding placement_steps
      same-steps ws = rw (slot_is, map_is, stays_open (taken + 1) (omega (arith, few, room)))

      pub copy_step :
          (n : ℕ) (ws : List ℕ) (s : ℕ) →
          s < 133 →
          step_at (reclaiming_first geo image v n ws) (133 * live_before geo image v m + s)
          ≡ step_at (placement_steps geo (copy_placement geo image v t m x) (contents geo image v m)) s
      unfolding reclaiming_first
      copy_step n ws s q =
          let first = reclaiming geo image v t in
          step-before first (filling geo (run geo image first) n ws) (133 * taken + s)
          (omega (arith, reclaiming-long geo image v t able, all-long, few))
          ∙ copied-step geo image v t able m x l live s (omega arith)
          ∙ ap (λ (c : List Step). step_at c s) (same-steps (contents geo image v m))

    -- ---- behind the copies

    module _ (n : ℕ) (ws : List ℕ) where
      long : length (reclaiming geo image v t) ≡ 133 * live_slots geo image v + 2
      long = omega (arith, reclaiming-long geo image v t able, all-long)

      -- one of the two steps that erase v
      erasing-step :
          (s : ℕ) → s < 2 → step_at (reclaiming_first geo image v n ws) (133 * live_slots geo image v + s) ≡ step_at (erasing geo image v) s
      unfolding reclaiming_first
      erasing-step s l =
          let first = reclaiming geo image v t in
          step-before first (filling geo (run geo image first) n ws) (133 * live_slots geo image v + s) (omega (arith, long))
          ∙ ap (λ (c : ℕ). step_at first (c + s)) (sym all-long)
          ∙ step-behind-copies geo image v t able s

      pub erase-step : step_at (reclaiming_first geo image v n ws) (133 * live_slots geo image v) ≡ Next (Erase v)
      unfolding step_at
      erase-step =
          let at : 133 * live_slots geo image v ≡ 133 * live_slots geo image v + 0 = omega arith in
          ap (step_at (reclaiming_first geo image v n ws)) at ∙ erasing-step 0 (omega arith)

      pub count-step :
          step_at (reclaiming_first geo image v n ws) (133 * live_slots geo image v + 1) ≡ Next (Program (place geo v erase_word) (erase_count geo image v + 1))
      unfolding step_at
      count-step = erasing-step 1 (omega arith)

      -- and then the placing
      pub placing-step :
          (s : ℕ) →
          step_at (reclaiming_first geo image v n ws) (133 * live_slots geo image v + 2 + s)
          ≡ step_at (filling geo (run geo image (reclaiming geo image v (least_worn_blank geo image))) n ws) s
      unfolding reclaiming_first
      placing-step s =
          let first = reclaiming geo image v t in
          ap (λ (c : ℕ). step_at (first ++ filling geo (run geo image first) n ws) (c + s)) (sym long)
          ∙ step-behind first (filling geo (run geo image first) n ws) s
