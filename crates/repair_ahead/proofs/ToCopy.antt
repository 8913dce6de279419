-- All that is read to copy in (iv) of a repair is the same in the image before (i) and in that which (i) to (iii) leave. Assumes nothing.
use mathlib.Core.Path.{◌≡◌, refl, sym, ap, ◌∙◌}
use mathlib.Core.Logic.{⊎_elim}
use mathlib.Core.Bool.{Bool, true, false, true≢false}
use Prim.Native.Nat.{ℕ, ◌<◌, ◌≤◌}
use native.Mathlib.Omega.{arith}
use Rattle.ranges.proofs.Tests.{unless}
use Rattle.ranges.proofs.Sums.{count_none}
use Rattle.bits.proofs.Bit.{bits-same}
use Rattle.geometry.specs.declared.Geometry.{Geometry}
use Rattle.geometry.specs.Geometry.{d}
use Rattle.geometry.proofs.Laws.{map-covers}
use Rattle.image.specs.declared.Slot.{Slot}
use Rattle.image.specs.declared.Slot.TheVariants.{Dead, Superseded}
use Rattle.image.specs.Words.{Image, Shaped, Words32, free_map}
use Rattle.image.specs.Slots.{superseded, slot, is_free, is_live, is_live_with}
use Rattle.image.specs.Blocks.{free_slots, live_slots, lowest_open}
use Rattle.image.specs.WellFormed.{R6}
use Rattle.image.specs.Mending.{emptiest}
use Rattle.image.proofs.Alike.{R6-alike}
use Rattle.image.proofs.Facts.{facts-sound}
use Rattle.image.proofs.Mending.{Mendable}
use Rattle.image.proofs.Own.{superseded-slot}
use Rattle.flash.specs.Repairing.{settled, bounded, counted, lacks_room}
use Rattle.flash.proofs.Stores.{run_none}
use Rattle.flash.proofs.Filling.{Ready}
use Rattle.flash.proofs.CopiesInto.{beside, word-bit, map-small, same_bit}
use Rattle.retiring.proofs.Retired.{Retired, settled-retired}
use Rattle.retiring.proofs.Kept.{kind-test}
use Rattle.restoring.proofs.LowWords.{LowOnly}
use Rattle.restoring.proofs.Counted.{counting-unless-blank}
use Rattle.repairing.proofs.Mended.{Settling, bounded-bounding, bounded-settling, counted-settling, counted_ready}
use Rattle.repairing.proofs.Emptied.{emptied-in, target-or-none, emptied-able}
use Rattle.repair_ahead.specs.Emptying.{SameToCopy}

module _
    (geo : Geometry) (image : Image) (shaped : Shaped geo image) (words : Words32 image) (mend : Mendable geo image)
    (none : R6 geo image ≡ false)
  where
    abbrev later : Image
    later = counted geo image

    abbrev v : ℕ
    v = emptiest geo image

    abbrev t : ℕ
    t = lowest_open geo image

    retired : Retired geo image (settled geo image)
    retired = settled-retired geo image shaped words

    -- (iii) has nothing to do where no block is blank
    nothing-counted : counted geo image ≡ bounded geo image
    unfolding counted
    nothing-counted =
        let kept = bounded-settling geo image shaped words mend in
        rw (counting-unless-blank geo (bounded geo image) (R6-alike geo image (bounded geo image) kept.blanks ∙ none))
        (run_none geo (bounded geo image))

    low : LowOnly geo (settled geo image) later
    low = rw nothing-counted (bounded-bounding geo image shaped words mend).low

    ready : Ready geo later
    ready = counted_ready geo image shaped words mend

    settling : Settling geo image later
    settling = counted-settling geo image shaped words mend

    -- a slot, but for one that was superseded and is dead
    kind-same :
        (f : Slot → Bool) → f Dead ≡ f Superseded → (b i : ℕ) → b < geo.blocks → i < d geo → f (slot geo later b i) ≡ f (slot geo image b i)
    kind-same f e b i l h = ap f (low.slots b i l h) ∙ kind-test geo image (settled geo image) retired f e b i l h

    live-current : (b i : ℕ) → is_live (slot geo image b i) ≡ true → superseded geo image b i ≡ false
    live-current b i live = unless (superseded geo image b i) (λ e. true≢false (sym live ∙ ap is_live (superseded-slot geo image b i e)))

    -- a map word, bit by bit
    map_same : (b i : ℕ) → b < geo.blocks → i < d geo → free_map geo later b i ≡ free_map geo image b i
    map_same b i l h =
        bits-same 32 (free_map geo later b i) (free_map geo image b i) (map-small geo later b i ready.words) (map-small geo image b i words)
        (λ c q.
        let inside = map-covers geo shaped.limits in
        same_bit (free_map geo later b i) (free_map geo image b i) c
        (word-bit geo later b i c q
        ∙ low.maps b (beside i c) l (omega arith)
        ∙ retired.maps b (beside i c) l (omega arith)
        ∙ sym (word-bit geo image b i c q)))

    -- what refusal 10 leaves
    module _ (roomy : lacks_room geo image ≡ false) where
      v-in : v < geo.blocks
      v-in = emptied-in geo image shaped words mend none roomy

      -- there is room for what is live in v; so where anything is, t is a block
      enough : (1 ≤ live_slots geo image v → t < geo.blocks) × (live_slots geo image v ≤ free_slots geo image t)
      enough =
          let same = settling.lives v v-in in
          ⊎_elim
          (λ (inside, other, room). (λ some. inside, omega (arith, same, room, settling.frees t inside)))
          (λ nothing.
          let empty = count_none (d geo) nothing.1 in
          (λ some. absurd (omega (arith, same, empty)), omega (arith, same, empty)))
          (target-or-none geo image shaped words mend none roomy)

      pub same-to-copy : SameToCopy geo image (counted geo image) (emptiest geo image) (lowest_open geo image)
      same-to-copy =
          record {
            shaped = ready.shaped;
            words = ready.words;
            well = facts-sound geo later ready.sound;
            victim_in = v-in;
            target_in = enough.0;
            apart = (emptied-able geo image shaped words mend none roomy).apart;
            room = enough.1;
            lives = λ f. kind-same (is_live_with f) refl;
            frees = kind-same is_free refl;
            entries = λ b i l h live. low.entries b i l h ∙ retired.entries b i l h (live-current b i live);
            maps = map_same;
            kept = λ b i l h. low.contents-kept b i l h ∙ retired.contents-kept b i l h;
            count = settling.wear none v v-in;
          }
