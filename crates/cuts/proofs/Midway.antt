-- K4: an image on the way through a placing can be mended, whichever step was the last: one slot was taken, and words 1 and 2 of its block are not
-- programmed or bound the live numbers. Assumes nothing.
use mathlib.Core.Path.{◌≡◌, sym, ◌∙◌}
use mathlib.Core.Logic.{◌≢◌, ◌⊎◌, inl, inr, dite}
use mathlib.Core.Bool.{true, false}
use mathlib.Core.List.{List}
use Prim.Native.Nat.{ℕ, ◌<◌, ◌≤◌}
use native.Mathlib.Decide.{ℕ_discrete}
use native.Mathlib.Omega.{arith}
use Rattle.bits.specs.Word.{ones}
use Rattle.geometry.specs.declared.Geometry.{Geometry}
use Rattle.geometry.specs.Geometry.{Limits, d}
use Rattle.geometry.proofs.Laws.{logical-small}
use Rattle.image.specs.declared.Slot.TheVariants.{Live}
use Rattle.image.specs.Words.{Image, Words32, erase_count, least_mapped, greatest_mapped}
use Rattle.image.specs.Slots.{slot}
use Rattle.image.specs.Blocks.{full}
use Rattle.image.specs.WellFormed.{ceiling}
use Rattle.image.specs.Mending.{least_bound}
use Rattle.image.proofs.Own.{live-number}
use Rattle.image.proofs.Facts.{Sound}
use Rattle.image.proofs.Mending.{Mendable, unset-count, least-bounds}
use Rattle.flash.proofs.Taken.{Taken, Readings, map-kept, rest-kept, clean-kept, full-as-before, bounded-elsewhere}
use Rattle.flash.proofs.Filling.{Ready, Target}
use Rattle.flash.proofs.Placed as put
use Rattle.cuts.proofs.Stages.{Begun, Done, During}

module _ (geo : Geometry) (image : Image) (n : ℕ) (ws : List ℕ) (b i : ℕ) (ready : Ready geo image) (target : Target geo image n ws b i) where
  abbrev Around : Image → Type 0
  Around = put.Around geo image n ws b i ready target

  within : Limits geo
  within = ready.shaped.limits

  -- words 1 and 2 of the block: not programmed while a slot is free; in a full block not programmed or bounds of its live numbers
  pub record Edges (now : Image) : Type 0 where
    pub unset : full geo now b ≡ false → (least_mapped geo now b ≡ ones) × (greatest_mapped geo now b ≡ ones)
    pub bound :
        (j m : ℕ) →
        j < d geo →
        full geo now b ≡ true →
        slot geo now b j ≡ Live m →
        ((least_mapped geo now b ≡ ones) ⊎ (least_mapped geo now b ≤ m)) × (m ≤ greatest_mapped geo now b)

  -- so while neither is programmed: no number is above a word 2 that is not
  pub unset-edges : (now : Image) → (least_mapped geo now b ≡ ones) × (greatest_mapped geo now b ≡ ones) → Edges now
  unset-edges now both =
      record {
        unset = λ f. both;
        bound = λ j m h f e. (inl both.0, omega (arith, both.1, live-number geo now b j e, logical-small geo within));
      }

  module _ (now : Image) (around : Around now) (kinds : Taken geo image (slot geo now) b i) (edges : Edges now) where
    s : Sound geo image
    s = ready.sound

    abbrev same : Readings geo image now b i
    same = put.around-readings geo image n ws b i ready target now around

    worn : (c : ℕ) → c < geo.blocks → erase_count geo now c ≤ ceiling
    worn c l = rw (same.counts c l) (s.worn c l)

    unbounded : (c : ℕ) → c < geo.blocks → full geo now c ≡ false → (least_mapped geo now c ≡ ones) × (greatest_mapped geo now c ≡ ones)
    unbounded c l f = dite (ℕ_discrete c b) (λ x. rw x (edges.unset (rw x at f))) other
      where
        other : c ≢ b → (least_mapped geo now c ≡ ones) × (greatest_mapped geo now c ≡ ones)
        other x =
            let kept = put.bounds-other geo image n ws b i ready target now around c x in
            let were = s.unbounded c l (sym (full-as-before geo image now b i kinds c l x) ∙ f) in
            (kept.0 ∙ were.0, kept.1 ∙ were.1)

    bounded :
        (c j m : ℕ) →
        c < geo.blocks →
        j < d geo →
        full geo now c ≡ true →
        slot geo now c j ≡ Live m →
        (least_bound geo now c ≤ m) × (m ≤ greatest_mapped geo now c)
    bounded c j m l h f e = dite (ℕ_discrete c b) here other
      where
        here : c ≡ b → (least_bound geo now c ≤ m) × (m ≤ greatest_mapped geo now c)
        here x =
            let both = edges.bound j m h (rw x at f) (rw x at e) in
            rw x (least-bounds geo now b m both.0, both.1)

        other : c ≢ b → (least_bound geo now c ≤ m) × (m ≤ greatest_mapped geo now c)
        other x =
            let kept = put.bounds-other geo image n ws b i ready target now around c x in
            let were = bounded-elsewhere geo image now b i within target.slot_is s same kinds c j m l h x f e in
            (least-bounds geo now c m (inr (rw kept.0 were.0)), rw kept.1 were.1)

    mends : Mendable geo now
    mends =
        record {
          worn = λ c l. inl (worn c l);
          single = λ c c' l l' t t'. absurd (omega (arith, worn c l, unset-count geo now c t));
          map = map-kept geo image now b i within target.slot_is s same kinds;
          rest = rest-kept geo image now b i within target.slot_is s same kinds;
          clean = clean-kept geo image now b i within target.slot_is s same kinds;
          proper = kinds.proper;
          once = kinds.once;
          unbounded = unbounded;
          bounded = bounded;
        }

    pub on-the-way : Words32 now → Begun geo image (slot geo now) b i ⊎ Done geo image now n ws b i → During geo image now n ws b i
    on-the-way words stage =
        record {
          shaped = put.around-shaped geo image n ws b i ready target now around;
          words = words;
          mendable = mends;
          counts = same.counts;
          contents-other = same.contents-other;
          stage = inr stage;
        }
