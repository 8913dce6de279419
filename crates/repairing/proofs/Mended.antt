-- A repair, wherever it is cut short: an image that can be mended, with the same map; and what the whole of it leaves. Assumes nothing.
use mathlib.Core.Path.{◌≡◌, refl, sym, ap, ◌∙◌}
use mathlib.Core.Bool.{Bool, true, false, true≢false}
use mathlib.Core.List.{◌++◌, append_assoc}
use Prim.Native.Nat.{ℕ, ◌<◌}
use native.Mathlib.Omega.{arith}
use Rattle.geometry.specs.declared.Geometry.{Geometry}
use Rattle.image.specs.Words.{Image, Shaped, Words32, erase_count}
use Rattle.image.specs.Blocks.{blank, full, free_slots, live_slots}
use Rattle.image.specs.WellFormed.{R6, NoneSuperseded}
use Rattle.image.proofs.Alike.{R6-alike}
use Rattle.image.proofs.Mending.{Mendable}
use Rattle.flash.specs.Steps.{run, erasures_in}
use Rattle.flash.specs.Repairing.{clearing, bounding, counting, emptying, settled, bounded, counted, repairing}
use Rattle.flash.proofs.Stores.{run-append, erasures-append}
use Rattle.flash.proofs.Along.{Along, along-none, along-end, along-append, along-map}
use Rattle.flash.proofs.Filling.{Ready}
use Rattle.cuts.proofs.InCopy.{Mends}
use Rattle.retiring.proofs.Retired.{Retired, clearing-retires, clearing-erasures, settled-retired, settled-current}
use Rattle.retiring.proofs.Kept as retired
use Rattle.restoring.proofs.LowWords.{LowOnly}
use Rattle.restoring.proofs.LowWords as low
use Rattle.restoring.proofs.Bounded.{Bounding, bounding-along, bounding-closed, bounding-erasures}
use Rattle.restoring.proofs.Counted.{Counting, counting-along, counting-erasures, counting-unless-blank, counted-sound}
use Rattle.repairing.specs.Planned.{mending}

-- On the way through (i) to (iii): every block has the free and the live slots that it had; and where none is blank, its count of erasures.
pub record Settling (geo : Geometry) (image now : Image) : Type 0 where
  pub mends : Mends geo image now
  pub frees : (b : ℕ) → b < geo.blocks → free_slots geo now b ≡ free_slots geo image b
  pub lives : (b : ℕ) → b < geo.blocks → live_slots geo now b ≡ live_slots geo image b
  pub fulls : (b : ℕ) → b < geo.blocks → full geo now b ≡ full geo image b
  pub blanks : (b : ℕ) → b < geo.blocks → blank geo now b ≡ blank geo image b
  pub wear : R6 geo image ≡ false → (b : ℕ) → b < geo.blocks → erase_count geo now b ≡ erase_count geo image b

-- (i)
settling-retired : (geo : Geometry) (image now : Image) → Mendable geo image → Retired geo image now → Settling geo image now
settling-retired geo image now mend r =
    record {
      mends =
          record {
            shaped = r.shaped;
            words = r.words;
            mendable = retired.still-mendable geo image now r mend;
            map = retired.map-kept geo image now r mend;
          };
      frees = retired.free-slots-same geo image now r;
      lives = retired.live-slots-same geo image now r;
      fulls = retired.full-same geo image now r;
      blanks = retired.blank-same geo image now r;
      wear = λ none. r.counts;
    }

-- (ii) and (iii)
settling-low :
    (geo : Geometry) (image now after : Image) →
    Settling geo image now →
    LowOnly geo now after →
    Mendable geo after →
    (R6 geo image ≡ false → (b : ℕ) → b < geo.blocks → erase_count geo after b ≡ erase_count geo now b) →
    Settling geo image after
settling-low geo image now after s l mend counts =
    record {
      mends =
          record {
            shaped = l.shaped;
            words = l.words s.mends.words;
            mendable = mend;
            map = λ n. low.map-kept geo now after l n ∙ s.mends.map n;
          };
      frees = λ b h. low.free-slots-kept geo now after l b h ∙ s.frees b h;
      lives = λ b h. low.live-slots-kept geo now after l b h ∙ s.lives b h;
      fulls = λ b h. low.full-kept geo now after l b h ∙ s.fulls b h;
      blanks = λ b h. low.blank-kept geo now after l b h ∙ s.blanks b h;
      wear = λ none b h. counts none b h ∙ s.wear none b h;
    }

-- ---- (i) to (iii), of an image that can be mended

module _ (geo : Geometry) (image : Image) (shaped : Shaped geo image) (words : Words32 image) (mend : Mendable geo image) where
  pub settled-settling : Settling geo image (settled geo image)
  settled-settling = settling-retired geo image (settled geo image) mend (settled-retired geo image shaped words)

  pub settled-clear : NoneSuperseded geo (settled geo image)
  settled-clear = settled-current geo image shaped words

  -- (ii)
  bounding-settles : (now : Image) → Bounding geo (settled geo image) now → Settling geo image now
  bounding-settles now p = settling-low geo image (settled geo image) now settled-settling p.low p.mendable (λ none. p.counts)

  pub bounded-bounding : Bounding geo (settled geo image) (bounded geo image)
  unfolding bounded
  bounded-bounding =
      let s = settled-settling.mends in
      along-end geo (Bounding geo (settled geo image)) (settled geo image) (bounding geo (settled geo image))
      (bounding-along geo (settled geo image) s.shaped s.mendable settled-clear)

  pub bounded-settling : Settling geo image (bounded geo image)
  bounded-settling = bounding-settles (bounded geo image) bounded-bounding

  -- (iii): there is nothing to do where no block is blank
  none-blank : (now : Image) → Settling geo image now → R6 geo now ≡ R6 geo image
  none-blank now s = R6-alike geo image now s.blanks

  along-three : Along geo (Settling geo image) (bounded geo image) (counting geo (bounded geo image))
  along-three = go (R6 geo image) refl
    where
      s : Mends geo image (bounded geo image)
      s = bounded-settling.mends

      steps : Along geo (Counting geo (bounded geo image)) (bounded geo image) (counting geo (bounded geo image))
      steps = counting-along geo (bounded geo image) s.shaped s.mendable bounded-bounding.current

      go : (x : Bool) → R6 geo image ≡ x → Along geo (Settling geo image) (bounded geo image) (counting geo (bounded geo image))
      go true e =
          along-map geo (Counting geo (bounded geo image)) (Settling geo image) (bounded geo image) (counting geo (bounded geo image))
          (λ now p.
          settling-low geo image (bounded geo image) now bounded-settling p.low p.mendable (λ none. absurd (true≢false (sym e ∙ none))))
          steps
      go false e =
          rw (counting-unless-blank geo (bounded geo image) (none-blank (bounded geo image) bounded-settling ∙ e))
          (along-none geo (Settling geo image) (bounded geo image) bounded-settling)

  pub counted-settling : Settling geo image (counted geo image)
  unfolding counted
  counted-settling = along-end geo (Settling geo image) (bounded geo image) (counting geo (bounded geo image)) along-three

  -- after (iii) every rule but R6 holds
  pub counted_ready : Ready geo (counted geo image)
  unfolding counted bounded
  counted_ready =
      let s = settled-settling.mends in
      let b = bounded-settling.mends in
      let closed = bounding-closed geo (settled geo image) s.shaped s.mendable settled-clear in
      record {
        shaped = counted-settling.mends.shaped;
        words = counted-settling.mends.words;
        sound = counted-sound geo (bounded geo image) b.shaped b.mendable bounded-bounding.current closed;
      }

  -- the three as one list
  pub repairing-parts : repairing geo image ≡ mending geo image ++ emptying geo (counted geo image)
  unfolding repairing
  repairing-parts =
      let first = clearing geo image in
      let second = bounding geo (settled geo image) in
      let third = counting geo (bounded geo image) in
      let fourth = emptying geo (counted geo image) in
      sym (append_assoc first (second ++ third) fourth ∙ ap (first ++◌) (append_assoc second third fourth))

  pub mending-leaves : run geo image (mending geo image) ≡ counted geo image
  unfolding settled bounded counted
  mending-leaves =
      run-append geo image (clearing geo image) (bounding geo (settled geo image) ++ counting geo (bounded geo image))
      ∙ run-append geo (settled geo image) (bounding geo (settled geo image)) (counting geo (bounded geo image))

  pub mending-erasures : erasures_in (mending geo image) ≡ 0
  mending-erasures =
      omega (
        arith,
        erasures-append (clearing geo image) (bounding geo (settled geo image) ++ counting geo (bounded geo image)),
        erasures-append (bounding geo (settled geo image)) (counting geo (bounded geo image)),
        clearing-erasures geo image,
        bounding-erasures geo (settled geo image),
        counting-erasures geo (bounded geo image),
      )

  pub mending-along : Along geo (Settling geo image) image (mending geo image)
  unfolding settled bounded
  mending-along =
      let s = settled-settling.mends in
      along-append geo (Settling geo image) image (clearing geo image) (bounding geo (settled geo image) ++ counting geo (bounded geo image))
      (along-map geo (Retired geo image) (Settling geo image) image (clearing geo image)
      (λ now r. settling-retired geo image now mend r)
      (clearing-retires geo image shaped words))
      (along-append geo (Settling geo image) (settled geo image) (bounding geo (settled geo image)) (counting geo (bounded geo image))
      (along-map geo (Bounding geo (settled geo image)) (Settling geo image) (settled geo image) (bounding geo (settled geo image))
      bounding-settles
      (bounding-along geo (settled geo image) s.shaped s.mendable settled-clear))
      along-three)
