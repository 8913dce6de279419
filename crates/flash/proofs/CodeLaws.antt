-- What the code of this crate does, as steps: laws that several functions share. Assumes nothing.
use mathlib.Core.List.{[], ◌∷◌}
use mathlib.Core.Path.{◌≡◌, sym, ap, ◌∙◌}
use Prim.Native.Nat.{ℕ, ◌<◌}
use native.Mathlib.Omega.{arith}
use lib.ListN.{length}
use lib.Seq.{take-nil}
use Rattle.geometry.specs.declared.Geometry.{Geometry}
use Rattle.geometry.specs.Places.{place, entry_word}
use Rattle.image.specs.Found.{Found}
use Rattle.image.specs.Found.{At}
use Rattle.image.specs.Words.{Image, Shaped}
use Rattle.image.specs.Slots.{find}
use Rattle.image.proofs.Finding.{found-live}
use Rattle.image.proofs.Reading.{entry-inside}
use Rattle.flash.specs.declared.Step.TheVariants.{Program}
use Rattle.flash.specs.Steps.{programmed_at, applied, run}
use Rattle.flash.specs.Placing.{InImage}
use Rattle.flash.proofs.Stores.{run_none}
use Rattle.flash.proofs.Parts.{Carried}

module _ (geo : Geometry) where
  -- an image keeps its shape as long as it keeps its length
  pub still-shaped : {image after : Image} → Shaped geo image → length after ≡ length image → Shaped geo after
  still-shaped shaped kept = record { limits = shaped.limits; long = kept ∙ shaped.long }

  -- a place that was found lies in the image
  pub found_inside : (image : Image) (n : ℕ) {found : Found} → found ≡ find geo image n → InImage geo found
  found_inside image n e =
      record {
        block = λ b i q. (found-live geo image n b i (sym e ∙ q)).block;
        slot_is = λ b i q. (found-live geo image n b i (sym e ∙ q)).slot_is;
      }

  -- and so does the entry there
  pub found-entry-inside :
      {image : Image} {found : Found} {b i : ℕ} →
      Shaped geo image × InImage geo found → found ≡ At b i → place geo b (entry_word geo i) < length image
  found-entry-inside {image} {b = b} {i = i} (shaped, inside) e = entry-inside geo image shaped (inside.block b i e) (inside.slot_is b i e)

  -- one word programmed is the run of one step; its place and the asked word may be known by equations alone
  pub run-program :
      (image : Image) {after : Image} {p q w v : ℕ} → after ≡ programmed_at image p w → p ≡ q → w ≡ v → after ≡ run geo image (Program q v ∷ [])
  unfolding run applied
  run-program image e p w = e ∙ rw (p, w)

  -- no step
  pub nothing-carried : (image : Image) (left : ℕ) → Carried geo image left [] left image
  nothing-carried image left = (omega arith, sym (ap (run geo image) (take-nil left) ∙ run_none geo image))
