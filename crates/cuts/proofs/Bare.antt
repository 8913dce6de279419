-- K4: what an image is between an erasure and the programming of the block's count, and wherever the end of a reclaim is cut short. Assumes nothing.
use mathlib.Core.Path.{◌≡◌, refl, sym, ap, ◌∙◌}
use mathlib.Core.Logic.{◌⊎◌, inl, inr}
use mathlib.Core.Bool.{true}
use mathlib.Core.List.{List, [], ◌∷◌}
use Prim.Native.Nat.{ℕ, zero, suc, ◌+◌, ◌^◌, ◌<◌}
use native.Mathlib.Decide.{ℕ_discrete}
use native.Mathlib.Omega.{arith}
use lib.Seq.{ext_get_or, take_all}
use Rattle.ranges.proofs.Tests.{any_of}
use Rattle.bits.specs.Word.{ones}
use Rattle.geometry.specs.declared.Geometry.{Geometry}
use Rattle.geometry.specs.Geometry.{d}
use Rattle.geometry.specs.Places.{place, erase_word}
use Rattle.geometry.proofs.Laws.{low-in-block}
use Rattle.image.specs.declared.Slot.TheVariants.{Live}
use Rattle.image.specs.Words.{Image, Shaped, Words32, word}
use Rattle.image.specs.Slots.{slot, map_of}
use Rattle.image.specs.Blocks.{blank}
use Rattle.image.specs.WellFormed.{ceiling, R6}
use Rattle.image.proofs.Mending.{Mendable, sound-mendable}
use Rattle.flash.specs.declared.Step.{Step}
use Rattle.flash.specs.declared.Step.TheVariants.{Program, Erase}
use Rattle.flash.specs.Steps.{erased_block, applied, run, first_of}
use Rattle.flash.specs.Writing.{erases_victim}
use Rattle.flash.proofs.Stores.{last_asked, last-here, last-other}
use Rattle.flash.proofs.Along.{Along, along-short, along-append}
use Rattle.flash.proofs.Filling.{Ready}
use Rattle.flash.proofs.Erased as wipe

-- an image that has a blank block keeps R6
blank-spare : (geo : Geometry) (image : Image) (b : ℕ) → b < geo.blocks → blank geo image b ≡ true → R6 geo image ≡ true
unfolding R6
blank-spare geo image b l t = any_of geo.blocks (blank geo image) l t

module _ (geo : Geometry) (image : Image) (ready : Ready geo image) (v : ℕ) (block : v < geo.blocks) where
  abbrev bare : Image
  bare = erased_block geo image v

  small : ones < 2 ^ 32
  small = omega arith

  -- to ask for ones leaves them: the erased block is the one whose count was programmed with ones
  bare-is : run geo image (Erase v ∷ Program (place geo v erase_word) ones ∷ []) ≡ bare
  bare-is =
      ext_get_or 0 _ bare
      (wipe.wiped-long geo image ready v ones block small ∙ sym (wipe.erased-long geo image ready.shaped v block))
      (λ q l. wipe.wiped-word geo image ready v ones block small q ∙ same q (ℕ_discrete q (place geo v erase_word)))
    where
      same : (q : ℕ) → Dec (q ≡ place geo v erase_word) → last_asked (Program (place geo v erase_word) ones ∷ []) q (word bare q) ≡ word bare q
      same q (yes e) =
          rw e
          (last-here (place geo v erase_word) ones (word bare (place geo v erase_word))
          ∙ sym (wipe.erased-inside geo image ready.shaped v block erase_word (low-in-block geo ready.shaped.limits (omega arith))))
      same q (no n) = last-other ones (word bare q) n

  pub bare-shaped : Shaped geo bare
  bare-shaped = rw bare-is at (wipe.wiped-shaped geo image ready v ones block small)

  pub bare-words : Words32 bare
  bare-words = rw bare-is at (wipe.wiped-words geo image ready v ones block small)

  pub bare-blank : blank geo bare v ≡ true
  bare-blank = rw bare-is at (wipe.wiped-blank geo image ready v ones block small)

  pub bare-spare : R6 geo bare ≡ true
  bare-spare = blank-spare geo bare v block bare-blank

  -- where none of its slots was live, the image can be mended and has the map that it had
  module _ (none-live : (j n : ℕ) → j < d geo → slot geo image v j ≡ Live n → ⊥) where
    pub bare-mendable : Mendable geo bare
    bare-mendable = rw bare-is at (wipe.wiped-mendable geo image ready v ones block small none-live (inr refl))

    pub bare-map : (n : ℕ) → map_of geo bare n ≡ map_of geo image n
    bare-map = rw bare-is at (wipe.wiped-map geo image ready v ones block small none-live)

-- ---- wherever the end of a reclaim is cut short

-- the image can be mended and has the map that it had; and once the block is erased R6 holds
pub record Erasing (geo : Geometry) (image now : Image) : Type 0 where
  pub shaped : Shaped geo now
  pub words : Words32 now
  pub mendable : Mendable geo now
  pub map : (n : ℕ) → map_of geo now n ≡ map_of geo image n
  pub spare : (now ≡ image) ⊎ (R6 geo now ≡ true)

module _ (geo : Geometry) (image : Image) (ready : Ready geo image) (v count : ℕ) (block : v < geo.blocks) (fits : count < ceiling) where
  abbrev steps : List Step
  steps = erases_victim geo v count

  counted : count + 1 < 2 ^ 32
  counted = omega arith

  wiped-spare : R6 geo (run geo image steps) ≡ true
  wiped-spare = blank-spare geo (run geo image steps) v block (wipe.wiped-blank geo image ready v (count + 1) block counted)

  -- R6 holds after the first step, and after every step from there on
  pub erased-spare : (j : ℕ) → R6 geo (run geo image (first_of (suc j) steps)) ≡ true
  unfolding run applied
  erased-spare zero = bare-spare geo image ready v block
  erased-spare (suc j) = ap (λ (ss : List Step). R6 geo (run geo image ss)) (take_all (suc (suc j)) steps (omega arith)) ∙ wiped-spare

  module _ (none-live : (j n : ℕ) → j < d geo → slot geo image v j ≡ Live n → ⊥) where
    not-erased : Erasing geo image image
    not-erased =
        record {
          shaped = ready.shaped;
          words = ready.words;
          mendable = sound-mendable geo image ready.sound;
          map = λ n. refl;
          spare = inl refl;
        }

    erased : Erasing geo image (run geo image (Erase v ∷ []))
    unfolding run applied
    erased =
        record {
          shaped = bare-shaped geo image ready v block;
          words = bare-words geo image ready v block;
          mendable = bare-mendable geo image ready v block none-live;
          map = bare-map geo image ready v block none-live;
          spare = inr (bare-spare geo image ready v block);
        }

    counted-too : Erasing geo image (run geo image steps)
    counted-too =
        let after = wipe.wiped-ready geo image ready v (count + 1) block counted none-live (omega arith) in
        record {
          shaped = after.shaped;
          words = after.words;
          mendable = sound-mendable geo (run geo image steps) after.sound;
          map = wipe.wiped-map geo image ready v (count + 1) block counted none-live;
          spare = inr wiped-spare;
        }

    pub erasing : Along geo (Erasing geo image) image steps
    unfolding run
    erasing =
        let P = Erasing geo image in
        let asked = Program (place geo v erase_word) (count + 1) ∷ [] in
        along-append geo P image (Erase v ∷ []) asked
        (along-short geo P image (Erase v ∷ []) (omega arith) not-erased erased)
        (along-short geo P (run geo image (Erase v ∷ [])) asked (omega arith) erased counted-too)
