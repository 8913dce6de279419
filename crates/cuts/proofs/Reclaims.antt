-- A whole reclaim of v into t, wherever it is cut short: before the erasing it is in the copying, and from there on a block is blank. Assumes nothing.
use mathlib.Core.Path.{◌≡◌, refl, ◌∙◌}
use mathlib.Core.Logic.{◌≢◌, ◌⊎◌, inl, inr}
use mathlib.Core.Bool.{true, false, true≢false}
use mathlib.Core.List.{List, [], ◌++◌}
use Prim.Native.Nat.{ℕ, zero, suc, ◌<◌, ◌≤◌}
use native.Mathlib.Omega.{arith}
use Rattle.geometry.specs.declared.Geometry.{Geometry}
use Rattle.geometry.specs.Geometry.{d}
use Rattle.image.specs.declared.Slot.{Slot}
use Rattle.image.specs.declared.Slot.TheVariants.{Free, Live, Dead, Faulty, Superseded}
use Rattle.image.specs.Words.{Image, erase_count}
use Rattle.image.specs.Slots.{slot, is_live, map_of}
use Rattle.image.specs.Blocks.{free_slots, live_slots}
use Rattle.image.specs.WellFormed.{ceiling, R6}
use Rattle.tables.specs.Tables.{right_table}
use Rattle.flash.specs.declared.Step.{Step}
use Rattle.flash.specs.Steps.{run, erasures_in, first_of}
use Rattle.flash.specs.Writing.{copying, copied_slot, erases_victim, erasing, reclaiming}
use Rattle.flash.specs.Tables.{table_copied}
use Rattle.flash.proofs.Stores.{run_none, run-append}
use Rattle.flash.proofs.Parts.{erases-none-first}
use Rattle.flash.proofs.Changed.{not_live}
use Rattle.flash.proofs.Filling.{Ready}
use Rattle.flash.proofs.Moving.{Moved, moved}
use Rattle.cuts.proofs.Splits.{first-split}
use Rattle.cuts.proofs.Bare.{erased-spare}
use Rattle.cuts.proofs.Bare as bare
use Rattle.cuts.proofs.InCopy.{Mends, InCopy}
use Rattle.cuts.proofs.Copying.{copying-along}

-- these steps were done: none of them erased, and the image is as P says; or it can be mended, with the same map, and a block is blank
abbrev pub CopyOrBlank : (geo : Geometry) (image : Image) (P : Image → Type 0) → List Step → Type 0
CopyOrBlank geo image P done =
    ((erasures_in done ≡ 0) × P (run geo image done)) ⊎ (Mends geo image (run geo image done) × (R6 geo (run geo image done) ≡ true))

-- from the image where the copying is done, which has the same map, at least one step of the erasing
module _
    (geo : Geometry) (image now : Image) (ready : Ready geo now) (same : (n : ℕ) → map_of geo now n ≡ map_of geo image n)
    (v count : ℕ) (block : v < geo.blocks) (fits : count < ceiling)
    (none-live : (j n : ℕ) → j < d geo → slot geo now v j ≡ Live n → ⊥)
  where
    erased-mends :
        (i : ℕ) → let after : Image = run geo now (first_of (suc i) (erases_victim geo v count)) in Mends geo image after × (R6 geo after ≡ true)
    erased-mends i =
        let e = bare.erasing geo now ready v count block fits none-live (suc i) in (
          record { shaped = e.shaped; words = e.words; mendable = e.mendable; map = λ n. e.map n ∙ same n },
          erased-spare geo now ready v count block fits i,
        )

module _
    (geo : Geometry) (image : Image) (v t : ℕ)
    (start : Ready geo image)
    (victim_in : v < geo.blocks) (target_in : t < geo.blocks) (apart : v ≢ t)
    (room : live_slots geo image v ≤ free_slots geo image t)
    (wearable : erase_count geo image v < ceiling)
  where
    abbrev copies : List Step
    copies = copying geo image v t (d geo)

    abbrev copied : Image
    copied = run geo image copies

    m : Moved geo image v t (d geo) copies (table_copied geo image v t (right_table geo image) (d geo))
    m = moved geo image v t start victim_in target_in apart room (d geo) (omega arith)

    pub reclaim-cut : (j : ℕ) → CopyOrBlank geo image (InCopy geo image v t) (first_of j (reclaiming geo image v t))
    unfolding reclaiming
    reclaim-cut j = go (first-split j copies (erasing geo image v))
      where
        go :
            (first_of j (copies ++ erasing geo image v) ≡ first_of j copies)
            ⊎ ((i : ℕ) × (first_of j (copies ++ erasing geo image v) ≡ copies ++ first_of (suc i) (erasing geo image v))) →
            CopyOrBlank geo image (InCopy geo image v t) (first_of j (copies ++ erasing geo image v))
        go (inl e) =
            rw e (inl (erases-none-first j copies m.erasures, copying-along geo image v t start victim_in target_in apart room (d geo) (omega arith) j))
        go (inr (i, e)) =
            rw (e, run-append geo image copies (first_of (suc i) (erasing geo image v)))
            (inr
            (erased-mends geo image copied m.ready m.map v (erase_count geo image v) victim_in wearable (λ j n l q. m.passed j n l l q) i))

-- where v has no live slot nothing is copied, be there a block to copy to or not
module _ (geo : Geometry) (image : Image) (v t : ℕ) (none : (j : ℕ) → j < d geo → is_live (slot geo image v j) ≡ false) where
  pub nothing_copied : (m : ℕ) → m ≤ d geo → copying geo image v t m ≡ []
  unfolding copying
  nothing_copied zero l = refl
  nothing_copied (suc m) l =
      let before = nothing_copied m (omega arith) in
      rw (before, run_none geo image) (go (slot geo image v m) (none m l))
    where
      go : (s : Slot) → is_live s ≡ false → copied_slot geo image v t m s ≡ []
      go Free e = refl
      go (Live n) e = absurd (true≢false e)
      go Dead e = refl
      go Faulty e = refl
      go Superseded e = refl

  module _ (start : Ready geo image) (victim_in : v < geo.blocks) (wearable : erase_count geo image v < ceiling) where
    pub erase-cut : (j : ℕ) → CopyOrBlank geo image (λ now. now ≡ image) (first_of j (reclaiming geo image v t))
    unfolding reclaiming erasures_in
    erase-cut j = rw (nothing_copied (d geo) (omega arith)) (go j)
      where
        go : (j : ℕ) → CopyOrBlank geo image (λ now. now ≡ image) (first_of j (erasing geo image v))
        go zero = inl (refl, run_none geo image)
        go (suc i) =
            inr
            (erased-mends geo image image start (λ n. refl) v (erase_count geo image v) victim_in wearable
            (λ j n l e. not_live (none j l) e) i)
