-- A write and a release, wherever they are cut short: an image that a repair can mend, with the map before the call or the one after it; and a block is
-- blank, or the write is in the copying of its reclaim. Assumes nothing.
use mathlib.Core.Path.{◌≡◌, refl, ◌∙◌}
use mathlib.Core.Logic.{◌≢◌, ◌⊎◌, inl, inr, ⊎_elim}
use mathlib.Core.Bool.{Bool, true, false}
use mathlib.Core.List.{List, ◌++◌}
use mathlib.Core.Option.{Option, some}
use Prim.Native.Nat.{ℕ, suc}
use Rattle.geometry.specs.declared.Geometry.{Geometry}
use Rattle.image.specs.Words.{Image, Shaped, Words32, erase_count}
use Rattle.image.specs.Slots.{map_of}
use Rattle.image.specs.Blocks.{least_worn_blank, victim}
use Rattle.image.specs.WellFormed.{ceiling, R6}
use Rattle.image.proofs.Mending.{Mendable}
use Rattle.flash.specs.declared.Step.{Step}
use Rattle.flash.specs.Steps.{run, erasures_in, first_of}
use Rattle.flash.specs.Placing.{placing}
use Rattle.flash.specs.Writing.{filling, must_reclaim, reclaiming, reclaiming_first, writing}
use Rattle.flash.proofs.Stores.{run-append}
use Rattle.flash.proofs.Along.{Along, along-map}
use Rattle.flash.proofs.Filling.{Ready}
use Rattle.flash.proofs.Chosen.{Choice}
use Rattle.flash.proofs.Written.{Sector, Reclaimable, choice-target, blank-in, apart, has_room, reclaim-leaves, reclaim-ready, reclaim-choice, by-reclaim, by-choice}
use Rattle.flash.proofs.Planned.{writing-fills, writing-reclaims}
use Rattle.cuts.proofs.Splits.{first-split}
use Rattle.cuts.proofs.Stages.{During, during-map, during-spare}
use Rattle.cuts.proofs.Passing.{during}
use Rattle.cuts.proofs.InCopy.{Mends, InCopy}
use Rattle.cuts.proofs.Reclaims.{CopyOrBlank, reclaim-cut}

-- an image that can be mended, whose map is the one before, or has n set to this
pub record Changes (geo : Geometry) (image : Image) (n : ℕ) (to : Option (List ℕ)) (now : Image) : Type 0 where
  pub shaped : Shaped geo now
  pub words : Words32 now
  pub mendable : Mendable geo now
  pub map :
      ((m : ℕ) → map_of geo now m ≡ map_of geo image m)
      ⊎ ((map_of geo now n ≡ to) × ((m : ℕ) → m ≢ n → map_of geo now m ≡ map_of geo image m))

-- these steps were done of a write: a block is blank, or none was erased, and the victim is being copied to the blank block
pub record WriteCut (geo : Geometry) (image : Image) (n : ℕ) (ws : List ℕ) (done : List Step) : Type 0 where
  pub changes : Changes geo image n (some ws) (run geo image done)
  pub room :
      (R6 geo (run geo image done) ≡ true)
      ⊎ ((must_reclaim geo image ≡ true)
      × (erasures_in done ≡ 0)
      × InCopy geo image (victim geo image) (least_worn_blank geo image) (run geo image done))

-- the map stayed
kept : {geo : Geometry} {image now : Image} (n : ℕ) (to : Option (List ℕ)) → Mends geo image now → Changes geo image n to now
kept n to m = record { shaped = m.shaped; words = m.words; mendable = m.mendable; map = inl m.map }

-- ---- rules 1 and 2: another block stays blank

module _ (geo : Geometry) (image : Image) (n : ℕ) (ws : List ℕ) (start : Ready geo image) (sector : Sector geo n ws) (c : Choice geo image) where
  abbrev Fills : Image → Type 0
  Fills now = Changes geo image n (some ws) now × (R6 geo now ≡ true)

  filling-along : Along geo Fills image (filling geo image n ws)
  unfolding filling
  filling-along =
      let target = choice-target geo image n ws start sector c in
      rw c.chosen.at
      (along-map geo (λ now. During geo image now n ws c.b c.i) Fills image (placing geo image n ws c.b c.i)
      (λ now p. (
        record {
          shaped = p.shaped;
          words = p.words;
          mendable = p.mendable;
          map = during-map geo image now n ws c.b c.i start target p;
        },
        during-spare geo image now n ws c.b c.i start target p c.chosen.spare c.chosen.spare-in c.chosen.spare-other c.chosen.spare-blank,
      ))
      (during geo image n ws c.b c.i start target))

-- ---- an accepted write

module _
    (geo : Geometry) (image : Image) (n : ℕ) (ws : List ℕ)
    (start : Ready geo image)
    (formed : R6 geo image ≡ true)
    (sector : Sector geo n ws)
    (below : must_reclaim geo image ≡ true → erase_count geo image (victim geo image) ≡ ceiling → ⊥)
  where
    by-filling : must_reclaim geo image ≡ false → (j : ℕ) → WriteCut geo image n ws (first_of j (writing geo image n ws))
    by-filling no-need j =
        rw (writing-fills geo image no-need n ws)
        (let p = filling-along geo image n ws start sector (by-choice geo image n ws start formed sector below no-need) j in
        record { changes = p.0; room = inl p.1 })

    module _ (must : must_reclaim geo image ≡ true) where
      abbrev v : ℕ
      v = victim geo image

      abbrev t : ℕ
      t = least_worn_blank geo image

      is : Reclaimable geo image v
      is = by-reclaim geo image n ws start formed sector below must

      abbrev first : List Step
      first = reclaiming geo image v t

      abbrev base : Image
      base = run geo image first

      abbrev second : List Step
      second = filling geo base n ws

      -- within the reclaim
      within-reclaim : (done : List Step) → CopyOrBlank geo image (InCopy geo image v t) done → WriteCut geo image n ws done
      within-reclaim done (inl (none-erased, p)) =
          record { changes = kept n (some ws) p.mends; room = inr (must, none-erased, p) }
      within-reclaim done (inr (m, blank-now)) = record { changes = kept n (some ws) m; room = inl blank-now }

      -- and behind it, with the map that the reclaim has left as it was
      behind-reclaim : (j : ℕ) → WriteCut geo image n ws (first ++ first_of j second)
      behind-reclaim j =
          let p = filling-along geo base n ws (reclaim-ready geo image start must v is) sector (reclaim-choice geo image start must v is) j in
          let same = (reclaim-leaves geo image start must v is).map in
          let after : Changes geo image n (some ws) (run geo base (first_of j second)) =
          record {
            shaped = p.0.shaped;
            words = p.0.words;
            mendable = p.0.mendable;
            map =
                ⊎_elim
                (λ e. inl (λ m. e m ∙ same m))
                (λ e. inr (e.0, λ m x. e.1 m x ∙ same m))
                p.0.map;
          } in
          let parts = run-append geo image first (first_of j second) in
          record { changes = rw parts after; room = inl (rw parts p.1) }

      by-reclaiming : (j : ℕ) → WriteCut geo image n ws (first_of j (writing geo image n ws))
      unfolding reclaiming_first
      by-reclaiming j = rw (writing-reclaims geo image must n ws) (go (first-split j first second))
        where
          go :
              (first_of j (first ++ second) ≡ first_of j first) ⊎ ((i : ℕ) × (first_of j (first ++ second) ≡ first ++ first_of (suc i) second)) →
              WriteCut geo image n ws (first_of j (first ++ second))
          go (inl e) =
              rw e
              (within-reclaim (first_of j first)
              (reclaim-cut geo image v t start is.block (blank-in geo image start must v is) (apart geo image start must v is)
              (has_room geo image start must v is) is.wearable j))
          go (inr (i, e)) = rw e (behind-reclaim (suc i))

    pub write-cut : (j : ℕ) → WriteCut geo image n ws (first_of j (writing geo image n ws))
    write-cut j = go (must_reclaim geo image) refl
      where
        go : (x : Bool) → must_reclaim geo image ≡ x → WriteCut geo image n ws (first_of j (writing geo image n ws))
        go true must = by-reclaiming must j
        go false no-need = by-filling no-need j
