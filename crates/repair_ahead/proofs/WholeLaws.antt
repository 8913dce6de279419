-- What the code of a repair stands on as a whole: (ii) and (iii), told from the image before (i), are those of the images that they are done on, and so
-- is (iv). Assumes nothing.
use mathlib.Core.Path.{◌≡◌, refl, sym, ap, ◌∙◌}
use mathlib.Core.Bool.{Bool, true, false, cond}
use mathlib.Core.List.{List, [], ◌++◌, append_assoc}
use Prim.Native.Nat.{ℕ, ◌<◌}
use native.Mathlib.Omega.{arith}
use lib.Dec.{eqb}
use Rattle.std.specs.Prelude.{Result, Ok}
use Rattle.ranges.proofs.Tests.{any-ext}
use Rattle.ranges.proofs.Lists.{join-ext}
use Rattle.ranges.proofs.LargestLaws.{largest-ext}
use Rattle.geometry.specs.declared.Geometry.{Geometry}
use Rattle.geometry.specs.Geometry.{d}
use Rattle.image.specs.Words.{Image, Shaped, Words32, erase_count}
use Rattle.image.specs.Slots.{is_live_for}
use Rattle.image.specs.Blocks.{blank, lowest_open, victim}
use Rattle.image.specs.WellFormed.{R6, MapsAgree}
use Rattle.image.specs.Mending.{count_unset, mendable, emptiest}
use Rattle.image.proofs.Mending.{Mendable, mendable-facts}
use Rattle.flash.specs.declared.LiveBounds.{LiveBounds}
use Rattle.flash.specs.declared.Step.{Step}
use Rattle.flash.specs.Placing.{least_live, greatest_live, live_bounds}
use Rattle.flash.specs.Writing.{reclaiming}
use Rattle.flash.specs.Repairing.{clearing, sets_least, sets_greatest, bounding, largest_other, sets_count, counting, emptying}
use Rattle.flash.specs.Repairing.{settled, bounded, counted, repairing, lacks_room, victim_worn}
use Rattle.placing.proofs.BoundLaws.{bounds-ext}
use Rattle.retiring.proofs.Retired.{Retired, settled-retired}
use Rattle.retiring.proofs.Kept.{kind-test, live-slots-same, full-same, R6-same}
use Rattle.restoring.proofs.LowWords.{mendable-map}
use Rattle.answers.specs.declared.Refusal.{Refusal}
use Rattle.repairing.specs.declared.RepairPlan.{RepairPlan}
use Rattle.repairing.specs.declared.RepairPlan.TheVariants.{Mend, Empty}
use Rattle.repairing.specs.Planned.{repair_planned, plan_or_refusal}
use Rattle.repairing.proofs.Decided.{not-refused}
use Rattle.repairing.proofs.Mended.{bounded-bounding, bounded-settling}
use Rattle.repairing.proofs.Emptied.{victim-settled, emptying-is, none-emptied}
use Rattle.repair_ahead.proofs.ToCopy.{same-to-copy}
use Rattle.repair_ahead.specs.Emptying.{SameToCopy}

-- ---- (ii) and (iii)

-- the same numbers are live in a block while entries are made invalid by (i): so the least and the greatest are the same
bounds-same : (geo : Geometry) (image now : Image) → Retired geo image now → (b : ℕ) → b < geo.blocks → live_bounds geo now b ≡ live_bounds geo image b
unfolding least_live greatest_live
bounds-same geo image now r b l =
    bounds-ext geo.logical (λ n m. any-ext (d geo) (λ i h. kind-test geo image now r (is_live_for n) refl b i l h))

-- and so the steps of (ii) are the same
bounding-same : (geo : Geometry) (image now : Image) → Retired geo image now → bounding geo now ≡ bounding geo image
unfolding bounding
bounding-same geo image now r = join-ext geo.blocks same
  where
    same : (b : ℕ) → b < geo.blocks → sets_least geo now b ++ sets_greatest geo now b ≡ sets_least geo image b ++ sets_greatest geo image b
    same b l =
        let live = bounds-same geo image now r b l in
        rw (
          full-same geo image now r b l,
          live-slots-same geo image now r b l,
          (r.bounds b l).0,
          (r.bounds b l).1,
          ap (λ (x : LiveBounds). x.least) live,
          ap (λ (x : LiveBounds). x.greatest) live,
        )

-- those of (iii) are the same in two images whose blocks have the same counts, and of which the same are blank
counting-same :
    (geo : Geometry) (image now : Image) →
    ((b : ℕ) → b < geo.blocks → blank geo now b ≡ blank geo image b) →
    ((b : ℕ) → b < geo.blocks → erase_count geo now b ≡ erase_count geo image b) →
    counting geo now ≡ counting geo image
unfolding counting count_unset
counting-same geo image now blanks counts = join-ext geo.blocks same
  where
    largest : (b : ℕ) → largest_other geo now b ≡ largest_other geo image b
    largest b = largest-ext geo.blocks (λ c l. ap (cond (eqb c b) 0) (counts c l))

    same : (b : ℕ) → b < geo.blocks → sets_count geo now b ≡ sets_count geo image b
    same b l = rw (blanks b l, counts b l, largest b)

-- ---- plans

-- the steps of (iv), by the plan
abbrev pub planned_last : Geometry → Image → RepairPlan → List Step
planned_last geo image Mend = []
planned_last geo image (Empty v) = reclaiming geo (counted geo image) v (lowest_open geo image)

-- nothing to empty is not a block to empty
apart-plans : {v : ℕ} → Mend ≡ Empty v → ⊥
apart-plans e = let z : ◌≡◌ {A = ℕ} 0 1 = cc in omega arith

victim-is : {v w : ℕ} → Empty v ≡ Empty w → v ≡ w
victim-is e = cc

same-plan : {p q : RepairPlan} → ◌≡◌ {A = Result RepairPlan Refusal} (Ok p) (Ok q) → p ≡ q
same-plan e = cc

-- ---- of an image that can be mended

module _ (geo : Geometry) (image : Image) (fit : mendable geo image ≡ true) where
  mend : Mendable geo image
  mend = mendable-facts geo image fit

  -- R2 of every block, as the code asks for it
  pub maps-agree : MapsAgree geo image
  maps-agree = record { agrees = mendable-map geo image mend }

  module _ (shaped : Shaped geo image) (words : Words32 image) where
    retired : Retired geo image (settled geo image)
    retired = settled-retired geo image shaped words

    -- (ii)
    bounding-early : bounding geo (settled geo image) ≡ bounding geo image
    bounding-early = bounding-same geo image (settled geo image) retired

    -- (iii)
    counting-early : counting geo (bounded geo image) ≡ counting geo image
    counting-early =
        counting-same geo image (bounded geo image)
        (bounded-settling geo image shaped words mend).blanks
        (λ b l. (bounded-bounding geo image shaped words mend).counts b l ∙ retired.counts b l)

    -- (i) to (iii), told so, and (iv) behind them
    pub repairing-early :
        repairing geo image ≡ (clearing geo image ++ (bounding geo image ++ counting geo image)) ++ emptying geo (counted geo image)
    unfolding repairing
    repairing-early =
        rw (bounding-early, counting-early)
        (sym
        (append_assoc (clearing geo image) _ (emptying geo (counted geo image))
        ∙ ap (clearing geo image ++◌) (append_assoc (bounding geo image) (counting geo image) (emptying geo (counted geo image)))))

    -- ---- (iv) by the plan

    module _ {plan : RepairPlan} (is : plan_or_refusal (repair_planned geo image) ≡ Ok plan) where
      roomy : lacks_room geo image ≡ false
      roomy = (not-refused geo image is).0

      wearable : victim_worn geo image ≡ false
      wearable = (not-refused geo image is).1

      -- where neither refusal 10 nor 6 applies, the plan is whether a block is blank
      plan-of : (x : Bool) → R6 geo image ≡ x → plan ≡ cond x Mend (Empty (victim geo (settled geo image)))
      unfolding repair_planned
      plan-of x e = same-plan (sym is ∙ planned x e)
        where
          planned : (x : Bool) → R6 geo image ≡ x → plan_or_refusal (repair_planned geo image) ≡ Ok (cond x Mend (Empty (victim geo (settled geo image))))
          planned true e = rw (R6-same geo image (settled geo image) retired ∙ e)
          planned false e = rw (R6-same geo image (settled geo image) retired ∙ e, roomy, wearable)

      pub emptying-planned : emptying geo (counted geo image) ≡ planned_last geo image plan
      emptying-planned = go (R6 geo image) refl
        where
          go : (x : Bool) → R6 geo image ≡ x → emptying geo (counted geo image) ≡ planned_last geo image plan
          go true e = rw (plan-of true e) (none-emptied geo image shaped words mend roomy wearable e)
          go false e = rw (plan-of false e, victim-settled geo image shaped words mend e) (emptying-is geo image shaped words mend e)

      -- the block that is planned to be emptied can be
      pub planned-same : (v : ℕ) → plan ≡ Empty v → SameToCopy geo image (counted geo image) v (lowest_open geo image)
      planned-same v empties = go (R6 geo image) refl
        where
          go : (x : Bool) → R6 geo image ≡ x → SameToCopy geo image (counted geo image) v (lowest_open geo image)
          go true e = absurd (apart-plans (sym (plan-of true e) ∙ empties))
          go false e =
              let same : v ≡ emptiest geo image = victim-is (sym empties ∙ plan-of false e) ∙ victim-settled geo image shaped words mend e in
              rw same (same-to-copy geo image shaped words mend e roomy)
