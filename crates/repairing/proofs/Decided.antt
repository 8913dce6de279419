-- How a repair goes about it, told from the image before (i), and what its plan says of (iv). Assumes nothing.
use mathlib.Core.Path.{◌≡◌, refl, sym, ap, ◌∙◌}
use mathlib.Core.Logic.{◌≢◌}
use mathlib.Core.Bool.{Bool, true, false, not, cond, ◌||◌}
use mathlib.Core.List.{[]}
use Prim.Native.Nat.{ℕ, ◌<◌, ◌≤◌}
use native.Mathlib.Decide.{dec_lt}
use native.Mathlib.Omega.{arith}
use lib.Dec.{leb, ltb, eqb}
use borrow.Author.Tests.{eq-eqb, ne_eqb, lt-ltb, le-ltb, le-leb, lt-leb}
use Rattle.std.specs.Prelude.{Ok, Err}
use Rattle.ranges.specs.Range.{count_below}
use Rattle.ranges.proofs.Sums.{any-count}
use Rattle.geometry.specs.declared.Geometry.{Geometry}
use Rattle.image.specs.Words.{Image, Shaped, Words32, erase_count}
use Rattle.image.specs.Blocks.{blank, free_slots, live_slots, lowest_open, victim}
use Rattle.image.specs.WellFormed.{ceiling, R6}
use Rattle.image.specs.Mending.{emptiest}
use Rattle.image.proofs.Alike.{R6-alike, lowest-open-alike}
use Rattle.image.proofs.Mending.{Mendable}
use Rattle.flash.specs.Writing.{EachInTurn, reclaiming}
use Rattle.flash.specs.Repairing.{emptying, settled, counted, room_in, lacks_room, victim_worn}
use Rattle.flash.proofs.Planned.{some-open, none_open}
use Rattle.flash.proofs.Moving.{each-in-turn}
use Rattle.flash.proofs.CopiesInto.{Emptiable}
use Rattle.answers.specs.declared.Refusal.{Refusal}
use Rattle.answers.specs.declared.Refusal.TheVariants.{NoRoom, WornOut}
use Rattle.repairing.specs.declared.RepairPlan.{RepairPlan}
use Rattle.repairing.specs.declared.RepairPlan.TheVariants as plan
use Rattle.repairing.specs.Planned.{Plan, Mend, Empty, Cramped, Worn, repair_planned, plan_or_refusal}
use Rattle.repairing.proofs.Mended.{Settling, settled-settling, counted-settling}
use Rattle.repairing.proofs.Emptied.{victim-settled, lowest-counted, emptying-is, emptied-below, emptied-able}

-- ---- what is counted

-- a block is blank where the count of the blank ones is not 0
module _ (geo : Geometry) (image : Image) {count : ℕ} (counts : count ≡ count_below geo.blocks (blank geo image)) where
  pub some-blank : count ≢ 0 → R6 geo image ≡ true
  unfolding R6
  some-blank n = any-count geo.blocks (blank geo image) ∙ ap not (ne_eqb _ _ (λ e. n (counts ∙ e)))

  pub no-blank : count ≡ 0 → R6 geo image ≡ false
  unfolding R6
  no-blank e = any-count geo.blocks (blank geo image) ∙ ap not (eq-eqb _ _ (sym counts ∙ e))

-- the room by the first open block
module _ (geo : Geometry) (image : Image) {t : ℕ} (lowest : t ≡ lowest_open geo image) where
  pub room_open : t < geo.blocks → free_slots geo image t ≡ room_in geo image
  room_open l =
      let inside : lowest_open geo image < geo.blocks = omega arith in
      rw (some-open geo image inside, lowest)

  pub room-none : geo.blocks ≤ t → 0 ≡ room_in geo image
  room-none l = rw (none_open geo image (omega arith))

-- ---- the four plans

-- one that is no refusal, by the code's plan
abbrev pub planned_as : RepairPlan → Plan
planned_as plan.Mend = Mend
planned_as (plan.Empty v) = Empty v

pub is-planned : (x : Plan) {p : RepairPlan} → plan_or_refusal x ≡ Ok p → x ≡ planned_as p
is-planned Mend {p} e = let same : plan.Mend ≡ p = cc in ap planned_as same
is-planned (Empty v) {p} e = let same : plan.Empty v ≡ p = cc in ap planned_as same
is-planned Cramped e = let z : ◌≡◌ {A = ℕ} 0 1 = cc in absurd (omega arith)
is-planned Worn e = let z : ◌≡◌ {A = ℕ} 0 1 = cc in absurd (omega arith)

-- where a block is blank, refusals 10 and 6 do not apply; nor where the plan is none of them
module _ (geo : Geometry) (image : Image) where
  pub spared : R6 geo (settled geo image) ≡ true → (lacks_room geo image ≡ false) × (victim_worn geo image ≡ false)
  unfolding lacks_room victim_worn
  spared t = (rw t, rw t)

  pub not-refused :
      {p : RepairPlan} → plan_or_refusal (repair_planned geo image) ≡ Ok p → (lacks_room geo image ≡ false) × (victim_worn geo image ≡ false)
  unfolding repair_planned
  not-refused {p} e = go (R6 geo (settled geo image)) refl (lacks_room geo image) refl (victim_worn geo image) refl
    where
      refusal : {why : Refusal} → plan_or_refusal (repair_planned geo image) ≡ Err why → ⊥
      refusal r = let z : ◌≡◌ {A = ℕ} 0 1 = cc in omega arith

      go :
          (spare : Bool) →
          R6 geo (settled geo image) ≡ spare →
          (lacks : Bool) →
          lacks_room geo image ≡ lacks →
          (worn : Bool) →
          victim_worn geo image ≡ worn →
          (lacks_room geo image ≡ false) × (victim_worn geo image ≡ false)
      go true s lacks l worn w = spared s
      go false s true l worn w = absurd (refusal {why = NoRoom} (rw (s, l)))
      go false s false l true w = absurd (refusal {why = WornOut} (rw (s, l, w)))
      go false s false l false w = (l, w)

module _ (geo : Geometry) (image : Image) (shaped : Shaped geo image) (words : Words32 image) (mend : Mendable geo image) where
  to-settled : Settling geo image (settled geo image)
  to-settled = settled-settling geo image shaped words mend

  to-counted : Settling geo image (counted geo image)
  to-counted = counted-settling geo image shaped words mend

  -- (i) leaves the blank blocks and the room as they were
  spare-settled : R6 geo (settled geo image) ≡ R6 geo image
  spare-settled = R6-alike geo image (settled geo image) to-settled.blanks

  room_settled : room_in geo (settled geo image) ≡ room_in geo image
  room_settled = go (dec_lt (lowest_open geo image) geo.blocks)
    where
      lowest : lowest_open geo image ≡ lowest_open geo (settled geo image)
      lowest = sym (lowest-open-alike geo image (settled geo image) to-settled.blanks to-settled.fulls)

      go : Dec (lowest_open geo image < geo.blocks) → room_in geo (settled geo image) ≡ room_in geo image
      go (yes l) = sym (room_open geo (settled geo image) lowest l) ∙ to-settled.frees (lowest_open geo image) l ∙ room_open geo image refl l
      go (no l) = sym (room-none geo (settled geo image) lowest (omega arith)) ∙ room-none geo image refl (omega arith)

  pub mend-planned : R6 geo image ≡ true → Mend ≡ repair_planned geo image
  unfolding repair_planned
  mend-planned t = rw (spare-settled ∙ t)

  module _ (none : R6 geo image ≡ false) {v : ℕ} (is : v ≡ emptiest geo image) where
    settled-victim : victim geo (settled geo image) ≡ v
    settled-victim = victim-settled geo image shaped words mend none ∙ sym is

    lacks : lacks_room geo image ≡ (leb geo.blocks v || ltb (room_in geo image) (live_slots geo (settled geo image) v))
    unfolding lacks_room
    lacks = rw (spare-settled ∙ none, settled-victim, room_settled)

    worn : victim_worn geo image ≡ eqb (erase_count geo (settled geo image) v) ceiling
    unfolding victim_worn
    worn = rw (spare-settled ∙ none, settled-victim)

    cramped : lacks_room geo image ≡ true → Cramped ≡ repair_planned geo image
    unfolding repair_planned
    cramped t = rw (spare-settled ∙ none, t)

    -- no block is full
    pub cramped-by-none : geo.blocks ≤ v → Cramped ≡ repair_planned geo image
    cramped-by-none l = cramped (lacks ∙ rw (le-leb geo.blocks v l))

    module _ (inside : v < geo.blocks) where
      lives : live_slots geo (settled geo image) v ≡ live_slots geo image v
      lives = to-settled.lives v inside

      counts : erase_count geo (settled geo image) v ≡ erase_count geo image v
      counts = to-settled.wear none v inside

      -- the block has more live slots than there is room for
      pub cramped-by-live : room_in geo image < live_slots geo image v → Cramped ≡ repair_planned geo image
      cramped-by-live l = cramped (lacks ∙ rw (lt-leb geo.blocks v inside, lives, lt-ltb (room_in geo image) (live_slots geo image v) l))

      module _ (room : live_slots geo image v ≤ room_in geo image) where
        roomy : lacks_room geo image ≡ false
        roomy = lacks ∙ rw (lt-leb geo.blocks v inside, lives, le-ltb (room_in geo image) (live_slots geo image v) room)

        pub worn-planned : erase_count geo image v ≡ ceiling → Worn ≡ repair_planned geo image
        unfolding repair_planned
        worn-planned e = rw (spare-settled ∙ none, roomy, worn, counts, eq-eqb _ _ e)

        pub empty-planned : (erase_count geo image v ≡ ceiling → ⊥) → Empty v ≡ repair_planned geo image
        unfolding repair_planned
        empty-planned n = rw (spare-settled ∙ none, roomy, worn, counts, ne_eqb _ _ n, settled-victim)

  -- ---- what the plan of a repair that is not refused says

  module _ (roomy : lacks_room geo image ≡ false) (wearable : victim_worn geo image ≡ false) where
    two-plans : repair_planned geo image ≡ cond (R6 geo image) Mend (Empty (victim geo (settled geo image)))
    unfolding repair_planned
    two-plans = rw (spare-settled, roomy, wearable)

    pub mend-says : Mend ≡ repair_planned geo image → emptying geo (counted geo image) ≡ []
    unfolding emptying
    mend-says e = rw (R6-alike geo image (counted geo image) to-counted.blanks ∙ go (R6 geo image) (e ∙ two-plans))
      where
        go : (x : Bool) → Mend ≡ cond x Mend (Empty (victim geo (settled geo image))) → x ≡ true
        go true e = refl
        go false e = let z : ◌≡◌ {A = ℕ} 0 1 = cc in absurd (omega arith)

    module _ {v : ℕ} (empties : Empty v ≡ repair_planned geo image) where
      none-blank : R6 geo image ≡ false
      none-blank = go (R6 geo image) (empties ∙ two-plans)
        where
          go : (x : Bool) → Empty v ≡ cond x Mend (Empty (victim geo (settled geo image))) → x ≡ false
          go true e = let z : ◌≡◌ {A = ℕ} 0 1 = cc in absurd (omega arith)
          go false e = refl

      is-emptiest : v ≡ emptiest geo image
      is-emptiest = same (empties ∙ two-plans ∙ rw none-blank) ∙ victim-settled geo image shaped words mend none-blank
        where
          same : {x y : ℕ} → Empty x ≡ Empty y → x ≡ y
          same e = cc

      lowest : lowest_open geo (counted geo image) ≡ lowest_open geo image
      lowest = lowest-counted geo image shaped words mend none-blank

      able : Emptiable geo (counted geo image) (emptiest geo image) (lowest_open geo image)
      able = emptied-able geo image shaped words mend none-blank roomy

      -- (iv) is the reclaim of that block into the first open one
      pub empty-says : emptying geo (counted geo image) ≡ reclaiming geo (counted geo image) v (lowest_open geo (counted geo image))
      empty-says = rw (is-emptiest, lowest) (emptying-is geo image shaped words mend none-blank)

      pub empty-in : v < geo.blocks
      empty-in = rw is-emptiest able.victim_in

      pub empty-below : erase_count geo (counted geo image) v < ceiling
      empty-below = rw is-emptiest (emptied-below geo image shaped words mend none-blank roomy wearable)

      -- what is live there finds room in the first open block
      pub empty-in-turn :
          lowest_open geo (counted geo image) < geo.blocks → EachInTurn geo (counted geo image) v (lowest_open geo (counted geo image))
      empty-in-turn l =
          rw (is-emptiest, lowest)
          (each-in-turn geo (counted geo image) (emptiest geo image) (lowest_open geo image) able.ready able.victim_in (rw lowest at l) able.apart
          able.room)

      -- and where no block is open nothing is
      pub empty-none-live : geo.blocks ≤ lowest_open geo (counted geo image) → live_slots geo (counted geo image) v ≡ 0
      empty-none-live l = rw is-emptiest (none (λ some. omega (arith, able.target_in some, lowest)))
        where
          none : {x : ℕ} → (1 ≤ x → ⊥) → x ≡ 0
          none n = omega arith
