-- How a write, a release and a repair go about it, and what that says of their answer; and how many steps they have. Assumes nothing.
use mathlib.Core.Path.{◌≡◌, refl, sym, ap, ◌∙◌}
use mathlib.Core.Bool.{Bool, true, false, not, cond, ◌&&◌}
use mathlib.Core.List.{List, [], ◌∷◌}
use Prim.Native.Nat.{ℕ, ◌<◌}
use native.Mathlib.Nat.{mul-le-mul}
use native.Mathlib.Omega.{arith}
use lib.Dec.{eqb}
use lib.ListN.{length}
use Rattle.std.specs.Prelude.{Ok, Err}
use Rattle.ranges.proofs.Sums.{one-if-le}
use Rattle.geometry.specs.declared.Geometry.{Geometry}
use Rattle.geometry.proofs.Laws.{d_small}
use Rattle.image.specs.Found.{Found}
use Rattle.image.specs.Words.{Image, Words32, erase_count}
use Rattle.image.specs.Slots.{is_at, find}
use Rattle.image.specs.Blocks.{victim}
use Rattle.image.specs.WellFormed.{R6, ceiling}
use Rattle.image.proofs.Mending.{mendable-facts}
use Rattle.flash.specs.declared.WritePlan.{WritePlan}
use Rattle.flash.specs.declared.WritePlan.TheVariants.{Fill, Reclaim}
use Rattle.flash.specs.declared.Step.{Step}
use Rattle.flash.specs.Writing as plan
use Rattle.flash.specs.Writing.{must_reclaim, writing, planned}
use Rattle.flash.specs.Placing.{releasing}
use Rattle.flash.specs.Repairing.{repairing, settled, lacks_room, victim_worn}
use Rattle.flash.proofs.Counts.{releasing-words, releasing-erasures}
use Rattle.flash.proofs.Parts.{steps-counted}
use Rattle.flash.proofs.Planned.{fill-planned, reclaim-planned}
use Rattle.repairing.specs.declared.RepairPlan.{RepairPlan}
use Rattle.repairing.specs.declared.RepairPlan.TheVariants.{Mend, Empty}
use Rattle.repairing.specs.Planned as repair
use Rattle.repairing.specs.Planned.{repair_planned}
use Rattle.repairing.proofs.Decided.{spared}
use Rattle.repairing.proofs.Costs.{repair-erasures, repair-most}
use Rattle.answers.specs.declared.Refusal.{Refusal}
use Rattle.answers.specs.declared.Refusal.TheVariants.{WornOut, NoRoom}
use Rattle.answers.specs.Answers.{Answer, Accepted, if_accepted, answered}
use Rattle.answers.proofs.Acceptance.{accepted?, if-accepted, if-refused, gave, refused-with}
use Rattle.writing.specs.Planned.{plan_or_refusal}
use Rattle.calls.specs.Refusals.{first_that_applies, row1, row4_repair, row6, write_answer, release_answer, repair_answer}
use Rattle.calls.specs.Calls.{write_steps, release_steps, repair_steps}
use Rattle.calls.specs.Courses.{planned_after, write_plan, write_course, release_course, repair_course}
use Rattle.calls.proofs.AcceptedCalls.{write-accepted, below-ceiling, write-wrote, repair-accepted}

-- no refused call has a step
few-steps : (answer : Answer) (steps : List Step) (most : ℕ) → 0 < most → (answer ≡ Accepted → length steps < most) → length (if_accepted answer steps []) < most
few-steps answer steps most some few = go (accepted? answer)
  where
    go : Dec (answer ≡ Accepted) → length (if_accepted answer steps []) < most
    go (yes y) = rw (if-accepted steps [] y) (few y)
    go (no y) = rw (if-refused answer steps [] y) some

module _ (geo : Geometry) (image : Image) where
  -- a write past rows 1 to 4 goes by its plan
  pub write-planned :
      (n : ℕ) (buffer : List ℕ) →
      write_answer geo image n buffer ≡ first_that_applies (row6 geo image ∷ []) →
      plan_or_refusal (planned geo image) ≡ write_course geo image n buffer
  unfolding write_course planned
  write-planned n buffer e = rw e (go (must_reclaim geo image) (eqb (erase_count geo image (victim geo image)) ceiling))
    where
      go :
          (must worn : Bool) →
          plan_or_refusal (cond must (cond worn plan.Worn (plan.Reclaim (victim geo image))) plan.Fill)
          ≡ answered (cond (must && worn) (Err WornOut) Accepted) (cond must (Reclaim (victim geo image)) Fill)
      go true true = refl
      go true false = refl
      go false worn = refl

  -- and a repair past rows 1 and 4
  pub repair-planned :
      (row1 geo image).applies ≡ false → (row4_repair geo image).applies ≡ false → repair.plan_or_refusal (repair_planned geo image) ≡ repair_course geo image
  unfolding repair_course repair_answer repair_planned
  repair-planned fit mends = rw (fit, mends) (go (R6 geo (settled geo image)) (lacks_room geo image) (victim_worn geo image) (spared geo image))
    where
      go :
          (spare lacks worn : Bool) →
          (spare ≡ true → (lacks ≡ false) × (worn ≡ false)) →
          let planned = repair.plan_or_refusal (cond spare repair.Mend (cond lacks repair.Cramped (cond worn repair.Worn (repair.Empty (victim geo (settled geo image)))))) in
          let answer = cond lacks (Err NoRoom) (cond worn (Err WornOut) Accepted) in
          planned ≡ planned_after answer planned
      go true lacks worn h = rw ((h refl).0, (h refl).1)
      go false true worn h = refl
      go false false true h = refl
      go false false false h = refl

  accepted-course : repair_answer geo image ≡ Accepted → repair_course geo image ≡ repair.plan_or_refusal (repair_planned geo image)
  unfolding repair_course
  accepted-course e = rw e

  -- where it is accepted the plan is no refusal
  abbrev repair_plan : RepairPlan
  repair_plan = cond (R6 geo (settled geo image)) Mend (Empty (victim geo (settled geo image)))

  by-answer : repair_course geo image ≡ answered (repair_answer geo image) repair_plan
  unfolding repair_course repair_planned
  by-answer = go (accepted? (repair_answer geo image))
    where
      plain : (x : Bool) → repair.plan_or_refusal (cond x repair.Mend (repair.Empty (victim geo (settled geo image)))) ≡ Ok (cond x Mend (Empty (victim geo (settled geo image))))
      plain true = refl
      plain false = refl

      refused : (a : Answer) → (a ≡ Accepted → ⊥) → planned_after a (repair.plan_or_refusal (repair_planned geo image)) ≡ answered a repair_plan
      refused (Ok u) n = absurd (n refl)
      refused (Err why) n = refl

      go : Dec (repair_answer geo image ≡ Accepted) → repair_course geo image ≡ answered (repair_answer geo image) repair_plan
      go (yes y) =
          let (shaped, mends, room, worn) = repair-accepted geo image y in
          rw (y, room, worn) (plain (R6 geo (settled geo image)))
      go (no n) = refused (repair_answer geo image) n

  -- a refused call has no course
  pub no-write : (n : ℕ) (buffer : List ℕ) {why : Refusal} → write_answer geo image n buffer ≡ Err why → Err why ≡ write_course geo image n buffer
  unfolding write_course
  no-write n buffer e = rw e

  pub no-release : (n : ℕ) {why : Refusal} → release_answer geo image n ≡ Err why → Err why ≡ release_course geo image n
  unfolding release_course
  no-release n e = rw e

  pub no-repair : {why : Refusal} → repair_answer geo image ≡ Err why → Err why ≡ repair_course geo image
  unfolding repair_course
  no-repair e = rw e

  -- and back
  pub write-course-refused : (n : ℕ) (buffer : List ℕ) {why : Refusal} → write_course geo image n buffer ≡ Err why → write_answer geo image n buffer ≡ Err why
  unfolding write_course
  write-course-refused n buffer e = refused-with (write_answer geo image n buffer) (write_plan geo image) e

  pub release-course-refused : (n : ℕ) {why : Refusal} → release_course geo image n ≡ Err why → release_answer geo image n ≡ Err why
  unfolding release_course
  release-course-refused n e = refused-with (release_answer geo image n) (find geo image n) e

  pub repair-course-refused : {why : Refusal} → repair_course geo image ≡ Err why → repair_answer geo image ≡ Err why
  repair-course-refused e = refused-with (repair_answer geo image) repair_plan (sym by-answer ∙ e)

  module _ (n : ℕ) (buffer : List ℕ) where
    pub write-course-fill : write_course geo image n buffer ≡ Ok Fill → (write_answer geo image n buffer ≡ Accepted) × (must_reclaim geo image ≡ false)
    unfolding write_course
    write-course-fill e =
        let said = gave (write_answer geo image n buffer) e in
        (said.0, plain (must_reclaim geo image) said.1)
      where
        plain : (x : Bool) → cond x (Reclaim (victim geo image)) Fill ≡ Fill → x ≡ false
        plain true q = let z : ◌≡◌ {A = ℕ} 0 1 = cc in absurd (omega arith)
        plain false q = refl

    pub write-course-reclaim :
        (v : ℕ) →
        write_course geo image n buffer ≡ Ok (Reclaim v) →
        (write_answer geo image n buffer ≡ Accepted) × (planned geo image ≡ plan.Reclaim v)
    unfolding write_course
    write-course-reclaim v e =
        let said = gave (write_answer geo image n buffer) e in
        let must = needed (must_reclaim geo image) said.1 in
        (said.0, reclaim-planned geo image must.0 (below-ceiling geo image n buffer said.0 must.0) ∙ ap plan.Reclaim must.1)
      where
        needed : (x : Bool) → cond x (Reclaim (victim geo image)) Fill ≡ Reclaim v → (x ≡ true) × (victim geo image ≡ v)
        needed true q = let same : victim geo image ≡ v = cc in (refl, same)
        needed false q = let z : ◌≡◌ {A = ℕ} 0 1 = cc in absurd (omega arith)

    -- either way by its plan
    pub write-course-along :
        {p : WritePlan} → write_course geo image n buffer ≡ Ok p → (write_answer geo image n buffer ≡ Accepted) × (plan_or_refusal (planned geo image) ≡ Ok p)
    unfolding write_course
    write-course-along e =
        let (accepted, by-plan) = gave (write_answer geo image n buffer) e in
        (accepted, go accepted (must_reclaim geo image) refl ∙ ap Ok by-plan)
      where
        go :
            write_answer geo image n buffer ≡ Accepted →
            (must : Bool) → must_reclaim geo image ≡ must → plan_or_refusal (planned geo image) ≡ Ok (cond must (Reclaim (victim geo image)) Fill)
        go accepted true q = ap plan_or_refusal (reclaim-planned geo image q (below-ceiling geo image n buffer accepted q))
        go accepted false q = ap plan_or_refusal (fill-planned geo image q)

  -- a release of this entry, and a repair by this plan
  pub release-course-found :
      (n : ℕ) {live : Found} → release_course geo image n ≡ Ok live → (release_answer geo image n ≡ Accepted) × (find geo image n ≡ live)
  unfolding release_course
  release-course-found n e = gave (release_answer geo image n) e

  pub repair-course-along :
      {p : RepairPlan} →
      repair_course geo image ≡ Ok p →
      (repair_answer geo image ≡ Accepted) × (repair.plan_or_refusal (repair_planned geo image) ≡ Ok p)
  repair-course-along e =
      let said = gave (repair_answer geo image) (sym by-answer ∙ e) in
      (said.0, sym (accepted-course said.0) ∙ e)

  -- ---- no call has as many steps as a whole one may do

  pub write-few : (n : ℕ) (buffer : List ℕ) → Words32 image → Words32 buffer → length (write_steps geo image n buffer) < 0xFFFFFFFF
  unfolding write_steps
  write-few n buffer words handed = few-steps (write_answer geo image n buffer) (writing geo image n buffer) 0xFFFFFFFF (omega arith) few
    where
      few : write_answer geo image n buffer ≡ Accepted → length (writing geo image n buffer) < 0xFFFFFFFF
      few y =
          let wrote = write-wrote geo image n buffer words handed y in
          omega (
            arith,
            steps-counted (writing geo image n buffer),
            wrote.words,
            wrote.erases,
            d_small geo (write-accepted geo image n buffer y).0.limits,
          )

  pub release-few : (n : ℕ) → length (release_steps geo image n) < 0xFFFFFFFF
  unfolding release_steps
  release-few n = few-steps (release_answer geo image n) (releasing geo image n) 0xFFFFFFFF (omega arith) (λ y. few)
    where
      few : length (releasing geo image n) < 0xFFFFFFFF
      few =
          omega (
            arith,
            steps-counted (releasing geo image n),
            releasing-words geo image n,
            releasing-erasures geo image n,
            one-if-le (is_at (find geo image n)),
          )

  pub repair-few : Words32 image → length (repair_steps geo image) < 0xFFFFFFFF
  unfolding repair_steps
  repair-few words = few-steps (repair_answer geo image) (repairing geo image) 0xFFFFFFFF (omega arith) few
    where
      few : repair_answer geo image ≡ Accepted → length (repairing geo image) < 0xFFFFFFFF
      few y =
          let (shaped, mends, room, worn) = repair-accepted geo image y in
          let mend = mendable-facts geo image mends in
          omega (
            arith,
            steps-counted (repairing geo image),
            repair-most geo image shaped words mend room worn,
            repair-erasures geo image shaped words mend room worn,
            one-if-le (not (R6 geo image)),
            mul-le-mul shaped.limits.blocks_high (d_small geo shaped.limits),
          )
