-- The course of a write, of a release and of a repair, by their answer: what the call that changes the image and the call for one step (K4) decide first.
use Rattle.std.specs.Prelude.{cond, List, ℕ, Result, Ok, Err}
use Rattle.geometry.specs.declared.Geometry.{Geometry}
use Rattle.image.specs.Found.{Found}
use Rattle.image.specs.Words.{Image}
use Rattle.image.specs.Slots.{find}
use Rattle.image.specs.Blocks.{victim}
use Rattle.flash.specs.declared.WritePlan.{WritePlan}
use Rattle.flash.specs.declared.WritePlan.TheVariants.{Fill, Reclaim}
use Rattle.flash.specs.Writing.{must_reclaim}
use Rattle.repairing.specs.declared.RepairPlan.{RepairPlan}
use Rattle.repairing.specs.Planned.{repair_planned, plan_or_refusal}
use Rattle.answers.specs.declared.Refusal.{Refusal}
use Rattle.answers.specs.Answers.{Answer, answered}
use Rattle.calls.specs.Refusals.{write_answer, release_answer, repair_answer}

-- a repair's plan, which is no refusal where the repair is accepted
abbrev pub planned_after : Answer → Result RepairPlan Refusal → Result RepairPlan Refusal
planned_after (Ok u) planned = planned
planned_after (Err why) planned = Err why

module _ (geo : Geometry) (image : Image) where
  -- a write: by rule 3 where it must reclaim, and else by rule 1 or 2
  abbrev pub write_plan : WritePlan
  write_plan = cond (must_reclaim geo image) (Reclaim (victim geo image)) Fill

  unfoldable pub write_course : ℕ → List ℕ → Result WritePlan Refusal
  write_course n buffer = answered (write_answer geo image n buffer) write_plan

  -- a release: the entry where the number is live
  unfoldable pub release_course : ℕ → Result Found Refusal
  release_course n = answered (release_answer geo image n) (find geo image n)

  -- a repair (K4): by its plan
  unfoldable pub repair_course : Result RepairPlan Refusal
  repair_course = planned_after (repair_answer geo image) (plan_or_refusal (repair_planned geo image))
