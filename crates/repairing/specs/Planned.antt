-- How a repair goes about it, decided before its first step by the image as (i) would leave it (FORMAT.md, Repair).
use Rattle.std.specs.Prelude.{cond, List, ◌++◌, ℕ, Result, Ok, Err}
use Rattle.geometry.specs.declared.Geometry.{Geometry}
use Rattle.image.specs.Words.{Image}
use Rattle.image.specs.Blocks.{victim}
use Rattle.image.specs.WellFormed.{R6}
use Rattle.flash.specs.declared.Step.{Step}
use Rattle.flash.specs.Repairing.{clearing, bounding, counting, settled, bounded, lacks_room, victim_worn}
use Rattle.answers.specs.declared.Refusal.{Refusal}
use Rattle.answers.specs.declared.Refusal.TheVariants.{WornOut, NoRoom}
use Rattle.repairing.specs.declared.RepairPlan.{RepairPlan}
use Rattle.repairing.specs.declared.RepairPlan.TheVariants as plan

-- (i) to (iii); these and then this block is emptied; or not at all, since there is no room for what is live in that block, or it cannot be erased once
-- more
pub data Plan : Type 0 where
  Mend : Plan
  Empty : ℕ → Plan
  Cramped : Plan
  Worn : Plan

-- a block is blank, so that (i) to (iii) are all; or the victim is emptied as well, unless there is no room for what is live there, or it cannot be
-- erased once more
unfoldable pub repair_planned : Geometry → Image → Plan
repair_planned geo image =
    cond (R6 geo (settled geo image)) Mend
    (cond (lacks_room geo image) Cramped
    (cond (victim_worn geo image) Worn
    (Empty (victim geo (settled geo image)))))

-- as the code says it: the plan, or the refusal
abbrev pub plan_or_refusal : Plan → Result RepairPlan Refusal
plan_or_refusal Mend = Ok plan.Mend
plan_or_refusal (Empty v) = Ok (plan.Empty v)
plan_or_refusal Cramped = Err NoRoom
plan_or_refusal Worn = Err WornOut

-- (i) to (iii), with which every repair begins
abbrev pub mending : Geometry → Image → List Step
mending geo image = clearing geo image ++ (bounding geo (settled geo image) ++ counting geo (bounded geo image))
