-- How a write goes about it, as the code says it.
use Rattle.std.specs.Prelude.{Result, Ok, Err, cond, ℕ, ltb}
use Rattle.answers.specs.declared.Refusal.{Refusal}
use Rattle.answers.specs.declared.Refusal.TheVariants.{WornOut}
use Rattle.image.specs.Found.{Found, At, Nothing}
use Rattle.flash.specs.declared.WritePlan.{WritePlan}
use Rattle.flash.specs.declared.WritePlan.TheVariants as plan
use Rattle.flash.specs.Writing.{Plan, Fill, Reclaim, Worn}

-- by its plan, or refused where its victim is worn out (FORMAT.md, Refusals)
abbrev pub plan_or_refusal : Plan → Result WritePlan Refusal
plan_or_refusal Fill = Ok plan.Fill
plan_or_refusal (Reclaim v) = Ok (plan.Reclaim v)
plan_or_refusal Worn = Err WornOut

-- a place in one of m blocks
abbrev pub place_below : ℕ → Found → Found
place_below m (At b i) = cond (ltb b m) (At b i) Nothing
place_below m Nothing = Nothing
