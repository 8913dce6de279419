-- `writing::filling::write_along` meets its contract: a plan is that of rule 1 or 2, or that of rule 3.
use Rattle.std.proofs.Common.{◌≡◌, ℕ, List, false, refl, sym, ap, ◌∙◌, arith}
use Rattle.std.specs.Prelude.{Ok}
use Rattle.flash.specs.declared.WritePlan.TheVariants as plan
use Rattle.flash.specs.Runs.{of_run}
use Rattle.flash.specs.Tables.{table_reclaimed_first}
use Rattle.flash.specs.Writing.{Plan, Fill, Reclaim, Worn, must_reclaim, reclaiming_first, writing, planned}
use Rattle.flash.proofs.RunLaws.{as-steps}
use Rattle.flash.proofs.Planned.{plan-says, fill-says, writing-fills, writing-reclaims, table-fills, table-reclaims}
use Rattle.flash.proofs.Counts.{filling-erases-nothing}
use Rattle.flash.proofs.Parts.{erases-none-first}
use Rattle.writing.specs.Planned.{plan_or_refusal}
use Rattle.writing.proofs.filling.write_along.Goals.{In-Fill, In-Reclaim}
use Rattle.writing.proofs.filling.write_along.Goals as goal

-- the plan of the code is that of the definitions
fills : (p : Plan) → plan_or_refusal p ≡ Ok plan.Fill → p ≡ Fill
fills Fill e = refl
fills (Reclaim v) e = let z : ◌≡◌ {A = ℕ} 0 1 = cc in absurd (omega arith)
fills Worn e = let z : ◌≡◌ {A = ℕ} 0 1 = cc in absurd (omega arith)

reclaims : (p : Plan) {v : ℕ} → plan_or_refusal p ≡ Ok (plan.Reclaim v) → p ≡ Reclaim v
reclaims Fill e = let z : ◌≡◌ {A = ℕ} 0 1 = cc in absurd (omega arith)
reclaims (Reclaim u) {v} e = let same : u ≡ v = cc in ap Reclaim same
reclaims Worn e = let z : ◌≡◌ {A = ℕ} 0 1 = cc in absurd (omega arith)

-- by rule 1 or 2
plainly : (c : In-Fill) → of_run must_reclaim c.args.run.now ≡ false
plainly c = fill-says _ _ (fills _ (c.requires.plan_value ∙ ap Ok c.in-Fill.is))

pub returns-in-Fill-clause-value : goal.returns-in-Fill-clause-value
returns-in-Fill-clause-value c =
    rw (writing-fills _ _ (plainly (goal.at.returns-in-Fill-clause-value c).In-Fill) _ _) (sym (erases-none-first _ _ (filling-erases-nothing _ _ _ _)))

pub returns-in-Fill-clause-run_after : goal.returns-in-Fill-clause-run_after
returns-in-Fill-clause-run_after c =
    as-steps c.fill.ensures.run_after (sym (writing-fills _ _ (plainly (goal.at.returns-in-Fill-clause-run_after c).In-Fill) _ _))

pub returns-in-Fill-clause-table_after : goal.returns-in-Fill-clause-table_after
returns-in-Fill-clause-table_after c some =
    c.fill.ensures.table_after ∙ sym (table-fills _ _ (plainly (goal.at.returns-in-Fill-clause-table_after c).In-Fill) _ _)

-- by rule 3
planned-so : (c : In-Reclaim) → of_run planned c.args.run.now ≡ Reclaim c.in-Reclaim.v
planned-so c = reclaims _ (c.requires.plan_value ∙ ap Ok c.in-Reclaim.is)

steps-are : (c : In-Reclaim) (n : ℕ) (ws : List ℕ) → of_run writing c.args.run.now n ws ≡ of_run reclaiming_first c.args.run.now c.in-Reclaim.v n ws
steps-are c n ws =
    let (must, victim, some) = plan-says _ _ _ (planned-so c) in
    writing-reclaims _ _ must n ws ∙ ap (λ v. of_run reclaiming_first c.args.run.now v n ws) (sym victim)

pub reclaim_and_fill-requires-clause-image_value_2 : goal.reclaim_and_fill-requires-clause-image_value_2
reclaim_and_fill-requires-clause-image_value_2 c = planned-so (goal.at.reclaim_and_fill-requires-clause-image_value_2 c).In-Reclaim

pub returns-in-Reclaim-clause-value : goal.returns-in-Reclaim-clause-value
returns-in-Reclaim-clause-value c =
    rw (steps-are (goal.at.returns-in-Reclaim-clause-value c).In-Reclaim _ _) c.reclaim_and_fill.ensures.value

pub returns-in-Reclaim-clause-run_after : goal.returns-in-Reclaim-clause-run_after
returns-in-Reclaim-clause-run_after c =
    as-steps c.reclaim_and_fill.ensures.run_after (sym (steps-are (goal.at.returns-in-Reclaim-clause-run_after c).In-Reclaim _ _))

pub returns-in-Reclaim-clause-table_after : goal.returns-in-Reclaim-clause-table_after
returns-in-Reclaim-clause-table_after c some =
    let (must, victim, none) = plan-says _ _ _ (planned-so (goal.at.returns-in-Reclaim-clause-table_after c).In-Reclaim) in
    c.reclaim_and_fill.ensures.table_after some
    ∙ ap (λ v. of_run table_reclaimed_first c.args.run.now v c.args.sector.now.number c.args.table.now) victim
    ∙ sym (table-reclaims _ _ must _ _)
