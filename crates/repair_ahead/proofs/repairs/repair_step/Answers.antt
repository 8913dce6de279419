-- `repair_ahead::repairs::repair_step` meets its contract: the steps of (i) to (iii), and behind them those of (iv), as the plan tells. Assumes nothing.
use Rattle.std.proofs.Common.{List, ◌++◌, ◌≡◌, sym, ap, ◌∙◌, arith}
use Rattle.geometry.proofs.Laws.{logical-small}
use Rattle.rules.proofs.MarkLaws.{marks-start}
use Rattle.flash.specs.declared.Step.{Step}
use Rattle.flash.specs.Steps.{step_at}
use Rattle.flash.specs.Repairing.{clearing, bounding, counting, emptying, counted, repairing}
use Rattle.repair_ahead.proofs.SoughtLaws.{step-found, step-behind}
use Rattle.repair_ahead.proofs.WholeLaws.{maps-agree, planned_last, repairing-early, emptying-planned, planned-same}
use Rattle.repair_ahead.proofs.repairs.repair_step.Goals.{Start, In-Continue}
use Rattle.repair_ahead.proofs.repairs.repair_step.Goals as goal

-- a repair, as the code tells it
early : (c : Start) →
    let geo = c.args.image.now.geo in
    let image = c.args.image.now.words.now in
    let i = c.args.i in
    step_at ((clearing geo image ++ (bounding geo image ++ counting geo image)) ++ emptying geo (counted geo image)) i ≡ step_at (repairing geo image) i
early c =
    let image = c.args.image.now in
    ap (λ (xs : List Step). step_at xs c.args.i) (sym (repairing-early image.geo image.words.now c.requires.image_value image.shaped image.words32))

-- and (iv) of it, behind the others
last : (c : In-Continue) →
    let image = c.args.image.now in
    step_at (planned_last image.geo image.words.now c.args.plan) c.in-Continue.k ≡ step_at (emptying image.geo (counted image.geo image.words.now)) c.in-Continue.k
last c =
    let image = c.args.image.now in
    ap (λ (xs : List Step). step_at xs c.in-Continue.k)
    (sym (emptying-planned image.geo image.words.now c.requires.image_value image.shaped image.words32 c.requires.plan_value))

pub mark_all_completes-requires : goal.mark_all_completes-requires
mark_all_completes-requires c = rw c.new-completes.ensures (marks-start _ _ (omega (arith, logical-small c.args.image.now.geo c.args.image.now.shaped.limits)))

pub mended_step-requires-clause-maps_agree : goal.mended_step-requires-clause-maps_agree
mended_step-requires-clause-maps_agree c = maps-agree _ _ c.requires.image_value

pub returns-in-Break : goal.returns-in-Break
returns-in-Break c = step-found _ _ c.mended_step.ensures _ c.in-Break.is ∙ early (goal.at.returns-in-Break c).Start

pub empty_step-requires-clause-maps_agree : goal.empty_step-requires-clause-maps_agree
empty_step-requires-clause-maps_agree c = maps-agree _ _ c.requires.image_value

pub empty_step-requires-clause-same : goal.empty_step-requires-clause-same
empty_step-requires-clause-same c =
    let image = c.args.image.now in
    planned-same image.geo image.words.now c.requires.image_value image.shaped image.words32 c.requires.plan_value _ c.in-Empty.is

pub returns-in-Empty : goal.returns-in-Empty
returns-in-Empty c =
    c.empty_step.ensures
    ∙ rw c.in-Empty.is at (last (goal.at.returns-in-Empty c).In-Continue)
    ∙ step-behind _ _ c.mended_step.ensures _ c.in-Continue.is
    ∙ early (goal.at.returns-in-Empty c).Start

pub returns-in-Mend : goal.returns-in-Mend
unfolding step_at
returns-in-Mend c =
    rw c.in-Mend.is at (last (goal.at.returns-in-Mend c).In-Continue)
    ∙ step-behind _ _ c.mended_step.ensures _ c.in-Continue.is
    ∙ early (goal.at.returns-in-Mend c).Start
