-- `repairing::plan` meets its contract: each answer is the plan that the tests before it leave, and all of them are told from the image before (i).
-- Assumes nothing.
use Rattle.std.proofs.Common.{◌<◌, ◌≡◌, refl, sym, ap, ◌∙◌, false, arith}
use Rattle.geometry.proofs.Laws.{logical-small}
use Rattle.rules.proofs.MarkLaws.{marks-start}
use Rattle.ranges.proofs.Searches.{index-some, index-none}
use Rattle.image.specs.Words.{erase_count}
use Rattle.image.specs.Blocks.{live_slots}
use Rattle.image.specs.WellFormed.{R6}
use Rattle.image.specs.Mending.{emptiest}
use Rattle.image.specs.Views.{of_image}
use Rattle.image.proofs.Mending.{Mendable, mendable-facts}
use Rattle.mending.proofs.BlockLaws.{mendable-maps}
use Rattle.repairing.specs.Planned.{plan_or_refusal}
use Rattle.repairing.proofs.Decided.{some-blank, no-blank, mend-planned, cramped-by-none, cramped-by-live, worn-planned, empty-planned}
use Rattle.repairing.proofs.plan.Goals.{Start, Else-count_blank-ne0, In-Some, After-count_live, After-erase_count}
use Rattle.repairing.proofs.plan.Goals as goal

facts : (c : Start) → Mendable c.args.image.now.geo c.args.image.now.words.now
facts c = mendable-facts _ _ c.requires

pub count_blank-requires : goal.count_blank-requires
count_blank-requires c = mendable-maps _ _ c.requires

pub returns-then-count_blank-ne0 : goal.returns-then-count_blank-ne0
returns-then-count_blank-ne0 c =
    let it = c.args.image.now in
    ap plan_or_refusal
    (mend-planned _ _ it.shaped it.words32 (facts (goal.at.returns-then-count_blank-ne0 c).Start) (some-blank _ _ c.count_blank.ensures c.if-count_blank-ne0.true))

pub mark_all_completes-requires : goal.mark_all_completes-requires
mark_all_completes-requires c = rw c.new-completes.ensures (marks-start _ _ (omega (arith, logical-small c.args.image.now.geo c.args.image.now.shaped.limits)))

pub emptiest-requires-clause-maps_agree : goal.emptiest-requires-clause-maps_agree
emptiest-requires-clause-maps_agree c = mendable-maps _ _ c.requires

-- past the first test no block is blank
past_first : (c : Else-count_blank-ne0) → of_image R6 c.args.image.now ≡ false
past_first c = no-blank _ _ c.count_blank.ensures c.if-count_blank-ne0.false

pub returns-in_default : goal.returns-in_default
returns-in_default c =
    let it = c.args.image.now in
    let at = goal.at.returns-in_default c in
    ap plan_or_refusal
    (cramped-by-none _ _ it.shaped it.words32 (facts at.Start) (past_first at.Else-count_blank-ne0) refl (index-none (sym c.emptiest.ensures ∙ c.in_default.is)))

pub room-requires : goal.room-requires
room-requires c = mendable-maps _ _ c.requires

-- the block that would be emptied
found : (c : In-Some) → (of_image emptiest c.args.image.now ≡ c.in-Some.v) × (c.in-Some.v < c.args.image.now.geo.blocks)
found c = index-some (sym c.emptiest.ensures ∙ c.in-Some.is)

-- its live slots, and its count
lives : (c : After-count_live) → c.count_live.result ≡ of_image live_slots c.args.image.now c.in-Some.v
lives c = rw (c.block-block.ensures.image, c.block-block.ensures.index) at c.count_live.ensures

count : (c : After-erase_count) → c.erase_count.result ≡ of_image erase_count c.args.image.now c.in-Some.v
count c = rw (c.block-block.ensures.image, c.block-block.ensures.index) at c.erase_count.ensures

pub returns-then-room-count_live : goal.returns-then-room-count_live
returns-then-room-count_live c =
    let it = c.args.image.now in
    let at = goal.at.returns-then-room-count_live c in
    let v = found at.In-Some in
    ap plan_or_refusal
    (cramped-by-live _ _ it.shaped it.words32 (facts at.Start) (past_first at.Else-count_blank-ne0) (sym v.0) v.1
    (omega (arith, c.room.ensures, lives at.After-count_live, c.if-room-count_live.true)))

pub returns-then-erase_count-eq1000000 : goal.returns-then-erase_count-eq1000000
returns-then-erase_count-eq1000000 c =
    let it = c.args.image.now in
    let at = goal.at.returns-then-erase_count-eq1000000 c in
    let v = found at.In-Some in
    ap plan_or_refusal
    (worn-planned _ _ it.shaped it.words32 (facts at.Start) (past_first at.Else-count_blank-ne0) (sym v.0) v.1
    (omega (arith, c.room.ensures, lives at.After-count_live, c.if-room-count_live.false))
    (sym (count at.After-erase_count) ∙ c.if-erase_count-eq1000000.true))

pub returns : goal.returns
returns c =
    let it = c.args.image.now in
    let at = goal.at.returns c in
    let v = found at.In-Some in
    ap plan_or_refusal
    (empty-planned _ _ it.shaped it.words32 (facts at.Start) (past_first at.Else-count_blank-ne0) (sym v.0) v.1
    (omega (arith, c.room.ensures, lives at.After-count_live, c.if-room-count_live.false))
    (λ e. c.if-erase_count-eq1000000.false (count at.After-erase_count ∙ e)))
