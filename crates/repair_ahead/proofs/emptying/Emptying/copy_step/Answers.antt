-- `repair_ahead::emptying::Emptying::copy_step` meets its contract: step i is a step of the copying of the live slot that has as many before it as were
-- copied, and the part of the image that is lent on are its contents. Assumes nothing.
use Rattle.std.proofs.Common.{List, sym, ap, ap₂, ◌∙◌, ℕ, ◌+◌, ◌*◌, ◌-◌, ◌<◌, ◌≤◌, length, arith}
use lib.Dec.{eqb}
use Rattle.ranges.specs.Range.{one_if}
use Rattle.ranges.proofs.Searches.{index-none}
use Rattle.image.specs.declared.view.View.{View}
use Rattle.image.specs.Blocks.{free_slots, live_slots}
use Rattle.image.proofs.Places.{contents-long}
use Rattle.flash.specs.declared.Placement.{Placement}
use Rattle.flash.specs.Steps.{step_at}
use Rattle.flash.specs.Repairing.{counted}
use Rattle.flash.specs.Ahead.{placement_steps}
use Rattle.ahead.specs.Ahead.{nth_live}
use Rattle.ahead.proofs.ReclaimLaws.{Nth, nth_told, nth_none}
use Rattle.repair_ahead.proofs.EmptyingLaws.{free-inside, in-copy, copy-fits, told-step}
use Rattle.repair_ahead.proofs.emptying.Emptying.copy_step.Goals.{After-lesser-copy, In-Some}
use Rattle.repair_ahead.proofs.emptying.Emptying.copy_step.Goals as goal

-- which copy it is, of one at least
within :
    (c : After-lesser-copy) →
    let q = c.args.self.now in
    let v = q.victim.block in
    let i = c.args.i in
    let r = c.lesser-copy.result in
    (r < live_slots v.image.geo v.image.words.now v.index)
    × (133 * r ≤ i)
    × (i - 133 * r < 133 + 2 * one_if (eqb (free_slots v.image.geo v.image.words.now q.target.block.index) (r + 1)))
within c =
    let q = c.args.self.now in
    let v = q.victim.block in
    in-copy v.image.geo v.image.words.now v.index q.target.block.index c.args.i c.lesser-copy.result c.requires
    (omega (arith, c.lesser-copy.ensures, c.count_live.ensures))

-- the slot that is copied
copied : (c : In-Some) → let v = c.args.self.now.victim.block in Nth v.image.geo v.image.words.now v.index c.lesser-copy.result c.in-Some.m
unfolding nth_live
copied c = nth_told _ _ _ _ c.nth_live.ensures c.in-Some.is

pub copy_into-p-requires-clause-m_value : goal.copy_into-p-requires-clause-m_value
unfolding nth_live
copy_into-p-requires-clause-m_value c = sym c.nth_live.ensures ∙ c.in-Some.is

pub placement_step-requires-clause-placeable : goal.placement_step-requires-clause-placeable
placement_step-requires-clause-placeable c =
    let q = c.args.self.now in
    let v = q.victim.block in
    let this = copied (goal.at.placement_step-requires-clause-placeable c).In-Some in
    copy-fits v.image.geo v.image.words.now (counted v.image.geo v.image.words.now) v.index q.target.block.index q.same c.in-Some.m _ this.below this.live _ c.copy_into-p.ensures

pub placement_step-requires-clause-words_len : goal.placement_step-requires-clause-words_len
placement_step-requires-clause-words_len c =
    let v = c.args.self.now.victim.block in
    ap length c.contents-contents.ensures
    ∙ contents-long v.image.geo v.image.words.now v.image.shaped v.in_image (copied (goal.at.placement_step-requires-clause-words_len c).In-Some).below

pub returns-in-Some-nth_free : goal.returns-in-Some-nth_free
returns-in-Some-nth_free c =
    let q = c.args.self.now in
    let v = q.victim.block in
    let i = c.args.i in
    let r = c.lesser-copy.result in
    let in-it = within (goal.at.returns-in-Some-nth_free c).After-lesser-copy in
    let this = copied (goal.at.returns-in-Some-nth_free c).In-Some in
    c.placement_step.ensures
    ∙ ap₂ (λ (p : Placement) (words : List ℕ). step_at (placement_steps v.image.geo p words) (i - 133 * r)) c.copy_into-p.ensures c.contents-contents.ensures
    ∙ told-step v.image.geo v.image.words.now (counted v.image.geo v.image.words.now) v.index q.target.block.index q.same c.in-Some.m _ this.below this.live
    i r this.before in-it.1 in-it.2

pub returns-in_default-nth_free : goal.returns-in_default-nth_free
returns-in_default-nth_free c =
    let q = c.args.self.now in
    let t = q.target.block in
    let few = (within (goal.at.returns-in_default-nth_free c).After-lesser-copy).0 in
    let room = ap (λ (image : View). free_slots image.geo image.words.now t.index) q.one_image in
    absurd (omega (
      arith,
      index-none (sym c.nth_free.ensures ∙ c.in_default-nth_free.is),
      free-inside t.image.geo t.image.words.now t.index c.lesser-copy.result (omega (arith, few, q.same.room, room)),
    ))

pub returns-in_default : goal.returns-in_default
unfolding nth_live
returns-in_default c =
    let few = (within (goal.at.returns-in_default c).After-lesser-copy).0 in
    absurd (omega (arith, few, nth_none _ _ _ c.lesser-copy.result c.nth_live.ensures c.in_default.not-Some))
