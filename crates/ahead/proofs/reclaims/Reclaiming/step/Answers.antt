-- `ahead::reclaims::Reclaiming::step` meets its contract: step i is step i mod 133 of the copying of the live slot that has i / 133 before it, if there is
-- one, and else one of the erasing, or of the last placing.
use mathlib.Core.Path.{◌≡◌, sym, ap, ap₂, ◌∙◌}
use mathlib.Core.List.{List}
use lib.ListN.{length}
use Prim.Native.Nat.{ℕ, ◌+◌, ◌*◌, ◌-◌, ◌/◌, ◌%◌, ◌≤◌}
use native.Mathlib.Omega.{arith}
use Rattle.geometry.proofs.Laws.{d_small}
use Rattle.image.specs.Blocks.{live_slots}
use Rattle.image.proofs.Places.{contents-long}
use Rattle.flash.specs.declared.NextStep.TheVariants.{Next}
use Rattle.flash.specs.declared.Placement.{Placement}
use Rattle.flash.specs.declared.Step.{Step}
use Rattle.flash.specs.declared.Step.TheVariants.{Program}
use Rattle.flash.specs.Steps.{step_at}
use Rattle.flash.specs.Writing.{reclaiming_first}
use Rattle.flash.specs.Ahead.{placement_steps, last_placement}
use Rattle.flash.proofs.Written.{Sector}
use Rattle.flash.proofs.Copies.{erase-step, count-step}
use Rattle.flash.proofs.LastPlacing.{last_step}
use Rattle.ahead.proofs.ReclaimLaws.{Nth, nth_told, nth_none, planned_so, own_told, slot-left, copy-fits, copied-step, last_fits}
use Rattle.ahead.proofs.reclaims.Reclaiming.step.Goals.{Start, In-Some, After-live_slots}
use Rattle.ahead.proofs.reclaims.Reclaiming.step.Goals as goal

-- the steps of the write, and step i where its number is known otherwise
abbrev steps : (c : Start) → List Step
steps c =
    let v = c.args.self.now.victim in
    reclaiming_first v.image.geo v.image.words.now v.index c.args.sector.now.number c.args.sector.now.words.now

numbered : (c : Start) {k : ℕ} → c.args.i ≡ k → step_at (steps c) k ≡ step_at (steps c) c.args.i
numbered c e = ap (step_at (steps c)) (sym e)

-- the slot that is copied
copied : (c : In-Some) → let v = c.args.self.now.victim in Nth v.image.geo v.image.words.now v.index (c.args.i / 133) c.in-Some.m
copied c = nth_told _ _ _ _ (own_told c.args.self.now (c.args.i / 133) c.nth_live.ensures) c.in-Some.is

-- the copies are few, and passed
passed : (c : After-live_slots) → (c.live_slots.result ≤ 63) × (133 * c.live_slots.result ≤ c.args.i)
passed c =
    let q = c.args.self.now in
    let none = nth_none _ _ _ (c.args.i / 133) (own_told q (c.args.i / 133) c.nth_live.ensures) c.in_default.not-Some in
    (omega (arith, c.live_slots.ensures, slot-left q, d_small q.victim.image.geo q.victim.image.shaped.limits), omega (arith, c.live_slots.ensures, none))

pub placement_step-requires-clause-placeable : goal.placement_step-requires-clause-placeable
placement_step-requires-clause-placeable c =
    copy-fits c.args.self.now _ (copied (goal.at.placement_step-requires-clause-placeable c).In-Some) c.copy_placement-p.ensures

pub placement_step-requires-clause-words_len : goal.placement_step-requires-clause-words_len
placement_step-requires-clause-words_len c =
    let v = c.args.self.now.victim in
    ap length c.contents.ensures
    ∙ contents-long v.image.geo v.image.words.now v.image.shaped v.in_image (copied (goal.at.placement_step-requires-clause-words_len c).In-Some).below

pub returns-in-Some : goal.returns-in-Some
returns-in-Some c =
    let v = c.args.self.now.victim in
    let i = c.args.i in
    c.placement_step.ensures
    ∙ ap₂ (λ (p : Placement) (words : List ℕ). step_at (placement_steps v.image.geo p words) (i % 133)) c.copy_placement-p.ensures c.contents.ensures
    ∙ copied-step c.args.self.now i _ c.args.sector.now.number c.args.sector.now.words.now (copied (goal.at.returns-in-Some c).In-Some)

pub live_slots-requires : goal.live_slots-requires
live_slots-requires c = (planned_so c.args.self.now).ready.sound.current

pub overflow_mul-j : goal.overflow_mul-j
overflow_mul-j c = omega (arith, (passed (goal.at.overflow_mul-j c).After-live_slots).0)

pub overflow_sub-j : goal.overflow_sub-j
overflow_sub-j c = omega (arith, (passed (goal.at.overflow_sub-j c).After-live_slots).1)

pub returns-then-j-eq0 : goal.returns-then-j-eq0
returns-then-j-eq0 c =
    let v = c.args.self.now.victim in
    let r = planned_so c.args.self.now in
    sym (erase-step v.image.geo v.image.words.now r.ready r.must v.index r.victim-is c.args.sector.now.number c.args.sector.now.words.now)
    ∙ numbered (goal.at.returns-then-j-eq0 c).Start (omega (arith, c.live_slots.ensures, (passed (goal.at.returns-then-j-eq0 c).After-live_slots).1, c.if-j-eq0.true))

pub overflow_add-count : goal.overflow_add-count
overflow_add-count c = omega (arith, c.erase_count-count.ensures, (planned_so c.args.self.now).victim-is.wearable)

pub returns-then-j-eq1 : goal.returns-then-j-eq1
returns-then-j-eq1 c =
    let v = c.args.self.now.victim in
    let r = planned_so c.args.self.now in
    ap₂ (λ (at count : ℕ). Next (Program at (count + 1))) c.start-at.ensures c.erase_count-count.ensures
    ∙ sym (count-step v.image.geo v.image.words.now r.ready r.must v.index r.victim-is c.args.sector.now.number c.args.sector.now.words.now)
    ∙ numbered (goal.at.returns-then-j-eq1 c).Start (omega (arith, c.live_slots.ensures, (passed (goal.at.returns-then-j-eq1 c).After-live_slots).1, c.if-j-eq1.true))

pub placement_step-requires-2-clause-placeable : goal.placement_step-requires-2-clause-placeable
placement_step-requires-2-clause-placeable c = last_fits c.args.self.now _ _ c.requires c.last_placement-p.ensures

pub returns : goal.returns
returns c =
    let q = c.args.self.now in
    let v = q.victim in
    let sector = c.args.sector.now in
    let r = planned_so q in
    let s = c.args.i - 133 * live_slots v.image.geo v.image.words.now v.index - 2 in
    let written : Sector v.image.geo sector.number sector.words.now =
    record { number = c.requires; long = sector.whole; words = sector.words32 } in
    c.placement_step-2.ensures
    ∙ ap₂ (λ (p : Placement) (s : ℕ). step_at (placement_steps v.image.geo p sector.words.now) s)
    (c.last_placement-p.ensures ∙ ap (λ (t : ℕ). last_placement v.image.geo v.image.words.now v.index t sector.number) q.target_is)
    (omega (arith, c.live_slots.ensures))
    ∙ sym (last_step v.image.geo v.image.words.now r.ready r.must v.index r.victim-is sector.number sector.words.now written s)
    ∙ numbered (goal.at.returns c).Start
    (omega (arith, c.live_slots.ensures, (passed (goal.at.returns c).After-live_slots).1, c.if-j-eq0.false, c.if-j-eq1.false))
