-- `repairing::repair_along` meets its contract: behind (i) to (iii) the image is the one on which (iv) is told, and the plan says what is left to do there.
-- Assumes nothing.
use Rattle.std.proofs.Common.{false, ◌++◌, ◌≡◌, sym, ap, ◌∙◌, Ok}
use mathlib.Core.List.{append-nil}
use Rattle.image.specs.Blocks.{lowest_open}
use Rattle.image.proofs.Facts.{sound-maps}
use Rattle.image.proofs.Mending.{Mendable, mendable-facts}
use Rattle.flash.specs.Runs.{of_run}
use Rattle.flash.specs.Steps.{erasures_in, first_of}
use Rattle.flash.specs.Writing.{reclaiming}
use Rattle.flash.specs.Repairing.{emptying, counted, repairing, lacks_room, victim_worn}
use Rattle.flash.proofs.Parts.{erases-none-first}
use Rattle.flash.proofs.RunLaws.{as-steps, both, none-left, done}
use Rattle.repairing.specs.Planned.{Empty, mending, repair_planned}
use Rattle.repairing.proofs.Mended.{counted_ready, repairing-parts, mending-leaves, mending-erasures}
use Rattle.repairing.proofs.Decided.{is-planned, not-refused, mend-says, empty-says, empty-in, empty-below, empty-in-turn, empty-none-live}
use Rattle.repairing.proofs.Carried.{erasures-behind, none-erased}
use Rattle.repairing.proofs.repair_along.Goals.{After-mend, Else-run-eq0, In-Empty}
use Rattle.repairing.proofs.repair_along.Goals as goal

-- what the contract says, as the laws want it
module _ (c : After-mend) where
  facts : of_run Mendable c.args.run.now
  facts = mendable-facts _ _ c.requires.image_value

  roomy : of_run lacks_room c.args.run.now ≡ false
  roomy = (not-refused _ _ c.requires.plan_value).0

  wearable : of_run victim_worn c.args.run.now ≡ false
  wearable = (not-refused _ _ c.requires.plan_value).1

  parts : let r = c.args.run.now in of_run repairing r ≡ of_run mending r ++ emptying r.geo (of_run counted r)
  parts = repairing-parts _ _ c.args.run.now.shaped c.mend.ensures.words32 facts

  no-erasure : erasures_in (of_run mending c.args.run.now) ≡ 0
  no-erasure = mending-erasures _ _ c.args.run.now.shaped c.mend.ensures.words32 facts

-- with a step left behind (iii), its image is the one that all of (i) to (iii) leave
now-counted : (c : Else-run-eq0) → of_run Mendable c.args.run.now → c.mend.new.run.words.now ≡ of_run counted c.args.run.now
now-counted c facts =
    let r = c.args.run.now in
    done c.mend.ensures.run_after c.if-run-eq0.false ∙ mending-leaves r.geo r.words.now r.shaped c.mend.ensures.words32 facts

pub returns-then-run-eq0 : goal.returns-then-run-eq0
returns-then-run-eq0 c =
    let at = (goal.at.returns-then-run-eq0 c).After-mend in
    record {
      value = rw (parts at) (none-erased c.mend.ensures.run_after (no-erasure at) c.if-run-eq0.true _);
      run_after = rw (parts at) (none-left c.mend.ensures.run_after c.if-run-eq0.true _);
    }

-- a block is blank: there is nothing to (iv)
pub returns-in-Mend : goal.returns-in-Mend
returns-in-Mend c =
    let r = c.args.run.now in
    let at = (goal.at.returns-in-Mend c).After-mend in
    let plan = is-planned (of_run repair_planned r) (c.requires.plan_value ∙ ap Ok c.in-Mend.is) in
    let no_more = mend-says r.geo r.words.now r.shaped c.mend.ensures.words32 (facts at) (roomy at) (wearable at) (sym plan) in
    let all = parts at ∙ ap (of_run mending r ++◌) no_more ∙ append-nil (of_run mending r) in
    record {
      value = rw all (sym (erases-none-first r.left (of_run mending r) (no-erasure at)));
      run_after = rw all c.mend.ensures.run_after;
    }

-- a block is emptied, on the image that (iii) leaves
planned : (c : In-Empty) → Empty c.in-Empty.v ≡ of_run repair_planned c.args.run.now
planned c = sym (is-planned (of_run repair_planned c.args.run.now) (c.requires.plan_value ∙ ap Ok c.in-Empty.is))

pub empty-requires : goal.empty-requires
empty-requires c =
    let r = c.args.run.now in
    let at = (goal.at.empty-requires c).After-mend in
    let plan = planned (goal.at.empty-requires c).In-Empty in
    let words = c.mend.ensures.words32 in
    let geo = c.mend.ensures.run_after.same_geo in
    let now = now-counted (goal.at.empty-requires c).Else-run-eq0 (facts at) in
    record {
      maps_agree = rw (geo, now) (sound-maps _ _ (counted_ready r.geo r.words.now r.shaped words (facts at)).sound);
      v_lt_blocks = rw geo (empty-in r.geo r.words.now r.shaped words (facts at) (roomy at) (wearable at) plan);
      v_bound = rw (geo, now) (empty-below r.geo r.words.now r.shaped words (facts at) (roomy at) (wearable at) plan);
      each_in_turn = rw (geo, now) (empty-in-turn r.geo r.words.now r.shaped words (facts at) (roomy at) (wearable at) plan);
      v_value = rw (geo, now) (empty-none-live r.geo r.words.now r.shaped words (facts at) (roomy at) (wearable at) plan);
    }

pub returns-in-Empty : goal.returns-in-Empty
returns-in-Empty c =
    let r = c.args.run.now in
    let at = (goal.at.returns-in-Empty c).After-mend in
    let first = c.mend.ensures.run_after in
    let now = now-counted (goal.at.returns-in-Empty c).Else-run-eq0 (facts at) in
    let v = c.in-Empty.v in
    let last : of_run reclaiming c.mend.new.run v (of_run lowest_open c.mend.new.run) ≡ emptying r.geo (of_run counted r) =
    rw (first.same_geo, now)
    (sym (empty-says r.geo r.words.now r.shaped c.mend.ensures.words32 (facts at) (roomy at) (wearable at) (planned (goal.at.returns-in-Empty c).In-Empty))) in
    record {
      value =
          rw (parts at)
          (c.empty.ensures.value ∙ ap (λ steps. erasures_in (first_of c.mend.new.run.left steps)) last ∙ erasures-behind first (no-erasure at) _);
      run_after = rw (parts at) (both first (as-steps c.empty.ensures.run_after last));
    }
