-- `repairing::mend` meets its contract: (ii) finds the image that the whole of (i) leaves, and (iii) the one that both leave; where the steps end before
-- that, nothing more is done. Assumes nothing.
use Rattle.std.proofs.Common.{◌∙◌}
use Rattle.image.proofs.Mending.{Mendable, mendable-facts, facts-mendable}
use Rattle.flash.specs.Runs.{of_run}
use Rattle.flash.specs.Repairing.{settled}
use Rattle.repairing.proofs.Mended.{Settling, settled-settling, settled-clear, bounded-settling}
use Rattle.repairing.proofs.Carried.{first_done, second-done, stopped-in-first, stopped-in-second, three-done}
use Rattle.repairing.proofs.mend.Goals.{After-retire_superseded}
use Rattle.repairing.proofs.mend.Goals as goal

module _ (c : After-retire_superseded) where
  facts : Mendable c.args.run.now.geo c.args.run.now.words.now
  facts = mendable-facts _ _ c.requires

  settling : let r = c.args.run.now in Settling r.geo r.words.now (of_run settled r)
  settling = settled-settling _ _ c.args.run.now.shaped c.retire_superseded.ensures.words32 facts

pub returns-then-run-eq0-clause-run_after : goal.returns-then-run-eq0-clause-run_after
returns-then-run-eq0-clause-run_after c = stopped-in-first c.retire_superseded.ensures.run_after c.if-run-eq0.true

pub restore_bounds-requires : goal.restore_bounds-requires
restore_bounds-requires c =
    let at = (goal.at.restore_bounds-requires c).After-retire_superseded in
    let first = c.retire_superseded.ensures.run_after in
    let r = c.args.run.now in
    record {
      image_value = rw (first.same_geo, first_done first c.if-run-eq0.false) (facts-mendable _ _ (settling at).mends.mendable);
      none_superseded = rw (first.same_geo, first_done first c.if-run-eq0.false) (settled-clear _ _ r.shaped c.retire_superseded.ensures.words32 (facts at));
    }

pub returns-then-run-eq0-2-clause-run_after : goal.returns-then-run-eq0-2-clause-run_after
returns-then-run-eq0-2-clause-run_after c = stopped-in-second c.retire_superseded.ensures.run_after c.if-run-eq0.false c.restore_bounds.ensures c.if-run-eq0-2.true

pub restore_count-requires : goal.restore_count-requires
restore_count-requires c =
    let at = (goal.at.restore_count-requires c).After-retire_superseded in
    let first = c.retire_superseded.ensures.run_after in
    let second = c.restore_bounds.ensures in
    let r = c.args.run.now in
    rw (second.same_geo ∙ first.same_geo, second-done first c.if-run-eq0.false second c.if-run-eq0-2.false)
    (facts-mendable _ _ (bounded-settling _ _ r.shaped c.retire_superseded.ensures.words32 (facts at)).mends.mendable)

pub returns-clause-run_after : goal.returns-clause-run_after
returns-clause-run_after c =
    three-done c.retire_superseded.ensures.run_after c.if-run-eq0.false c.restore_bounds.ensures c.if-run-eq0-2.false c.restore_count.ensures
