-- `repairing::empty` meets its contract: the copying erases nothing, and the block is erased as soon as a step is left behind it. Assumes nothing.
use Rattle.std.proofs.Common.{◌≡◌, sym, ap, ◌∙◌}
use Rattle.geometry.specs.Geometry.{d}
use Rattle.image.specs.Words.{erase_count}
use Rattle.image.specs.Blocks.{lowest_open}
use Rattle.flash.specs.Runs.{of_run}
use Rattle.flash.specs.Writing.{erases_victim, reclaiming}
use Rattle.flash.proofs.RunLaws.{as-steps, by-geo, both, none-left}
use Rattle.writing.proofs.Erasing.{erase-first}
use Rattle.repairing.proofs.Carried.{erasures-behind, none-erased, copying-erasures}
use Rattle.repairing.proofs.empty.Goals.{After-erase_count-count}
use Rattle.repairing.proofs.empty.Goals as goal

-- the count before
count-is : (c : After-erase_count-count) → c.erase_count-count.result ≡ of_run erase_count c.args.run.now c.args.v
count-is c = rw (c.block.ensures.image, c.block.ensures.index, c.view.ensures.words, c.view.ensures.geo) at c.erase_count-count.ensures

pub returns-then-run-eq0-clause-value : goal.returns-then-run-eq0-clause-value
unfolding reclaiming
returns-then-run-eq0-clause-value c =
    let r = c.args.run.now in
    none-erased c.copy_out.ensures (copying-erasures r.geo r.words.now c.args.v (of_run lowest_open r) (d r.geo)) c.if-run-eq0.true _

pub returns-then-run-eq0-clause-run_after : goal.returns-then-run-eq0-clause-run_after
unfolding reclaiming
returns-then-run-eq0-clause-run_after c = none-left c.copy_out.ensures c.if-run-eq0.true _

pub erase_victim-requires-clause-count_lt_ceiling : goal.erase_victim-requires-clause-count_lt_ceiling
erase_victim-requires-clause-count_lt_ceiling c = rw (count-is (goal.at.erase_victim-requires-clause-count_lt_ceiling c).After-erase_count-count) c.requires.v_bound

pub returns : goal.returns
unfolding reclaiming
returns c =
    let r = c.args.run.now in
    let count = count-is (goal.at.returns c).After-erase_count-count in
    let none = copying-erasures r.geo r.words.now c.args.v (of_run lowest_open r) (d r.geo) in
    record {
      value = sym (erase-first r.geo c.args.v (of_run erase_count r c.args.v) c.copy_out.new.run.left c.if-run-eq0.false) ∙ erasures-behind c.copy_out.ensures none _;
      run_after =
          both c.copy_out.ensures
          (as-steps (by-geo (λ geo. erases_victim geo c.args.v c.erase_count-count.result) c.erase_victim.ensures c.copy_out.ensures.same_geo)
          (ap (erases_victim r.geo c.args.v) count));
    }
