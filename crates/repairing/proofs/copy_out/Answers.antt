-- `repairing::copy_out` meets its contract: there is a block to copy to, and each slot has its turn; or nothing is live, so that nothing is copied.
-- Assumes nothing.
use Rattle.std.proofs.Common.{◌≡◌, ◌<◌, sym, ap}
use Rattle.ranges.proofs.Searches.{index-some, index-none}
use Rattle.geometry.specs.Geometry.{d}
use Rattle.image.specs.Blocks.{lowest_open}
use Rattle.flash.specs.Runs.{of_run}
use Rattle.flash.specs.Writing.{copying}
use Rattle.flash.proofs.RunLaws.{nothing, as-steps}
use Rattle.repairing.proofs.Carried.{no_copies}
use Rattle.repairing.proofs.copy_out.Goals.{In-Some}
use Rattle.repairing.proofs.copy_out.Goals as goal

pub lowest_open-requires : goal.lowest_open-requires
lowest_open-requires c = rw (c.view.ensures.words, c.view.ensures.geo) c.requires.maps_agree

-- the first open block, if there is one
open_is : (c : In-Some) → let r = c.args.run.now in (of_run lowest_open r ≡ c.in-Some.t) × (c.in-Some.t < r.geo.blocks)
open_is c = index-some (sym (rw (c.view.ensures.words, c.view.ensures.geo) at c.in-Some.ensures))

pub copy_live-requires-clause-t_lt_blocks : goal.copy_live-requires-clause-t_lt_blocks
copy_live-requires-clause-t_lt_blocks c = (open_is (goal.at.copy_live-requires-clause-t_lt_blocks c).In-Some).1

pub copy_live-requires-clause-each_in_turn : goal.copy_live-requires-clause-each_in_turn
copy_live-requires-clause-each_in_turn c =
    let found = open_is (goal.at.copy_live-requires-clause-each_in_turn c).In-Some in
    rw (sym found.0) (c.requires.each_in_turn (rw found.0 found.1))

pub returns-in-Some : goal.returns-in-Some
returns-in-Some c =
    let r = c.args.run.now in
    as-steps c.copy_live.ensures.run_after (ap (λ t. of_run copying r c.args.v t (d r.geo)) (sym (open_is (goal.at.returns-in-Some c).In-Some).0))

pub returns-in_default : goal.returns-in_default
returns-in_default c =
    let r = c.args.run.now in
    let none = index-none (sym (rw (c.view.ensures.words, c.view.ensures.geo) at c.in_default.ensures)) in
    rw (no_copies r.geo r.words.now c.args.v (of_run lowest_open r) (c.requires.v_value none)) (nothing _)
