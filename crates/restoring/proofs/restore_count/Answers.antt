-- `restoring::restore_count` meets its contract: the first block that was not given its count gets the one step. Assumes nothing.
use Rattle.std.proofs.Common.{rules, true, false, ◌≡◌, ◌<◌, ℕ, sym, ap, ◌∙◌, arith}
use Rattle.std.specs.Prelude.{Some}
use Rattle.ranges.specs.Range.{first_below, index_below}
use Rattle.ranges.proofs.Searches.{best-passes, first-before, index-some, index-none}
use Rattle.geometry.specs.Places.{erase_word}
use Rattle.geometry.proofs.Laws.{place_inside}
use Rattle.image.specs.Mending.{count_unset}
use Rattle.image.specs.WellFormed.{R2}
use Rattle.image.specs.Views.{of_image}
use Rattle.image.proofs.Mending.{mendable-facts}
use Rattle.flash.specs.Repairing.{largest_other}
use Rattle.flash.specs.Runs.{of_run}
use Rattle.flash.proofs.RunLaws.{nothing, at-place, as-steps}
use Rattle.restoring.proofs.LowWords.{mendable-map}
use Rattle.restoring.proofs.Counted.{counting-none, counting-one}
use Rattle.restoring.proofs.restore_count.Goals.{After-find-unset}
use Rattle.restoring.proofs.restore_count.Goals as goal

pub find-unset-requires : goal.find-unset-requires
find-unset-requires c i l =
    let r = c.args.run.now in
    let view = c.view-image.result in
    let agrees : of_image R2 view i ≡ true =
    rw (c.view-image.ensures.words, c.view-image.ensures.geo) (mendable-map r.geo r.words.now (mendable-facts r.geo r.words.now c.requires) i (rw c.view-image.ensures.geo at l)) in
    search rules

-- the first block without its count
first : (c : After-find-unset) → let r = c.args.run.now in c.find-unset.result ≡ index_below r.geo.blocks (first_below r.geo.blocks (of_run count_unset r))
first c = rw (c.view-image.ensures.words, c.view-image.ensures.geo) at (c.find-unset.ensures (of_image count_unset c.view-image.result) (λ i t l k. search rules))

-- a block was found
inside : (c : After-find-unset) {b : ℕ} → c.find-unset.result ≡ Some b → b < c.args.run.now.geo.blocks
inside c is = (index-some (sym (first c) ∙ is)).1

pub start-requires-clause-b_lt_blocks : goal.start-requires-clause-b_lt_blocks
start-requires-clause-b_lt_blocks c = inside (goal.at.start-requires-clause-b_lt_blocks c).After-find-unset c.in-Some.is

pub program-requires : goal.program-requires
program-requires c =
    let run = c.args.run.now in
    omega (arith, c.start.ensures, run.shaped.long, place_inside run.geo {j = erase_word} (inside (goal.at.program-requires c).After-find-unset c.in-Some.is) (omega (arith, run.shaped.limits.sectors_low)))

pub returns-in_default : goal.returns-in_default
returns-in_default c =
    let r = c.args.run.now in
    let out = index-none (sym (first (goal.at.returns-in_default c).After-find-unset) ∙ c.in_default.is) in
    rw (counting-none r.geo r.words.now (λ b l. first-before r.geo.blocks (of_run count_unset r) (omega arith))) (nothing _)

pub returns-in-Some : goal.returns-in-Some
returns-in-Some c =
    let r = c.args.run.now in
    let b = c.in-Some.b in
    let found = index-some (sym (first (goal.at.returns-in-Some c).After-find-unset) ∙ c.in-Some.is) in
    let unset : of_run count_unset r b ≡ true = ap (of_run count_unset r) (sym found.0) ∙ best-passes (λ i s. false) r.geo.blocks (of_run count_unset r) (omega (arith, found)) in
    let count : c.largest_other-count.result ≡ of_run largest_other r b =
    rw (c.view-image.ensures.words, c.view-image.ensures.geo) at c.largest_other-count.ensures in
    as-steps (at-place c.program.ensures (omega arith) count)
    (sym (counting-one r.geo r.words.now (mendable-facts r.geo r.words.now c.requires) b found.1 unset))
