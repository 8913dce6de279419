-- `placing::close_block` meets its contract: where no slot is free the block is full, and the two bounds are programmed.
use Rattle.std.proofs.Common.{◌≡◌, sym, ap, ◌∙◌, arith}
use Rattle.image.specs.Blocks.{full}
use Rattle.flash.specs.declared.LiveBounds.{LiveBounds}
use Rattle.flash.specs.Placing.{least_live, greatest_live, live_bounds, closes_block}
use Rattle.flash.proofs.RunLaws.{nothing, both, at-place}
use Rattle.placing.proofs.BoundLaws.{own-bounds}
use Rattle.placing.proofs.close_block.Goals.{After-is_full, After-or_logical-live}
use Rattle.placing.proofs.close_block.Goals as goal

-- whether the block is full
full-here : (c : After-is_full) → c.is_full.result ≡ full c.args.run.now.geo c.args.run.now.words.now c.args.b
full-here c = rw (c.block-block.ensures.image, c.block-block.ensures.index, c.view.ensures.words, c.view.ensures.geo) at c.is_full.ensures

-- the bounds of the block
bounds-here : (c : After-or_logical-live) → c.or_logical-live.result ≡ live_bounds c.args.run.now.geo c.args.run.now.words.now c.args.b
unfolding least_live greatest_live
bounds-here c =
    let r = c.args.run.now in
    let live = rw (c.block-block.ensures.image, c.block-block.ensures.index, c.view.ensures.words, c.view.ensures.geo) at c.live_bounds.ensures in
    c.or_logical-live.ensures _ (live ∙ own-bounds r.geo r.words.now c.args.b c.requires.none_superseded c.requires.b_lt_blocks)

pub returns-then-is_full : goal.returns-then-is_full
unfolding closes_block
returns-then-is_full c =
    let live = bounds-here (goal.at.returns-then-is_full c).After-or_logical-live in
    rw (sym (full-here (goal.at.returns-then-is_full c).After-is_full) ∙ c.if-is_full.true)
    (both (at-place c.program.ensures (omega arith) (ap (λ (r : LiveBounds). r.least) live))
    (at-place c.program-then-is_full.ensures (omega arith) (ap (λ (r : LiveBounds). r.greatest) live)))

pub returns-else-is_full : goal.returns-else-is_full
unfolding closes_block
returns-else-is_full c = rw (sym (full-here (goal.at.returns-else-is_full c).After-is_full) ∙ c.if-is_full.false) (nothing _)
