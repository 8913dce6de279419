-- `placing::bounds_with` meets its contract: the bounds of the live numbers are widened to n.
use Rattle.std.proofs.Common.{◌∙◌}
use Rattle.flash.specs.Placing.{least_live, greatest_live}
use Rattle.placing.proofs.BoundLaws.{own-bounds}
use Rattle.placing.proofs.bounds_with.Goals as goal

pub returns : goal.returns
unfolding least_live greatest_live
returns c =
    let block = c.args.block.now in
    let none = c.requires.none_superseded in
    c.widened.ensures _ _ c.requires.n_lt_logical (c.live_bounds.ensures ∙ own-bounds block.image.geo block.image.words.now block.index none block.in_image)
