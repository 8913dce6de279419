-- `image::view::Block::contents` meets its contract.
use Rattle.std.proofs.Common.{◌≡◌, ◌+◌, ◌-◌, arith}
use Rattle.geometry.specs.Geometry.{sector_words}
use Rattle.image.specs.Words.{contents}
use Rattle.image.proofs.view.Block.contents.Goals as goal

pub returns : goal.returns
unfolding contents
returns c =
    let from = c.contents_start-from.result in
    let long : from + sector_words - from ≡ sector_words = omega arith in
    rw (long, c.contents_start-from.ensures)
