-- `image::view::Block::map_words` meets its contract: the part ends within the image.
use Rattle.std.proofs.Common.{◌≡◌, ◌+◌, ◌-◌, ◌≤◌, length, arith}
use Rattle.image.specs.Words.{map_words}
use Rattle.image.proofs.Places.{map-room}
use Rattle.image.proofs.view.Block.map_words.Goals.{After-k}
use Rattle.image.proofs.view.Block.map_words.Goals as goal

room : (c : After-k) → c.map_start-from.result + c.k.result ≤ length c.args.self.now.image.words.now
room c = omega (arith, map-room c.args.self.now.image.geo c.args.self.now.image.words.now c.args.self.now.image.shaped c.args.self.now.in_image)

pub overflow_add-result : goal.overflow_add-result
overflow_add-result c = omega (arith, room c)

pub slice_bounds-result-end : goal.slice_bounds-result-end
slice_bounds-result-end c = omega (arith, room c)

pub returns : goal.returns
unfolding map_words
returns c =
    let from = c.map_start-from.result in
    let n = c.k.result in
    let long : from + n - from ≡ n = omega arith in
    rw (long, c.map_start-from.ensures, c.k.ensures)
