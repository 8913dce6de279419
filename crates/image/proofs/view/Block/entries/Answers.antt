-- `image::view::Block::entries` meets its contract: the part ends within the image.
use Rattle.std.proofs.Common.{◌≡◌, ◌+◌, ◌-◌, ◌≤◌, length, arith}
use Rattle.image.specs.Words.{entries}
use Rattle.image.proofs.Places.{entries-room}
use Rattle.image.proofs.view.Block.entries.Goals.{After-d}
use Rattle.image.proofs.view.Block.entries.Goals as goal

room : (c : After-d) → c.entries_start-from.result + c.d.result ≤ length c.args.self.now.image.words.now
room c = omega (arith, entries-room c.args.self.now.image.geo c.args.self.now.image.words.now c.args.self.now.image.shaped c.args.self.now.in_image)

pub overflow_add-result : goal.overflow_add-result
overflow_add-result c = omega (arith, room c)

pub offset_bounds-self-from : goal.offset_bounds-self-from
offset_bounds-self-from c = omega (arith, room c)

pub slice_bounds-result-end : goal.slice_bounds-result-end
slice_bounds-result-end c = omega (arith, room c)

pub returns : goal.returns
unfolding entries
returns c =
    let from = c.entries_start-from.result in
    let n = c.d.result in
    let long : from + n - from ≡ n = omega arith in
    rw (long, c.entries_start-from.ensures, c.d.ensures)
