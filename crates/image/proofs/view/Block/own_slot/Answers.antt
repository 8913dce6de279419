-- `image::view::Block::own_slot` meets its contract: it reads the entry and the map bit where the definition has them.
use Rattle.std.proofs.Common.{ap, ◌*◌, ◌<◌, length, arith}
use Rattle.geometry.specs.Geometry.{k}
use Rattle.geometry.proofs.Laws.{map-covers}
use Rattle.image.specs.Slots.{own_slot}
use Rattle.image.proofs.Places.{map-long, entries-long, free-map-at, entries-at}
use Rattle.image.proofs.view.Block.own_slot.Goals.{After-map_words}
use Rattle.image.proofs.view.Block.own_slot.Goals as goal

-- the map has a bit for every slot
in_map : (c : After-map_words) → c.args.i < 32 * k c.args.self.now.image.geo
in_map c = omega (arith, map-covers c.args.self.now.image.geo c.args.self.now.image.shaped.limits)

pub bounds-map_words-i : goal.bounds-map_words-i
bounds-map_words-i c =
    omega (arith, in_map (goal.at.bounds-map_words-i c).After-map_words, ap length c.map_words.ensures, map-long c.args.self.now.image.geo c.args.self.now.image.words.now c.args.self.now.image.shaped c.args.self.now.in_image)

pub bounds-entries-i : goal.bounds-entries-i
bounds-entries-i c = omega (arith, c.requires, ap length c.entries.ensures, entries-long c.args.self.now.image.geo c.args.self.now.image.words.now c.args.self.now.image.shaped c.args.self.now.in_image)

pub returns : goal.returns
unfolding own_slot
returns c =
    let b = c.args.self.now in
    rw (c.slot_of.ensures, c.is_set-set.ensures, c.map_words.ensures, c.entries.ensures, entries-at b.image.geo b.image.words.now b.index c.args.i c.requires, free-map-at b.image.geo b.image.words.now b.index c.args.i (in_map (goal.at.returns c).After-map_words))
