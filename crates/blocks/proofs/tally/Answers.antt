-- `blocks::tally` meets its contract: in a sound image each slot is free, live or dead.
use mathlib.Core.Path.{◌≡◌}
use Prim.Native.Nat.{◌+◌, ◌-◌}
use native.Mathlib.Omega.{arith}
use Rattle.geometry.specs.Geometry.{d}
use Rattle.geometry.proofs.Laws.{d_small}
use Rattle.image.specs.Blocks.{free_slots, live_slots, dead_slots}
use Rattle.image.proofs.Facts.{sound-facts, sound-maps}
use Rattle.image.proofs.Capacity.{block-parts}
use Rattle.blocks.proofs.tally.Goals.{After-d, Start}
use Rattle.blocks.proofs.tally.Goals as goal

-- the three kinds of slot add up
parts : (c : Start) →
    let geo = c.args.block.now.image.geo in
    let image = c.args.block.now.image.words.now in
    free_slots geo image c.args.block.now.index + live_slots geo image c.args.block.now.index + dead_slots geo image c.args.block.now.index ≡ d geo
parts c = block-parts c.args.block.now.image.geo c.args.block.now.image.words.now (sound-facts _ _ c.requires) c.args.block.now.index c.args.block.now.in_image

-- and those that the code has counted
added : (c : After-d) →
    c.free_slots-free.result + c.live_slots-live.result + dead_slots c.args.block.now.image.geo c.args.block.now.image.words.now c.args.block.now.index
    ≡ c.d.result
added c =
    omega (arith, c.free_slots-free.ensures, c.live_slots-live.ensures, c.d.ensures, parts c.before.before.before.before)

pub free_slots-free-requires : goal.free_slots-free-requires
free_slots-free-requires c = (sound-maps _ _ (sound-facts _ _ c.requires)).agrees _ c.args.block.now.in_image

pub overflow_cast-free : goal.overflow_cast-free
overflow_cast-free c = omega (arith, c.free_slots-free.ensures, parts (goal.at.overflow_cast-free c).Start, d_small c.args.block.now.image.geo c.args.block.now.image.shaped.limits)

pub live_slots-live-requires : goal.live_slots-live-requires
live_slots-live-requires c = (sound-facts _ _ c.requires).current

pub overflow_sub-dead : goal.overflow_sub-dead
overflow_sub-dead c = omega (arith, added (goal.at.overflow_sub-dead c).After-d)

pub overflow_sub-dead-2 : goal.overflow_sub-dead-2
overflow_sub-dead-2 c = omega (arith, added (goal.at.overflow_sub-dead-2 c).After-d)

pub returns : goal.returns
returns c =
    let dead : c.d.result - c.free_slots-free.result - c.live_slots-live.result ≡ dead_slots c.args.block.now.image.geo c.args.block.now.image.words.now c.args.block.now.index =
    omega (arith, added (goal.at.returns c).After-d) in
    rw (dead, c.free_slots-free.ensures, c.live_slots-live.ensures)
