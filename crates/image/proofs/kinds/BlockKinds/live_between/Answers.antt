-- `image::kinds::BlockKinds::live_between` meets its contract: whether the live numbers of the slots passed lie between the two words.
use Rattle.std.proofs.Common.{◌≡◌, Bool, refl, ap, ◌∙◌, ◌&&◌, length, arith}
use Rattle.ranges.specs.Range.{all_below}
use Rattle.geometry.specs.Geometry.{d}
use Rattle.image.specs.Words.{map_bit}
use Rattle.image.specs.Slots.{own_slot, slot_of}
use Rattle.image.proofs.Places.{entries-long, entries-at}
use Rattle.ranges.proofs.Tests.{all-ext, all-next}
use Rattle.image.proofs.kinds.BlockKinds.live_between.Invariants.{fits}
use Rattle.image.proofs.kinds.BlockKinds.live_between.Goals as goal

pub loop-entry-init : goal.loop-entry-init
unfolding all_below
loop-entry-init c set = refl

pub loop-entry-preserved : goal.loop-entry-preserved
loop-entry-preserved c set =
    let loop = c.loop-entry in
    all-next loop.entry-index _ (loop.invariant set) (ap (λ (x : Bool). loop.inside && x) (c.bounded-inside.ensures (set loop.entry-index)))

-- with the block's own bits, the kinds are the slots' own
pub returns : goal.returns
unfolding own_slot
returns c =
    let a = c.args in
    let end : c.loop-entry.entry-index ≡ d a.self.now.image.geo =
    omega (arith, ap length c.entries-entry-items.ensures, entries-long a.self.now.image.geo a.self.now.image.words.now c.args.self.now.image.shaped c.args.self.now.in_image) in
    rw (end, c.entries-entry-items.ensures) at c.loop-entry.invariant (map_bit a.self.now.image.geo a.self.now.image.words.now a.self.now.index)
    ∙ all-ext (d a.self.now.image.geo) (λ j l. ap (λ e. fits a.least a.greatest (slot_of a.self.now.image.geo.logical (map_bit a.self.now.image.geo a.self.now.image.words.now a.self.now.index j) e)) (entries-at a.self.now.image.geo a.self.now.image.words.now a.self.now.index j l))
