-- `repair_ahead::emptying::bounds_of_both` meets its contract: the bounds of two blocks from those of each. Assumes nothing.
use Rattle.std.proofs.Common.{false, ◌≡◌, sym, ap, ◌∙◌, arith}
use Rattle.ranges.proofs.Searches.{best-le}
use Rattle.image.specs.declared.view.View.{View}
use Rattle.image.specs.Slots.{slot, live_in}
use Rattle.placing.specs.Bounds.{bounds_of, bounds_among}
use Rattle.placing.proofs.BoundLaws.{bounds-none}
use Rattle.repair_ahead.proofs.BothLaws.{both-widened, second_none}
use Rattle.repair_ahead.proofs.emptying.bounds_of_both.Goals.{After-live_bounds-there}
use Rattle.repair_ahead.proofs.emptying.bounds_of_both.Goals as goal

-- the bounds of the target, of the image that the victim is of
there : (c : After-live_bounds-there) →
    let v = c.args.victim.now.block in
    c.live_bounds-there.result ≡ bounds_among v.image.geo (slot v.image.geo v.image.words.now c.args.target.now.block.index)
there c =
    c.live_bounds-there.ensures
    ∙ ap (λ (image : View). bounds_among image.geo (slot image.geo image.words.now c.args.target.now.block.index)) c.requires

pub returns-in-Some : goal.returns-in-Some
returns-in-Some c =
    let v = c.args.victim.now.block in
    both-widened v.image.geo.logical (live_in v.image.geo v.image.words.now c.args.target.now.block.index) (live_in v.image.geo v.image.words.now v.index)
    (there (goal.at.returns-in-Some c).After-live_bounds-there) (sym c.in-Some.is ∙ c.live_bounds.ensures) c.widened.ensures c.widened-in-Some.ensures

pub returns-in-None : goal.returns-in-None
returns-in-None c =
    let v = c.args.victim.now.block in
    let m = v.image.geo.logical in
    let staying = live_in v.image.geo v.image.words.now c.args.target.now.block.index in
    let moving = live_in v.image.geo v.image.words.now v.index in
    c.or_logical.ensures staying (there (goal.at.returns-in-None c).After-live_bounds-there)
    ∙ second_none m staying moving
    (omega (arith, bounds-none m (bounds_of m moving) (sym c.in-None.is ∙ c.live_bounds.ensures), best-le (λ i r. false) m moving))
