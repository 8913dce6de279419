-- `placing::live_bounds` meets its contract: the two numbers are the first and the last of those that are live in the slots passed, or L and 0.
use Rattle.std.proofs.Common.{Bool, false, ◌≡◌, ◌<◌, refl, sym, ap, ap₂, ◌∙◌, ℕ, arith}
use Rattle.ranges.specs.Range.{first_below}
use Rattle.ranges.proofs.Searches.{best-le}
use Rattle.geometry.specs.Geometry.{d}
use Rattle.image.proofs.SlotKinds.{live-is}
use Rattle.placing.specs.Bounds.{bounds_of, live_among}
use Rattle.placing.proofs.BoundLaws.{none-live, with-live, without, live-not, bounds-found}
use Rattle.placing.proofs.live_bounds.Goals.{in-Some, in_default}
use Rattle.placing.proofs.live_bounds.Goals as goal

pub loop-i-init : goal.loop-i-init
loop-i-init g c = (omega arith, rw c.block.ensures (none-live _ _))

pub loop-i-preserved : goal.loop-i-preserved
loop-i-preserved g c =
    let same = c.loop-i.invariant.1 in
    let is = c.live_at.ensures.value in (
      omega arith,
      elim c.match-live_at.branch [
        | in-Some w ↦
            rw (w.least-is, w.greatest-is, w.lesser-least.ensures, w.greater-greatest.ensures)
            (with-live _ _ _ same (live-is _ (sym w.in-Some.is ∙ is)) (rw w.in-Some.is at c.live_at.ensures.in_range))
        | in_default w ↦ rw (w.least-is, w.greatest-is) (without _ _ _ same {s = g.K.Kinds.kind c.args.kinds.now (g.K.Kinds.block_of c.args.kinds.now).index c.loop-i.i} refl (live-not _ (λ n e. w.in_default.not-Some n (is ∙ sym e))))
      ],
    )

pub returns : goal.returns
returns g c =
    let block = g.K.Kinds.block_of c.args.kinds.now in
    let m = block.image.geo.logical in
    let f : ℕ → Bool = live_among (g.K.Kinds.kind c.args.kinds.now block.index) (d block.image.geo) in
    let end : c.loop-i.i ≡ d block.image.geo = omega (arith, ap (λ b. d b.image.geo) c.block.ensures) in
    let passed = rw end at c.loop-i.invariant.1 in
    let below : first_below m f < m = omega (arith, passed.first, best-le (λ x r. false) m f, ap (λ b. b.image.geo.logical) c.block.ensures, c.if-least-logical.false) in
    bounds-found m (bounds_of m f) (ap₂ (λ (x y : ℕ). record { least = x; greatest = y }) passed.first (passed.last below)) below
