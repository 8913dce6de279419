-- `shellwaltz::add_up` meets its contract: each total is the sum over the blocks passed. No sum wraps: there are at most 64 blocks, each of at
-- most 63 slots and, in a well-formed image, erased at most a million times.
use mathlib.Core.Bool.{Bool}
use mathlib.Core.Path.{◌≡◌, refl, ap, ap₂}
use Prim.Native.Nat.{ℕ, ◌+◌, ◌*◌, ◌<◌, ◌≤◌}
use native.Mathlib.Nat.{mul-le-mul_right}
use native.Mathlib.Numerals.{add-one}
use native.Mathlib.Omega.{arith}
use Rattle.ranges.specs.Range.{sum_below, count_below}
use Rattle.ranges.proofs.Tests.{both-pass}
use Rattle.ranges.proofs.Sums.{sum_bound, count-le}
use Rattle.geometry.specs.Geometry.{d}
use Rattle.geometry.proofs.Laws.{d_small}
use Rattle.image.specs.declared.Slot.{Slot}
use Rattle.image.specs.declared.Tally.{Tally}
use Rattle.image.specs.Slots.{slot, is_free, is_live, is_dead}
use Rattle.image.specs.WellFormed.{ceiling, well_formed}
use Rattle.image.proofs.Facts.{sound-facts, formed-sound}
use Rattle.shellwaltz.proofs.add_up.Goals.{After-tally-slots}
use Rattle.shellwaltz.proofs.add_up.Goals as goal

-- one block more
more : (f : ℕ → ℕ) (b : ℕ) {s t : ℕ} → s ≡ sum_below b f → t ≡ f b → s + t ≡ sum_below (b + 1) f
unfolding sum_below
more f b passed here = rw add-one (ap₂ ◌+◌ passed here)

-- the sum over some of at most 64 blocks and one block more
small : (f : ℕ → ℕ) (blocks most b : ℕ) {s t : ℕ} →
    blocks ≤ 64 →
    ((i : ℕ) → i < blocks → f i ≤ most) →
    b < blocks →
    s ≡ sum_below b f →
    t ≡ f b →
    s + t ≤ 64 * most
small f blocks most b few each l passed here =
    let before : sum_below b f ≤ b * most = sum_bound b most (λ i h. each i (omega arith)) in
    let in_all : (b + 1) * most ≤ 64 * most = mul-le-mul_right most (omega arith) in
    omega (arith, each b l)

-- the slots of one kind, in the blocks passed and in the block of this turn
of-kind : (kind : Slot → Bool) (c : After-tally-slots) {s t : ℕ} →
    let count : ℕ → ℕ = λ b. count_below (d c.args.image.now.geo) (λ i. kind (slot c.args.image.now.geo c.args.image.now.words.now b i)) in
    let b = c.loop-b.b in
    s ≡ sum_below b count →
    t ≡ count b →
    s + t ≤ 4032
of-kind kind c =
    let geo = c.args.image.now.geo in
    let limits = c.args.image.now.shaped.limits in
    small (λ b. count_below (d geo) (λ i. kind (slot geo c.args.image.now.words.now b i))) _ 63 _
    limits.blocks_high
    (λ b h. omega (arith, count-le (d geo) (λ i. kind (slot geo c.args.image.now.words.now b i)), d_small geo limits))
    c.loop-b-test.true

-- the three sums over the blocks passed and the block of this turn
counted : (c : After-tally-slots) →
    let l = c.loop-b in
    let r = c.tally-slots.result in
    (l.mapped + r.live ≤ 4032) × (l.free + r.free ≤ 4032) × (l.dead + r.dead ≤ 4032)
counted c =
    let v = c.loop-b.invariant in
    let e = c.tally-slots.ensures in (
      of-kind is_live c v.1 (ap (λ (t : Tally). t.live) e),
      of-kind is_free c v.2 (ap (λ (t : Tally). t.free) e),
      of-kind is_dead c v.3 (ap (λ (t : Tally). t.dead) e),
    )

pub loop-b-init : goal.loop-b-init
unfolding sum_below
loop-b-init c = (omega arith, refl, refl, refl, refl)

pub tally-slots-requires : goal.tally-slots-requires
tally-slots-requires c = formed-sound _ _ c.requires

pub overflow_add-mapped : goal.overflow_add-mapped
overflow_add-mapped c = omega (arith, counted (goal.at.overflow_add-mapped c).After-tally-slots)

pub overflow_add-free : goal.overflow_add-free
overflow_add-free c = omega (arith, counted (goal.at.overflow_add-free c).After-tally-slots)

pub overflow_add-dead : goal.overflow_add-dead
overflow_add-dead c = omega (arith, counted (goal.at.overflow_add-dead c).After-tally-slots)

pub overflow_add-erase_sum : goal.overflow_add-erase_sum
unfolding well_formed
overflow_add-erase_sum c =
    let facts = sound-facts _ _ (both-pass _ _ c.requires).0 in
    omega (
      arith,
      small _ _ ceiling c.loop-b.b c.args.image.now.shaped.limits.blocks_high facts.worn c.loop-b-test.true c.loop-b.invariant.4 c.erase_count-erase_sum.ensures,
    )

pub loop-b-preserved : goal.loop-b-preserved
loop-b-preserved c =
    let l = c.loop-b in
    let e = c.tally-slots.ensures in (
      omega arith,
      more _ l.b l.invariant.1 (ap (λ (t : Tally). t.live) e),
      more _ l.b l.invariant.2 (ap (λ (t : Tally). t.free) e),
      more _ l.b l.invariant.3 (ap (λ (t : Tally). t.dead) e),
      more _ l.b l.invariant.4 c.erase_count-erase_sum.ensures,
    )
