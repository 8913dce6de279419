-- How many slots are live, dead and free: at most L are live, so a victim has at least g dead slots. Assumes nothing.
use mathlib.Core.Path.{◌≡◌, refl, sym, ap, ◌∙◌}
use mathlib.Core.Logic.{⊎_elim}
use mathlib.Core.Bool.{Bool, true, false, ◌&&◌, true≢false}
use Prim.Native.Nat.{ℕ, ◌+◌, ◌-◌, ◌*◌, ◌<◌, ◌≤◌}
use native.Mathlib.Nat.{mul-le-mul_left}
use native.Mathlib.Omega.{arith}
use lib.Dec.{eqb, ltb}
use borrow.Author.Tests.{eq-eqb, eqb-true, ltb-true, ltb-false, not-false}
use Rattle.ranges.specs.Range.{one_if, sum_below, count_below}
use Rattle.ranges.proofs.Tests.{both-pass, either-passes, neither-passes}
use Rattle.ranges.proofs.Sums.{sum-ext, sum_mono, sum-add, sum-const, sum-scale, sum-swap, sum_bound, term-le-sum, one-if-le, count-pairs-at-most-one}
use Rattle.ranges.proofs.Searches.{best-most}
use Rattle.geometry.specs.declared.Geometry.{Geometry}
use Rattle.geometry.specs.Geometry.{Limits, d, room, g}
use Rattle.geometry.proofs.Laws.{d-positive, rounded-up-le}
use Rattle.image.specs.declared.Slot.{Slot}
use Rattle.image.specs.declared.Slot.TheVariants.{Free, Live, Dead, Faulty, Superseded}
use Rattle.image.specs.Words.{Image}
use Rattle.image.specs.Slots.{superseded, slot, is_free, is_live, is_dead, is_faulty, is_live_for}
use Rattle.image.specs.Blocks.{blank, full, is_open, free_slots, live_slots, dead_slots, less_worn, preferred, victim}
use Rattle.image.proofs.Reading.{blank-count, full-count}
use Rattle.image.proofs.Own.{not-superseded, live-number}
use Rattle.image.proofs.Facts.{Sound, live-for}

-- each slot that is neither faulty nor superseded is free, live or dead
slot-parts : (s : Slot) → is_faulty s ≡ false → (s ≡ Superseded → ⊥) → one_if (is_free s) + one_if (is_live s) + one_if (is_dead s) ≡ 1
slot-parts Free e n = refl
slot-parts (Live n) e m = refl
slot-parts Dead e n = refl
slot-parts Faulty e n = absurd (true≢false e)
slot-parts Superseded e n = absurd (n refl)

module _ (geo : Geometry) (image : Image) where
  -- so each slot of a block that has none of either
  pub all-parts :
      (b : ℕ) →
      ((i : ℕ) → i < d geo → is_faulty (slot geo image b i) ≡ false) →
      ((i : ℕ) → i < d geo → superseded geo image b i ≡ false) →
      free_slots geo image b + live_slots geo image b + dead_slots geo image b ≡ d geo
  all-parts b proper current =
      let frees : ℕ → ℕ = λ i. one_if (is_free (slot geo image b i)) in
      let lives : ℕ → ℕ = λ i. one_if (is_live (slot geo image b i)) in
      let deads : ℕ → ℕ = λ i. one_if (is_dead (slot geo image b i)) in
      omega (
        arith,
        sum-add (d geo) (λ i. frees i + lives i) deads,
        sum-add (d geo) frees lives,
        sum-ext (d geo) (λ i h. slot-parts (slot geo image b i) (proper i h) (not-superseded geo image b i (current i h))),
        sum-const (d geo) 1,
      )

module _ (geo : Geometry) (image : Image) (s : Sound geo image) where
  pub block-parts : (b : ℕ) → b < geo.blocks → free_slots geo image b + live_slots geo image b + dead_slots geo image b ≡ d geo
  block-parts b l = all-parts geo image b (λ i h. s.proper b i l h) (λ i h. s.current.none b i l h)

  -- the three numbers of slots that a report gives are all the slots that there are
  pub image-parts :
      sum_below geo.blocks (live_slots geo image) + sum_below geo.blocks (free_slots geo image) + sum_below geo.blocks (dead_slots geo image)
      ≡ geo.blocks * d geo
  image-parts =
      omega (
        arith,
        sum-add geo.blocks (λ b. free_slots geo image b + live_slots geo image b) (dead_slots geo image),
        sum-add geo.blocks (free_slots geo image) (live_slots geo image),
        sum-ext geo.blocks (λ b l. block-parts b l),
        sum-const geo.blocks (d geo),
      )

  -- ---- no number is live in two slots: so no more slots are live than there are numbers

  live-counted :
      (b i : ℕ) → one_if (is_live (slot geo image b i)) ≤ sum_below geo.logical (λ n. one_if (is_live_for n (slot geo image b i)))
  live-counted b i = go (slot geo image b i) refl
    where
      go : (x : Slot) → slot geo image b i ≡ x → one_if (is_live x) ≤ sum_below geo.logical (λ n. one_if (is_live_for n x))
      go Free e = omega arith
      go (Live k) e = omega (arith, term-le-sum geo.logical (λ n. one_if (eqb k n)) (live-number geo image b i e), ap one_if (eq-eqb k k refl))
      go Dead e = omega arith
      go Faulty e = omega arith
      go Superseded e = omega arith

  once-counted : (n : ℕ) → sum_below geo.blocks (λ b. count_below (d geo) (λ i. is_live_for n (slot geo image b i))) ≤ 1
  once-counted n =
      count-pairs-at-most-one geo.blocks (d geo)
      (λ b i. is_live_for n (slot geo image b i))
      (λ b c i j l l' h h' e e'. s.once n b c i j l l' h h' (live-for n _ e) (live-for n _ e'))

  -- so no more than L slots are live
  pub live-at-most : sum_below geo.blocks (live_slots geo image) ≤ geo.logical
  live-at-most =
      let at : ℕ → ℕ → ℕ → ℕ = λ n b i. one_if (is_live_for n (slot geo image b i)) in
      let each = sum_mono geo.blocks (λ b l. sum_mono (d geo) (λ i h. live-counted b i)) in
      let inner = sum-ext geo.blocks (λ b l. sum-swap (d geo) geo.logical (λ i n. at n b i)) in
      let outer = sum-swap geo.blocks geo.logical (λ b n. sum_below (d geo) (at n b)) in
      let single = sum_bound geo.logical 1 (λ n l. once-counted n) in
      omega arith

  -- ---- a block that is not open is blank or full

  pub blank-free : (b : ℕ) → blank geo image b ≡ true → free_slots geo image b ≡ d geo
  blank-free b t = eqb-true (free_slots geo image b) (d geo) (sym (blank-count geo image b) ∙ t)

  pub full-free : (b : ℕ) → full geo image b ≡ true → free_slots geo image b ≡ 0
  full-free b t = eqb-true (free_slots geo image b) 0 (sym (full-count geo image b) ∙ t)

  pub shut-full : (b : ℕ) → is_open geo image b ≡ false → blank geo image b ≡ false → full geo image b ≡ true
  shut-full b shut e = not-false (full geo image b) (rw e at shut)

  -- with a slot in it, a block is not both
  pub blank-not-full : Limits geo → (b : ℕ) → blank geo image b ≡ true → full geo image b ≡ true → ⊥
  blank-not-full within b t u = omega (arith, blank-free b t, full-free b u, d-positive geo within)

  blank-or-full : Limits geo → (b : ℕ) → one_if (blank geo image b) + one_if (full geo image b) ≤ 1
  blank-or-full within b = go (blank geo image b) (full geo image b) refl refl
    where
      go : (x y : Bool) → blank geo image b ≡ x → full geo image b ≡ y → one_if x + one_if y ≤ 1
      go true true e e' = absurd (blank-not-full within b e e')
      go true false e e' = omega arith
      go false y e e' = omega (arith, one-if-le y)

  -- ---- none open, one blank

  module _ (within : Limits geo) (none_open : (b : ℕ) → b < geo.blocks → is_open geo image b ≡ false) (one-blank : count_below geo.blocks (blank geo image) ≡ 1) where
    shut-free : (b : ℕ) → b < geo.blocks → free_slots geo image b ≡ d geo * one_if (blank geo image b)
    shut-free b l = go (blank geo image b) refl
      where
        go : (x : Bool) → blank geo image b ≡ x → free_slots geo image b ≡ d geo * one_if x
        go true e = omega (arith, blank-free b e)
        go false e = omega (arith, full-free b (shut-full b (none_open b l) e))

    -- where rule 3 applies, the free slots of the image are those of the blank block
    pub free-is-a-block : sum_below geo.blocks (free_slots geo image) ≡ d geo
    free-is-a-block =
        let each = sum-ext geo.blocks shut-free in
        omega (arith, rw one-blank at (sum-scale geo.blocks (d geo) (λ b. one_if (blank geo image b))))

    -- the slots of a block: live, or dead with the block full and then at most D, or free with the block blank
    shut-size :
        (D b : ℕ) →
        b < geo.blocks →
        (full geo image b ≡ true → dead_slots geo image b ≤ D) →
        d geo ≤ live_slots geo image b + D * one_if (full geo image b) + d geo * one_if (blank geo image b)
    shut-size D b l most = go (blank geo image b) refl
      where
        go : (x : Bool) → blank geo image b ≡ x → d geo ≤ live_slots geo image b + D * one_if (full geo image b) + d geo * one_if x
        go true e = omega arith
        go false e =
            let f = shut-full b (none_open b l) e in
            omega (arith, most f, block-parts b l, full-free b f, ap (λ (x : Bool). D * one_if x) f)

    full-blocks : count_below geo.blocks (full geo image) ≤ geo.blocks - 1
    full-blocks =
        omega (
          arith,
          sum-add geo.blocks (λ b. one_if (blank geo image b)) (λ b. one_if (full geo image b)),
          sum_bound geo.blocks 1 (λ b l. blank-or-full within b),
        )

    -- A block with at least as many dead slots as each full block has at least g.
    pub most-dead :
        (D : ℕ) →
        ((b : ℕ) → b < geo.blocks → full geo image b ≡ true → dead_slots geo image b ≤ D) →
        g geo ≤ D
    unfolding g
    most-dead D most =
        let lives : ℕ → ℕ = live_slots geo image in
        let fulls : ℕ → ℕ = λ b. D * one_if (full geo image b) in
        let blanks : ℕ → ℕ = λ b. d geo * one_if (blank geo image b) in
        let few = live-at-most in
        let all = sum_mono geo.blocks (λ b l. shut-size D b l (most b l)) in
        let one_more : (geo.blocks - 1 + 1) * d geo ≡ geo.blocks * d geo = ap (◌* d geo) (omega (arith, within.blocks_low)) in
        rounded-up-le (room geo - geo.logical) (geo.blocks - 1) D (omega (arith, within.blocks_low))
        (omega (
          arith,
          all,
          sum-const geo.blocks (d geo),
          sum-add geo.blocks (λ b. lives b + fulls b) blanks,
          sum-add geo.blocks lives fulls,
          sum-scale geo.blocks D (λ b. one_if (full geo image b)),
          rw one-blank at (sum-scale geo.blocks (d geo) (λ b. one_if (blank geo image b))),
          mul-le-mul_left D full-blocks,
        ))

    -- the victim is such a block
    preferred-more : (b r : ℕ) → preferred geo image b r ≡ true → dead_slots geo image r ≤ dead_slots geo image b
    preferred-more b r t =
        ⊎_elim
        (λ e. omega (arith, ltb-true (dead_slots geo image r) (dead_slots geo image b) e))
        (λ e. omega (arith, eqb-true (dead_slots geo image r) (dead_slots geo image b) (both-pass _ _ e).0))
        (either-passes (ltb (dead_slots geo image r) (dead_slots geo image b)) (eqb (dead_slots geo image r) (dead_slots geo image b) && less_worn geo image b r) t)

    preferred-less : (b r : ℕ) → preferred geo image b r ≡ false → dead_slots geo image b ≤ dead_slots geo image r
    preferred-less b r t =
        omega (
          arith,
          ltb-false (dead_slots geo image r) (dead_slots geo image b)
              (neither-passes (ltb (dead_slots geo image r) (dead_slots geo image b)) (eqb (dead_slots geo image r) (dead_slots geo image b) && less_worn geo image b r) t).0,
        )

    pub victim-dead : g geo ≤ dead_slots geo image (victim geo image)
    unfolding victim
    victim-dead =
        most-dead (dead_slots geo image (victim geo image))
        (λ b l f. best-most (preferred geo image) (dead_slots geo image) preferred-more preferred-less geo.blocks (full geo image) l f)
