-- An image is sound exactly where every block keeps its rules by the slots' own kinds: in either case no slot is superseded, and so the own kinds
-- are the slots' kinds. Assumes nothing.
use mathlib.Core.Path.{◌≡◌, refl, ap, ap₂, ◌∙◌}
use mathlib.Core.Bool.{Bool, true, false, not, cond, ◌&&◌, ◌||◌, and-true}
use Prim.Native.Nat.{ℕ, ◌<◌}
use native.Mathlib.Omega.{arith}
use Rattle.ranges.specs.Range.{all_below}
use Rattle.ranges.proofs.Tests.{both-pass, all-at, none_of, all-ext, any-ext}
use Rattle.geometry.specs.declared.Geometry.{Geometry}
use Rattle.geometry.specs.Geometry.{d}
use Rattle.image.specs.declared.Slot.{Slot}
use Rattle.image.specs.declared.Slot.TheVariants.{Free, Live, Dead, Faulty, Superseded}
use Rattle.image.specs.Words.{Image}
use Rattle.image.specs.Slots.{own_slot, slot, is_live_with, is_live_for}
use Rattle.image.specs.Blocks.{full}
use Rattle.image.specs.WellFormed.{live_before, none_with, none_twice, bounds_set, bounds_blank, out_of_bounds, bounds_kept, R1, R2, R3, R4, R5, R7, R8, sound_block, sound, NoneSuperseded}
use Rattle.image.proofs.Own.{none-superseded, each-own}
use Rattle.image.proofs.Facts.{once-of, sound-facts}
use Rattle.checking.specs.OwnKinds.{sound_by_own}

-- ---- the same kinds pass the same tests

with-same : {f g : ℕ → Bool} (s : Slot) → ((n : ℕ) → f n ≡ g n) → is_live_with f s ≡ is_live_with g s
with-same Free e = refl
with-same (Live n) e = e n
with-same Dead e = refl
with-same Faulty e = refl
with-same Superseded e = refl

module _
    (geo : Geometry) {kind other : ℕ → ℕ → Slot}
    (same : (c j : ℕ) → c < geo.blocks → j < d geo → kind c j ≡ other c j)
    (b : ℕ)
    (l : b < geo.blocks)
  where
    before_same : (i n : ℕ) → i < d geo → live_before geo kind b i n ≡ live_before geo other b i n
    before_same i n h =
        ap₂ ◌||◌
        (any-ext b (λ c m. any-ext (d geo) (λ j k. ap (is_live_for n) (same c j (omega arith) k))))
        (any-ext i (λ j k. ap (is_live_for n) (same b j l (omega arith))))

    none-twice-same : none_twice geo kind b ≡ none_twice geo other b
    none-twice-same =
        all-ext (d geo)
        (λ i h. ap not (with-same (kind b i) (λ n. before_same i n h) ∙ ap (is_live_with (live_before geo other b i)) (same b i l h)))

    none-with-same : (f : ℕ → Bool) → none_with geo kind f b ≡ none_with geo other f b
    none-with-same f = all-ext (d geo) (λ i h. ap (λ s. not (is_live_with f s)) (same b i l h))

    bounds-same : (image : Image) → bounds_kept geo image kind b ≡ bounds_kept geo image other b
    bounds-same image =
        ap (λ t. cond (full geo image b) (bounds_set geo image b && t) (bounds_blank geo image b)) (none-with-same (out_of_bounds geo image b))

-- ---- the law

-- two tests are the same if they are so where either passes
same_if : (x y : Bool) → (x ≡ true → x ≡ y) → (y ≡ true → x ≡ y) → x ≡ y
same_if true y from to = from refl
same_if false true from to = to refl
same_if false false from to = refl

module _ (geo : Geometry) (image : Image) where
  -- where no slot is superseded, each block's rules are those by own kinds
  block_same : NoneSuperseded geo image → (b : ℕ) → b < geo.blocks → sound_block geo image b ≡ sound_by_own geo image b
  unfolding sound_block R5 R7 R8
  block_same none b l =
      let own : (c j : ℕ) → c < geo.blocks → j < d geo → slot geo image c j ≡ own_slot geo image c j = λ c j m h. each-own none m h in
      rw (
        none-twice-same geo own b l,
        bounds-same geo own b l image,
        none_of (d geo) (λ i h. none.none b i l h),
      )
      (and-true _)

  -- every block keeps R5 by own kinds: none is superseded
  own-current : all_below geo.blocks (sound_by_own geo image) ≡ true → NoneSuperseded geo image
  own-current t =
      none-superseded geo image
      (once-of geo (own_slot geo image)
      (λ b l.
      let to7 = both-pass _ (bounds_kept geo image (own_slot geo image) b) (all-at geo.blocks (sound_by_own geo image) t b l) in
      (both-pass (R1 geo image b && R2 geo image b && R3 geo image b && R4 geo image b) _ to7.0).1))

  pub sound-by-own : sound geo image ≡ all_below geo.blocks (sound_by_own geo image)
  unfolding sound
  sound-by-own =
      same_if (sound geo image) (all_below geo.blocks (sound_by_own geo image))
      (λ t. all-ext geo.blocks (block_same (sound-facts geo image t).current))
      (λ t. all-ext geo.blocks (block_same (own-current t)))
