-- (iii) of a repair: a blank block that was not given its count gets the largest of the others. Where all else was mended, the image is sound then.
-- Assumes nothing.
use mathlib.Core.Path.{◌≡◌, refl, sym, ap, ap₂, ◌∙◌}
use mathlib.Core.Logic.{◌≢◌, ◌⊎◌, inl, inr, ⊎_elim}
use mathlib.Core.Bool.{Bool, true, false, cond, true≢false}
use mathlib.Core.List.{List, [], ◌∷◌, ◌++◌, append-nil}
use Prim.Native.Nat.{ℕ, zero, suc, ◌<◌, ◌≤◌}
use native.Mathlib.Nat.{le_step, lt-suc_self}
use native.Mathlib.Decide.{ℕ_discrete}
use native.Mathlib.Omega.{arith}
use lib.Dec.{eqb}
use borrow.Author.Tests.{eqb-false}
use Rattle.ranges.specs.Range.{any_below, count_below, join_below}
use Rattle.ranges.proofs.Tests.{below_suc, unless, any_at, none-at}
use Rattle.ranges.proofs.Sums.{sum-ext, sum-zero}
use Rattle.ranges.proofs.LargestLaws.{largest-bound}
use Rattle.ranges.proofs.Lists.{join-none}
use Rattle.geometry.specs.declared.Geometry.{Geometry}
use Rattle.geometry.specs.Places.{place, erase_word, least_word, greatest_word}
use Rattle.image.specs.Words.{Image, Shaped, word, erase_count, least_mapped, greatest_mapped}
use Rattle.image.specs.Blocks.{blank}
use Rattle.image.specs.WellFormed.{ceiling, R6, NoneSuperseded}
use Rattle.image.specs.Mending.{count_unset}
use Rattle.image.proofs.Facts.{Sound}
use Rattle.image.proofs.Mending.{Mendable, unset-count, mendable-sound}
use Rattle.flash.specs.declared.Step.{Step}
use Rattle.flash.specs.declared.Step.TheVariants.{Program}
use Rattle.flash.specs.Steps.{run, words_in, erasures_in, leaves_asked}
use Rattle.flash.specs.Repairing.{largest_other, sets_count, counting}
use Rattle.flash.proofs.Stores.{run_none, counts-words, counts-erasures, exact_none}
use Rattle.flash.proofs.Along.{Along, along-none, along-end}
use Rattle.flash.proofs.Joins.{count-join}
use Rattle.restoring.proofs.LowWords.{LowOnly, low-none, Programmed, programmed-where, along-where, full-kept, current-kept, still-mendable}
use Rattle.restoring.proofs.Bounded.{Closed, count-where}

-- ---- the steps

-- lists one behind the other, where one alone has any steps
join-only : (m : ℕ) {f : ℕ → List Step} {b : ℕ} → b < m → ((i : ℕ) → i < m → i ≢ b → f i ≡ []) → join_below m f ≡ f b
unfolding join_below
join-only zero l h = absurd (omega arith)
join-only (suc m) {f} {b} l h =
    ⊎_elim
    (λ e. ap₂ ◌++◌ (join-none m {f = f} (λ i k. h i (le_step k) (λ q. omega arith))) (ap f (sym e)))
    (λ k. ap₂ ◌++◌ (join-only m {f = f} k (λ i q. h i (le_step q))) (h m (lt-suc_self m) (λ e. omega arith)) ∙ append-nil (f b))
    (below_suc l)

module _ (geo : Geometry) (image : Image) where
  sets-none : (b : ℕ) → count_unset geo image b ≡ false → sets_count geo image b ≡ []
  sets-none b f = rw f

  -- no block, or one
  pub counting-none : ((b : ℕ) → b < geo.blocks → count_unset geo image b ≡ false) → counting geo image ≡ []
  unfolding counting
  counting-none none = join-none geo.blocks (λ b l. sets-none b (none b l))

  pub counting-one :
      Mendable geo image →
      (b : ℕ) →
      b < geo.blocks →
      count_unset geo image b ≡ true →
      counting geo image ≡ Program (place geo b erase_word) (largest_other geo image b) ∷ []
  unfolding counting
  counting-one start b l t =
      join-only geo.blocks {f = sets_count geo image} l (λ c h n. sets-none c (unless _ (λ u. n (start.single c b h l u t)))) ∙ rw t

  -- where no block is blank, there is none
  pub counting-unless-blank : R6 geo image ≡ false → counting geo image ≡ []
  unfolding R6 count_unset
  counting-unless-blank none = counting-none (λ b l. rw (none-at geo.blocks (blank geo image) none b l))

  -- a word for each count that is not set, and no block is erased
  pub counting-words : words_in (counting geo image) ≡ count_below geo.blocks (count_unset geo image)
  unfolding counting
  counting-words =
      count-join counts-words geo.blocks (sets_count geo image)
      ∙ sum-ext geo.blocks (λ b l. omega (arith, count-where counts-words geo (count_unset geo image b) b erase_word (largest_other geo image b)))

  pub counting-erasures : erasures_in (counting geo image) ≡ 0
  unfolding counting
  counting-erasures =
      count-join counts-erasures geo.blocks (sets_count geo image)
      ∙ sum-zero geo.blocks (λ b l. omega (arith, count-where counts-erasures geo (count_unset geo image b) b erase_word (largest_other geo image b)))

-- ---- on the way

-- the image before and after
pub record Counting (geo : Geometry) (image now : Image) : Type 0 where
  pub low : LowOnly geo image now
  pub bounds :
      (c : ℕ) → c < geo.blocks → (least_mapped geo now c ≡ least_mapped geo image c) × (greatest_mapped geo now c ≡ greatest_mapped geo image c)
  pub mendable : Mendable geo now
  pub current : NoneSuperseded geo now

module _ (geo : Geometry) (image : Image) (shaped : Shaped geo image) (start : Mendable geo image) (current : NoneSuperseded geo image) where
  -- the count of another block is not unset, so it is not above the ceiling; nor is the largest of them
  pub largest-fits : (b : ℕ) → b < geo.blocks → count_unset geo image b ≡ true → largest_other geo image b ≤ ceiling
  largest-fits b l t = largest-bound geo.blocks ceiling (λ c h. go c h (eqb c b) refl)
    where
      go : (c : ℕ) → c < geo.blocks → (same : Bool) → eqb c b ≡ same → cond same 0 (erase_count geo image c) ≤ ceiling
      go c h true e = omega arith
      go c h false e = ⊎_elim (λ x. x) (λ u. absurd (eqb-false c b e (start.single c b h l u t))) (start.worn c h)

  -- what the count of block c is then
  abbrev pub count_then : ℕ → ℕ
  count_then c = cond (count_unset geo image c) (largest_other geo image c) (erase_count geo image c)

  then-fits : (c : ℕ) → c < geo.blocks → count_then c ≤ ceiling
  then-fits c l = go (count_unset geo image c) refl
    where
      go : (t : Bool) → count_unset geo image c ≡ t → cond t (largest_other geo image c) (erase_count geo image c) ≤ ceiling
      go true t = largest-fits c l t
      go false t = ⊎_elim (λ x. x) (λ u. absurd (true≢false (sym u ∙ t))) (start.worn c l)

  counting-from :
      {now : Image} →
      LowOnly geo image now →
      ((c : ℕ) → c < geo.blocks → (least_mapped geo now c ≡ least_mapped geo image c) × (greatest_mapped geo now c ≡ greatest_mapped geo image c)) →
      ((c : ℕ) → c < geo.blocks → (erase_count geo now c ≡ erase_count geo image c) ⊎ (erase_count geo now c ≤ ceiling)) →
      Counting geo image now
  counting-from {now} low bounds counts =
      record {
        low = low;
        bounds = bounds;
        mendable =
            still-mendable geo image now low start counts (λ c l f. bounds c l)
            (λ c i n l h f e.
            let were = start.bounded c i n l h f e in
            (rw (bounds c l).0 were.0, rw (bounds c l).1 were.1));
        current = current-kept geo image now low current;
      }

  before : Counting geo image image
  before = counting-from (low-none shaped) (λ c l. (refl, refl)) (λ c l. inl refl)

  -- what (iii) does: nothing, or one step
  record Done (steps : List Step) : Type 0 where
    along : Along geo (Counting geo image) image steps
    asked : leaves_asked geo image steps ≡ true
    counts : (c : ℕ) → c < geo.blocks → erase_count geo (run geo image steps) c ≡ count_then c

  done_none : ((c : ℕ) → c < geo.blocks → count_unset geo image c ≡ false) → Done []
  done_none none =
      record {
        along = along-none geo (Counting geo image) image before;
        asked = (exact_none geo image).asked;
        counts = λ c l. rw (run_none geo image, none c l);
      }

  module _ (b : ℕ) (l : b < geo.blocks) (t : count_unset geo image b ≡ true) where
    set : Programmed geo image true b erase_word (largest_other geo image b)
    unfolding erase_count
    set =
        programmed-where geo image true b erase_word (largest_other geo image b) shaped l (omega arith)
        (λ e. unset-count geo image b t)
        (omega (arith, largest-fits b l t))

    abbrev after : Image
    after = run geo image (Program (place geo b erase_word) (largest_other geo image b) ∷ [])

    counts-after : (c : ℕ) → c < geo.blocks → erase_count geo after c ≡ count_then c
    unfolding erase_count
    counts-after c h = go (ℕ_discrete c b)
      where
        go : Dec (c ≡ b) → word after (place geo c erase_word) ≡ cond (count_unset geo image c) (largest_other geo image c) (word image (place geo c erase_word))
        go (yes e) = rw (e, t) set.here
        go (no n) = rw (unless _ (λ u. n (start.single c b h l u t))) (set.other c erase_word (omega arith) (λ e f. n e))

    bounds-after :
        (c : ℕ) → c < geo.blocks → (least_mapped geo after c ≡ least_mapped geo image c) × (greatest_mapped geo after c ≡ greatest_mapped geo image c)
    unfolding least_mapped greatest_mapped
    bounds-after c h =
        (set.other c least_word (omega arith) (λ e f. omega arith), set.other c greatest_word (omega arith) (λ e f. omega arith))

    done-one : Done (Program (place geo b erase_word) (largest_other geo image b) ∷ [])
    done-one =
        record {
          along =
              along-where geo (Counting geo image) image true b erase_word (largest_other geo image b) before
              (counting-from set.low bounds-after (λ c h. inr (rw (counts-after c h) (then-fits c h))));
          asked = set.as-asked;
          counts = counts-after;
        }

  done : Done (counting geo image)
  done = go (any_below geo.blocks (count_unset geo image)) refl
    where
      go : (t : Bool) → any_below geo.blocks (count_unset geo image) ≡ t → Done (counting geo image)
      go true t =
          let (b, l, unset) = any_at geo.blocks (count_unset geo image) t in
          rw (counting-one geo image start b l unset) (done-one b l unset)
      go false t =
          let none = none-at geo.blocks (count_unset geo image) t in
          rw (counting-none geo image none) (done_none none)

  -- ---- (iii)

  pub counting-along : Along geo (Counting geo image) image (counting geo image)
  counting-along = done.along

  pub counting-asked : leaves_asked geo image (counting geo image) ≡ true
  counting-asked = done.asked

  pub counting-counts : (c : ℕ) → c < geo.blocks → erase_count geo (run geo image (counting geo image)) c ≡ count_then c
  counting-counts = done.counts

  -- where words 1 and 2 of the full blocks are programmed, every rule but R6 holds then
  pub counted-sound : Closed geo image → Sound geo (run geo image (counting geo image))
  counted-sound closed =
      let now = run geo image (counting geo image) in
      let end = along-end geo (Counting geo image) image (counting geo image) counting-along in
      mendable-sound geo now end.mendable end.current
      (λ c l. unless _ (λ t. omega (arith, unset-count geo now c t, counting-counts c l, then-fits c l)))
      (λ c l f.
      let set = closed c l (sym (full-kept geo image now end.low c l) ∙ f) in
      (λ e. set.0 (sym (end.bounds c l).0 ∙ e), λ e. set.1 (sym (end.bounds c l).1 ∙ e)))
