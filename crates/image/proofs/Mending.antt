-- What a repair can mend, as facts about slots (K4). Assumes nothing.
use mathlib.Core.Path.{◌≡◌, refl, sym, ap, ◌∙◌}
use mathlib.Core.Logic.{◌⊎◌, inl, inr, ⊎_elim, ◌≢◌}
use mathlib.Core.Bool.{Bool, true, false, cond, ◌||◌, or-true, true≢false}
use Prim.Native.Nat.{ℕ, ◌*◌, ◌<◌, ◌≤◌}
use native.Mathlib.Omega.{arith}
use lib.Dec.{eqb}
use lib.ListN.{get_or}
use borrow.Author.Tests.{eq-eqb, eqb-true, ne_eqb, leb-true, le-leb}
use Rattle.ranges.specs.Range.{one_if, all_below, count_below}
use Rattle.ranges.proofs.Tests.{unless, both-pass, either-passes, all-at, all_of}
use Rattle.ranges.proofs.Sums.{term-le-sum, count-one, count-at-most-one}
use Rattle.bits.specs.Word.{ones}
use Rattle.geometry.specs.declared.Geometry.{Geometry}
use Rattle.geometry.specs.Geometry.{d, k, sector_words}
use Rattle.image.specs.declared.Slot.TheVariants.{Free, Live}
use Rattle.image.specs.Words.{Image, erase_count, least_mapped, greatest_mapped, map_bit, contents}
use Rattle.image.specs.Slots.{slot, is_free, is_faulty}
use Rattle.image.specs.Blocks.{blank, full}
use Rattle.image.specs.WellFormed.{ceiling, R1, R2, R3, R4, R5, well_formed, NoneSuperseded}
use Rattle.image.specs.Mending.{count_unset, least_bound, bounds_mendable, mendable_block, mendable}
use Rattle.image.proofs.Own.{Once}
use Rattle.image.proofs.Reading.{map-says, map-rest}
use Rattle.image.proofs.Facts.{Sound, once-of, once-tests, map-agrees, clean_of, clean-tests, proper-of, proper-tests, unbounded-of, unbounded-tests, between-of, between-tests, sound-facts, formed-sound}

-- the facts of `mendable`: those of `Sound`, less what the four faults let pass
pub record Mendable (geo : Geometry) (image : Image) : Type 0 where
  pub worn : (b : ℕ) → b < geo.blocks → (erase_count geo image b ≤ ceiling) ⊎ (count_unset geo image b ≡ true)
  pub single : (b c : ℕ) → b < geo.blocks → c < geo.blocks → count_unset geo image b ≡ true → count_unset geo image c ≡ true → b ≡ c
  pub map : (b i : ℕ) → b < geo.blocks → i < d geo → map_bit geo image b i ≡ is_free (slot geo image b i)
  pub rest : (b i : ℕ) → b < geo.blocks → d geo ≤ i → i < 32 * k geo → map_bit geo image b i ≡ true
  pub clean :
      (b i : ℕ) → b < geo.blocks → i < d geo → slot geo image b i ≡ Free → (j : ℕ) → j < sector_words → get_or (contents geo image b i) j 0 ≡ ones
  pub proper : (b i : ℕ) → b < geo.blocks → i < d geo → is_faulty (slot geo image b i) ≡ false
  pub once : Once geo (slot geo image)
  pub unbounded : (b : ℕ) → b < geo.blocks → full geo image b ≡ false → (least_mapped geo image b ≡ ones) × (greatest_mapped geo image b ≡ ones)
  pub bounded :
      (b i n : ℕ) →
      b < geo.blocks →
      i < d geo →
      full geo image b ≡ true →
      slot geo image b i ≡ Live n →
      (least_bound geo image b ≤ n) × (n ≤ greatest_mapped geo image b)

module _ (geo : Geometry) (image : Image) where
  -- ---- from a sound image, and back where the faults are mended

  -- what `count_unset` says
  pub unset-count : (b : ℕ) → count_unset geo image b ≡ true → erase_count geo image b ≡ ones
  unfolding count_unset
  unset-count b t = eqb-true _ _ (both-pass (blank geo image b) _ t).1

  -- (iii): no count of a sound image is unset, as none is above the ceiling
  pub sound-no-unset : Sound geo image → (b : ℕ) → b < geo.blocks → count_unset geo image b ≡ false
  sound-no-unset s b l = unless _ (λ t. omega (arith, unset-count b t, s.worn b l))

  -- (ii): where word 1 is programmed, it is the lower bound
  pub bound-set : (b : ℕ) → least_mapped geo image b ≢ ones → least_bound geo image b ≡ least_mapped geo image b
  bound-set b set = rw (ne_eqb _ _ set)

  -- and where it is not, no number is below the lower bound
  pub least-bounds : (b n : ℕ) → (least_mapped geo image b ≡ ones) ⊎ (least_mapped geo image b ≤ n) → least_bound geo image b ≤ n
  least-bounds b n (inl unset) = rw (eq-eqb _ _ unset) (omega arith)
  least-bounds b n (inr low) = go (eqb (least_mapped geo image b) ones)
    where
      go : (t : Bool) → cond t 0 (least_mapped geo image b) ≤ n
      go true = omega arith
      go false = low

  pub sound-mendable : Sound geo image → Mendable geo image
  sound-mendable s =
      record {
        worn = λ b l. inl (s.worn b l);
        single = λ b c l m t u. absurd (true≢false (sym t ∙ sound-no-unset s b l));
        map = s.map;
        rest = s.rest;
        clean = s.clean;
        proper = s.proper;
        once = s.once;
        unbounded = s.unbounded;
        bounded = λ b i n l h f e. rw (bound-set b (s.closed b l f).0) (s.bounded b i n l h f e);
      }

  pub mendable-sound :
      Mendable geo image →
      NoneSuperseded geo image →
      ((b : ℕ) → b < geo.blocks → count_unset geo image b ≡ false) →
      ((b : ℕ) → b < geo.blocks → full geo image b ≡ true → (least_mapped geo image b ≢ ones) × (greatest_mapped geo image b ≢ ones)) →
      Sound geo image
  mendable-sound s current counted closed =
      record {
        worn = λ b l. ⊎_elim (λ h. h) (λ t. absurd (true≢false (sym t ∙ counted b l))) (s.worn b l);
        map = s.map;
        rest = s.rest;
        clean = s.clean;
        proper = s.proper;
        once = s.once;
        unbounded = s.unbounded;
        bounded = λ b i n l h f e. rw (bound-set b (closed b l f).0) at (s.bounded b i n l h f e);
        closed = closed;
        current = current;
      }

  -- ---- from the test to the facts

  record Mends (b : ℕ) : Type 0 where
    r1 : (R1 geo image b || count_unset geo image b) ≡ true
    r2 : R2 geo image b ≡ true
    r3 : R3 geo image b ≡ true
    r4 : R4 geo image b ≡ true
    r5 : R5 geo image b ≡ true
    r7 : bounds_mendable geo image b ≡ true

  mends : all_below geo.blocks (mendable_block geo image) ≡ true → (b : ℕ) → b < geo.blocks → Mends b
  unfolding mendable_block
  mends t b l =
      let s7 = both-pass _ (bounds_mendable geo image b) (all-at geo.blocks (mendable_block geo image) t b l) in
      let s5 = both-pass _ (R5 geo image b) s7.0 in
      let s4 = both-pass _ (R4 geo image b) s5.0 in
      let s3 = both-pass _ (R3 geo image b) s4.0 in
      let s2 = both-pass _ (R2 geo image b) s3.0 in
      record { r1 = s2.0; r2 = s2.1; r3 = s3.1; r4 = s4.1; r5 = s5.1; r7 = s7.1 }

  single_of :
      count_below geo.blocks (count_unset geo image) ≤ 1 →
      (b c : ℕ) →
      b < geo.blocks →
      c < geo.blocks →
      count_unset geo image b ≡ true →
      count_unset geo image c ≡ true →
      b ≡ c
  single_of one b c l m t u =
      let some = term-le-sum geo.blocks (λ b. one_if (count_unset geo image b)) l in
      count-one geo.blocks (count_unset geo image) (omega (arith, ap one_if t)) l m t u

  pub mendable-facts : mendable geo image ≡ true → Mendable geo image
  unfolding mendable R1 R5 bounds_mendable
  mendable-facts t =
      let both = both-pass (all_below geo.blocks (mendable_block geo image)) _ t in
      let rules = mends both.0 in
      record {
        worn = λ b l. ⊎_elim (λ h. inl (leb-true _ _ h)) (λ u. inr u) (either-passes (R1 geo image b) _ (rules b l).r1);
        single = single_of (leb-true _ _ both.1);
        map = λ b i l h. map-says geo image b (rules b l).r2 i h;
        rest = λ b i l h m. map-rest geo image b (rules b l).r2 i h m;
        clean = λ b i l h e j q. clean_of geo image b (rules b l).r3 i h e j q;
        proper = λ b i l h. proper-of geo image b (rules b l).r4 i h;
        once = once-of geo (slot geo image) (λ b l. (rules b l).r5);
        unbounded = λ b l f. unbounded-of geo image b (rw f at (rules b l).r7);
        bounded = λ b i n l h f e. between-of geo image b _ _ (rw f at (rules b l).r7) i n h e;
      }

  -- ---- and back

  module _ (s : Mendable geo image) (b : ℕ) (l : b < geo.blocks) where
    kept-1 : (R1 geo image b || count_unset geo image b) ≡ true
    unfolding R1
    kept-1 = ⊎_elim (λ h. rw (le-leb (erase_count geo image b) ceiling h)) (λ t. rw t (or-true (R1 geo image b))) (s.worn b l)

    kept-7 : (f : Bool) → full geo image b ≡ f → bounds_mendable geo image b ≡ true
    unfolding bounds_mendable
    kept-7 true f = rw f (between-tests geo image b _ _ (λ i n h e. s.bounded b i n l h f e))
    kept-7 false f = rw f (unbounded-tests geo image b (s.unbounded b l f))

    kept : mendable_block geo image b ≡ true
    unfolding mendable_block R5
    kept =
        rw (
          kept-1,
          map-agrees geo image b (λ i h. s.map b i l h) (λ i h m. s.rest b i l h m),
          clean-tests geo image b (λ i h. s.clean b i l h),
          proper-tests geo image b (λ i h. s.proper b i l h),
          once-tests geo (slot geo image) s.once b l,
          kept-7 (full geo image b) refl,
        )

  pub facts-mendable : Mendable geo image → mendable geo image ≡ true
  unfolding mendable
  facts-mendable s =
      rw (all_of geo.blocks (kept s), le-leb _ 1 (count-at-most-one geo.blocks (count_unset geo image) s.single))

  -- a well-formed image needs no repair, and can be repaired
  pub formed-mendable : well_formed geo image ≡ true → mendable geo image ≡ true
  formed-mendable t = facts-mendable (sound-mendable (sound-facts geo image (formed-sound geo image t)))
