-- The free map of a block as the code reads it, word by word from `base` on: the count of its set bits, and the lowest. Assumes nothing.
use mathlib.Core.Path.{◌≡◌, refl, sym, ap, ap₂, ◌∙◌}
use mathlib.Core.Logic.{⊎_elim}
use mathlib.Core.Bool.{Bool, true, false, not, ◌&&◌, and-false, true≢false}
use Prim.Native.Nat.{ℕ, zero, suc, ◌+◌, ◌*◌, ◌-◌, ◌/◌, ◌%◌, ◌^◌, ◌<◌, ◌≤◌}
use mathlib.Core.List.{List}
use native.Mathlib.Decide.{dec_lt, ℕ_discrete}
use native.Mathlib.Omega.{arith}
use lib.Dec.{eqb, ltb}
use borrow.Author.Tests.{eq-eqb, ne_eqb, eqb-true, eqb-false, lt-ltb, le-ltb}
use lib.ListN.{length, get_or}
use Rattle.ranges.specs.Range.{one_if, all_below, sum_below, count_below}
use Rattle.ranges.proofs.Tests.{below_suc, unless, all-at, all_of, all-ext, all-fails}
use Rattle.ranges.proofs.Sums.{sum-cut, sum-ext, count-le, count-ext, count-every}
use Rattle.ranges.proofs.Searches.{best-le, best-passes, best_none, first-before, first-is}
use Rattle.bits.specs.Word.{ones, is_set, lowest_set, set_bits}
use Rattle.bits.proofs.Bit.{bit-set, set-bit, ones_bit, bits-same}
use Rattle.geometry.specs.declared.Geometry.{Geometry}
use Rattle.geometry.specs.Geometry.{d, k, Limits}
use Rattle.geometry.specs.Places.{place, map_word}
use Rattle.geometry.proofs.Laws.{map-covers}
use Rattle.image.specs.Words.{Image, Shaped, word, map_words, free_map, map_bit}
use Rattle.image.specs.Slots.{slot, is_free}
use Rattle.image.specs.Blocks.{blank, is_open, free_slots, lowest_free}
use Rattle.image.specs.WellFormed.{R2}
use Rattle.image.proofs.Places.{map-long, map-at}
use Rattle.image.proofs.Reading.{map-says, map-rest, open-count}

module _ (geo : Geometry) (image : Image) (b base : ℕ) (starts : base ≡ place geo b (map_word 0)) where
  -- bit j of the map's word m is the one of slot m * 32 + j
  word-bit : (m j : ℕ) → j < 32 → map_bit geo image b (m * 32 + j) ≡ is_set (word image (base + m)) j
  unfolding free_map
  word-bit m j h =
      let at : place geo b (map_word (m * 32 + j)) ≡ base + m = omega arith in
      let low : (m * 32 + j) % 32 ≡ j = omega arith in
      rw (at, low)

  -- the set bits of m words are those of m * 32 slots
  ones-are : (m : ℕ) → sum_below m (λ j. set_bits (word image (base + j))) ≡ count_below (m * 32) (map_bit geo image b)
  unfolding sum_below
  ones-are zero = refl
  ones-are (suc m) =
      let more : suc m * 32 ≡ m * 32 + 32 = omega arith in
      sym
      (ap (λ (n : ℕ). count_below n (map_bit geo image b)) more
      ∙ sum-cut (m * 32) 32 (λ i. one_if (map_bit geo image b i))
      ∙ ap₂ ◌+◌ (sym (ones-are m)) (count-ext 32 (word-bit m)))

  -- all of them: the free slots, and the bits from d on
  pub ones-of-map :
      Limits geo →
      R2 geo image b ≡ true →
      sum_below (k geo) (λ j. set_bits (word image (base + j))) ≡ free_slots geo image b + (k geo * 32 - d geo)
  ones-of-map limits agrees =
      let rest = k geo * 32 - d geo in
      let all : k geo * 32 ≡ d geo + rest = omega (arith, map-covers geo limits) in
      ones-are (k geo)
      ∙ ap (λ (n : ℕ). count_below n (map_bit geo image b)) all
      ∙ sum-cut (d geo) rest (λ i. one_if (map_bit geo image b i))
      ∙ ap₂ ◌+◌
      (count-ext (d geo) (map-says geo image b agrees))
      (count-every rest (λ i l. map-rest geo image b agrees (d geo + i) (omega arith) (omega arith)))

  -- each map word of a blank block is all ones
  pub blank-word :
      R2 geo image b ≡ true →
      (m : ℕ) →
      m < k geo →
      word image (base + m) < 2 ^ 32 →
      blank geo image b ≡ true →
      word image (base + m) ≡ ones
  unfolding blank
  blank-word agrees m h small every =
      bits-same 32 (word image (base + m)) ones small (omega arith) (λ j l. bit-set _ j (set j l) ∙ sym (ones_bit 32 j l))
    where
      set : (j : ℕ) → j < 32 → is_set (word image (base + m)) j ≡ true
      set j l = sym (word-bit m j l) ∙ go (dec_lt (m * 32 + j) (d geo))
        where
          go : Dec (m * 32 + j < d geo) → map_bit geo image b (m * 32 + j) ≡ true
          go (yes t) = map-says geo image b agrees (m * 32 + j) t ∙ all-at (d geo) _ every (m * 32 + j) t
          go (no t) = map-rest geo image b agrees (m * 32 + j) (omega arith) (omega arith)

  -- and a block is blank where each is
  pub blank-words :
      Limits geo → R2 geo image b ≡ true → ((m : ℕ) → m < k geo → word image (base + m) ≡ ones) → blank geo image b ≡ true
  unfolding blank
  blank-words limits agrees every =
      all_of (d geo)
      (λ i l.
      let at : i ≡ i / 32 * 32 + i % 32 = omega arith in
      sym (map-says geo image b agrees i l)
      ∙ ap (map_bit geo image b) at
      ∙ word-bit (i / 32) (i % 32) (omega arith)
      ∙ ap (λ (w : ℕ). is_set w (i % 32)) (every (i / 32) (omega (arith, map-covers geo limits)))
      ∙ set-bit ones (i % 32) (ones_bit 32 (i % 32) (omega arith)))

  -- where no bit of the words before m is set, none before word m's lowest set bit is
  no-bit :
      (m z : ℕ) →
      ((j : ℕ) → j < m → lowest_set (word image (base + j)) ≡ 32) →
      z ≤ lowest_set (word image (base + m)) →
      (i : ℕ) →
      i < m * 32 + z →
      map_bit geo image b i ≡ false
  no-bit m z none low i l =
      let most = best-le (λ i r. false) 32 (is_set (word image (base + m))) in
      let at : i ≡ i / 32 * 32 + i % 32 = omega arith in
      ap (map_bit geo image b) at
      ∙ word-bit (i / 32) (i % 32) (omega arith)
      ∙ first-before 32 (is_set (word image (base + i / 32)))
      (⊎_elim
      (λ e. rw e (omega arith))
      (λ t. omega (arith, none (i / 32) t))
      (below_suc {i = i / 32} {m = m} (omega arith)))

  -- so no slot before it is free
  none_before :
      R2 geo image b ≡ true →
      (m z : ℕ) →
      ((j : ℕ) → j < m → lowest_set (word image (base + j)) ≡ 32) →
      z ≤ lowest_set (word image (base + m)) →
      (i : ℕ) →
      i < d geo →
      i < m * 32 + z →
      is_free (slot geo image b i) ≡ false
  none_before agrees m z none low i h l = sym (map-says geo image b agrees i h) ∙ no-bit m z none low i l

  -- and it is not after d, whose bit, if the map has one, is set
  pub at-most-d :
      R2 geo image b ≡ true →
      (m z : ℕ) →
      m < k geo →
      ((j : ℕ) → j < m → lowest_set (word image (base + j)) ≡ 32) →
      z ≤ lowest_set (word image (base + m)) →
      m * 32 + z ≤ d geo
  at-most-d agrees m z h none low = go (dec_lt (d geo) (m * 32 + z))
    where
      most : lowest_set (word image (base + m)) ≤ 32
      most = best-le (λ i r. false) 32 (is_set (word image (base + m)))

      go : Dec (d geo < m * 32 + z) → m * 32 + z ≤ d geo
      go (yes l) = absurd (true≢false (sym (map-rest geo image b agrees (d geo) (omega arith) (omega (arith, most, low))) ∙ no-bit m z none low (d geo) l))
      go (no n) = omega arith

  -- that bit's slot is the lowest free one
  pub lowest-here :
      R2 geo image b ≡ true →
      (m z : ℕ) →
      ((j : ℕ) → j < m → lowest_set (word image (base + j)) ≡ 32) →
      z ≡ lowest_set (word image (base + m)) →
      z < 32 →
      m * 32 + z < d geo →
      lowest_free geo image b ≡ m * 32 + z
  unfolding lowest_free
  lowest-here agrees m z none low small h =
      let w = word image (base + m) in
      first-is (d geo) _ (m * 32 + z) (omega arith)
      (λ i l. none_before agrees m z none (omega arith) i (omega arith) l)
      (λ l.
      sym (map-says geo image b agrees (m * 32 + z) h)
      ∙ word-bit m z small
      ∙ ap (is_set w) low
      ∙ best-passes (λ i r. false) 32 (is_set w) (omega arith))

  -- or there is none, where d does not lie after it
  pub lowest-none :
      R2 geo image b ≡ true →
      (m z : ℕ) →
      ((j : ℕ) → j < m → lowest_set (word image (base + j)) ≡ 32) →
      z ≤ lowest_set (word image (base + m)) →
      d geo ≤ m * 32 + z →
      lowest_free geo image b ≡ d geo
  unfolding lowest_free
  lowest-none agrees m z none low h =
      best_none (λ i r. false) (d geo) _ (λ i l. none_before agrees m z none low i l (omega arith))

-- a block is blank where each word of its map is all ones
pub blank-test :
    (geo : Geometry) (image : Image) (b : ℕ) →
    Shaped geo image →
    b < geo.blocks →
    R2 geo image b ≡ true →
    ((p : ℕ) → word image p < 2 ^ 32) →
    all_below (length (map_words geo image b)) (λ m. eqb (get_or (map_words geo image b) m 0) ones) ≡ blank geo image b
blank-test geo image b shaped l agrees small =
    ap (λ n. all_below n (λ m. eqb (get_or (map_words geo image b) m 0) ones)) (map-long geo image shaped l)
    ∙ all-ext (k geo) (λ m h. ap (λ w. eqb w ones) (map-at geo image b m h))
    ∙ go (all_below (k geo) (λ m. eqb (word image (place geo b (map_word 0) + m)) ones)) refl
  where
    go :
        (t : Bool) →
        all_below (k geo) (λ m. eqb (word image (place geo b (map_word 0) + m)) ones) ≡ t →
        all_below (k geo) (λ m. eqb (word image (place geo b (map_word 0) + m)) ones) ≡ blank geo image b
    go true t = t ∙ sym (blank-words geo image b (place geo b (map_word 0)) refl shaped.limits agrees (λ m h. eqb-true _ _ (all-at (k geo) (λ m. eqb (word image (place geo b (map_word 0) + m)) ones) t m h)))
    go false t =
        let (m, h, other) = all-fails (k geo) (λ m. eqb (word image (place geo b (map_word 0) + m)) ones) t in
        t ∙ sym (unless (blank geo image b) (λ e. eqb-false _ _ other (blank-word geo image b (place geo b (map_word 0)) refl agrees m h (small _) e)))

-- The set bits of the map's words: the free slots, and the bits from d on.
module _ (geo : Geometry) (image : Image) (b : ℕ) (shaped : Shaped geo image) (l : b < geo.blocks) where
  pub ones-counted :
      R2 geo image b ≡ true →
      sum_below (length (map_words geo image b)) (λ m. set_bits (get_or (map_words geo image b) m 0)) ≡ free_slots geo image b + (k geo * 32 - d geo)
  ones-counted agrees =
      ap (λ n. sum_below n (λ m. set_bits (get_or (map_words geo image b) m 0))) (map-long geo image shaped l)
      ∙ sum-ext (k geo) (λ m h. ap set_bits (map-at geo image b m h))
      ∙ ones-of-map geo image b (place geo b (map_word 0)) refl shaped.limits agrees

-- The lowest free slot by the map's words, of which ws are all.
module _
    (geo : Geometry) (image : Image) (b : ℕ)
    {ws : List ℕ}
    (is : ws ≡ map_words geo image b)
    (shaped : Shaped geo image)
    (l : b < geo.blocks)
    (agrees : R2 geo image b ≡ true)
  where
    pub words-long : length ws ≡ k geo
    words-long = ap length is ∙ map-long geo image shaped l

    word-is : (m : ℕ) → m < k geo → word image (place geo b (map_word 0) + m) ≡ get_or ws m 0
    word-is m h = sym (map-at geo image b m h) ∙ sym (ap (λ xs. get_or xs m 0) is)

    none-passed : {m : ℕ} → m ≤ k geo → ((j : ℕ) → j < m → lowest_set (get_or ws j 0) ≡ 32) → (j : ℕ) → j < m → lowest_set (word image (place geo b (map_word 0) + j)) ≡ 32
    none-passed h none j q = ap lowest_set (word-is j (omega arith)) ∙ none j q

    -- it is in the first word with a bit that is set, or that bit belongs to no slot
    pub lowest-found :
        (m z : ℕ) →
        m < length ws →
        ((j : ℕ) → j < m → lowest_set (get_or ws j 0) ≡ 32) →
        z ≡ lowest_set (get_or ws m 0) →
        z < 32 →
        m * 32 + z ≡ lowest_free geo image b
    lowest-found m z h none low small = go (dec_lt (m * 32 + z) (d geo))
      where
        inside : m < k geo
        inside = omega (arith, words-long)

        low_there : z ≡ lowest_set (word image (place geo b (map_word 0) + m))
        low_there = low ∙ sym (ap lowest_set (word-is m inside))

        earlier : (j : ℕ) → j < m → lowest_set (word image (place geo b (map_word 0) + j)) ≡ 32
        earlier = none-passed (omega (arith, inside)) none

        go : Dec (m * 32 + z < d geo) → m * 32 + z ≡ lowest_free geo image b
        go (yes q) = sym (lowest-here geo image b (place geo b (map_word 0)) refl agrees m z earlier low_there small q)
        go (no q) =
            omega (
              arith,
              lowest-none geo image b (place geo b (map_word 0)) refl agrees m z earlier (omega (arith, low_there)) (omega arith),
              at-most-d geo image b (place geo b (map_word 0)) refl agrees m z inside earlier (omega (arith, low_there)),
            )

    pub lowest-missing : ((j : ℕ) → j < length ws → lowest_set (get_or ws j 0) ≡ 32) → d geo ≡ lowest_free geo image b
    lowest-missing none =
        sym
        (lowest-none geo image b (place geo b (map_word 0)) refl agrees (k geo) 0
        (none-passed (omega arith) (λ j h. none j (omega (arith, words-long))))
        (omega arith)
        (omega (arith, map-covers geo shaped.limits)))

-- blank and open by the two numbers that the code compares: a block's free slots, and d
module _ (geo : Geometry) (image : Image) (b free slots : ℕ) (counts : free ≡ free_slots geo image b) (size : slots ≡ d geo) where
  open_by : is_open geo image b ≡ (not (eqb free slots) && not (eqb free 0))
  open_by = open-count geo image b ∙ sym (ap₂ (λ (f n : ℕ). not (eqb f n) && not (eqb f 0)) counts size)

  -- an open block has a free slot, and one that is not
  pub open_by_count : is_open geo image b ≡ (ltb 0 free && ltb free slots)
  open_by_count = open_by ∙ go (ℕ_discrete free 0) (ℕ_discrete free slots)
    where
      few : free ≤ slots
      few = omega (arith, counts, size, count-le (d geo) (λ i. is_free (slot geo image b i)))

      go : Dec (free ≡ 0) → Dec (free ≡ slots) → (not (eqb free slots) && not (eqb free 0)) ≡ (ltb 0 free && ltb free slots)
      go (yes e) same = rw (eq-eqb free 0 e, le-ltb 0 free (omega arith)) (and-false (not (eqb free slots)))
      go (no n) (yes e) = rw (eq-eqb free slots e, lt-ltb 0 free (omega arith), le-ltb free slots (omega arith))
      go (no n) (no m) = rw (ne_eqb free slots m, ne_eqb free 0 n, lt-ltb 0 free (omega arith), lt-ltb free slots (omega (arith, few)))
