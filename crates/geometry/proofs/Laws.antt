-- Laws of the geometry: its limits, its numbers, and where the words of a block and of the image lie. Assumes nothing.
use mathlib.Core.Bool.{Bool, true, false, and-false, true≢false}
use mathlib.Core.Path.{◌≡◌, refl, sym, ap, ◌∙◌}
use Prim.Native.Nat.{ℕ, zero, suc, ◌+◌, ◌*◌, ◌-◌, ◌/◌, ◌^◌, ◌≤◌, ◌<◌}
use native.Mathlib.Nat.{
  mul-le-mul,
  mul-le-mul_right,
  div-eq_of_lt,
  div-eq_of_lt-le,
  div-lt_iff_lt-mul,
  lt_of_not-le,
}
use native.Mathlib.Omega.{arith}
use borrow.Author.Tests.{lt-leb, le-leb, lt-ltb}
use Rattle.geometry.specs.declared.Geometry.{Geometry}
use Rattle.geometry.specs.Geometry.{
  rounded_up,
  sector_words,
  management_sectors,
  d,
  k,
  block_length,
  image_length,
  room,
  g,
  within_limits,
  Limits,
}
use Rattle.geometry.specs.Places.{place, map_word, entry_word, content_word}

-- where the test passes, each limit holds
pub limits-hold : (geo : Geometry) → within_limits geo ≡ true → Limits geo
unfolding within_limits
limits-hold geo passes =
    record {
      blocks_low = holds 2 geo.blocks (λ h. simp (lt-leb _ _ h));
      blocks_high = holds geo.blocks 64 (λ h. simp (lt-leb _ _ h, and-false));
      sectors_low = holds 2 geo.sectors (λ h. simp (lt-leb _ _ h, and-false));
      sectors_high = holds geo.sectors 64 (λ h. simp (lt-leb _ _ h, and-false));
      logical_low = holds 1 geo.logical (λ h. simp (lt-leb _ _ h, and-false));
      logical_high = holds (suc geo.logical) (room geo) (λ h. simp (lt-leb _ _ h, and-false));
    }
  where
    holds : (m n : ℕ) → (n < m → within_limits geo ≡ false) → m ≤ n
    holds m n fails =
        let no : n < m → ⊥ = λ h. true≢false (sym passes ∙ fails h) in
        omega arith

-- where a limit fails, the test fails
pub limits-fail : (geo : Geometry) → (Limits geo → ⊥) → within_limits geo ≡ false
limits-fail geo fails = go (within_limits geo) refl
  where
    go : (t : Bool) → within_limits geo ≡ t → t ≡ false
    go true e = absurd (fails (limits-hold geo e))
    go false e = refl

-- and where the limits hold, the test passes
pub limits-pass : (geo : Geometry) → Limits geo → within_limits geo ≡ true
unfolding within_limits
limits-pass geo within =
    rw (
      le-leb _ _ within.blocks_low,
      le-leb _ _ within.blocks_high,
      le-leb _ _ within.sectors_low,
      le-leb _ _ within.sectors_high,
      le-leb _ _ within.logical_low,
      lt-ltb _ _ within.logical_high,
    )

-- blocks times what one of them has, slots or words, does not wrap, whatever the three numbers are
pub blocks-fit : (a b : ℕ) → a < 2 ^ 32 → b < 2 ^ 23 → a * b < 2 ^ 64
blocks-fit a b h l = omega (arith, mul-le-mul h l)

-- a / b rounded up is at most c where c times b reaches a
pub rounded-up-le : (a b c : ℕ) → 0 < b → a ≤ c * b → rounded_up a b ≤ c
unfolding rounded_up
rounded-up-le a b c pos h =
    let below : (a + (b - 1)) / b < suc c = (div-lt_iff_lt-mul pos).1 (omega arith) in
    omega arith

-- and only there
pub le-rounded-up : (a b c : ℕ) → 0 < b → rounded_up a b ≤ c → a ≤ c * b
unfolding rounded_up
le-rounded-up a b c pos h =
    let below : a + (b - 1) < suc c * b = (div-lt_iff_lt-mul pos).0 (omega arith) in
    omega arith

-- 0 / b rounded up is 0, where b is 0 too
pub rounded-up-none : (b : ℕ) → rounded_up 0 b ≡ 0
unfolding rounded_up
rounded-up-none zero = refl
rounded-up-none (suc b) = div-eq_of_lt (omega arith)

-- where the logical sectors leave no room, a reclaim gains nothing
pub g-none : (geo : Geometry) → room geo ≤ geo.logical → g geo ≡ 0
unfolding g
g-none geo full =
    let none : room geo - geo.logical ≡ 0 = omega arith in
    rw (none, rounded-up-none)

-- places counted through rows of w: the row of a place, and that two places are equal only if row and place in the row are
pub row_of : (w b i : ℕ) → i < w → (b * w + i) / w ≡ b
row_of w b i h = div-eq_of_lt-le w (omega arith) (omega arith)

pub rows_apart : (w b c i j : ℕ) → i < w → j < w → b * w + i ≡ c * w + j → (b ≡ c) × (i ≡ j)
rows_apart w b c i j h l e =
    let same : b ≡ c = sym (row_of w b i h) ∙ ap (◌/ w) e ∙ row_of w c j l in
    (same, omega (arith, ap (◌* w) same))

module _ (geo : Geometry) where
  -- a block ends within the image
  pub block_inside : {b : ℕ} → b < geo.blocks → place geo b (block_length geo) ≤ image_length geo
  block_inside h = omega (arith, mul-le-mul_right (block_length geo) h)

  -- each word of a block lies in the image
  pub place_inside : {b j : ℕ} → b < geo.blocks → j < block_length geo → place geo b j < image_length geo
  place_inside h l = omega (arith, block_inside h)

  -- the block of a place is the place divided by a block's length
  pub place-block : (b j : ℕ) → j < block_length geo → place geo b j / block_length geo ≡ b
  place-block b j h = row_of (block_length geo) b j h

  -- two places are equal only if block and word are
  pub place-injective :
      (b c i j : ℕ) →
      i < block_length geo →
      j < block_length geo →
      place geo b i ≡ place geo c j →
      (b ≡ c) × (i ≡ j)
  place-injective = rows_apart (block_length geo)

  -- two words of contents are the same word of the block only if slot and word are
  pub content-word-injective :
      (i j m n : ℕ) →
      j < sector_words →
      n < sector_words →
      content_word geo i j ≡ content_word geo m n →
      (i ≡ m) × (j ≡ n)
  content-word-injective i j m n h l e = omega arith

module _ (geo : Geometry) (within : Limits geo) where
  -- a block has at least one slot
  pub d-positive : 1 ≤ d geo
  d-positive = omega arith

  -- and at most 63
  pub d_small : d geo ≤ 63
  d_small = omega arith

  -- the free map has a bit for each slot
  pub map-covers : d geo ≤ 32 * k geo
  unfolding rounded_up
  map-covers = omega arith

  -- and no word that has none
  pub map-tight : 32 * k geo < d geo + 32
  unfolding rounded_up
  map-tight = omega arith

  -- the free map has at least one word
  pub k-positive : 1 ≤ k geo
  k-positive = omega (arith, map-covers)

  -- and at most two
  pub k-small : k geo ≤ 2
  k-small = omega (arith, map-tight)

  -- the management words lie before the contents
  pub management-fits : 3 + k geo + d geo ≤ sector_words * management_sectors geo
  management-fits = omega (arith, k-small)

  -- the word with the map's bit of a slot is one of the map's
  pub map-word-inside : {i : ℕ} → i < 32 * k geo → map_word i < 3 + k geo
  map-word-inside h = omega arith

  -- the entry of a slot is a management word
  pub entry-word-inside : {i : ℕ} → i < d geo → entry_word geo i < sector_words * management_sectors geo
  entry-word-inside h = omega (arith, management-fits)

  -- the management words lie within the block
  pub management-inside : {j : ℕ} → j < sector_words * management_sectors geo → j < block_length geo
  management-inside h = omega arith

  -- so do those before the entries, a map word among them, and the entries
  pub low-in-block : {j : ℕ} → j < 3 + k geo → j < block_length geo
  low-in-block h = management-inside (omega (arith, management-fits))

  pub map-in-block : {i : ℕ} → i < 32 * k geo → map_word i < block_length geo
  map-in-block {i} h = low-in-block (map-word-inside {i = i} h)

  pub entry-in-block : {i : ℕ} → i < d geo → entry_word geo i < block_length geo
  entry-in-block h = management-inside (entry-word-inside h)

  -- the contents of a slot lie within the block
  pub content-word-inside : {i j : ℕ} → i < d geo → j < sector_words → content_word geo i j < block_length geo
  content-word-inside h l = omega arith

  -- and after the management words
  pub content-word-after : (i j : ℕ) → sector_words * management_sectors geo ≤ content_word geo i j
  content-word-after i j = omega arith

  -- there are at most 3968 logical sectors: 63 times 63 is 3969
  pub logical-small : geo.logical ≤ 3968
  logical-small =
      let others : geo.blocks - 1 ≤ 63 = omega arith in
      omega (arith, mul-le-mul others d_small)

  -- the image has at most 524288 words: 64 blocks of 64 sectors
  pub length-small : image_length geo ≤ 524288
  length-small =
      let words : block_length geo ≤ 8192 = omega arith in
      omega (arith, mul-le-mul within.blocks_high words)

  -- a reclaim gains at least one slot
  pub g-positive : 1 ≤ g geo
  unfolding g
  g-positive = lt_of_not-le (λ none. omega (arith, le-rounded-up _ _ 0 (omega arith) none))

  -- and no more than a block has
  pub g-at-most-d : g geo ≤ d geo
  unfolding g
  g-at-most-d = rounded-up-le _ _ (d geo) (omega arith) (omega arith)
