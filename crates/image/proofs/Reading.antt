-- Where the code reads, and what the counts say of a block: laws that the functions of this crate share. Assumes nothing.
use mathlib.Core.Path.{◌≡◌, refl, sym, ap, ap₂, ◌∙◌}
use mathlib.Core.Bool.{Bool, true, false, not, not-not, ◌&&◌}
use Prim.Native.Nat.{ℕ, ◌+◌, ◌*◌, ◌-◌, ◌%◌, ◌<◌, ◌≤◌}
use native.Mathlib.Omega.{arith}
use lib.Dec.{eqb}
use lib.ListN.{length}
use borrow.Author.Tests.{eq-eqb, ne_eqb}
use Rattle.ranges.specs.Range.{◌implies◌, any_below, first_below}
use Rattle.ranges.proofs.Tests.{both-pass, all-at, none-at}
use Rattle.ranges.proofs.Sums.{all-count, any-count}
use Rattle.ranges.proofs.Searches.{best-any, best_none}
use Rattle.bits.specs.Word.{is_set}
use Rattle.geometry.specs.declared.Geometry.{Geometry}
use Rattle.geometry.specs.Geometry.{d, k, block_length, sector_words}
use Rattle.geometry.specs.Places.{place, entry_word, map_word, content_word}
use Rattle.geometry.proofs.Laws.{block_inside, place_inside, map-in-block, entry-in-block, content-word-inside}
use Rattle.image.specs.declared.Slot.{Slot}
use Rattle.image.specs.declared.Slot.TheVariants.{Free, Dead}
use Rattle.image.specs.Words.{Image, Shaped, word, free_map, map_bit, entry}
use Rattle.image.specs.Slots.{slot_of, own_slot, slot, is_free, is_free_entry}
use Rattle.image.specs.Blocks.{blank, full, is_open, free_slots, lowest_free}
use Rattle.image.specs.WellFormed.{map_agrees, rest_set, R2, NoneSuperseded}
use Rattle.image.proofs.Entries.{any-bit}
use Rattle.image.proofs.Own.{free-read, each-own}

-- slot j of a block by the entry that the code reads alone, where `base` is the place of the block's first entry
abbrev pub slot_from : Image → ℕ → ℕ → ℕ → Slot
slot_from image logical base j = slot_of logical false (word image (base + j))

module _ (geo : Geometry) (image : Image) where
  -- block b ends within the image
  pub block_room : Shaped geo image → (b : ℕ) → b < geo.blocks → b * block_length geo + block_length geo ≤ length image
  block_room shaped b l = omega (arith, block_inside geo l, shaped.long)

  -- every word of a block lies in the image; among them an entry, a map word and the contents of a slot
  pub word-inside : Shaped geo image → {b j : ℕ} → b < geo.blocks → j < block_length geo → place geo b j < length image
  word-inside shaped l h = omega (arith, place_inside geo l h, shaped.long)

  pub entry-inside : Shaped geo image → {b i : ℕ} → b < geo.blocks → i < d geo → place geo b (entry_word geo i) < length image
  entry-inside shaped l h = word-inside shaped l (entry-in-block geo shaped.limits h)

  pub map-inside : Shaped geo image → {b i : ℕ} → b < geo.blocks → i < 32 * k geo → place geo b (map_word i) < length image
  map-inside shaped {i = i} l h = word-inside shaped l (map-in-block geo shaped.limits {i = i} h)

  pub contents-inside :
      Shaped geo image → {b i : ℕ} → b < geo.blocks → i < d geo → place geo b (content_word geo i 0) + sector_words ≤ length image
  contents-inside shaped l h =
      omega (arith, word-inside shaped l (content-word-inside geo shaped.limits {j = 127} h (omega arith)))

  -- a slot's own kind by the words that the code reads: p and m are the places of its entry and its map word, however they were added up
  pub own_read :
      (b i p m : ℕ) →
      p ≡ place geo b (entry_word geo i) →
      m ≡ place geo b (map_word i) →
      slot_of geo.logical (is_set (word image m) (i % 32)) (word image p) ≡ own_slot geo image b i
  unfolding own_slot entry free_map
  own_read b i p m e f = rw (e, f)

  -- a test that does not tell a free slot from a dead one, by the entry that the code reads alone: p is its place
  pub by-entry :
      NoneSuperseded geo image →
      (f : Slot → Bool) →
      f Free ≡ f Dead →
      {b i : ℕ} →
      b < geo.blocks →
      i < d geo →
      (p : ℕ) →
      p ≡ place geo b (entry_word geo i) →
      f (slot_of geo.logical false (word image p)) ≡ f (slot geo image b i)
  by-entry none f same {b} {i} l h p e =
      let map = place geo b (map_word i) in
      any-bit f same geo.logical false (is_set (word image map) (i % 32)) (word image p)
      ∙ ap f (own_read b i p map e refl ∙ sym (each-own none l h))

  -- R2: the map's bit of a slot says whether it is free, and the bits from d on are set
  pub map-says : (b : ℕ) → R2 geo image b ≡ true → (i : ℕ) → i < d geo → map_bit geo image b i ≡ is_free (slot geo image b i)
  unfolding R2
  map-says b r i l =
      go (map_bit geo image b i) (is_free_entry (entry geo image b i)) (all-at (d geo) _ (both-pass (map_agrees geo image b) (rest_set geo image b) r).0 i l)
      ∙ sym (free-read geo image b i)
    where
      go : (m f : Bool) → (m implies f) ≡ true → m ≡ (f && m)
      go true true e = refl
      go true false e = sym e
      go false true e = refl
      go false false e = refl

  pub map-rest : (b : ℕ) → R2 geo image b ≡ true → (i : ℕ) → d geo ≤ i → i < 32 * k geo → map_bit geo image b i ≡ true
  unfolding R2
  map-rest b r i h l =
      let at : d geo + (i - d geo) ≡ i = omega arith in
      sym (ap (map_bit geo image b) at)
      ∙ all-at (32 * k geo - d geo) _ (both-pass (map_agrees geo image b) (rest_set geo image b) r).1 (i - d geo) (omega arith)

  -- blank, full and open by the number of free slots
  pub blank-count : (b : ℕ) → blank geo image b ≡ eqb (free_slots geo image b) (d geo)
  unfolding blank
  blank-count b = all-count (d geo) (λ i. is_free (slot geo image b i))

  -- full by the lowest free slot: there is none
  pub full-first : (b : ℕ) → full geo image b ≡ eqb (lowest_free geo image b) (d geo)
  unfolding full lowest_free
  full-first b = go (any_below (d geo) free) refl
    where
      free : ℕ → Bool
      free i = is_free (slot geo image b i)

      go : (x : Bool) → any_below (d geo) free ≡ x → not (any_below (d geo) free) ≡ eqb (first_below (d geo) free) (d geo)
      go true t = rw t (sym (ne_eqb (first_below (d geo) free) (d geo) (λ e. omega (arith, best-any (λ i r. false) (d geo) free t))))
      go false t = rw t (sym (eq-eqb _ _ (best_none (λ i r. false) (d geo) free (none-at (d geo) free t))))

  pub full-count : (b : ℕ) → full geo image b ≡ eqb (free_slots geo image b) 0
  unfolding full
  full-count b = ap not (any-count (d geo) (λ i. is_free (slot geo image b i))) ∙ not-not (eqb (free_slots geo image b) 0)

  pub open-count : (b : ℕ) → is_open geo image b ≡ (not (eqb (free_slots geo image b) (d geo)) && not (eqb (free_slots geo image b) 0))
  open-count b = ap₂ (λ (x y : Bool). not x && not y) (blank-count b) (full-count b)
