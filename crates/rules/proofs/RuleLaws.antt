-- What the tests of a rule go by: tests over a block's slots, read as the code reads them. Assumes nothing.
use mathlib.Core.Path.{◌≡◌, refl, sym, ap, ap₂, ◌∙◌}
use mathlib.Core.Bool.{Bool, true, false, not, ◌&&◌, ◌||◌}
use Prim.Native.Nat.{ℕ, ◌+◌, ◌/◌, ◌%◌, ◌<◌, ◌≤◌}
use lib.ListN.{get_or}
use native.Mathlib.Numerals.{add-one}
use native.Mathlib.Omega.{arith}
use lib.Bits.{bit_and, and_le_l, and_le_r, and_self}
use lib.Dec.{eqb}
use borrow.Author.Tests.{eq-eqb, ne_eqb, eqb-true, eqb-false}
use Rattle.ranges.specs.Range.{◌implies◌, all_below}
use Rattle.bits.specs.Word.{ones, is_set}
use Rattle.geometry.specs.declared.Geometry.{Geometry}
use Rattle.geometry.specs.Geometry.{d, Limits}
use Rattle.geometry.specs.Places.{place, least_word, greatest_word, map_word}
use Rattle.geometry.proofs.Laws.{map-covers}
use Rattle.image.specs.Words.{Image, word, least_mapped, greatest_mapped, map_words, free_map, map_bit, entry, entries, contents}
use Rattle.image.specs.declared.Slot.{Slot}
use Rattle.image.specs.Slots.{own_slot, slot, is_free, is_free_entry, is_faulty}
use Rattle.image.specs.WellFormed.{all_ones}
use Rattle.image.proofs.Own.{free_own, faulty-own}
use Rattle.image.proofs.Places.{free-map-at, entries-at}

-- a test that passes at every index so far, and at the next
pub all_more : (i : ℕ) (f : ℕ → Bool) → all_below i f ≡ true → f i ≡ true → all_below (i + 1) f ≡ true
unfolding all_below
all_more i f before here = rw (add-one i, before) here

-- two words have only ones in common exactly where both are ones
pub and-ones : (a w : ℕ) → a ≤ ones → w ≤ ones → eqb (bit_and a w) ones ≡ (eqb a ones && eqb w ones)
and-ones a w h l = go (eqb a ones) (eqb w ones) refl refl
  where
    go : (s t : Bool) → eqb a ones ≡ s → eqb w ones ≡ t → eqb (bit_and a w) ones ≡ (s && t)
    go true true p q =
        let e = eqb-true a ones p in
        let f = eqb-true w ones q in
        eq-eqb (bit_and a w) ones (ap (λ (x : ℕ). bit_and x w) (e ∙ sym f) ∙ and_self w ∙ f)
    go true false p q = ne_eqb (bit_and a w) ones (λ r. eqb-false w ones q (omega (arith, and_le_r a w)))
    go false t p q = ne_eqb (bit_and a w) ones (λ r. eqb-false a ones p (omega (arith, and_le_l a w)))

-- a test that is asked only where another passes, as the code asks it
either : (a c : Bool) → (not a || c) ≡ (a implies c)
either true c = refl
either false c = refl

module _ (geo : Geometry) (image : Image) where
  -- words 1 and 2 of a block, the map word of a slot, and its entry, by the places that the code reads
  pub least-read : (b p : ℕ) → p ≡ place geo b least_word → word image p ≡ least_mapped geo image b
  unfolding least_mapped
  least-read b p e = ap (word image) e

  pub greatest-read : (b p : ℕ) → p ≡ place geo b greatest_word → word image p ≡ greatest_mapped geo image b
  unfolding greatest_mapped
  greatest-read b p e = ap (word image) e

  pub map_read : (b i p : ℕ) → p ≡ place geo b (map_word i) → word image p ≡ free_map geo image b i
  unfolding free_map
  map_read b i p e = ap (word image) e

  -- R2's test of a slot, by the words that the code reads
  abbrev pub agrees : ℕ → ℕ → Bool
  agrees b i = map_bit geo image b i implies is_free_entry (entry geo image b i)

  pub agrees-test :
      Limits geo →
      (b i : ℕ) →
      i < d geo →
      (not (is_set (get_or (map_words geo image b) (i / 32) 0) (i % 32)) || is_free_entry (get_or (entries geo image b) i 0)) ≡ agrees b i
  agrees-test limits b i l =
      either (is_set (get_or (map_words geo image b) (i / 32) 0) (i % 32)) (is_free_entry (get_or (entries geo image b) i 0))
      ∙ ap₂ (λ (w e : ℕ). is_set w (i % 32) implies is_free_entry e) (free-map-at geo image b i (omega (arith, map-covers geo limits))) (entries-at geo image b i l)

  -- R3's and R4's tests of a slot, whose own kind says all that they ask
  abbrev pub clean : ℕ → ℕ → Bool
  clean b i = is_free (slot geo image b i) implies all_ones (contents geo image b i)

  abbrev pub proper : ℕ → ℕ → Bool
  proper b i = not (is_faulty (slot geo image b i))

  module _ (b i : ℕ) {s : Slot} (kind : own_slot geo image b i ≡ s) where
    pub clean-kind : clean b i ≡ (is_free s implies all_ones (contents geo image b i))
    clean-kind = ap (◌implies all_ones (contents geo image b i)) (free_own geo image b i ∙ ap is_free kind)

    pub proper-kind : proper b i ≡ not (is_faulty s)
    proper-kind = ap not (faulty-own geo image b i ∙ ap is_faulty kind)

  pub clean-test : (b i : ℕ) → (not (is_free (own_slot geo image b i)) || all_ones (contents geo image b i)) ≡ clean b i
  clean-test b i =
      either (is_free (own_slot geo image b i)) (all_ones (contents geo image b i))
      ∙ ap (◌implies all_ones (contents geo image b i)) (sym (free_own geo image b i))

  pub proper-test : (b i : ℕ) → not (is_faulty (own_slot geo image b i)) ≡ proper b i
  proper-test b i = ap not (sym (faulty-own geo image b i))
