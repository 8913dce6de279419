-- One entry made invalid, as by a release and by (i) of a repair (K4): what every reading of the image is then. Assumes nothing.
use mathlib.Core.Path.{◌≡◌, sym, ap, ap₂, ◌∙◌}
use mathlib.Core.Bool.{true, false}
use mathlib.Core.List.{List}
use Prim.Native.Nat.{ℕ, ◌+◌, ◌*◌, ◌%◌, ◌<◌}
use native.Mathlib.Omega.{arith}
use Rattle.bits.specs.Word.{is_set, cleared}
use Rattle.bits.proofs.Bit.{clear-bit}
use Rattle.bits.proofs.Clearing.{cleared-here}
use Rattle.bits.proofs.Programming.{clearing-leaves}
use Rattle.geometry.specs.declared.Geometry.{Geometry}
use Rattle.geometry.specs.Geometry.{Limits, d, k, block_length}
use Rattle.geometry.specs.Places.{place, erase_word, least_word, greatest_word, map_word, entry_word, content_word}
use Rattle.geometry.proofs.Laws.{low-in-block, entry-in-block, map-word-inside, map-covers, entry-word-inside, content-word-inside, content-word-after}
use Rattle.image.specs.declared.Slot.TheVariants.{Dead}
use Rattle.image.specs.Found.{At}
use Rattle.image.specs.Words.{Image, Words32, Shaped, word, erase_count, least_mapped, greatest_mapped, free_map, map_bit, entry, contents}
use Rattle.image.specs.Slots.{valid_bit, slot_of, own_slot}
use Rattle.image.proofs.Entries.{invalid-dead}
use Rattle.image.proofs.Reading.{entry-inside}
use Rattle.image.proofs.Places.{apart, contents-at, contents-are, contents-long}
use Rattle.flash.specs.declared.Step.{Step}
use Rattle.flash.specs.Steps.{run, leaves_asked}
use Rattle.flash.specs.Placing.{invalidates}
use Rattle.flash.proofs.Stores.{Exact, last-here, last-other, exact_one, counts-erasures, run-words}
use Rattle.flash.proofs.Counts.{entry-count}

module _ (geo : Geometry) (image : Image) (b i : ℕ) where
  -- the one step, and the image after it
  abbrev pub invalidation : List Step
  invalidation = invalidates geo image (At b i)

  abbrev pub invalidated : Image
  invalidated = run geo image invalidation

  -- the entry of slot i of block b is not valid any more, and nothing else has changed
  pub record Invalidated : Type 0 where
    pub asked : leaves_asked geo image invalidation ≡ true
    pub shaped : Shaped geo invalidated
    pub words : Words32 invalidated
    pub counts : (c : ℕ) → erase_count geo invalidated c ≡ erase_count geo image c
    pub bounds :
        (c : ℕ) → (least_mapped geo invalidated c ≡ least_mapped geo image c) × (greatest_mapped geo invalidated c ≡ greatest_mapped geo image c)
    pub maps : (c j : ℕ) → j < 32 * k geo → map_bit geo invalidated c j ≡ map_bit geo image c j
    pub contents-kept : (c j : ℕ) → c < geo.blocks → j < d geo → contents geo invalidated c j ≡ contents geo image c j
    pub here : is_set (entry geo invalidated b i) valid_bit ≡ false
    pub entries : (c j : ℕ) → j < d geo → (c ≡ b → j ≡ i → ⊥) → entry geo invalidated c j ≡ entry geo image c j

  module _ (shaped : Shaped geo image) (words : Words32 image) (l : b < geo.blocks) (h : i < d geo) where
    within : Limits geo
    within = shaped.limits

    abbrev asked-word : ℕ
    asked-word = cleared (entry geo image b i) valid_bit

    abbrev here_place : ℕ
    here_place = place geo b (entry_word geo i)

    exact : Exact geo image invalidation
    unfolding entry
    exact =
        exact_one geo image here_place asked-word (entry-inside geo image shaped l h)
        (clearing-leaves (entry geo image b i) valid_bit (words.small here_place))

    elsewhere : (c j : ℕ) → j < block_length geo → (c ≡ b → j ≡ entry_word geo i → ⊥) → word invalidated (place geo c j) ≡ word image (place geo c j)
    elsewhere c j m n =
        exact.words (place geo c j)
        ∙ last-other asked-word (word image (place geo c j)) (apart geo m (entry-in-block geo within h) n)

    low_word : (c j : ℕ) → j < 3 + k geo → word invalidated (place geo c j) ≡ word image (place geo c j)
    low_word c j m = elsewhere c j (low-in-block geo within m) (λ p e. omega arith)

    still-shaped : Shaped geo invalidated
    still-shaped = record { limits = within; long = exact.long ∙ shaped.long }

    pub invalidate : Invalidated
    unfolding erase_count least_mapped greatest_mapped free_map entry
    invalidate =
        record {
          asked = exact.asked;
          shaped = still-shaped;
          words = run-words geo image invalidation (entry-count counts-erasures geo (At b i) asked-word) words;
          counts = λ c. low_word c erase_word (omega arith);
          bounds = λ c. (low_word c least_word (omega arith), low_word c greatest_word (omega arith));
          maps = λ c j m. ap (λ (w : ℕ). is_set w (j % 32)) (low_word c (map_word j) (map-word-inside geo within {i = j} m));
          contents-kept = λ c j m q.
              contents-are geo invalidated c j (contents geo image c j) still-shaped m q (contents-long geo image shaped m q)
              (λ x r.
              elsewhere c (content_word geo j x) (content-word-inside geo within q r)
              (λ p e. omega (arith, entry-word-inside geo within h, content-word-after geo within j x))
              ∙ sym (contents-at geo image c j x r));
          here =
              ap (λ (w : ℕ). is_set w valid_bit) (exact.words here_place ∙ last-here here_place asked-word (word image here_place))
              ∙ clear-bit _ valid_bit (cleared-here (entry geo image b i) valid_bit);
          entries = λ c j m n. elsewhere c (entry_word geo j) (entry-in-block geo within m) (λ p e. n p (omega arith));
        }

  -- by their own entries and map bits: this slot is dead, and every other as it was
  module _ (limits : Limits geo) (done : Invalidated) where
    pub own-dead : own_slot geo invalidated b i ≡ Dead
    unfolding own_slot
    own-dead = invalid-dead geo.logical (map_bit geo invalidated b i) (entry geo invalidated b i) done.here

    pub own-other : (c j : ℕ) → j < d geo → (c ≡ b → j ≡ i → ⊥) → own_slot geo invalidated c j ≡ own_slot geo image c j
    unfolding own_slot
    own-other c j h n =
        ap₂ (slot_of geo.logical) (done.maps c j (omega (arith, map-covers geo limits))) (done.entries c j h n)
