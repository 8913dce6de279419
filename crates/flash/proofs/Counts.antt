-- How many words a placing programs: 131, and 2 more each where a number is replaced and where the block fills (FORMAT.md, Costs).
-- Assumes nothing.
use mathlib.Core.Path.{◌≡◌, refl}
use mathlib.Core.Bool.{Bool, true, false}
use mathlib.Core.List.{List}
use Prim.Native.Nat.{ℕ, ◌+◌, ◌*◌}
use native.Mathlib.Omega.{arith}
use lib.ListN.{get_or}
use Rattle.ranges.specs.Range.{one_if}
use Rattle.bits.specs.Word.{cleared}
use Rattle.geometry.specs.declared.Geometry.{Geometry}
use Rattle.geometry.specs.Geometry.{sector_words}
use Rattle.geometry.specs.Places.{place, entry_word, content_word}
use Rattle.image.specs.Found.{Found}
use Rattle.image.specs.Found.{At, Nothing}
use Rattle.image.specs.Words.{Image}
use Rattle.image.specs.Slots.{valid_bit, is_at, find, is_mapped}
use Rattle.image.specs.Blocks.{full, lowest_free, lowest_open, least_worn_blank}
use Rattle.flash.specs.declared.Step.{Step}
use Rattle.flash.specs.Steps.{run, words_in, erasures_in}
use Rattle.flash.specs.Placing.{entry_at, programs_entry, closes_block, fills_slot, placing, releasing}
use Rattle.flash.specs.Writing.{any_open, filling}
use Rattle.flash.proofs.Stores.{Counts, counts-words, counts-erasures, count-append, count-one, count-list}

-- Any count of steps that takes `per` for a word programmed: what it says of a placing and of a release. They erase nothing.
module _ {count : List Step → ℕ} {per per-erasure : ℕ} (counts : Counts count per per-erasure) (geo : Geometry) where
  pub entry-count : (o : Found) (asked : ℕ) → count (programs_entry geo o asked) ≡ per * one_if (is_at o)
  entry-count (At b i) asked = omega (arith, count-one counts (place geo b (entry_word geo i)) asked)
  entry-count Nothing asked = omega (arith, counts.none)

  pub closing-count : (image : Image) (b : ℕ) → count (closes_block geo image b) ≡ 2 * (per * one_if (full geo image b))
  unfolding closes_block
  closing-count image b = go (full geo image b) refl
    where
      go : (f : Bool) → full geo image b ≡ f → count (closes_block geo image b) ≡ 2 * (per * one_if (full geo image b))
      go true t = rw t (simp (counts.program, counts.none) (omega arith))
      go false t = rw t (omega (arith, counts.none))

  pub filling-count :
      (image : Image) (old : Found) (n : ℕ) (ws : List ℕ) (b i : ℕ) →
      count (fills_slot geo image old n ws b i) ≡ 131 * per + 2 * (per * one_if (is_at old))
  unfolding fills_slot
  filling-count image old n ws b i =
      simp (counts.program, count-append counts, entry-count)
      (omega (arith, count-list (λ j. place geo b (content_word geo i j)) (λ j. get_or ws j 0) counts sector_words))

  placing-count :
      (image : Image) (n : ℕ) (ws : List ℕ) (b i : ℕ) →
      let after = run geo image (fills_slot geo image (find geo image n) n ws b i) in
      count (placing geo image n ws b i) ≡ 131 * per + 2 * (per * one_if (is_at (find geo image n))) + 2 * (per * one_if (full geo after b))
  unfolding placing
  placing-count image n ws b i = simp (count-append counts, filling-count, closing-count)

  releasing-count : (image : Image) (n : ℕ) → count (releasing geo image n) ≡ per * one_if (is_at (find geo image n))
  unfolding releasing
  releasing-count image n = entry-count (find geo image n) (cleared (entry_at geo image (find geo image n)) valid_bit)

-- ---- words programmed, and blocks erased

module _ (geo : Geometry) (image : Image) (n : ℕ) where
  pub placing-words :
      (ws : List ℕ) (b i : ℕ) →
      let after = run geo image (fills_slot geo image (find geo image n) n ws b i) in
      words_in (placing geo image n ws b i) ≡ 131 + 2 * one_if (is_mapped geo image n) + 2 * one_if (full geo after b)
  placing-words ws b i = omega (arith, placing-count counts-words geo image n ws b i)

  pub placing-erasures : (ws : List ℕ) (b i : ℕ) → erasures_in (placing geo image n ws b i) ≡ 0
  placing-erasures ws b i = omega (arith, placing-count counts-erasures geo image n ws b i)

  pub releasing-words : words_in (releasing geo image n) ≡ one_if (is_at (find geo image n))
  releasing-words = omega (arith, releasing-count counts-words geo image n)

  pub releasing-erasures : erasures_in (releasing geo image n) ≡ 0
  releasing-erasures = omega (arith, releasing-count counts-erasures geo image n)

  -- rules 1 and 2 place, wherever it is
  pub filling-erases-nothing : (ws : List ℕ) → erasures_in (filling geo image n ws) ≡ 0
  unfolding filling
  filling-erases-nothing ws = go (any_open geo image) refl
    where
      go : (x : Bool) → any_open geo image ≡ x → erasures_in (filling geo image n ws) ≡ 0
      go true t = rw t (placing-erasures ws (lowest_open geo image) (lowest_free geo image (lowest_open geo image)))
      go false t = rw t (placing-erasures ws (least_worn_blank geo image) 0)
