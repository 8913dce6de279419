-- The words that a block leaves unused are never programmed: by no placing in a slot, by no release, by no erasing, and by no step that programs an entry
-- or one of the first three words of a block. Assumes nothing.
use mathlib.Core.Path.{◌≡◌, refl}
use mathlib.Core.Bool.{Bool, true, false, ◌||◌}
use mathlib.Core.List.{List, [], ◌∷◌, ◌++◌}
use Prim.Native.Nat.{ℕ, zero, suc, ◌+◌, ◌≤◌, ◌<◌}
use native.Mathlib.Omega.{arith}
use lib.Dec.{eqb}
use lib.ListN.{get_or}
use borrow.Author.Tests.{ne_eqb}
use Rattle.ranges.specs.Range.{list_below, join_below}
use Rattle.bits.specs.Word.{cleared}
use Rattle.geometry.specs.declared.Geometry.{Geometry}
use Rattle.geometry.specs.Geometry.{Limits, d, block_length, sector_words}
use Rattle.geometry.specs.Places.{place, erase_word, least_word, greatest_word, map_word, entry_word, content_word, Unused}
use Rattle.geometry.proofs.Laws.{map-covers, map-word-inside, low-in-block, map-in-block, entry-in-block, management-inside, content-word-inside, content-word-after}
use Rattle.image.specs.Found.{Found}
use Rattle.image.specs.Found.{At, Nothing}
use Rattle.image.specs.Words.{Image, erase_count}
use Rattle.image.specs.Slots.{valid_bit, find}
use Rattle.image.specs.Blocks.{full}
use Rattle.image.proofs.Places.{apart}
use Rattle.flash.specs.declared.Step.{Step}
use Rattle.flash.specs.declared.Step.TheVariants.{Program, Erase}
use Rattle.flash.specs.Steps.{run, programs_word}
use Rattle.flash.specs.Placing.{InImage, entry_at, programs_entry, takes_slot, outdates, stores_contents, begins_entry, completes_entry, retires, closes_block, least_live, greatest_live, fills_slot, placing, releasing}
use Rattle.flash.specs.Writing.{erasing}
use Rattle.flash.proofs.CodeLaws.{found_inside}

pub programs-append : (xs ys : List Step) (p : ℕ) → programs_word xs p ≡ false → programs_word ys p ≡ false → programs_word (xs ++ ys) p ≡ false
unfolding programs_word
programs-append [] ys p e f = f
programs-append (Program q w ∷ xs) ys p e f = go (eqb q p) e (λ h. programs-append xs ys p h f)
  where
    go : (x : Bool) → (x || programs_word xs p) ≡ false → (programs_word xs p ≡ false → programs_word (xs ++ ys) p ≡ false) → (x || programs_word (xs ++ ys) p) ≡ false
    go true h rest = h
    go false h rest = rest h
programs-append (Erase b ∷ xs) ys p e f = programs-append xs ys p e f

-- no step of these programs an unused word of any block
abbrev pub SparesUnused : Geometry → List Step → Type 0
SparesUnused geo steps = (c j : ℕ) → Unused geo j → programs_word steps (place geo c j) ≡ false

-- word j of block c, which is unused
module _ (geo : Geometry) (within : Limits geo) (c j : ℕ) (unused : Unused geo j) where
  abbrev Spared : List Step → Type 0
  Spared steps = programs_word steps (place geo c j) ≡ false

  then : (xs ys : List Step) → Spared xs → Spared ys → Spared (xs ++ ys)
  then xs ys = programs-append xs ys (place geo c j)

  inside : j < block_length geo
  inside = management-inside geo within (omega (arith, unused.in_front))

  -- another word of some block is programmed
  another : (b w asked : ℕ) → w < block_length geo → (w ≡ j → ⊥) → Spared (Program (place geo b w) asked ∷ [])
  unfolding programs_word
  another b w asked l n = rw (ne_eqb (place geo b w) (place geo c j) (apart geo l inside (λ x. n)))

  -- words 0 to 2, an entry
  low-spared : (b w asked : ℕ) → w < 3 → Spared (Program (place geo b w) asked ∷ [])
  low-spared b w asked l = another b w asked (low-in-block geo within (omega arith)) (λ e. omega (arith, unused.behind))

  slot-spared : (b i asked : ℕ) → i < d geo → Spared (Program (place geo b (entry_word geo i)) asked ∷ [])
  slot-spared b i asked l = another b (entry_word geo i) asked (entry-in-block geo within l) (λ e. omega (arith, unused.behind))

  entry-spared : (found : Found) (asked : ℕ) → InImage geo found → Spared (programs_entry geo found asked)
  unfolding programs_word
  entry-spared (At b i) asked h = slot-spared b i asked (h.slot_is b i refl)
  entry-spared Nothing asked h = refl

  -- the contents of a slot
  contents-spared : (b i : ℕ) (ws : List ℕ) → i < d geo → Spared (stores_contents geo b i ws)
  unfolding list_below programs_word
  contents-spared b i ws l = go sector_words (omega arith)
    where
      go : (m : ℕ) → m ≤ sector_words → Spared (list_below m (λ q. Program (place geo b (content_word geo i q)) (get_or ws q 0)))
      go zero h = refl
      go (suc m) h =
          then (list_below m (λ q. Program (place geo b (content_word geo i q)) (get_or ws q 0))) _ (go m (omega arith))
          (another b (content_word geo i m) (get_or ws m 0) (content-word-inside geo within l (omega arith))
          (λ e. omega (arith, unused.in_front, content-word-after geo within i m)))

  closing-spared : (image : Image) (b : ℕ) → Spared (closes_block geo image b)
  unfolding closes_block programs_word
  closing-spared image b = go (full geo image b) refl
    where
      go : (x : Bool) → full geo image b ≡ x → Spared (closes_block geo image b)
      go true t =
          rw t
          (then (Program (place geo b least_word) (least_live geo image b) ∷ []) (Program (place geo b greatest_word) (greatest_live geo image b) ∷ [])
          (low-spared b least_word (least_live geo image b) (omega arith))
          (low-spared b greatest_word (greatest_live geo image b) (omega arith)))
      go false t = rw t

  placing-spared : (image : Image) (n : ℕ) (ws : List ℕ) (b i : ℕ) → i < d geo → Spared (placing geo image n ws b i)
  unfolding placing fills_slot
  placing-spared image n ws b i l =
      let old = find geo image n in
      let where-it-was = found_inside geo image n refl in
      let filled = fills_slot geo image old n ws b i in
      then filled (closes_block geo (run geo image filled) b)
      (then (takes_slot geo image b i) _
      (another b (map_word i) _ (map-in-block geo within (omega (arith, map-covers geo within)))
      (λ e. omega (arith, unused.behind, map-word-inside geo within {i = i} (omega (arith, map-covers geo within)))))
      (then (outdates geo image old) _ (entry-spared old _ where-it-was)
      (then (stores_contents geo b i ws) _ (contents-spared b i ws l)
      (then (begins_entry geo b i n) _ (slot-spared b i _ l)
      (then (completes_entry geo b i n) (retires geo image old) (slot-spared b i _ l) (entry-spared old _ where-it-was))))))
      (closing-spared (run geo image filled) b)

  releasing-spared : (image : Image) (n : ℕ) → Spared (releasing geo image n)
  unfolding releasing
  releasing-spared image n = entry-spared (find geo image n) (cleared (entry_at geo image (find geo image n)) valid_bit) (found_inside geo image n refl)

  erasing-spared : (image : Image) (v : ℕ) → Spared (erasing geo image v)
  unfolding programs_word
  erasing-spared image v = low-spared v erase_word (erase_count geo image v + 1) (omega arith)

-- ---- of every unused word

module _ (geo : Geometry) where
  pub spares-append : (xs ys : List Step) → SparesUnused geo xs → SparesUnused geo ys → SparesUnused geo (xs ++ ys)
  spares-append xs ys f g c j u = programs-append xs ys (place geo c j) (f c j u) (g c j u)

  pub spares-none : SparesUnused geo []
  unfolding programs_word
  spares-none c j u = refl

  -- lists by index, one behind the other
  pub spares-join : (m : ℕ) (f : ℕ → List Step) → ((k : ℕ) → k < m → SparesUnused geo (f k)) → SparesUnused geo (join_below m f)
  unfolding join_below
  spares-join zero f each = spares-none
  spares-join (suc m) f each = spares-append (join_below m f) (f m) (spares-join m f (λ k l. each k (omega arith))) (each m (omega arith))

  pub low-spares : Limits geo → (b w asked : ℕ) → w < 3 → SparesUnused geo (Program (place geo b w) asked ∷ [])
  low-spares within b w asked l c j u = low-spared geo within c j u b w asked l

  pub slot-spares : Limits geo → (b i asked : ℕ) → i < d geo → SparesUnused geo (Program (place geo b (entry_word geo i)) asked ∷ [])
  slot-spares within b i asked l c j u = slot-spared geo within c j u b i asked l

  pub placing-spares : Limits geo → (image : Image) (n : ℕ) (ws : List ℕ) (b i : ℕ) → i < d geo → SparesUnused geo (placing geo image n ws b i)
  placing-spares within image n ws b i l c j u = placing-spared geo within c j u image n ws b i l

  pub releasing-spares : Limits geo → (image : Image) (n : ℕ) → SparesUnused geo (releasing geo image n)
  releasing-spares within image n c j u = releasing-spared geo within c j u image n

  pub erasing-spares : Limits geo → (image : Image) (v : ℕ) → SparesUnused geo (erasing geo image v)
  erasing-spares within image v c j u = erasing-spared geo within c j u image v
