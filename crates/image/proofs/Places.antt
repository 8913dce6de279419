-- Which reading of an image a changed word can touch: two places are the same only if block and word in block are. Assumes nothing.
use mathlib.Core.Path.{◌≡◌, sym, ap, ◌∙◌}
use mathlib.Core.Logic.{◌≢◌}
use mathlib.Core.List.{List}
use Prim.Native.Nat.{ℕ, ◌+◌, ◌*◌, ◌-◌, ◌/◌, ◌^◌, ◌≤◌, ◌<◌}
use native.Mathlib.Decide.{dec_lt}
use native.Mathlib.Omega.{arith}
use lib.ListN.{length, get_or, drop, length-take, length-drop, get_or-eq_default}
use lib.Seq.{get_or-take, get_or-drop, ext_get_or}
use Rattle.geometry.specs.declared.Geometry.{Geometry}
use Rattle.geometry.specs.Geometry.{d, k, block_length, sector_words}
use Rattle.geometry.specs.Places.{place, map_word, entry_word, content_word}
use Rattle.geometry.proofs.Laws.{place-injective, d-positive, k-positive}
use Rattle.image.specs.Words.{Image, Shaped, Words32, word, map_words, free_map, entry, entries, contents}
use Rattle.image.proofs.Reading.{map-inside, entry-inside, contents-inside}

-- words of different blocks, or different words of one
pub apart : (geo : Geometry) {b c i j : ℕ} → i < block_length geo → j < block_length geo → (b ≡ c → i ≡ j → ⊥) → place geo b i ≢ place geo c j
apart geo {b} {c} {i} {j} l h n e = let same = place-injective geo b c i j l h e in n same.0 same.1

module _ (geo : Geometry) (image : Image) where
  -- word j of a slot's contents
  pub contents-at : (b i j : ℕ) → j < sector_words → get_or (contents geo image b i) j 0 ≡ word image (place geo b (content_word geo i j))
  unfolding contents
  contents-at b i j l =
      let at : place geo b (content_word geo i 0) + j ≡ place geo b (content_word geo i j) = omega arith in
      get_or-take sector_words (drop (place geo b (content_word geo i 0)) image) j 0 l
      ∙ get_or-drop (place geo b (content_word geo i 0)) image j 0
      ∙ ap (word image) at

  pub contents-long : Shaped geo image → {b i : ℕ} → b < geo.blocks → i < d geo → length (contents geo image b i) ≡ sector_words
  unfolding contents
  contents-long shaped {b} {i} l h =
      simp (length-take, length-drop) (omega (arith, contents-inside geo image shaped {b = b} {i = i} l h))

-- The map's words and the entries of a block as parts of the image: where they end, how many they are, and which words of the image.
module _ (geo : Geometry) (image : Image) (shaped : Shaped geo image) {b : ℕ} (l : b < geo.blocks) where
  pub map-room : place geo b (map_word 0) + k geo ≤ length image
  map-room =
      let one = k-positive geo shaped.limits in
      omega (arith, map-inside geo image shaped {b = b} {i = (k geo - 1) * 32} l (omega arith))

  pub map-long : length (map_words geo image b) ≡ k geo
  unfolding map_words
  map-long = simp (length-take, length-drop) (omega (arith, map-room))

  pub entries-room : place geo b (entry_word geo 0) + d geo ≤ length image
  entries-room =
      let one = d-positive geo shaped.limits in
      omega (arith, entry-inside geo image shaped {b = b} {i = d geo - 1} l (omega arith))

  pub entries-long : length (entries geo image b) ≡ d geo
  unfolding entries
  entries-long = simp (length-take, length-drop) (omega (arith, entries-room))

module _ (geo : Geometry) (image : Image) (b : ℕ) where
  pub map-at : (m : ℕ) → m < k geo → get_or (map_words geo image b) m 0 ≡ word image (place geo b (map_word 0) + m)
  unfolding map_words
  map-at m l =
      get_or-take (k geo) (drop (place geo b (map_word 0)) image) m 0 l
      ∙ get_or-drop (place geo b (map_word 0)) image m 0

  -- the one with slot i's bit
  pub free-map-at : (i : ℕ) → i < 32 * k geo → get_or (map_words geo image b) (i / 32) 0 ≡ free_map geo image b i
  unfolding free_map
  free-map-at i l = map-at (i / 32) (omega arith) ∙ ap (word image) (omega arith)

  pub entries-at : (i : ℕ) → i < d geo → get_or (entries geo image b) i 0 ≡ entry geo image b i
  unfolding entries entry
  entries-at i l =
      get_or-take (d geo) (drop (place geo b (entry_word geo 0)) image) i 0 l
      ∙ get_or-drop (place geo b (entry_word geo 0)) image i 0
      ∙ ap (word image) (omega arith)

-- contents are 128 words, so they are these words where each is
pub contents-are :
    (geo : Geometry) (image : Image) (b i : ℕ) (ws : List ℕ) →
    Shaped geo image →
    b < geo.blocks →
    i < d geo →
    length ws ≡ sector_words →
    ((j : ℕ) → j < sector_words → word image (place geo b (content_word geo i j)) ≡ get_or ws j 0) →
    contents geo image b i ≡ ws
contents-are geo image b i ws shaped l h long same =
    let size = contents-long geo image shaped {b = b} {i = i} l h in
    ext_get_or 0 (contents geo image b i) ws (size ∙ sym long)
    (λ j q. let r : j < sector_words = omega arith in contents-at geo image b i j r ∙ same j r)

pub contents-words :
    (geo : Geometry) (image : Image) (b i : ℕ) → Shaped geo image → b < geo.blocks → i < d geo → Words32 image → Words32 (contents geo image b i)
contents-words geo image b i shaped l h w = record { small = λ j. go j (dec_lt j sector_words) }
  where
    go : (j : ℕ) → Dec (j < sector_words) → get_or (contents geo image b i) j 0 < 2 ^ 32
    go j (yes q) = rw (contents-at geo image b i j q) (w.small (place geo b (content_word geo i j)))
    go j (no q) =
        let size = contents-long geo image shaped {b = b} {i = i} l h in
        rw (get_or-eq_default (contents geo image b i) 0 {n = j} (omega arith)) (omega arith)
