-- What the words of an image hold (FORMAT.md, A block in words). Everything above reads an image through these names alone: so no unused
-- word is looked at.
use Rattle.std.specs.Prelude.{Bool, List, ◌≡◌, ℕ, ◌%◌, ◌^◌, ◌<◌, length, get_or, take, drop}
use Rattle.bits.specs.Word.{is_set}
use Rattle.geometry.specs.declared.Geometry.{Geometry}
use Rattle.geometry.specs.Geometry.{Limits, d, k, image_length, sector_words}
use Rattle.geometry.specs.Places.{place, erase_word, least_word, greatest_word, map_word, entry_word, content_word}

-- an image: its words, in order
abbrev pub Image : Type 0
Image = List ℕ

-- its words are of 32 bits, as those of every slice are (src/slots.rt, words_in)
pub record Words32 (ws : List ℕ) : Type 0 where
  pub small : (p : ℕ) → get_or ws p 0 < 2 ^ 32

-- an image of the length that its geometry, within the limits, says: what row 1 of the refusals leaves
pub record Shaped (geo : Geometry) (image : Image) : Type 0 where
  pub limits : Limits geo
  pub long : length image ≡ image_length geo

abbrev pub word : Image → ℕ → ℕ
word image p = get_or image p 0

module _ (geo : Geometry) (image : Image) where
  -- word 0 of a block: how often it was erased
  unfoldable pub erase_count : ℕ → ℕ
  erase_count b = word image (place geo b erase_word)

  -- word 1: in a full block no live number is below it (R7)
  unfoldable pub least_mapped : ℕ → ℕ
  least_mapped b = word image (place geo b least_word)

  -- word 2: in a full block no live number is above it (R7)
  unfoldable pub greatest_mapped : ℕ → ℕ
  greatest_mapped b = word image (place geo b greatest_word)

  -- the free-map word of block b that has slot i's bit
  unfoldable pub free_map : ℕ → ℕ → ℕ
  free_map b i = word image (place geo b (map_word i))

  -- the map bit of slot i of block b (R2 says what it means)
  abbrev pub map_bit : ℕ → ℕ → Bool
  map_bit b i = is_set (free_map b i) (i % 32)

  -- the entry of slot i of block b
  unfoldable pub entry : ℕ → ℕ → ℕ
  entry b i = word image (place geo b (entry_word geo i))

  -- the k words of the free map of block b, and its d entries
  unfoldable pub map_words : ℕ → List ℕ
  map_words b = take (k geo) (drop (place geo b (map_word 0)) image)

  unfoldable pub entries : ℕ → List ℕ
  entries b = take (d geo) (drop (place geo b (entry_word geo 0)) image)

  -- the 128 words of contents of slot i of block b
  unfoldable pub contents : ℕ → ℕ → List ℕ
  contents b i = take sector_words (drop (place geo b (content_word geo i 0)) image)
