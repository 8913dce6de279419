-- The word of a block that holds each thing, and where that word lies in the image (FORMAT.md, A block in words).
use Rattle.std.specs.Prelude.{ℕ, ◌+◌, ◌*◌, ◌/◌, ◌≤◌, ◌<◌}
use Rattle.geometry.specs.declared.Geometry.{Geometry}
use Rattle.geometry.specs.Geometry.{management_sectors, d, k, block_length, sector_words}

-- where word j of block b lies in the image
abbrev pub place : Geometry → ℕ → ℕ → ℕ
place geo b j = b * block_length geo + j

-- word 0: the erase count
abbrev pub erase_word : ℕ
erase_word = 0

-- word 1: the minimum mapped sector
abbrev pub least_word : ℕ
least_word = 1

-- word 2: the maximum mapped sector
abbrev pub greatest_word : ℕ
greatest_word = 2

-- the word of the free map that has slot i's bit; its place in that word is i mod 32
abbrev pub map_word : ℕ → ℕ
map_word i = 3 + i / 32

-- the entry of slot i: the entries follow the map
abbrev pub entry_word : Geometry → ℕ → ℕ
entry_word geo i = 3 + k geo + i

-- word j of the contents of slot i: the slots follow the management sectors
abbrev pub content_word : Geometry → ℕ → ℕ → ℕ
content_word geo i j = sector_words * (management_sectors geo + i) + j

-- a word of a block that is unused: behind the entries, and in front of the contents
pub record Unused (geo : Geometry) (j : ℕ) : Type 0 where
  pub behind : entry_word geo (d geo) ≤ j
  pub in_front : j < content_word geo 0 0
