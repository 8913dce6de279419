-- The numbers of a geometry: what follows from the three that are handed in, and their limits (FORMAT.md, Geometry).
use Rattle.std.specs.Prelude.{Bool, ◌&&◌, List, ℕ, ◌+◌, ◌*◌, ◌-◌, ◌/◌, ◌≤◌, ◌<◌, leb, ltb, replicate}
use Rattle.geometry.specs.declared.Geometry.{Geometry}

-- a / b, rounded up
unfoldable pub rounded_up : ℕ → ℕ → ℕ
rounded_up a b = (a + (b - 1)) / b

-- the words of a sector
abbrev pub sector_words : ℕ
sector_words = 128

-- a sector that holds one word over and over
abbrev pub filled : ℕ → List ℕ
filled word = replicate sector_words word

-- the sectors at the start of each block that hold its management words
abbrev pub management_sectors : Geometry → ℕ
management_sectors geo = 1

-- d: the slots of a block, its sectors less those of management
abbrev pub d : Geometry → ℕ
d geo = geo.sectors - management_sectors geo

-- k: the words of a block's free map, with a bit for each slot
abbrev pub k : Geometry → ℕ
k geo = rounded_up (d geo) 32

abbrev pub block_length : Geometry → ℕ
block_length geo = geo.sectors * sector_words

-- the words of an image
abbrev pub image_length : Geometry → ℕ
image_length geo = geo.blocks * block_length geo

-- (B − 1)·d: the slots of all blocks but one
abbrev pub room : Geometry → ℕ
room geo = (geo.blocks - 1) * d geo

-- g: the room that the logical sectors leave, shared out over all blocks but one; a victim has at least so many dead slots
unfoldable pub g : Geometry → ℕ
g geo = rounded_up (room geo - geo.logical) (geo.blocks - 1)

-- the geometry of b blocks of s sectors with l logical sectors, whether within the limits or not
abbrev pub shape : ℕ → ℕ → ℕ → Geometry
shape b s l = record { blocks = b; sectors = s; logical = l }

-- the limits of B, S and L: what refusal 1 tests, beside the length
unfoldable pub within_limits : Geometry → Bool
within_limits geo =
    leb 2 geo.blocks && leb geo.blocks 64
    && (leb 2 geo.sectors && leb geo.sectors 64)
    && (leb 1 geo.logical && ltb geo.logical (room geo))

-- the same limits as facts, each by its name: where the test passes, they hold (proofs/Laws)
pub record Limits (geo : Geometry) : Type 0 where
  pub blocks_low : 2 ≤ geo.blocks
  pub blocks_high : geo.blocks ≤ 64
  pub sectors_low : 2 ≤ geo.sectors
  pub sectors_high : geo.sectors ≤ 64
  pub logical_low : 1 ≤ geo.logical
  pub logical_high : geo.logical < room geo
