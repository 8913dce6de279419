-- K2: the lookup table that a caller may lend beside the image (FORMAT.md, The lookup table): for each number, where it is live.
use Rattle.std.specs.Prelude.{List, ℕ, zero, suc, ◌+◌, ◌*◌, set, replicate}
use Rattle.ranges.specs.Range.{list_below}
use Rattle.geometry.specs.declared.Geometry.{Geometry}
use Rattle.geometry.specs.Geometry.{d}
use Rattle.image.specs.declared.Slot.{Slot}
use Rattle.image.specs.declared.Slot.TheVariants.{Free, Live, Dead, Faulty, Superseded}
use Rattle.image.specs.Found.{Found}
use Rattle.image.specs.Found.{At, Nothing}
use Rattle.image.specs.Words.{Image}
use Rattle.image.specs.Slots.{slot, find}

-- a table: its words of 16 bits, in the order of the numbers
abbrev pub Table : Type 0
Table = List ℕ

-- the word of a number that is live nowhere: within the limits no slot has it (promises/specs/Tables, RightWords)
abbrev pub nowhere : ℕ
nowhere = 0xFFFF

module _ (geo : Geometry) where
  -- the word that says where a number is: its slot, counted through all blocks
  abbrev pub place_word : Found → ℕ
  place_word (At b i) = b * d geo + i
  place_word Nothing = nowhere

  -- a right table: the word of each number is what `find` says of it
  unfoldable pub right_table : Image → Table
  right_table image = list_below geo.logical (λ n. place_word (find geo image n))

  -- the table with the word of n set to where n now is; all other words stay, right or wrong
  abbrev pub noted : Table → ℕ → Found → Table
  noted table n now = set table n (place_word now)

  -- the number of a live slot noted at a place; a slot of another kind has none
  abbrev pub slot_noted : Table → Slot → Found → Table
  slot_noted table Free now = table
  slot_noted table (Live n) now = noted table n now
  slot_noted table Dead now = table
  slot_noted table Faulty now = table
  slot_noted table Superseded now = table

  -- how a table is built: from one that has no number anywhere, the live slots are noted, in the order of blocks and slots; here the first m
  -- slots of block b, and all slots of the first m blocks
  unfoldable pub block_noted : Image → ℕ → Table → ℕ → Table
  block_noted image b table zero = table
  block_noted image b table (suc m) = slot_noted (block_noted image b table m) (slot geo image b m) (At b m)

  unfoldable pub blocks_noted : Image → ℕ → Table
  blocks_noted image zero = replicate geo.logical nowhere
  blocks_noted image (suc m) = block_noted image m (blocks_noted image m) (d geo)
