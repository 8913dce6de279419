-- What an entry and its map bit say of their slot, what the other entries add to that (FORMAT.md, Entries, Slots and blocks), and where a
-- logical number is live (FORMAT.md, The map).
use Rattle.std.specs.Prelude.{Bool, true, false, not, cond, ◌&&◌, List, ℕ, ◌%◌, ◌^◌, ltb, eqb}
use Rattle.std.proofs.Math.Option.{Option, some, none}
use Rattle.ranges.specs.Range.{any_below, first_below}
use Rattle.bits.specs.Word.{ones, is_set}
use Rattle.geometry.specs.declared.Geometry.{Geometry}
use Rattle.geometry.specs.Geometry.{d}
use Rattle.image.specs.declared.Slot.{Slot}
use Rattle.image.specs.declared.Slot.TheVariants.{Free, Live, Dead, Faulty, Superseded}
use Rattle.image.specs.Found.{Found}
use Rattle.image.specs.Found.{At, Nothing}
use Rattle.image.specs.Words.{Image, map_bit, entry, contents}

-- the three bits of an entry above its number: 31 valid, 30 current, 29 unfinished
abbrev pub valid_bit : ℕ
valid_bit = 31

abbrev pub current_bit : ℕ
current_bit = 30

abbrev pub unfinished_bit : ℕ
unfinished_bit = 29

-- the logical number: the bits below those three
abbrev pub number_in : ℕ → ℕ
number_in e = e % 2 ^ 29

-- free: every bit is set
abbrev pub is_free_entry : ℕ → Bool
is_free_entry e = eqb e ones

-- valid, current and finished: live or faulty, by its number
unfoldable pub is_complete : ℕ → Bool
is_complete e = is_set e valid_bit && is_set e current_bit && not (is_set e unfinished_bit)

-- in passing (K4): valid and finished, and no longer current
unfoldable pub is_passing : ℕ → Bool
is_passing e = is_set e valid_bit && not (is_set e current_bit) && not (is_set e unfinished_bit)

-- What an entry says by itself, with l logical sectors and its slot's map bit: a free entry is that of a free slot while the bit is set, and of a
-- slot that was taken for nothing once it is clear; a complete one is live for its number, if that is below l, and faulty if it is not; one in
-- passing is live for its number, if that is below l; all others are dead, be they replaced, released, unfinished, or in passing with a number that
-- is not below l.
unfoldable pub slot_of : ℕ → Bool → ℕ → Slot
slot_of l set e =
    cond (is_free_entry e) (cond set Free Dead)
    (cond (is_complete e) (cond (ltb (number_in e) l) (Live (number_in e)) Faulty)
    (cond (is_passing e && ltb (number_in e) l) (Live (number_in e))
    Dead))

-- complete, and its number is n
abbrev pub is_complete_for : ℕ → ℕ → Bool
is_complete_for n e = is_complete e && eqb (number_in e) n

module _ (geo : Geometry) (image : Image) where
  -- some slot's entry is complete for n
  unfoldable pub has_complete : ℕ → Bool
  has_complete n = any_below geo.blocks (λ b. any_below (d geo) (λ i. is_complete_for n (entry geo image b i)))

  -- K4: slot i of block b is superseded when its entry is in passing, with a number that there is, and some entry is complete for that number:
  -- another slot's, as one in passing is not complete itself
  unfoldable pub superseded : ℕ → ℕ → Bool
  superseded b i =
      is_passing (entry geo image b i) && ltb (number_in (entry geo image b i)) geo.logical && has_complete (number_in (entry geo image b i))

  -- slot i of block b by its own entry and its own map bit
  unfoldable pub own_slot : ℕ → ℕ → Slot
  own_slot b i = slot_of geo.logical (map_bit geo image b i) (entry geo image b i)

  -- slot i of block b: that, unless it is superseded
  unfoldable pub slot : ℕ → ℕ → Slot
  slot b i = cond (superseded b i) Superseded (own_slot b i)

-- the five kinds of slot as tests
abbrev pub is_free : Slot → Bool
is_free Free = true
is_free (Live n) = false
is_free Dead = false
is_free Faulty = false
is_free Superseded = false

abbrev pub is_live : Slot → Bool
is_live Free = false
is_live (Live n) = true
is_live Dead = false
is_live Faulty = false
is_live Superseded = false

abbrev pub is_dead : Slot → Bool
is_dead Free = false
is_dead (Live n) = false
is_dead Dead = true
is_dead Faulty = false
is_dead Superseded = false

abbrev pub is_faulty : Slot → Bool
is_faulty Free = false
is_faulty (Live n) = false
is_faulty Dead = false
is_faulty Faulty = true
is_faulty Superseded = false

-- a live slot whose number passes a test
abbrev pub is_live_with : (ℕ → Bool) → Slot → Bool
is_live_with f Free = false
is_live_with f (Live n) = f n
is_live_with f Dead = false
is_live_with f Faulty = false
is_live_with f Superseded = false

-- live, and its number is n
abbrev pub is_live_for : ℕ → Slot → Bool
is_live_for n = is_live_with (λ m. eqb m n)

-- something was found
abbrev pub is_at : Found → Bool
is_at (At b i) = true
is_at Nothing = false

module _ (geo : Geometry) (image : Image) where
  -- n is live in some slot of block b
  abbrev pub live_in : ℕ → ℕ → Bool
  live_in b n = any_below (d geo) (λ i. is_live_for n (slot geo image b i))

  abbrev pub found_in : ℕ → ℕ → Found
  found_in n b = At b (first_below (d geo) (λ i. is_live_for n (slot geo image b i)))

  -- where n is live: the first such slot in the order of blocks and slots. By R5 there is no other.
  unfoldable pub find : ℕ → Found
  find n =
      cond (any_below geo.blocks (λ b. live_in b n))
      (found_in n (first_below geo.blocks (λ b. live_in b n)))
      Nothing

  -- what is kept at a place that was found, if one was
  abbrev pub kept : Found → Option (List ℕ)
  kept (At b i) = some (contents geo image b i)
  kept Nothing = none

  -- the map (FORMAT.md, The map): the contents of the slot that is live for n, or nothing
  abbrev pub map_of : ℕ → Option (List ℕ)
  map_of n = kept (find n)

  -- n is mapped: some slot is live for it
  abbrev pub is_mapped : ℕ → Bool
  is_mapped n = is_at (find n)
