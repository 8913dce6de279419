-- K4: a placing, and the placings of a reclaim, as they are known before the first step of the call, so that one step of it can be told without
-- carrying out those before it (FORMAT.md, Step by step). That these are the steps of the definitions is proved (proofs/Ahead, CopiesInto, Copies and
-- LastPlacing).
use Rattle.std.specs.Prelude.{Bool, false, not, cond, ◌&&◌, ◌||◌, List, [], ◌∷◌, ◌++◌, ℕ, ◌+◌, ◌-◌, ◌*◌, ◌%◌, ◌^◌, ltb, eqb}
use Rattle.ranges.specs.Range.{one_if, or_at, count_below, first_below, last_below}
use Rattle.bits.specs.Word.{cleared}
use Rattle.geometry.specs.declared.Geometry.{Geometry}
use Rattle.geometry.specs.Geometry.{d}
use Rattle.geometry.specs.Places.{place, map_word}
use Rattle.image.specs.Found.{Found}
use Rattle.image.specs.Found.{At, Nothing}
use Rattle.image.specs.Words.{Image, erase_count, free_map, entry}
use Rattle.image.specs.Slots.{valid_bit, current_bit, slot, is_free, is_live, find, live_in}
use Rattle.image.specs.Blocks.{free_slots, live_slots}
use Rattle.flash.specs.declared.LiveBounds.{LiveBounds}
use Rattle.flash.specs.declared.Placement.{Placement}
use Rattle.flash.specs.declared.Step.{Step}
use Rattle.flash.specs.declared.Step.TheVariants.{Program}
use Rattle.flash.specs.Placing.{entry_at, programs_entry, programs_bounds, stores_contents, begins_entry, completes_entry}

-- the map word of slot i with it taken, in a block whose slots before i are taken and whose others are free
abbrev pub taken_up_to : ℕ → ℕ
taken_up_to i = cleared (2 ^ 32 - 2 ^ (i % 32)) (i % 32)

-- the map word w of slot i with it taken, and every slot of that word before it
abbrev pub taken_with : ℕ → ℕ → ℕ
taken_with w i = cleared (w - w % 2 ^ (i % 32)) (i % 32)

module _ (geo : Geometry) where
  -- (g) of a placing that is known beforehand
  abbrev pub closes_with : Placement → List Step
  closes_with p = cond p.closes (programs_bounds geo p.block p.bounds.least p.bounds.greatest) []

  -- behind the contents: (d) to (g)
  abbrev pub behind_contents : Placement → List Step
  behind_contents p =
      begins_entry geo p.block p.slot p.number
      ++ (completes_entry geo p.block p.slot p.number
      ++ (programs_entry geo p.old (cleared (cleared p.entry current_bit) valid_bit)
      ++ closes_with p))

  -- from the contents on: (c) to (g)
  abbrev pub from_contents : Placement → List ℕ → List Step
  from_contents p ws = stores_contents geo p.block p.slot ws ++ behind_contents p

  -- (a) to (g) of one, with the contents ws
  unfoldable pub placement_steps : Placement → List ℕ → List Step
  placement_steps p ws =
      (Program (place geo p.block (map_word p.slot)) p.map ∷ [])
      ++ (programs_entry geo p.old (cleared p.entry current_bit)
      ++ from_contents p ws)

  -- the least and the greatest number live in block b, with n as one of them
  abbrev pub bounds_with : Image → ℕ → ℕ → LiveBounds
  bounds_with image b n =
      record {
        least = first_below geo.logical (or_at (live_in geo image b) n);
        greatest = last_below geo.logical (or_at (live_in geo image b) n);
      }

  -- the placing of n, found at old, in slot i of block b: the block is full then if it has one free slot now
  abbrev pub placement_over : Image → ℕ → Found → ℕ → ℕ → Placement
  placement_over image n old b i =
      record {
        number = n;
        block = b;
        slot = i;
        map = cleared (free_map geo image b i) (i % 32);
        old = old;
        entry = entry_at geo image old;
        closes = eqb (free_slots geo image b) 1;
        bounds = bounds_with image b n;
      }

  -- how many of the first m slots of v are live: in a reclaim of v so many are copied before slot m
  abbrev pub live_before : Image → ℕ → ℕ → ℕ
  live_before image v m = count_below m (λ i. is_live (slot geo image v i))

  -- how many of the first j slots of t are free; and the free slot of t that has r free ones before it, d where there is none
  abbrev pub free_before : Image → ℕ → ℕ → ℕ
  free_before image t j = count_below j (λ i. is_free (slot geo image t i))

  unfoldable pub nth_free : Image → ℕ → ℕ → ℕ
  nth_free image t r = first_below (d geo) (λ j. is_free (slot geo image t j) && eqb (free_before image t j) r)

  -- the slot of t that slot m of v goes to in a reclaim of v into t; of a blank block it is slot `live_before image v m`
  abbrev pub copy_slot : Image → ℕ → ℕ → ℕ → ℕ
  copy_slot image v t m = nth_free image t (live_before image v m)

  -- n is live in one of two blocks; and the least and the greatest number that are, L where none is
  abbrev pub live_in_either : Image → ℕ → ℕ → ℕ → Bool
  live_in_either image t v n = live_in geo image t n || live_in geo image v n

  abbrev pub bounds_of_both : Image → ℕ → ℕ → LiveBounds
  bounds_of_both image t v =
      record {
        least = first_below geo.logical (live_in_either image t v);
        greatest = last_below geo.logical (live_in_either image t v);
      }

  -- In a reclaim of v into t, any block with a free slot for each live one of v, the copying of slot m of v, which is live for n. Where t is full by
  -- it, it is the last copy, so the numbers of v are all in t then.
  abbrev pub copy_into : Image → ℕ → ℕ → ℕ → ℕ → Placement
  copy_into image v t m n =
      record {
        number = n;
        block = t;
        slot = copy_slot image v t m;
        map = taken_with (free_map geo image t (copy_slot image v t m)) (copy_slot image v t m);
        old = At v m;
        entry = entry geo image v m;
        closes = eqb (free_slots geo image t) (live_before image v m + 1);
        bounds = bounds_of_both image t v;
      }

  -- t is full by the copies, and so by the last of them; and how many steps the copies have: 133 each, and two more where t is full by them
  abbrev pub filled_by_copies : Image → ℕ → ℕ → Bool
  filled_by_copies image v t = not (eqb (live_slots geo image v) 0) && eqb (free_slots geo image t) (live_slots geo image v)

  abbrev pub copy_steps : Image → ℕ → ℕ → ℕ
  copy_steps image v t = 133 * live_slots geo image v + 2 * one_if (filled_by_copies image v t)

  -- the same copying where t is blank, and has more free slots than v has live ones: t is never full by it
  abbrev pub copy_placement : Image → ℕ → ℕ → ℕ → ℕ → Placement
  copy_placement image v t m n =
      record {
        number = n;
        block = t;
        slot = live_before image v m;
        map = taken_up_to (live_before image v m);
        old = At v m;
        entry = entry geo image v m;
        closes = false;
        bounds = record { least = 0; greatest = 0 };
      }

  -- the place of a number, and its entry there, when v is reclaimed into t
  abbrev pub moved_to : Image → ℕ → ℕ → Found → Found
  moved_to image v t (At b i) = cond (eqb b v) (At t (live_before image v i)) (At b i)
  moved_to image v t Nothing = Nothing

  abbrev pub moved_entry : Image → ℕ → ℕ → Found → ℕ
  moved_entry image v n (At b i) = cond (eqb b v) (0xC0000000 + n) (entry geo image b i)
  moved_entry image v n Nothing = 0

  -- the block that the write then goes to: t behind the copies; and where none was made the less worn of the two blank ones, v with its new count,
  -- the lower among equals
  abbrev pub victim_first : Image → ℕ → ℕ → Bool
  victim_first image v t =
      ltb (erase_count geo image v + 1) (erase_count geo image t) || eqb (erase_count geo image v + 1) (erase_count geo image t) && ltb v t

  abbrev pub block_after : Image → ℕ → ℕ → ℕ
  block_after image v t = cond (eqb (live_slots geo image v) 0 && victim_first image v t) v t

  -- the placing of n that ends a write with a reclaim of v into t
  abbrev pub last_placement : Image → ℕ → ℕ → ℕ → Placement
  last_placement image v t n =
      record {
        number = n;
        block = block_after image v t;
        slot = live_slots geo image v;
        map = taken_up_to (live_slots geo image v);
        old = moved_to image v t (find geo image n);
        entry = moved_entry image v n (find geo image n);
        closes = eqb (live_slots geo image v + 1) (d geo);
        bounds = bounds_with image v n;
      }
