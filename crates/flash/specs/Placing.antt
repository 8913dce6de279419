-- A placing as a list of steps, (a) to (g) (FORMAT.md, Placing); and a release, which is one step (FORMAT.md, Release).
use Rattle.std.specs.Prelude.{cond, List, [], ◌∷◌, ◌++◌, ◌≡◌, ℕ, ◌+◌, ◌%◌, ◌<◌, get_or}
use Rattle.ranges.specs.Range.{list_below, first_below, last_below}
use Rattle.bits.specs.Word.{cleared}
use Rattle.geometry.specs.declared.Geometry.{Geometry}
use Rattle.geometry.specs.Geometry.{d, sector_words}
use Rattle.geometry.specs.Places.{place, least_word, greatest_word, map_word, entry_word, content_word}
use Rattle.image.specs.Found.{Found}
use Rattle.image.specs.Found.{At, Nothing}
use Rattle.image.specs.Words.{Image, free_map, entry}
use Rattle.image.specs.Slots.{valid_bit, current_bit, find, live_in}
use Rattle.image.specs.Blocks.{full}
use Rattle.flash.specs.declared.LiveBounds.{LiveBounds}
use Rattle.flash.specs.declared.Step.{Step}
use Rattle.flash.specs.declared.Step.TheVariants.{Program}
use Rattle.flash.specs.Steps.{run}

-- a place that was found lies in the image
pub record InImage (geo : Geometry) (found : Found) : Type 0 where
  pub block : (b i : ℕ) → found ≡ At b i → b < geo.blocks
  pub slot_is : (b i : ℕ) → found ≡ At b i → i < d geo

module _ (geo : Geometry) where
  -- (a): the slot is marked as taken in the map
  abbrev pub takes_slot : Image → ℕ → ℕ → List Step
  takes_slot image b i = Program (place geo b (map_word i)) (cleared (free_map geo image b i) (i % 32)) ∷ []

  -- the entry at a place where a number was found, and that entry programmed; nothing where it was not found
  abbrev pub entry_at : Image → Found → ℕ
  entry_at image (At b i) = entry geo image b i
  entry_at image Nothing = 0

  abbrev pub programs_entry : Found → ℕ → List Step
  programs_entry (At b i) asked = Program (place geo b (entry_word geo i)) asked ∷ []
  programs_entry Nothing asked = []

  -- (b): the old entry, if there is one, is marked as no longer current; one in passing is so already, and is asked for as it is (K4)
  abbrev pub outdates : Image → Found → List Step
  outdates image old = programs_entry old (cleared (entry_at image old) current_bit)

  -- (c): the contents, from the first word on
  abbrev pub stores_contents : ℕ → ℕ → List ℕ → List Step
  stores_contents b i ws = list_below sector_words (λ j. Program (place geo b (content_word geo i j)) (get_or ws j 0))

  -- (d): the entry with its number, still unfinished
  abbrev pub begins_entry : ℕ → ℕ → ℕ → List Step
  begins_entry b i n = Program (place geo b (entry_word geo i)) (0xE0000000 + n) ∷ []

  -- (e): the entry, finished: live from here on
  abbrev pub completes_entry : ℕ → ℕ → ℕ → List Step
  completes_entry b i n = Program (place geo b (entry_word geo i)) (0xC0000000 + n) ∷ []

  -- (f): the old entry, if there is one, is made invalid
  abbrev pub retires : Image → Found → List Step
  retires image old = programs_entry old (cleared (cleared (entry_at image old) current_bit) valid_bit)

  -- the least and the greatest number that are live in block b; L where none is
  unfoldable pub least_live : Image → ℕ → ℕ
  least_live image b = first_below geo.logical (live_in geo image b)

  unfoldable pub greatest_live : Image → ℕ → ℕ
  greatest_live image b = last_below geo.logical (live_in geo image b)

  abbrev pub live_bounds : Image → ℕ → LiveBounds
  live_bounds image b = record { least = least_live image b; greatest = greatest_live image b }

  -- words 1 and 2 of block b programmed
  abbrev pub programs_bounds : ℕ → ℕ → ℕ → List Step
  programs_bounds b least greatest = Program (place geo b least_word) least ∷ Program (place geo b greatest_word) greatest ∷ []

  -- (g): in a block that is full now, words 1 and 2 with the bounds of its live numbers, on the image after (f)
  unfoldable pub closes_block : Image → ℕ → List Step
  closes_block image b = cond (full geo image b) (programs_bounds b (least_live image b) (greatest_live image b)) []

  -- (a) to (f): n, with its contents ws, in slot i of block b, where n was found before at old
  unfoldable pub fills_slot : Image → Found → ℕ → List ℕ → ℕ → ℕ → List Step
  fills_slot image old n ws b i =
      takes_slot image b i
      ++ (outdates image old
      ++ (stores_contents b i ws
      ++ (begins_entry b i n
      ++ (completes_entry b i n
      ++ retires image old))))

  -- the placing of n: (a) to (g), over the slot where n is found when it begins
  unfoldable pub placing : Image → ℕ → List ℕ → ℕ → ℕ → List Step
  placing image n ws b i =
      let filled = fills_slot image (find geo image n) n ws b i in
      filled ++ closes_block (run geo image filled) b

  -- a release: the live entry is made invalid
  abbrev pub invalidates : Image → Found → List Step
  invalidates image live = programs_entry live (cleared (entry_at image live) valid_bit)

  unfoldable pub releasing : Image → ℕ → List Step
  releasing image n = invalidates image (find geo image n)
