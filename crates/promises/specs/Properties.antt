-- What else the definitions promise, as statements: the map is well defined, each slot speaks for itself, what a format makes, that a run leaves
-- the image well formed, what a report adds up to, what a placing costs and what a write does to free slots and wear. proofs/Properties.antt proves
-- each under the name in small letters.
use Rattle.std.specs.Prelude.{◌≡◌, ◌≢◌, List, true, false, ℕ, ◌+◌, ◌*◌, ◌≤◌, ◌<◌}
use Rattle.std.proofs.Math.Option.{some, none}
use Rattle.ranges.specs.Range.{one_if, sum_below}
use Rattle.geometry.specs.declared.Geometry.{Geometry}
use Rattle.geometry.specs.Geometry.{d, g}
use Rattle.geometry.specs.Places.{place, Unused}
use Rattle.image.specs.declared.Slot.TheVariants.{Live}
use Rattle.image.specs.Words.{Image, Words32, erase_count, contents}
use Rattle.image.specs.Slots.{superseded, own_slot, slot, find, map_of, is_mapped}
use Rattle.image.specs.Blocks.{full, free_slots, dead_slots, victim}
use Rattle.image.specs.WellFormed.{well_formed}
use Rattle.flash.specs.Steps.{run, words_in, programs_word}
use Rattle.flash.specs.Placing.{fills_slot, placing}
use Rattle.answers.specs.Answers.{Accepted}
use Rattle.calls.specs.Refusals.{format_answer, check_answer, read_answer, write_answer, release_answer}
use Rattle.calls.specs.Calls.{formatted, reported, read_buffer, write_steps, release_steps, repair_steps, write_outcome, written, release_outcome, released}
use Rattle.promises.specs.Runs.{Call, ran, uncut, started}

-- The map is well defined: on a well-formed image at most one slot is live for a number, and the map gives its contents.
abbrev pub TheOneSlot : Type 0
TheOneSlot =
    (geo : Geometry) (image : Image) (n b c i j : ℕ) →
    check_answer geo image ≡ Accepted →
    b < geo.blocks →
    c < geo.blocks →
    i < d geo →
    j < d geo →
    slot geo image b i ≡ Live n →
    (map_of geo image n ≡ some (contents geo image b i)) × (slot geo image c j ≡ Live n → (b ≡ c) × (i ≡ j))

-- Where a check accepts the image, no slot is superseded (K4): each is what its own entry and its own map bit say.
abbrev pub EachSlotByItself : Type 0
EachSlotByItself =
    (geo : Geometry) (image : Image) (b i : ℕ) →
    check_answer geo image ≡ Accepted →
    b < geo.blocks →
    i < d geo →
    (superseded geo image b i ≡ false) × (slot geo image b i ≡ own_slot geo image b i)

-- Format makes an image that is well formed, with an empty map, B·d free slots and erase sum 0.
abbrev pub FormatMakesAFreshImage : Type 0
FormatMakesAFreshImage =
    (geo : Geometry) (image : Image) →
    format_answer geo image ≡ Accepted →
    (well_formed geo (formatted geo image) ≡ true)
    × ((n : ℕ) → map_of geo (formatted geo image) n ≡ none)
    × (sum_below geo.blocks (free_slots geo (formatted geo image)) ≡ geo.blocks * d geo)
    × (sum_below geo.blocks (erase_count geo (formatted geo image)) ≡ 0)

-- After a format and any run of calls without a cut (K4) a check accepts the image. So it does after any run from an image that it accepts.
abbrev pub RunsStayWellFormed : Type 0
RunsStayWellFormed =
    (geo : Geometry) (image : Image) (calls : List Call) →
    (format_answer geo image ≡ Accepted →
    uncut geo (started (formatted geo image)) calls ≡ true →
    check_answer geo (ran geo (started (formatted geo image)) calls).image ≡ Accepted)
    × (check_answer geo image ≡ Accepted →
    Words32 image →
    uncut geo (started image) calls ≡ true →
    check_answer geo (ran geo (started image) calls).image ≡ Accepted)

-- A report's mapped, free and dead slots add up to B·d, and mapped is at most L.
abbrev pub ReportAddsUp : Type 0
ReportAddsUp =
    (geo : Geometry) (image : Image) →
    check_answer geo image ≡ Accepted →
    ((reported geo image).mapped + (reported geo image).free + (reported geo image).dead ≡ geo.blocks * d geo)
    × ((reported geo image).mapped ≤ geo.logical)

-- All other numbers read as before: the corollary, for what read gives, of what demand 2 says of the map.
abbrev pub OthersReadAsBefore : Type 0
OthersReadAsBefore =
    (geo : Geometry) (image : Image) (n m : ℕ) (buffer handed : List ℕ) →
    Words32 image →
    Words32 buffer →
    m ≢ n →
    (write_answer geo image n buffer ≡ Accepted →
    (read_answer geo (written geo image n buffer) m handed ≡ read_answer geo image m handed)
    × (read_buffer geo (written geo image n buffer) m handed ≡ read_buffer geo image m handed))
    × (release_answer geo image n ≡ Accepted →
    (read_answer geo (released geo image n) m handed ≡ read_answer geo image m handed)
    × (read_buffer geo (released geo image n) m handed ≡ read_buffer geo image m handed))

-- The words that a block leaves unused (FORMAT.md, A block in words) are never programmed: no step of a write, a release or a repair (K4)
-- asks for one.
abbrev pub UnusedWordsAreNotProgrammed : Type 0
UnusedWordsAreNotProgrammed =
    (geo : Geometry) (image : Image) (n b j : ℕ) (buffer : List ℕ) →
    Words32 image →
    Words32 buffer →
    Unused geo j →
    (programs_word (write_steps geo image n buffer) (place geo b j) ≡ false)
    × (programs_word (release_steps geo image n) (place geo b j) ≡ false)
    × (programs_word (repair_steps geo image) (place geo b j) ≡ false)

-- What placing n in slot i of block b costs, whatever the image: 131 words, 2 more where n was mapped, 2 more where this leaves no slot of
-- the block free. So 131, 133, 133 or 135.
abbrev pub PlacingCosts : Type 0
PlacingCosts =
    (geo : Geometry) (image : Image) (n : ℕ) (ws : List ℕ) (b i : ℕ) →
    let filled : Image = run geo image (fills_slot geo image (find geo image n) n ws b i) in
    words_in (placing geo image n ws b i) ≡ 131 + 2 * one_if (is_mapped geo image n) + 2 * one_if (full geo filled b)

-- The erase sum grows by exactly the reported erasures. A write takes one free slot; where it erases, it frees the victim's dead slots, which
-- are at least g, and it does so only where the free slots are one block's. A release programs one word and leaves the free slots and the wear.
abbrev pub WearAndFreeSlots : Type 0
WearAndFreeSlots =
    (geo : Geometry) (image : Image) (n : ℕ) (buffer : List ℕ) →
    Words32 image →
    Words32 buffer →
    (write_answer geo image n buffer ≡ Accepted →
    let e : ℕ = (write_outcome geo image n buffer).erasures in
    let after : Image = written geo image n buffer in
    (sum_below geo.blocks (erase_count geo after) ≡ sum_below geo.blocks (erase_count geo image) + e)
    × (sum_below geo.blocks (free_slots geo after) + 1 ≡ sum_below geo.blocks (free_slots geo image) + e * dead_slots geo image (victim geo image))
    × (e ≡ 1 → (g geo ≤ dead_slots geo image (victim geo image)) × (sum_below geo.blocks (free_slots geo image) ≡ d geo)))
    × (release_answer geo image n ≡ Accepted →
    ((release_outcome geo image n).words ≡ 1)
    × ((release_outcome geo image n).erasures ≡ 0)
    × (sum_below geo.blocks (free_slots geo (released geo image n)) ≡ sum_below geo.blocks (free_slots geo image))
    × (sum_below geo.blocks (erase_count geo (released geo image n)) ≡ sum_below geo.blocks (erase_count geo image)))
