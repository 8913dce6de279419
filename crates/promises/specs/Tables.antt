-- K2: what a lookup table changes and what not, as statements. proofs/Tables.antt proves each under the name in small letters.
use Rattle.std.specs.Prelude.{◌≡◌, ◌≢◌, ◌⊎◌, true, false, List, [], ℕ, ◌<◌, length, get_or, Err}
use Rattle.geometry.specs.declared.Geometry.{Geometry}
use Rattle.geometry.specs.Geometry.{Limits, d}
use Rattle.image.specs.Found.{At}
use Rattle.image.specs.Words.{Image, Words32}
use Rattle.image.specs.Slots.{find, live_in}
use Rattle.image.specs.Blocks.{victim}
use Rattle.tables.specs.Tables.{Table, nowhere, place_word, right_table}
use Rattle.flash.specs.Writing.{must_reclaim}
use Rattle.answers.specs.declared.Refusal.TheVariants.{BadBuffer}
use Rattle.answers.specs.Answers.{Accepted}
use Rattle.calls.specs.Refusals.{format_answer, check_answer, read_answer}
use Rattle.calls.specs.Calls.{read_buffer, outcome, write_outcome, written, release_outcome, released}
use Rattle.tabled.specs.Refusals.{build_rows, read_rows_with, write_rows_with, release_rows_with, build_answer, read_answer_with, write_answer_with, release_answer_with}
use Rattle.tabled.specs.Calls.{table_built, read_buffer_with, write_outcome_with, written_with, write_table, release_outcome_with, released_with, release_table}
use Rattle.promises.specs.Demands.{GivenExactly, NamesThePair}

-- What a right table is: a word for each number, and each is what `find` says of its number. No two slots have the same word, and none has
-- that of a number that is live nowhere.
abbrev pub RightWords : Type 0
RightWords =
    (geo : Geometry) (image : Image) →
    (length (right_table geo image) ≡ geo.logical)
    × ((n : ℕ) → n < geo.logical → get_or (right_table geo image) n 0 ≡ place_word geo (find geo image n))
    × (Limits geo →
    (b c i j : ℕ) →
    b < geo.blocks →
    i < d geo →
    j < d geo →
    (place_word geo (At b i) < nowhere) × (place_word geo (At b i) ≡ place_word geo (At c j) → (b ≡ c) × (i ≡ j)))

-- Each call gives a refusal exactly when its row says, in the table's order; and refusal 4 names the first failing pair (K1).
abbrev pub RefusalsWithATable : Type 0
RefusalsWithATable =
    (geo : Geometry) (image : Image) (n : ℕ) (buffer : List ℕ) (table : Table) →
    GivenExactly (build_answer geo image table) (build_rows geo image table)
    × GivenExactly (read_answer_with geo image n buffer table) (read_rows_with geo image n buffer table)
    × GivenExactly (write_answer_with geo image n buffer table) (write_rows_with geo image n buffer table)
    × GivenExactly (release_answer_with geo image n table) (release_rows_with geo image n table)
    × NamesThePair geo image (build_answer geo image table)
    × NamesThePair geo image (read_answer_with geo image n buffer table)
    × NamesThePair geo image (write_answer_with geo image n buffer table)
    × NamesThePair geo image (release_answer_with geo image n table)

-- With a table of a word for each number, whatever the words are, answer, counts, image and buffer are those of the call without it. A table
-- is built where a check accepts the image.
abbrev pub SameWithAnyTable : Type 0
SameWithAnyTable =
    (geo : Geometry) (image : Image) (n : ℕ) (buffer : List ℕ) (table : Table) →
    length table ≡ geo.logical →
    (build_answer geo image table ≡ check_answer geo image)
    × (read_answer_with geo image n buffer table ≡ read_answer geo image n buffer)
    × (read_buffer_with geo image n buffer table ≡ read_buffer geo image n buffer)
    × (write_outcome_with geo image n buffer table ≡ write_outcome geo image n buffer)
    × (written_with geo image n buffer table ≡ written geo image n buffer)
    × (release_outcome_with geo image n table ≡ release_outcome geo image n)
    × (released_with geo image n table ≡ released geo image n)

-- All four calls answer 2 for a table of another length, unless the geometry or the image's length is refused with 1.
abbrev pub AnotherLengthIsRefused : Type 0
AnotherLengthIsRefused =
    (geo : Geometry) (image : Image) (n : ℕ) (buffer : List ℕ) (table : Table) →
    format_answer geo image ≡ Accepted →
    length table ≢ geo.logical →
    (build_answer geo image table ≡ Err BadBuffer)
    × (read_answer_with geo image n buffer table ≡ Err BadBuffer)
    × (write_answer_with geo image n buffer table ≡ Err BadBuffer)
    × (release_answer_with geo image n table ≡ Err BadBuffer)

-- A refused call changes no word of table, image or buffer, and reports zeros.
abbrev pub RefusedChangesNoTable : Type 0
RefusedChangesNoTable =
    (geo : Geometry) (image : Image) (n : ℕ) (buffer : List ℕ) (table : Table) →
    (build_answer geo image table ≢ Accepted → table_built geo image table ≡ table)
    × (read_answer_with geo image n buffer table ≢ Accepted → read_buffer_with geo image n buffer table ≡ buffer)
    × (write_answer_with geo image n buffer table ≢ Accepted →
    (write_table geo image n buffer table ≡ table)
    × (written_with geo image n buffer table ≡ image)
    × (write_outcome_with geo image n buffer table ≡ outcome (write_answer_with geo image n buffer table) []))
    × (release_answer_with geo image n table ≢ Accepted →
    (release_table geo image n table ≡ table)
    × (released_with geo image n table ≡ image)
    × (release_outcome_with geo image n table ≡ outcome (release_answer_with geo image n table) []))

-- A table that is built is right, whatever it held; and one that was right before an accepted write or release is right after it, a write
-- with a reclaim included. (A read changes neither image nor table: it is lent both to look at.)
abbrev pub RightTablesStayRight : Type 0
RightTablesStayRight =
    (geo : Geometry) (image : Image) (n : ℕ) (buffer : List ℕ) (table : Table) →
    (build_answer geo image table ≡ Accepted → table_built geo image table ≡ right_table geo image)
    × (Words32 image →
    table ≡ right_table geo image →
    (Words32 buffer →
    write_answer_with geo image n buffer table ≡ Accepted →
    write_table geo image n buffer table ≡ right_table geo (written_with geo image n buffer table))
    × (release_answer_with geo image n table ≡ Accepted →
    release_table geo image n table ≡ right_table geo (released_with geo image n table)))

-- Of any table, right or wrong, a release sets the word of its number alone, and a write leaves the word of every number but its own and those
-- that are live in the block that it reclaims. Neither changes the length.
abbrev pub OtherWordsStay : Type 0
OtherWordsStay =
    (geo : Geometry) (image : Image) (n m : ℕ) (buffer : List ℕ) (table : Table) →
    (length (write_table geo image n buffer table) ≡ length table)
    × (length (release_table geo image n table) ≡ length table)
    × (Words32 image →
    m ≢ n →
    (must_reclaim geo image ≡ true → live_in geo image (victim geo image) m ≡ false) →
    get_or (write_table geo image n buffer table) m 0 ≡ get_or table m 0)
    × (m ≢ n → get_or (release_table geo image n table) m 0 ≡ get_or table m 0)
    × (release_answer_with geo image n table ≡ Accepted → get_or (release_table geo image n table) n 0 ≡ nowhere)

-- And of any table, right or wrong, the words that an accepted write sets are right after it: that of its own number, and those of the numbers
-- that are live in the block that it reclaims.
abbrev pub SetWordsAreRight : Type 0
SetWordsAreRight =
    (geo : Geometry) (image : Image) (n m : ℕ) (buffer : List ℕ) (table : Table) →
    Words32 image →
    Words32 buffer →
    write_answer_with geo image n buffer table ≡ Accepted →
    m < geo.logical →
    ((m ≡ n) ⊎ ((must_reclaim geo image ≡ true) × (live_in geo image (victim geo image) m ≡ true))) →
    get_or (write_table geo image n buffer table) m 0 ≡ place_word geo (find geo (written_with geo image n buffer table) m)
