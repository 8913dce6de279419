-- FORMAT.md, Figures: P1 to P9 as one table, each row what the definitions give beside what the page prints, and one statement of them all;
-- and likewise T1 to T4, of the lookup table (K2), S1 to S3, of the script program (K3), and E1 to E3, of entries in passing (K4).
use Rattle.std.specs.Prelude.{Bool, true, false, ◌&&◌, List, [], ◌∷◌, ℕ, ◌+◌, ◌-◌, ◌*◌, T, eqb, length, get_or, set, replicate}
use Rattle.bits.specs.Word.{ones}
use Rattle.geometry.specs.Geometry.{shape, filled, d, k, g, image_length}
use Rattle.geometry.specs.Places.{place, map_word, entry_word}
use Rattle.image.specs.declared.Slot.{Slot}
use Rattle.image.specs.declared.Slot.TheVariants.{Free, Live, Dead, Faulty, Superseded}
use Rattle.image.specs.Words.{entry, free_map}
use Rattle.image.specs.Slots.{slot_of, slot}
use Rattle.tables.specs.Tables.{Table, right_table}
use Rattle.answers.specs.Answers.{number_of, block_of, rule_of}
use Rattle.calls.specs.Refusals.{format_answer, check_answer}
use Rattle.calls.specs.Calls.{fresh, write_outcome, written, released}
use Rattle.tabled.specs.Calls.{write_outcome_with, write_table, release_table}
use Rattle.promises.specs.Runs.{Call, Write, ran, started}
use Rattle.records.specs.declared.Record.{Record}
use Rattle.records.specs.Records.{script_geometry, default_logical, line_of, logical_after}

-- a figure: what the definitions give, and what the page prints
pub record Figure : Type 0 where
  pub gives : ℕ
  pub prints : ℕ

infix 70 ◌is◌
abbrev pub ◌is◌ : ℕ → ℕ → Figure
a is b = record { gives = a; prints = b }

abbrev pub all_match : List Figure → Bool
all_match [] = true
all_match (f ∷ fs) = eqb f.gives f.prints && all_match fs

-- the number that a format of this geometry answers, on an image of its length: 0 where it is accepted, 1 where it is refused
abbrev pub answered : ℕ → ℕ → ℕ → ℕ
answered b s l = number_of (format_answer (shape b s l) (replicate (image_length (shape b s l)) ones))

-- what a slot is: free 0, dead 1, a fault 2, superseded 3, and live for n 4 + n
abbrev pub kind : Slot → ℕ
kind Free = 0
kind Dead = 1
kind Faulty = 2
kind Superseded = 3
kind (Live n) = 4 + n

-- sector 0 written again and again
abbrev pub four_writes : List Call
four_writes = Write 0 (filled 1) ∷ Write 0 (filled 2) ∷ Write 0 (filled 3) ∷ Write 0 (filled 4) ∷ []

abbrev pub figures : List Figure
figures =
    let three = shape 3 5 7 in
    let first = written three (fresh three) 5 (filled 1) in
    let second = written three first 5 (filled 2) in
    let two = shape 2 3 1 in
    let after1 = written two (fresh two) 0 (filled 1) in
    let after2 = written two after1 0 (filled 2) in
    let third = write_outcome two after2 0 (filled 3) in
    let four = ran two (started (fresh two)) four_writes in
    -- P1: the numbers of (8,16,90), where its entries lie, and the image's length
    d (shape 8 16 90) is 15
    ∷ k (shape 8 16 90) is 1
    ∷ g (shape 8 16 90) is 3
    ∷ entry_word (shape 8 16 90) 0 is 4
    ∷ entry_word (shape 8 16 90) 14 is 18
    ∷ image_length (shape 8 16 90) is 16_384
    -- P2: the most logical sectors of (8,16), and one more
    ∷ answered 8 16 104 is 0
    ∷ g (shape 8 16 104) is 1
    ∷ answered 8 16 105 is 1
    -- P3: the smallest geometries
    ∷ answered 2 2 1 is 1
    ∷ answered 2 3 1 is 0
    ∷ g (shape 2 3 1) is 1
    ∷ answered 3 2 1 is 0
    ∷ g (shape 3 2 1) is 1
    -- P4: the largest, and one logical sector more
    ∷ answered 64 64 3968 is 0
    ∷ k (shape 64 64 3968) is 2
    ∷ answered 64 64 3969 is 1
    -- P5: with L 90 an entry live for 89, a fault, and two that are dead; the map bit of an entry in use is clear
    ∷ kind (slot_of 90 false 0xC0000059) is (4 + 89)
    ∷ kind (slot_of 90 false 0xC000005A) is 2
    ∷ kind (slot_of 90 false 0xE0000005) is 1
    ∷ kind (slot_of 90 false 0x40000005) is 1
    -- P6: the first write of 5 on a fresh (3,5,7)
    ∷ d three is 4
    ∷ g three is 1
    ∷ free_map three first 0 0 is 0xFFFFFFFE
    ∷ entry three first 0 0 is 0xC0000005
    ∷ (write_outcome three (fresh three) 5 (filled 1)).words is 131
    -- P7: the second write of 5
    ∷ entry three second 0 0 is 0x00000005
    ∷ free_map three second 0 0 is 0xFFFFFFFC
    ∷ (write_outcome three first 5 (filled 2)).words is 133
    -- P8: a release after the first write of 5
    ∷ entry three (released three first 5) 0 0 is 0x40000005
    -- P9: three writes of 0 at (2,3,1), of which the third erases and meets the bound of a write; a fourth, which meets the run bound
    ∷ (write_outcome two (fresh two) 0 (filled 1)).words is 131
    ∷ (write_outcome two after1 0 (filled 2)).words is 135
    ∷ third.words is 269
    ∷ third.erasures is 1
    ∷ number_of third.answer is 0
    ∷ (133 * (d two - g two) + 136) is 269
    ∷ four.erasures is 2
    ∷ four.writes is 4
    ∷ ((2 - 1) * d two + g two * (four.erasures - 1) + 1) is 4
    ∷ []

-- P1 to P9
abbrev pub P1-to-P9 : Type 0
P1-to-P9 = T (all_match figures)

-- the word of n
abbrev pub word_of : Table → ℕ → ℕ
word_of table n = get_or table n 0

abbrev pub table_figures : List Figure
table_figures =
    let three = shape 3 5 7 in
    let first = written three (fresh three) 5 (filled 1) in
    let right = right_table three first in
    let two = shape 2 4 2 in
    let wrong : Table = 7 ∷ 9 ∷ [] in
    let filled1 = written two (fresh two) 0 (filled 1) in
    let filled2 = written two filled1 1 (filled 2) in
    let filled3 = written two filled2 1 (filled 3) in
    let left = write_table two filled3 1 (filled 4) wrong in
    -- T1: the right table after P6
    length right is 7
    ∷ word_of right 0 is 0xFFFF
    ∷ word_of right 1 is 0xFFFF
    ∷ word_of right 2 is 0xFFFF
    ∷ word_of right 3 is 0xFFFF
    ∷ word_of right 4 is 0xFFFF
    ∷ word_of right 5 is 0
    ∷ word_of right 6 is 0xFFFF
    -- T2: P7 with that table
    ∷ word_of (write_table three first 5 (filled 2) right) 5 is 1
    -- T3: P8 with that table
    ∷ word_of (release_table three first 5 right) 5 is 0xFFFF
    -- T4: 1 is written with a wrong table where it has to reclaim, and 0 is moved
    ∷ (write_outcome_with two filled3 1 (filled 4) wrong).erasures is 1
    ∷ word_of left 0 is 3
    ∷ word_of left 1 is 5
    ∷ []

-- T1 to T4
abbrev pub T1-to-T4 : Type 0
T1-to-T4 = T (all_match table_figures)

-- a script with the default L, on an image of its length: none of these records looks further at it
abbrev pub any_image : List ℕ
any_image = replicate (image_length (script_geometry default_logical)) ones

abbrev pub record_for : ℕ → ℕ → Record
record_for operation number = record { operation = operation; number = number; fill = 0 }

-- the answer of a record, and the L after an operation 4
abbrev pub answer_of : ℕ → ℕ → ℕ
answer_of operation number = (line_of any_image default_logical (record_for operation number)).answer

abbrev pub logical_of : ℕ → ℕ
logical_of number = logical_after any_image default_logical (record_for 4 number)

abbrev pub script_figures : List Figure
script_figures =
    let default = script_geometry default_logical in
    -- S1: what a script starts with
    default_logical is 70
    ∷ answered 8 16 default_logical is 0
    ∷ d default is 15
    ∷ g default is 5
    ∷ (133 * (d default - g default) + 136) is 1466
    -- S2: a write, a read and a release of a number that is not below L
    ∷ answer_of 1 70 is 3
    ∷ answer_of 2 70 is 3
    ∷ answer_of 3 70 is 3
    ∷ answer_of 1 89 is 3
    -- S3: operation 4, on both sides of the limits of L
    ∷ answer_of 4 0 is 1
    ∷ logical_of 0 is 70
    ∷ answer_of 4 1 is 0
    ∷ logical_of 1 is 1
    ∷ answer_of 4 104 is 0
    ∷ logical_of 104 is 104
    ∷ answer_of 4 105 is 1
    ∷ logical_of 105 is 70
    ∷ answer_of 4 0xFFFFFFFF is 1
    ∷ logical_of 0xFFFFFFFF is 70
    ∷ []

-- S1 to S3
abbrev pub S1-to-S3 : Type 0
S1-to-S3 = T (all_match script_figures)

abbrev pub passing_figures : List Figure
passing_figures =
    let three = shape 3 5 7 in
    let first = written three (fresh three) 5 (filled 1) in
    -- P6 with the entry of 5 in passing; and then with a complete one beside it, in slot 1
    let passing = set first (place three 0 (entry_word three 0)) 0x80000005 in
    let both = set (set passing (place three 0 (map_word 1)) 0xFFFFFFFC) (place three 0 (entry_word three 1)) 0xC0000005 in
    -- E1: with L 90 an entry in passing live for 89, one of number L, and a free entry with its map bit set and clear
    kind (slot_of 90 false 0x80000059) is (4 + 89)
    ∷ kind (slot_of 90 false 0x8000005A) is 1
    ∷ kind (slot_of 90 true 0xFFFFFFFF) is 0
    ∷ kind (slot_of 90 false 0xFFFFFFFF) is 1
    -- E2: the number in passing is live; a write of it, and a release, are accepted
    ∷ kind (slot three passing 0 0) is (4 + 5)
    ∷ (write_outcome three passing 5 (filled 2)).words is 133
    ∷ entry three (released three passing 5) 0 0 is 0x00000005
    -- E3: beside a complete one it is superseded, which rule 8 names
    ∷ kind (slot three both 0 0) is 3
    ∷ kind (slot three both 0 1) is (4 + 5)
    ∷ block_of (check_answer three both) is 0
    ∷ rule_of (check_answer three both) is 8
    ∷ []

-- E1 to E3
abbrev pub E1-to-E3 : Type 0
E1-to-E3 = T (all_match passing_figures)
