-- The three demands as statements, in the order of README.md's promises. proofs/Demands.antt proves each under the name in small letters.
-- Some statements ask that an image, or a buffer to write, is of 32-bit words (Words32): every slice is (image::slots::words_in).
use Rattle.std.specs.Prelude.{◌≡◌, ◌≢◌, ◌↔◌, Bool, true, false, not, cond, ◌&&◌, List, [], ◌∷◌, ℕ, ◌+◌, ◌-◌, ◌*◌, ◌/◌, ◌≤◌, ◌<◌, eqb, length, Err}
use Rattle.std.proofs.Math.Option.{some, none}
use Rattle.ranges.specs.Range.{sum_below}
use Rattle.bits.specs.Word.{is_set}
use Rattle.geometry.specs.declared.Geometry.{Geometry}
use Rattle.geometry.specs.Geometry.{d, g, block_length}
use Rattle.image.specs.Words.{Image, Words32, word, erase_count}
use Rattle.image.specs.Slots.{map_of}
use Rattle.image.specs.Blocks.{free_slots, victim}
use Rattle.image.specs.WellFormed.{R6, well_formed}
use Rattle.image.specs.Mending.{emptiest}
use Rattle.image.specs.Faults.{first_fault}
use Rattle.flash.specs.Steps.{programmed_at, run, erases_block, leaves_asked}
use Rattle.flash.specs.Placing.{releasing}
use Rattle.flash.specs.Writing.{must_reclaim, writing}
use Rattle.flash.specs.Repairing.{repairing}
use Rattle.answers.specs.declared.Refusal.TheVariants.{Unmapped}
use Rattle.answers.specs.Answers.{Answer, Accepted, number_of, block_of, rule_of}
use Rattle.calls.specs.Refusals.{Row, format_rows, check_rows, read_rows, write_rows, release_rows, repair_rows, format_answer, check_answer, read_answer, write_answer, release_answer, repair_answer}
use Rattle.calls.specs.Calls.{formatted, no_totals, reported, read_buffer, write_steps, write_outcome, written, release_outcome, released, repair_steps, repair_outcome, repaired, outcome}
use Rattle.promises.specs.Runs.{Call, State, ran, uncut, started}

-- ---- Demand 1. Whatever is handed in, nothing traps: no public function of the crates `shellwaltz` and `tabled` has a `requires`, and a proved function does
-- nothing undefined and returns.

-- the row numbered k is the first of these that applies
abbrev pub is_first : ℕ → List Row → Bool
is_first k [] = false
is_first k (r ∷ rs) = cond r.applies (eqb r.number k) (is_first k rs)

-- none of these rows applies
abbrev pub none_applies : List Row → Bool
none_applies [] = true
none_applies (r ∷ rs) = not r.applies && none_applies rs

-- The number of the answer is k exactly when the row numbered k is the first that applies; it is 0, and the call accepted, exactly when
-- none does.
abbrev pub GivenExactly : Answer → List Row → Type 0
GivenExactly answer rows =
    ((k : ℕ) → 1 ≤ k → (number_of answer ≡ k) ↔ (is_first k rows ≡ true))
    × ((number_of answer ≡ 0) ↔ (none_applies rows ≡ true))
    × ((answer ≡ Accepted) ↔ (number_of answer ≡ 0))

-- Refusals: each call gives a refusal exactly when its row of the table says, in the table's order. A report answers as a check does.
abbrev pub Refusals : Type 0
Refusals =
    (geo : Geometry) (image : Image) (n : ℕ) (buffer : List ℕ) →
    GivenExactly (format_answer geo image) (format_rows geo image)
    × GivenExactly (check_answer geo image) (check_rows geo image)
    × ((reported geo image).answer ≡ check_answer geo image)
    × GivenExactly (read_answer geo image n buffer) (read_rows geo image n buffer)
    × GivenExactly (write_answer geo image n buffer) (write_rows geo image n buffer)
    × GivenExactly (release_answer geo image n) (release_rows geo image n)
    × GivenExactly (repair_answer geo image) (repair_rows geo image)

-- K1: refusal 4 names the first failing pair (image/specs/Faults), whichever call gives it; any other answer names block 0 and rule 0.
abbrev pub NamesThePair : Geometry → Image → Answer → Type 0
NamesThePair geo image answer =
    (number_of answer ≡ 4 → (block_of answer ≡ (first_fault geo image).block) × (rule_of answer ≡ (first_fault geo image).rule))
    × (number_of answer ≢ 4 → (block_of answer ≡ 0) × (rule_of answer ≡ 0))

abbrev pub EveryAnswerNamesThePair : Type 0
EveryAnswerNamesThePair =
    (geo : Geometry) (image : Image) (n : ℕ) (buffer : List ℕ) →
    NamesThePair geo image (format_answer geo image)
    × NamesThePair geo image (check_answer geo image)
    × NamesThePair geo image (reported geo image).answer
    × NamesThePair geo image (read_answer geo image n buffer)
    × NamesThePair geo image (write_answer geo image n buffer)
    × NamesThePair geo image (release_answer geo image n)
    × NamesThePair geo image (repair_answer geo image)

-- A refused call changes no word of image or buffer, and reports zeros.
abbrev pub RefusedChangesNothing : Type 0
RefusedChangesNothing =
    (geo : Geometry) (image : Image) (n : ℕ) (buffer : List ℕ) →
    (format_answer geo image ≢ Accepted → formatted geo image ≡ image)
    × (check_answer geo image ≢ Accepted → reported geo image ≡ no_totals (check_answer geo image))
    × (read_answer geo image n buffer ≢ Accepted → read_buffer geo image n buffer ≡ buffer)
    × (write_answer geo image n buffer ≢ Accepted →
    (written geo image n buffer ≡ image) × (write_outcome geo image n buffer ≡ outcome (write_answer geo image n buffer) []))
    × (release_answer geo image n ≢ Accepted →
    (released geo image n ≡ image) × (release_outcome geo image n ≡ outcome (release_answer geo image n) []))
    × (repair_answer geo image ≢ Accepted → (repaired geo image ≡ image) × (repair_outcome geo image ≡ outcome (repair_answer geo image) []))

-- ---- Demand 2.

-- Reading returns what is mapped; and where it answers that nothing is, nothing is.
abbrev pub ReadReturnsTheMap : Type 0
ReadReturnsTheMap =
    (geo : Geometry) (image : Image) (n : ℕ) (buffer : List ℕ) →
    (read_answer geo image n buffer ≡ Accepted → map_of geo image n ≡ some (read_buffer geo image n buffer))
    × (read_answer geo image n buffer ≡ Err Unmapped → map_of geo image n ≡ none)

-- An accepted write leaves the image that its steps (FORMAT.md, Writing) make of the old one, well formed again, and the map with that
-- one sector set.
abbrev pub WriteSetsOneSector : Type 0
WriteSetsOneSector =
    (geo : Geometry) (image : Image) (n : ℕ) (buffer : List ℕ) →
    Words32 image →
    Words32 buffer →
    write_answer geo image n buffer ≡ Accepted →
    (written geo image n buffer ≡ run geo image (writing geo image n buffer))
    × (well_formed geo (written geo image n buffer) ≡ true)
    × (map_of geo (written geo image n buffer) n ≡ some buffer)
    × ((m : ℕ) → m ≢ n → map_of geo (written geo image n buffer) m ≡ map_of geo image m)

-- An accepted release likewise, with that one sector removed.
abbrev pub ReleaseRemovesOneSector : Type 0
ReleaseRemovesOneSector =
    (geo : Geometry) (image : Image) (n : ℕ) →
    Words32 image →
    release_answer geo image n ≡ Accepted →
    (released geo image n ≡ run geo image (releasing geo image n))
    × (well_formed geo (released geo image n) ≡ true)
    × (map_of geo (released geo image n) n ≡ none)
    × ((m : ℕ) → m ≢ n → map_of geo (released geo image n) m ≡ map_of geo image m)

-- Programming only clears bits. Of one step, whatever word is asked for at whatever place q of whatever image: no word p has a bit that it had not.
abbrev pub AStepOnlyClears : Type 0
AStepOnlyClears =
    (image : Image) (q asked p j : ℕ) → is_set (word (programmed_at image q asked) p) j ≡ true → is_set (word image p) j ≡ true

-- Of a call: after a release every word has only bits that it had, and so has after a write or a repair (K4) every word but those of a block that it
-- erased. A write erases none but the victim, and that only where it has to reclaim.
abbrev pub ProgrammingOnlyClears : Type 0
ProgrammingOnlyClears =
    (geo : Geometry) (image : Image) (n : ℕ) (buffer : List ℕ) (p j : ℕ) →
    p < length image →
    (is_set (word (released geo image n) p) j ≡ true → is_set (word image p) j ≡ true)
    × (erases_block (write_steps geo image n buffer) (p / block_length geo) ≡ false →
    is_set (word (written geo image n buffer) p) j ≡ true →
    is_set (word image p) j ≡ true)
    × (erases_block (repair_steps geo image) (p / block_length geo) ≡ false →
    is_set (word (repaired geo image) p) j ≡ true →
    is_set (word image p) j ≡ true)

abbrev pub OnlyTheVictimIsErased : Type 0
OnlyTheVictimIsErased =
    (geo : Geometry) (image : Image) (n b : ℕ) (buffer : List ℕ) →
    Words32 image →
    Words32 buffer →
    erases_block (write_steps geo image n buffer) b ≡ true →
    (must_reclaim geo image ≡ true) × (b ≡ victim geo image) × ((write_outcome geo image n buffer).erasures ≡ 1)

-- K4: a repair erases none but the emptiest of the full blocks, and that only where no block is blank
abbrev pub OnlyTheEmptiestIsErased : Type 0
OnlyTheEmptiestIsErased =
    (geo : Geometry) (image : Image) (b : ℕ) →
    Words32 image →
    erases_block (repair_steps geo image) b ≡ true →
    (R6 geo image ≡ false) × (b ≡ emptiest geo image) × ((repair_outcome geo image).erasures ≡ 1)

-- and each step of an accepted call leaves exactly the word that it asks for
abbrev pub StepsLeaveTheAskedWord : Type 0
StepsLeaveTheAskedWord =
    (geo : Geometry) (image : Image) (n : ℕ) (buffer : List ℕ) →
    Words32 image →
    Words32 buffer →
    (write_answer geo image n buffer ≡ Accepted → leaves_asked geo image (writing geo image n buffer) ≡ true)
    × (release_answer geo image n ≡ Accepted → leaves_asked geo image (releasing geo image n) ≡ true)
    × (repair_answer geo image ≡ Accepted → leaves_asked geo image (repairing geo image) ≡ true)

-- ---- Demand 3.

-- An accepted write erases at most one block, and programs at most 133·(d − g) + 136 words; without an erasure at most 135.
abbrev pub WriteBound : Type 0
WriteBound =
    (geo : Geometry) (image : Image) (n : ℕ) (buffer : List ℕ) →
    Words32 image →
    Words32 buffer →
    write_answer geo image n buffer ≡ Accepted →
    ((write_outcome geo image n buffer).erasures ≤ 1)
    × ((write_outcome geo image n buffer).words ≤ 133 * (d geo - g geo) + 136)
    × ((write_outcome geo image n buffer).erasures ≡ 0 → (write_outcome geo image n buffer).words ≤ 135)

-- A run of calls from a format on, without a cut (K4), with w accepted writes and at least one erasure: E erasures need (B − 1)·d + g·(E − 1) + 1 writes or
-- more. The erase counts add up to E.
abbrev pub RunBound : Type 0
RunBound =
    (geo : Geometry) (before : Image) (calls : List Call) →
    format_answer geo before ≡ Accepted →
    uncut geo (started (formatted geo before)) calls ≡ true →
    let end : State = ran geo (started (formatted geo before)) calls in
    (1 ≤ end.erasures → (geo.blocks - 1) * d geo + g geo * (end.erasures - 1) + 1 ≤ end.writes)
    × (sum_below geo.blocks (erase_count geo end.image) ≡ end.erasures)

-- The same from any well-formed image with F0 free slots: F0 + g·(E − 1) + 1 ≤ w + d, and the erase sum grows by E.
abbrev pub RunBoundFromAny : Type 0
RunBoundFromAny =
    (geo : Geometry) (image : Image) (calls : List Call) →
    check_answer geo image ≡ Accepted →
    Words32 image →
    uncut geo (started image) calls ≡ true →
    let end : State = ran geo (started image) calls in
    (1 ≤ end.erasures → sum_below geo.blocks (free_slots geo image) + g geo * (end.erasures - 1) + 1 ≤ end.writes + d geo)
    × (sum_below geo.blocks (erase_count geo end.image) ≡ sum_below geo.blocks (erase_count geo image) + end.erasures)
