-- What each call answers, reports and leaves, for every input, refused or not (FORMAT.md, from "Format, check, report, read, build" to "Release").
use Rattle.std.specs.Prelude.{List, [], ℕ, zero, suc, set, replicate}
use Rattle.ranges.specs.Range.{sum_below}
use Rattle.bits.specs.Word.{ones}
use Rattle.geometry.specs.declared.Geometry.{Geometry}
use Rattle.geometry.specs.Geometry.{image_length}
use Rattle.geometry.specs.Places.{place, erase_word}
use Rattle.image.specs.Found.{Found}
use Rattle.image.specs.Found.{At, Nothing}
use Rattle.image.specs.Words.{Image, erase_count, contents}
use Rattle.image.specs.Slots.{find}
use Rattle.image.specs.Blocks.{free_slots, live_slots, dead_slots}
use Rattle.tables.specs.Tables.{Table}
use Rattle.flash.specs.declared.Step.{Step}
use Rattle.flash.specs.Steps.{run, words_in, erasures_in, first_of}
use Rattle.flash.specs.Placing.{releasing}
use Rattle.flash.specs.Writing.{writing}
use Rattle.flash.specs.Repairing.{repairing}
use Rattle.flash.specs.Tables.{table_written, table_released}
use Rattle.answers.specs.Answers.{Answer, Accepted, if_accepted}
use Rattle.calls.specs.declared.Counts.{Counts}
use Rattle.calls.specs.Outcomes.{Outcome, Totals}
use Rattle.calls.specs.Refusals.{format_answer, check_answer, read_answer, write_answer, release_answer, repair_answer}

module _ (geo : Geometry) where
  -- a format: all words are ones, but for word 0 of every block, which is 0. Here word 0 of the first m blocks is set
  unfoldable pub counts_zeroed : Image → ℕ → Image
  counts_zeroed image zero = image
  counts_zeroed image (suc m) = set (counts_zeroed image m) (place geo m erase_word) 0

  unfoldable pub fresh : Image
  fresh = counts_zeroed (replicate (image_length geo) ones) geo.blocks

-- a refused report has four zeros
abbrev pub no_totals : Answer → Totals
no_totals refusal = record { answer = refusal; mapped = 0; free = 0; dead = 0; erase_sum = 0 }

module _ (geo : Geometry) (image : Image) where
  -- the image that a format leaves
  unfoldable pub formatted : Image
  formatted = if_accepted (format_answer geo image) (fresh geo) image

  -- a format programs and erases nothing that is counted
  abbrev pub format_outcome : Outcome
  format_outcome = record { answer = format_answer geo image; words = 0; erasures = 0 }

  -- a report: the mapped, free and dead slots of all blocks, and the sum of their erase counts
  abbrev pub totals_of : Totals
  totals_of =
      record {
        answer = Accepted;
        mapped = sum_below geo.blocks (live_slots geo image);
        free = sum_below geo.blocks (free_slots geo image);
        dead = sum_below geo.blocks (dead_slots geo image);
        erase_sum = sum_below geo.blocks (erase_count geo image);
      }

  unfoldable pub reported : Totals
  reported = if_accepted (check_answer geo image) totals_of (no_totals (check_answer geo image))

  -- the buffer that a read leaves: the contents of the slot that was found, or what it was
  abbrev pub copied_from : Found → List ℕ → List ℕ
  copied_from (At b i) buffer = contents geo image b i
  copied_from Nothing buffer = buffer

  abbrev pub buffer_after : Answer → ℕ → List ℕ → List ℕ
  buffer_after answer n buffer = if_accepted answer (copied_from (find geo image n) buffer) buffer

  unfoldable pub read_buffer : ℕ → List ℕ → List ℕ
  read_buffer n buffer = buffer_after (read_answer geo image n buffer) n buffer

  -- the steps of a write, of a release and of a repair (K4): none where it is refused
  abbrev pub write_steps_after : Answer → ℕ → List ℕ → List Step
  write_steps_after answer n buffer = if_accepted answer (writing geo image n buffer) []

  unfoldable pub write_steps : ℕ → List ℕ → List Step
  write_steps n buffer = write_steps_after (write_answer geo image n buffer) n buffer

  abbrev pub release_steps_after : Answer → ℕ → List Step
  release_steps_after answer n = if_accepted answer (releasing geo image n) []

  unfoldable pub release_steps : ℕ → List Step
  release_steps n = release_steps_after (release_answer geo image n) n

  unfoldable pub repair_steps : List Step
  repair_steps = if_accepted (repair_answer geo image) (repairing geo image) []

-- what a call made of steps reports: how many of them program a word, and how many erase a block
abbrev pub outcome : Answer → List Step → Outcome
outcome answer steps = record { answer = answer; words = words_in steps; erasures = erasures_in steps }

-- what is counted of steps that are carried out
abbrev pub counted : List Step → Counts
counted steps = record { words = words_in steps; erasures = erasures_in steps }

module _ (geo : Geometry) (image : Image) where
  -- a write: what it reports, and the image that it leaves
  abbrev pub write_outcome : ℕ → List ℕ → Outcome
  write_outcome n buffer = outcome (write_answer geo image n buffer) (write_steps geo image n buffer)

  abbrev pub written : ℕ → List ℕ → Image
  written n buffer = run geo image (write_steps geo image n buffer)

  -- a release: what it reports, and the image that it leaves
  abbrev pub release_outcome : ℕ → Outcome
  release_outcome n = outcome (release_answer geo image n) (release_steps geo image n)

  abbrev pub released : ℕ → Image
  released n = run geo image (release_steps geo image n)

  -- a repair (K4): what it reports, and the image that it leaves
  abbrev pub repair_outcome : Outcome
  repair_outcome = outcome (repair_answer geo image) (repair_steps geo image)

  abbrev pub repaired : Image
  repaired = run geo image (repair_steps geo image)

  -- K4: the first j steps of each: what is reported of those, and the image that they leave
  abbrev pub write_first_outcome : ℕ → List ℕ → ℕ → Outcome
  write_first_outcome n buffer j = outcome (write_answer geo image n buffer) (first_of j (write_steps geo image n buffer))

  abbrev pub written_first : ℕ → List ℕ → ℕ → Image
  written_first n buffer j = run geo image (first_of j (write_steps geo image n buffer))

  abbrev pub release_first_outcome : ℕ → ℕ → Outcome
  release_first_outcome n j = outcome (release_answer geo image n) (first_of j (release_steps geo image n))

  abbrev pub released_first : ℕ → ℕ → Image
  released_first n j = run geo image (first_of j (release_steps geo image n))

  abbrev pub repair_first_outcome : ℕ → Outcome
  repair_first_outcome j = outcome (repair_answer geo image) (first_of j (repair_steps geo image))

  abbrev pub repaired_first : ℕ → Image
  repaired_first j = run geo image (first_of j (repair_steps geo image))

  -- K2: the table that a write and a release leave, whatever its length: where they are refused it is as it was
  abbrev pub table_after_writing : Answer → ℕ → Table → Table
  table_after_writing answer n table = if_accepted answer (table_written geo image n table) table

  abbrev pub table_after_releasing : Answer → ℕ → Table → Table
  table_after_releasing answer n table = if_accepted answer (table_released geo n table) table
