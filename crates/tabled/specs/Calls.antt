-- K2: what each call that takes a lookup table answers, reports and leaves, the table included, for every input (FORMAT.md, The lookup
-- table). Counts, image and buffer are made of the answer by the definitions of the calls without one; only the rows look at the table.
use Rattle.std.specs.Prelude.{List, ℕ}
use Rattle.geometry.specs.declared.Geometry.{Geometry}
use Rattle.image.specs.Words.{Image}
use Rattle.tables.specs.Tables.{Table, right_table}
use Rattle.flash.specs.declared.Step.{Step}
use Rattle.flash.specs.Steps.{run}
use Rattle.answers.specs.Answers.{if_accepted}
use Rattle.calls.specs.Outcomes.{Outcome}
use Rattle.tabled.specs.Refusals.{build_answer, read_answer_with, write_answer_with, release_answer_with}
use Rattle.calls.specs.Calls.{buffer_after, write_steps_after, release_steps_after, outcome, table_after_writing, table_after_releasing}

module _ (geo : Geometry) (image : Image) where
  -- the building of a table: the right one, whatever it held
  unfoldable pub table_built : Table → Table
  table_built table = if_accepted (build_answer geo image table) (right_table geo image) table

  -- a read: the buffer; it leaves the table
  unfoldable pub read_buffer_with : ℕ → List ℕ → Table → List ℕ
  read_buffer_with n buffer table = buffer_after geo image (read_answer_with geo image n buffer table) n buffer

  -- a write: its steps, what it reports, the image, and the table: the words of the written number and of those that a reclaim moved are set
  unfoldable pub write_steps_with : ℕ → List ℕ → Table → List Step
  write_steps_with n buffer table = write_steps_after geo image (write_answer_with geo image n buffer table) n buffer

  abbrev pub write_outcome_with : ℕ → List ℕ → Table → Outcome
  write_outcome_with n buffer table = outcome (write_answer_with geo image n buffer table) (write_steps_with n buffer table)

  abbrev pub written_with : ℕ → List ℕ → Table → Image
  written_with n buffer table = run geo image (write_steps_with n buffer table)

  unfoldable pub write_table : ℕ → List ℕ → Table → Table
  write_table n buffer table = table_after_writing geo image (write_answer_with geo image n buffer table) n table

  -- a release likewise: the word of its number is set
  unfoldable pub release_steps_with : ℕ → Table → List Step
  release_steps_with n table = release_steps_after geo image (release_answer_with geo image n table) n

  abbrev pub release_outcome_with : ℕ → Table → Outcome
  release_outcome_with n table = outcome (release_answer_with geo image n table) (release_steps_with n table)

  abbrev pub released_with : ℕ → Table → Image
  released_with n table = run geo image (release_steps_with n table)

  unfoldable pub release_table : ℕ → Table → Table
  release_table n table = table_after_releasing geo image (release_answer_with geo image n table) n table
