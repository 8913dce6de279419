-- The statements of specs/Tables, proved: K2. Assumes nothing.
use mathlib.Core.Path.{◌≡◌, refl, ap, ◌∙◌}
use mathlib.Core.Logic.{◌≢◌, inl, inr}
use mathlib.Core.Bool.{true, false}
use mathlib.Core.List.{[]}
use native.Mathlib.Omega.{arith}
use lib.ListN.{length, get_or}
use lib.Seq.{get_or-set_same, get_or-set_other}
use borrow.Author.Tests.{eq-eqb, ne_eqb}
use Rattle.geometry.specs.Geometry.{d}
use Rattle.geometry.proofs.Laws.{rows_apart}
use Rattle.image.specs.Words.{Words32}
use Rattle.image.specs.Slots.{live_in, find}
use Rattle.image.specs.Blocks.{victim}
use Rattle.tables.specs.Tables.{Table, nowhere, right_table}
use Rattle.tables.proofs.Laws.{word_small, right-long, right-at}
use Rattle.flash.specs.Steps.{run}
use Rattle.flash.specs.Placing.{releasing}
use Rattle.flash.specs.Writing.{must_reclaim, writing}
use Rattle.flash.specs.Tables.{table_written, table_released}
use Rattle.flash.proofs.Stores.{run_none}
use Rattle.flash.proofs.Tables.{written-long, released-long}
use Rattle.answers.specs.Answers.{Accepted}
use Rattle.answers.proofs.Acceptance.{accepted?, if-accepted, if-refused}
use Rattle.calls.specs.Refusals.{format_rows, format_answer}
use Rattle.calls.specs.Calls.{copied_from, read_buffer, outcome, write_steps, release_steps}
use Rattle.calls.proofs.Rows.{NoneApplies, none-applies}
use Rattle.tabled.specs.Refusals.{build_rows, read_rows_with, write_rows_with, release_rows_with, build_answer, read_answer_with, write_answer_with, release_answer_with}
use Rattle.tabled.specs.Calls.{table_built, read_buffer_with, write_steps_with, write_table, release_steps_with, release_table}
use Rattle.tabled.proofs.TableLaws.{build-checks, read_alike, write-alike, release-alike}
use Rattle.promises.specs.Tables.{RightWords, RefusalsWithATable, SameWithAnyTable, AnotherLengthIsRefused, RefusedChangesNoTable, RightTablesStayRight, OtherWordsStay, SetWordsAreRight}
use Rattle.promises.proofs.Given.{given-exactly, names-the-pair, if-either}
use Rattle.calls.proofs.AcceptedCalls.{write-others, write-right, write-sets, release-right}
use Rattle.promises.proofs.Accepted.{write-too, write-has-words, release-too, release-has-word}

pub right-words : RightWords
right-words geo image = (
  right-long geo image,
  λ n l. right-at geo image l,
  λ within b c i j l h k. (omega (arith, word_small geo within l h), rows_apart (d geo) b c i j h k),
)

pub refusals-with-a-table : RefusalsWithATable
unfolding build_answer read_answer_with write_answer_with release_answer_with
refusals-with-a-table geo image n buffer table = (
  given-exactly (build_rows geo image table) refl,
  given-exactly (read_rows_with geo image n buffer table) refl,
  given-exactly (write_rows_with geo image n buffer table) refl,
  given-exactly (release_rows_with geo image n table) refl,
  names-the-pair geo image (build_rows geo image table) (inl refl, (inl refl, (inr refl, tt))),
  names-the-pair geo image (read_rows_with geo image n buffer table) (inl refl, (inl refl, (inl refl, (inr refl, (inl refl, tt))))),
  names-the-pair geo image (write_rows_with geo image n buffer table) (inl refl, (inl refl, (inl refl, (inr refl, (inl refl, tt))))),
  names-the-pair geo image (release_rows_with geo image n table) (inl refl, (inl refl, (inl refl, (inr refl, (inl refl, tt))))),
)

pub same-with-any-table : SameWithAnyTable
unfolding read_buffer read_buffer_with write_steps write_steps_with release_steps release_steps_with
same-with-any-table geo image n buffer table long =
    let fits = eq-eqb _ _ long in
    let reads = read_alike geo image table fits n buffer in
    let writes = write-alike geo image table fits n buffer in
    let releases = release-alike geo image table fits n in (
      build-checks geo image table fits,
      reads,
      rw reads,
      rw writes,
      rw writes,
      rw releases,
      rw releases,
    )

pub another-length-is-refused : AnotherLengthIsRefused
unfolding format_answer build_answer read_answer_with write_answer_with release_answer_with
another-length-is-refused geo image n buffer table formats other =
    let rows : NoneApplies (format_rows geo image) = none-applies (format_rows geo image) formats in
    let not-so-long = ne_eqb _ _ other in
    rw (rows.0, not-so-long) (refl, refl, refl, refl)

pub refused-changes-no-table : RefusedChangesNoTable
unfolding table_built read_buffer_with write_steps_with write_table release_steps_with release_table
refused-changes-no-table geo image n buffer table = (
  λ no. if-refused (build_answer geo image table) (right_table geo image) table no,
  λ no. if-refused (read_answer_with geo image n buffer table) (copied_from geo image (find geo image n) buffer) buffer no,
  λ no.
      let answer = write_answer_with geo image n buffer table in
      let none_done = if-refused answer (writing geo image n buffer) [] no in (
        if-refused answer (table_written geo image n table) table no,
        ap (run geo image) none_done ∙ run_none geo image,
        ap (outcome answer) none_done,
      ),
  λ no.
      let answer = release_answer_with geo image n table in
      let none_done = if-refused answer (releasing geo image n) [] no in (
        if-refused answer (table_released geo n table) table no,
        ap (run geo image) none_done ∙ run_none geo image,
        ap (outcome answer) none_done,
      ),
)

pub right-tables-stay-right : RightTablesStayRight
unfolding table_built write_steps_with write_table release_steps_with release_table
right-tables-stay-right geo image n buffer table = (
  λ yes-built. if-accepted (right_table geo image) table yes-built,
  λ words right. (
    λ handed yes-wrote.
        rw (if-accepted (table_written geo image n table) table yes-wrote, if-accepted (writing geo image n buffer) [] yes-wrote, right)
        (write-right geo image n buffer words handed (write-too geo image n buffer table yes-wrote)),
    λ yes-freed.
        rw (if-accepted (table_released geo n table) table yes-freed, if-accepted (releasing geo image n) [] yes-freed, right)
        (release-right geo image n words (release-too geo image n table yes-freed)),
  ),
)

pub other-words-stay : OtherWordsStay
unfolding write_table release_table table_released
other-words-stay geo image n m buffer table = (
  if-either length (write_answer_with geo image n buffer table) (written-long geo image n table) refl,
  if-either length (release_answer_with geo image n table) (released-long geo n table) refl,
  λ words other still. wrote words other still (accepted? (write_answer_with geo image n buffer table)),
  λ other.
      if-either (λ (t : Table). get_or t m 0) (release_answer_with geo image n table) (get_or-set_other table n m nowhere 0 other) refl,
  λ yes-freed. freed yes-freed,
)
  where
    wrote :
        Words32 image →
        m ≢ n →
        (must_reclaim geo image ≡ true → live_in geo image (victim geo image) m ≡ false) →
        Dec (write_answer_with geo image n buffer table ≡ Accepted) →
        get_or (write_table geo image n buffer table) m 0 ≡ get_or table m 0
    wrote words other still (yes a) =
        ap (λ (t : Table). get_or t m 0) (if-accepted (table_written geo image n table) table a)
        ∙ write-others geo image n buffer words (write-too geo image n buffer table a) m table other still
    wrote words other still (no a) = ap (λ (t : Table). get_or t m 0) (if-refused (write_answer_with geo image n buffer table) (table_written geo image n table) table a)

    freed : release_answer_with geo image n table ≡ Accepted → get_or (release_table geo image n table) n 0 ≡ nowhere
    freed yes-freed =
        ap (λ (t : Table). get_or t n 0) (if-accepted (table_released geo n table) table yes-freed)
        ∙ get_or-set_same table n nowhere 0 (release-has-word geo image n table yes-freed)

pub set-words-are-right : SetWordsAreRight
unfolding write_steps_with write_table
set-words-are-right geo image n m buffer table words handed yes-wrote l sets =
    rw (if-accepted (table_written geo image n table) table yes-wrote, if-accepted (writing geo image n buffer) [] yes-wrote)
    (write-sets geo image n buffer words handed (write-too geo image n buffer table yes-wrote) m table (write-has-words geo image n buffer table yes-wrote) l sets)
