-- What an accepted call says of what was handed in, and so what a write and a release leave. Assumes nothing.
use mathlib.Core.Path.{◌≡◌, refl, sym, ◌∙◌}
use mathlib.Core.Logic.{◌≢◌, ◌⊎◌}
use mathlib.Core.Bool.{true, false, not, true≢false}
use mathlib.Core.List.{List, []}
use Prim.Native.Nat.{ℕ, ◌<◌}
use lib.ListN.{length, get_or}
use borrow.Author.Tests.{not-false, eqb-true, eq-eqb, leb-false}
use Rattle.geometry.specs.declared.Geometry.{Geometry}
use Rattle.geometry.specs.Geometry.{sector_words}
use Rattle.image.specs.Found.{Found}
use Rattle.image.specs.Found.{At, Nothing}
use Rattle.image.specs.Words.{Image, Shaped, Words32, erase_count}
use Rattle.image.specs.Slots.{live_in, find, is_mapped}
use Rattle.image.specs.Blocks.{victim}
use Rattle.image.specs.WellFormed.{ceiling, R6, well_formed}
use Rattle.image.specs.Mending.{mendable}
use Rattle.tables.specs.Tables.{Table, place_word, right_table}
use Rattle.flash.specs.Steps.{run}
use Rattle.flash.specs.Placing.{releasing}
use Rattle.flash.specs.Writing.{must_reclaim, writing}
use Rattle.flash.specs.Repairing.{repairing, lacks_room, victim_worn}
use Rattle.flash.specs.Tables.{table_written, table_released}
use Rattle.flash.proofs.Filling.{Ready}
use Rattle.flash.proofs.Written.{Wrote, Sector, writing-wrote, writing-right}
use Rattle.flash.proofs.Released.{Released, releasing-released, releasing-right}
use Rattle.flash.proofs.Tables.{writing-others, writing-sets}
use Rattle.answers.specs.Answers.{Accepted}
use Rattle.answers.proofs.Acceptance.{if-accepted}
use Rattle.calls.specs.Refusals.{
  format_rows,
  check_rows,
  read_rows,
  write_rows,
  release_rows,
  repair_rows,
  format_answer,
  check_answer,
  read_answer,
  write_answer,
  release_answer,
  repair_answer,
}
use Rattle.calls.specs.Calls.{write_steps, release_steps, repair_steps}
use Rattle.calls.proofs.CallLaws.{shaped-left, shaped-passes, formed-ready}
use Rattle.calls.proofs.Rows.{NoneApplies, none-applies}

module _ (geo : Geometry) (image : Image) where
  -- row 4 does not apply
  pub formed-by : not (well_formed geo image) ≡ false → well_formed geo image ≡ true
  formed-by t = not-false (well_formed geo image) t

  -- a number that is mapped is found
  pub found-by : (n : ℕ) → not (is_mapped geo image n) ≡ false → (b i : ℕ) × (find geo image n ≡ At b i)
  found-by n t = go (find geo image n) refl
    where
      go : (f : Found) → find geo image n ≡ f → (b i : ℕ) × (find geo image n ≡ At b i)
      go (At b i) e = (b, i, e)
      go Nothing e = absurd (true≢false (rw e at t))

  -- ---- an accepted check

  pub check-accepted : check_answer geo image ≡ Accepted → Shaped geo image × (well_formed geo image ≡ true)
  unfolding check_answer
  check-accepted e =
      let rows : NoneApplies (check_rows geo image) = none-applies (check_rows geo image) e in
      (shaped-left geo image rows.0, formed-by rows.1.0)

  pub format-accepted : format_answer geo image ≡ Accepted → Shaped geo image
  unfolding format_answer
  format-accepted e =
      let rows : NoneApplies (format_rows geo image) = none-applies (format_rows geo image) e in
      shaped-left geo image rows.0

  -- ---- an accepted read

  pub read-accepted : (n : ℕ) (buffer : List ℕ) → read_answer geo image n buffer ≡ Accepted → (b i : ℕ) × (find geo image n ≡ At b i)
  unfolding read_answer
  read-accepted n buffer e =
      let rows : NoneApplies (read_rows geo image n buffer) = none-applies (read_rows geo image n buffer) e in
      found-by n rows.1.1.1.1.0

  -- ---- an accepted write

  -- the answer looks at how many words the buffer has, and at none of them
  pub write-by-length : (n : ℕ) (ws vs : List ℕ) → length ws ≡ length vs → write_answer geo image n ws ≡ write_answer geo image n vs
  unfolding write_answer
  write-by-length n ws vs e = rw e

  pub write-accepted : (n : ℕ) (buffer : List ℕ) → write_answer geo image n buffer ≡ Accepted → Shaped geo image × (well_formed geo image ≡ true)
  unfolding write_answer
  write-accepted n buffer e =
      let rows : NoneApplies (write_rows geo image n buffer) = none-applies (write_rows geo image n buffer) e in
      (shaped-left geo image rows.0, formed-by rows.1.1.1.0)

  pub write-sized : (n : ℕ) (buffer : List ℕ) → write_answer geo image n buffer ≡ Accepted → (n < geo.logical) × (length buffer ≡ sector_words)
  unfolding write_answer
  write-sized n buffer e =
      let rows : NoneApplies (write_rows geo image n buffer) = none-applies (write_rows geo image n buffer) e in
      (leb-false geo.logical n rows.1.1.0, eqb-true (length buffer) sector_words (not-false _ rows.1.0))

  module _ (n : ℕ) (buffer : List ℕ) (accepted : write_answer geo image n buffer ≡ Accepted) where
    write-rows : NoneApplies (write_rows geo image n buffer)
    unfolding write_answer
    write-rows = none-applies (write_rows geo image n buffer) accepted

    pub below-ceiling : must_reclaim geo image ≡ true → erase_count geo image (victim geo image) ≡ ceiling → ⊥
    below-ceiling must worn =
        true≢false (sym (rw (must, eq-eqb (erase_count geo image (victim geo image)) ceiling worn)) ∙ write-rows.1.1.1.1.0)

  module _ (n : ℕ) (buffer : List ℕ) (words : Words32 image) (accepted : write_answer geo image n buffer ≡ Accepted) where
    pub write-start : Ready geo image × (R6 geo image ≡ true)
    write-start =
        let rows = write-rows n buffer accepted in
        formed-ready geo image (shaped-left geo image rows.0) words (formed-by rows.1.1.1.0)

    -- the words that it leaves of any table
    pub write-others :
        (m : ℕ) (table : Table) →
        m ≢ n →
        (must_reclaim geo image ≡ true → live_in geo image (victim geo image) m ≡ false) →
        get_or (table_written geo image n table) m 0 ≡ get_or table m 0
    write-others m table other still = writing-others geo image n m table other still write-start.0 (below-ceiling n buffer accepted)

  module _ (n : ℕ) (buffer : List ℕ) (words : Words32 image) (handed : Words32 buffer) (accepted : write_answer geo image n buffer ≡ Accepted) where
    abbrev start : Ready geo image × (R6 geo image ≡ true)
    start = write-start n buffer words accepted

    pub write-sector : Sector geo n buffer
    write-sector =
        let sized = write-sized n buffer accepted in
        record { number = sized.0; long = sized.1; words = handed }

    pub write-steps : write_steps geo image n buffer ≡ writing geo image n buffer
    unfolding write_steps
    write-steps = if-accepted (writing geo image n buffer) [] accepted

    pub write-wrote : Wrote geo image n buffer (victim geo image) (writing geo image n buffer)
    write-wrote = writing-wrote geo image n buffer start.0 start.1 write-sector (below-ceiling n buffer accepted)

    -- and a right table stays right
    pub write-right : table_written geo image n (right_table geo image) ≡ right_table geo (run geo image (writing geo image n buffer))
    write-right = writing-right geo image n buffer start.0 start.1 write-sector (below-ceiling n buffer accepted)

    -- and of any table the words that it sets are right
    pub write-sets :
        (m : ℕ) (table : Table) →
        length table ≡ geo.logical →
        m < geo.logical →
        ((m ≡ n) ⊎ ((must_reclaim geo image ≡ true) × (live_in geo image (victim geo image) m ≡ true))) →
        get_or (table_written geo image n table) m 0 ≡ place_word geo (find geo (run geo image (writing geo image n buffer)) m)
    write-sets m table long l sets =
        writing-sets geo image n m buffer table start.0 start.1 write-sector (below-ceiling n buffer accepted) long l sets

  -- ---- an accepted release

  pub release-accepted : (n : ℕ) → release_answer geo image n ≡ Accepted → Shaped geo image × (well_formed geo image ≡ true)
  unfolding release_answer
  release-accepted n e =
      let rows : NoneApplies (release_rows geo image n) = none-applies (release_rows geo image n) e in
      (shaped-left geo image rows.0, formed-by rows.1.1.0)

  module _ (n : ℕ) (words : Words32 image) (accepted : release_answer geo image n ≡ Accepted) where
    release-rows : NoneApplies (release_rows geo image n)
    unfolding release_answer
    release-rows = none-applies (release_rows geo image n) accepted

    pub release-steps : release_steps geo image n ≡ releasing geo image n
    unfolding release_steps
    release-steps = if-accepted (releasing geo image n) [] accepted

    pub release-start : Ready geo image × (R6 geo image ≡ true)
    release-start = formed-ready geo image (shaped-left geo image release-rows.0) words (formed-by release-rows.1.1.0)

    pub release-blank : R6 geo image ≡ true
    release-blank = release-start.1

    pub release-released : Released geo image n (releasing geo image n)
    release-released =
        let found = found-by n release-rows.1.1.1.0 in
        releasing-released geo image n found.0 found.1 release-start.0 found.2

    pub release-right : table_released geo n (right_table geo image) ≡ right_table geo (run geo image (releasing geo image n))
    release-right =
        let found = found-by n release-rows.1.1.1.0 in
        releasing-right geo image n found.0 found.1 release-start.0 found.2

  -- ---- an accepted repair (K4), and when it is

  pub repair-accepted :
      repair_answer geo image ≡ Accepted →
      Shaped geo image × (mendable geo image ≡ true) × (lacks_room geo image ≡ false) × (victim_worn geo image ≡ false)
  unfolding repair_answer
  repair-accepted e =
      let rows : NoneApplies (repair_rows geo image) = none-applies (repair_rows geo image) e in
      (shaped-left geo image rows.0, not-false (mendable geo image) rows.1.0, rows.1.1.0, rows.1.1.1.0)

  pub repair-accepts :
      Shaped geo image →
      mendable geo image ≡ true →
      lacks_room geo image ≡ false →
      victim_worn geo image ≡ false →
      repair_answer geo image ≡ Accepted
  unfolding repair_answer
  repair-accepts shaped mends room worn = rw (shaped-passes geo image shaped, mends, room, worn)

  pub repair-steps : repair_answer geo image ≡ Accepted → repair_steps geo image ≡ repairing geo image
  unfolding repair_steps
  repair-steps accepted = if-accepted (repairing geo image) [] accepted
