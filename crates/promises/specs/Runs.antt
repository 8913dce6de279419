-- A run: calls made one after the other with one geometry, its accepted writes and its erasures, and whether a call of it was cut short (FORMAT.md,
-- Costs).
use Rattle.std.specs.Prelude.{Bool, true, false, not, ◌&&◌, List, [], ◌∷◌, ℕ, ◌+◌}
use Rattle.geometry.specs.declared.Geometry.{Geometry}
use Rattle.image.specs.Words.{Image}
use Rattle.tables.specs.Tables.{Table}
use Rattle.answers.specs.Answers.{Answer, if_accepted}
use Rattle.calls.specs.Refusals.{write_answer, release_answer, repair_answer}
use Rattle.calls.specs.Calls.{write_outcome, written, release_outcome, released, repair_outcome, repaired, write_first_outcome, written_first, release_first_outcome, released_first, repair_first_outcome, repaired_first}
use Rattle.tabled.specs.Refusals.{write_answer_with}
use Rattle.tabled.specs.Calls.{write_outcome_with, written_with, release_outcome_with, released_with}

-- a call, with the number, the buffer and the lookup table (K2) that it is handed: any table, and another one at each call; of a call for one step
-- (K4) which step, and of one for the first steps how many
pub data Call : Type 0 where
  Check : Call
  Report : Call
  Read : ℕ → List ℕ → Call
  Write : ℕ → List ℕ → Call
  Release : ℕ → Call
  WriteStep : ℕ → List ℕ → ℕ → Call
  ReleaseStep : ℕ → ℕ → Call
  Repair : Call
  RepairStep : ℕ → Call
  WriteFirst : ℕ → List ℕ → ℕ → Call
  ReleaseFirst : ℕ → ℕ → Call
  RepairFirst : ℕ → Call
  Build : Table → Call
  ReadWith : ℕ → List ℕ → Table → Call
  WriteWith : ℕ → List ℕ → Table → Call
  ReleaseWith : ℕ → Table → Call

-- how a run stands: the image, the accepted writes so far, the erasures so far
pub record State : Type 0 where
  pub image : Image
  pub writes : ℕ
  pub erasures : ℕ

module _ (geo : Geometry) where
  -- what one call leaves: check, report, read, the calls for one step (K4) and the building of a table change nothing
  unfoldable pub called : State → Call → State
  called s Check = s
  called s Report = s
  called s (Read n buffer) = s
  called s (Write n buffer) =
      record {
        image = written geo s.image n buffer;
        writes = s.writes + if_accepted (write_answer geo s.image n buffer) 1 0;
        erasures = s.erasures + (write_outcome geo s.image n buffer).erasures;
      }
  called s (Release n) =
      record {
        image = released geo s.image n;
        writes = s.writes;
        erasures = s.erasures + (release_outcome geo s.image n).erasures;
      }
  called s (WriteStep n buffer i) = s
  called s (ReleaseStep n i) = s
  called s Repair =
      record {
        image = repaired geo s.image;
        writes = s.writes;
        erasures = s.erasures + (repair_outcome geo s.image).erasures;
      }
  called s (RepairStep i) = s
  called s (WriteFirst n buffer j) =
      record {
        image = written_first geo s.image n buffer j;
        writes = s.writes;
        erasures = s.erasures + (write_first_outcome geo s.image n buffer j).erasures;
      }
  called s (ReleaseFirst n j) =
      record {
        image = released_first geo s.image n j;
        writes = s.writes;
        erasures = s.erasures + (release_first_outcome geo s.image n j).erasures;
      }
  called s (RepairFirst j) =
      record {
        image = repaired_first geo s.image j;
        writes = s.writes;
        erasures = s.erasures + (repair_first_outcome geo s.image j).erasures;
      }
  called s (Build table) = s
  called s (ReadWith n buffer table) = s
  called s (WriteWith n buffer table) =
      record {
        image = written_with geo s.image n buffer table;
        writes = s.writes + if_accepted (write_answer_with geo s.image n buffer table) 1 0;
        erasures = s.erasures + (write_outcome_with geo s.image n buffer table).erasures;
      }
  called s (ReleaseWith n table) =
      record {
        image = released_with geo s.image n table;
        writes = s.writes;
        erasures = s.erasures + (release_outcome_with geo s.image n table).erasures;
      }

  -- the run
  unfoldable pub ran : State → List Call → State
  ran s [] = s
  ran s (c ∷ cs) = ran (called s c) cs

  -- K4: a call for the first steps of another counts as a cut where it is accepted, however many steps it does
  abbrev cut_if : Answer → Bool
  cut_if answer = if_accepted answer true false

  unfoldable pub is_cut : Image → Call → Bool
  is_cut image Check = false
  is_cut image Report = false
  is_cut image (Read n buffer) = false
  is_cut image (Write n buffer) = false
  is_cut image (Release n) = false
  is_cut image (WriteStep n buffer i) = false
  is_cut image (ReleaseStep n i) = false
  is_cut image Repair = false
  is_cut image (RepairStep i) = false
  is_cut image (WriteFirst n buffer j) = cut_if (write_answer geo image n buffer)
  is_cut image (ReleaseFirst n j) = cut_if (release_answer geo image n)
  is_cut image (RepairFirst j) = cut_if (repair_answer geo image)
  is_cut image (Build table) = false
  is_cut image (ReadWith n buffer table) = false
  is_cut image (WriteWith n buffer table) = false
  is_cut image (ReleaseWith n table) = false

  -- a run without a cut: what the bound of a run and the sum of the erase counts are claimed of
  unfoldable pub uncut : State → List Call → Bool
  uncut s [] = true
  uncut s (c ∷ cs) = not (is_cut s.image c) && uncut (called s c) cs

-- where a run starts
abbrev pub started : Image → State
started image = record { image = image; writes = 0; erasures = 0 }
