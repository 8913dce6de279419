-- K2: the rows of each call that takes a lookup table, in the order of the table of refusals (FORMAT.md, Refusals): those of the call without
-- one, with the table's length in row 2. Each is named as that call, and `With`.
use Rattle.std.specs.Prelude.{Bool, ◌&&◌, List, [], ◌∷◌, ℕ, eqb, length}
use Rattle.geometry.specs.declared.Geometry.{Geometry}
use Rattle.image.specs.Words.{Image}
use Rattle.tables.specs.Tables.{Table}
use Rattle.answers.specs.Answers.{Answer}
use Rattle.calls.specs.Refusals.{Row, first_that_applies, one_sector, row1, row2, row3, row4, row5, row6}

-- a lookup table has a word for each number
abbrev pub word_for_each : Geometry → Table → Bool
word_for_each geo table = eqb (length table) geo.logical

module _ (geo : Geometry) (image : Image) where
  -- the two rows that a table brings with it
  abbrev pub table_rows : Table → List Row
  table_rows table = row1 geo image ∷ row2 geo image (word_for_each geo table) ∷ []

  abbrev pub build_rows : Table → List Row
  build_rows table = row1 geo image ∷ row2 geo image (word_for_each geo table) ∷ row4 geo image ∷ []

  abbrev pub read_rows_with : ℕ → List ℕ → Table → List Row
  read_rows_with n buffer table = row1 geo image ∷ row2 geo image (word_for_each geo table && one_sector buffer) ∷ row3 geo image n ∷ row4 geo image ∷ row5 geo image n ∷ []

  abbrev pub write_rows_with : ℕ → List ℕ → Table → List Row
  write_rows_with n buffer table = row1 geo image ∷ row2 geo image (word_for_each geo table && one_sector buffer) ∷ row3 geo image n ∷ row4 geo image ∷ row6 geo image ∷ []

  abbrev pub release_rows_with : ℕ → Table → List Row
  release_rows_with n table = row1 geo image ∷ row2 geo image (word_for_each geo table) ∷ row3 geo image n ∷ row4 geo image ∷ row5 geo image n ∷ []

  unfoldable pub build_answer : Table → Answer
  build_answer table = first_that_applies (build_rows table)

  unfoldable pub read_answer_with : ℕ → List ℕ → Table → Answer
  read_answer_with n buffer table = first_that_applies (read_rows_with n buffer table)

  unfoldable pub write_answer_with : ℕ → List ℕ → Table → Answer
  write_answer_with n buffer table = first_that_applies (write_rows_with n buffer table)

  unfoldable pub release_answer_with : ℕ → Table → Answer
  release_answer_with n table = first_that_applies (release_rows_with n table)
