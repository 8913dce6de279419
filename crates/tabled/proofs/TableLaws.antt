-- K2: where the table has its length, a call that takes one answers as the call without one; where it has not, it gives the refusal of
-- row 1 or 2. Assumes nothing.
use mathlib.Core.Path.{◌≡◌, refl}
use mathlib.Core.Bool.{Bool, true, false, ◌&&◌}
use mathlib.Core.List.{List, [], ◌∷◌}
use Prim.Native.Nat.{ℕ}
use borrow.Author.Tests.{not-false}
use Rattle.std.specs.Prelude.{Err}
use Rattle.geometry.specs.declared.Geometry.{Geometry}
use Rattle.image.specs.Words.{Image}
use Rattle.tables.specs.Tables.{Table}
use Rattle.answers.specs.declared.Refusal.{Refusal}
use Rattle.answers.specs.Answers.{Accepted}
use Rattle.answers.proofs.Acceptance.{not-accepted}
use Rattle.calls.proofs.Rows.{NoneApplies, none-applies}
use Rattle.calls.specs.Refusals.{Row, first_that_applies, one_sector, row1, row2, row3, row4, row5, row6, check_answer, read_answer, write_answer, release_answer}
use Rattle.tabled.specs.Refusals.{word_for_each, table_rows, build_answer, read_answer_with, write_answer_with, release_answer_with}

-- the image has its geometry's length, and the table a word for each number
pub record LentWell (geo : Geometry) (image : Image) (table : Table) : Type 0 where
  pub image-fits : (row1 geo image).applies ≡ false
  pub table_fits : word_for_each geo table ≡ true

-- by what the two rows that a table brings with it answer
module _ (geo : Geometry) (image : Image) (table : Table) where
  -- they pass
  pub lent-well : first_that_applies (table_rows geo image table) ≡ Accepted → LentWell geo image table
  lent-well e =
      let rows : NoneApplies (table_rows geo image table) = none-applies (table_rows geo image table) e in
      record { image-fits = rows.0; table_fits = not-false _ rows.1.0 }

  -- or one of them refuses, whatever comes after them and whatever else row 2 asks for
  module _ {why : Refusal} (refused : first_that_applies (table_rows geo image table) ≡ Err why) where
    lent-badly :
        (has-length : Bool) (rest : List Row) →
        (word_for_each geo table ≡ false → has-length ≡ false) →
        first_that_applies (row1 geo image ∷ row2 geo image has-length ∷ rest) ≡ Err why
    lent-badly has-length rest asks = go (row1 geo image).applies refl (word_for_each geo table) refl
      where
        go :
            (x : Bool) →
            (row1 geo image).applies ≡ x →
            (w : Bool) →
            word_for_each geo table ≡ w →
            first_that_applies (row1 geo image ∷ row2 geo image has-length ∷ rest) ≡ Err why
        go true p w q = rw p (rw p at refused)
        go false p true q = absurd (not-accepted refused (rw (p, q)))
        go false p false q = rw (p, asks q) (rw (p, q) at refused)

    pub build-refused : build_answer geo image table ≡ Err why
    unfolding build_answer
    build-refused = lent-badly (word_for_each geo table) (row4 geo image ∷ []) (λ w. w)

    pub read-refused : (m : ℕ) (buffer : List ℕ) → read_answer_with geo image m buffer table ≡ Err why
    unfolding read_answer_with
    read-refused m buffer =
        lent-badly (word_for_each geo table && one_sector buffer) (row3 geo image m ∷ row4 geo image ∷ row5 geo image m ∷ []) (λ w. rw w)

    pub write-refused : (m : ℕ) (buffer : List ℕ) → write_answer_with geo image m buffer table ≡ Err why
    unfolding write_answer_with
    write-refused m buffer =
        lent-badly (word_for_each geo table && one_sector buffer) (row3 geo image m ∷ row4 geo image ∷ row6 geo image ∷ []) (λ w. rw w)

    pub release-refused : (m : ℕ) → release_answer_with geo image m table ≡ Err why
    unfolding release_answer_with
    release-refused m = lent-badly (word_for_each geo table) (row3 geo image m ∷ row4 geo image ∷ row5 geo image m ∷ []) (λ w. w)

-- with a table of its length, a call answers as the call without one
module _ (geo : Geometry) (image : Image) (table : Table) (fits : word_for_each geo table ≡ true) where
  pub build-checks : build_answer geo image table ≡ check_answer geo image
  unfolding build_answer check_answer
  build-checks = rw fits

  pub read_alike : (n : ℕ) (buffer : List ℕ) → read_answer_with geo image n buffer table ≡ read_answer geo image n buffer
  unfolding read_answer_with read_answer
  read_alike n buffer = rw fits

  pub write-alike : (n : ℕ) (buffer : List ℕ) → write_answer_with geo image n buffer table ≡ write_answer geo image n buffer
  unfolding write_answer_with write_answer
  write-alike n buffer = rw fits

  pub release-alike : (n : ℕ) → release_answer_with geo image n table ≡ release_answer geo image n
  unfolding release_answer_with release_answer
  release-alike n = rw fits
