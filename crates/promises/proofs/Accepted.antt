-- What an accepted call with a lookup table (K2) says: the call without one is accepted as well. Assumes nothing.
use mathlib.Core.Path.{◌≡◌, sym, ◌∙◌}
use mathlib.Core.Bool.{true}
use mathlib.Core.List.{List}
use Prim.Native.Nat.{ℕ, ◌<◌}
use native.Mathlib.Omega.{arith}
use lib.ListN.{length}
use borrow.Author.Tests.{not-false, eqb-true, leb-false}
use Rattle.ranges.proofs.Tests.{both-pass}
use Rattle.geometry.specs.declared.Geometry.{Geometry}
use Rattle.image.specs.Words.{Image}
use Rattle.tables.specs.Tables.{Table}
use Rattle.answers.specs.Answers.{Accepted}
use Rattle.calls.specs.Refusals.{one_sector, write_answer, release_answer}
use Rattle.calls.proofs.Rows.{NoneApplies, none-applies}
use Rattle.tabled.specs.Refusals.{word_for_each, write_rows_with, release_rows_with, write_answer_with, release_answer_with}
use Rattle.tabled.proofs.TableLaws.{write-alike, release-alike}

module _ (geo : Geometry) (image : Image) (n : ℕ) (buffer : List ℕ) (table : Table) (yes-wrote : write_answer_with geo image n buffer table ≡ Accepted) where
  write-fits : word_for_each geo table ≡ true
  unfolding write_answer_with
  write-fits =
      let rows : NoneApplies (write_rows_with geo image n buffer table) = none-applies (write_rows_with geo image n buffer table) yes-wrote in
      (both-pass (word_for_each geo table) (one_sector buffer) (not-false _ rows.1.0)).0

  pub write-too : write_answer geo image n buffer ≡ Accepted
  write-too = sym (write-alike geo image table write-fits n buffer) ∙ yes-wrote

  -- and the table has a word for each number
  pub write-has-words : length table ≡ geo.logical
  write-has-words = eqb-true (length table) geo.logical write-fits

module _ (geo : Geometry) (image : Image) (n : ℕ) (table : Table) (yes-freed : release_answer_with geo image n table ≡ Accepted) where
  release-with-rows : NoneApplies (release_rows_with geo image n table)
  unfolding release_answer_with
  release-with-rows = none-applies (release_rows_with geo image n table) yes-freed

  pub release-too : release_answer geo image n ≡ Accepted
  release-too = sym (release-alike geo image table (not-false _ release-with-rows.1.0) n) ∙ yes-freed

  -- and its number has a word in the table
  pub release-has-word : n < length table
  release-has-word =
      omega (arith, eqb-true (length table) geo.logical (not-false _ release-with-rows.1.0), leb-false geo.logical n release-with-rows.1.1.0)
