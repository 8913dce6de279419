-- FORMAT.md, Refusals: the table of refusals, a definition for each row, and each call's rows in the table's order.
use Rattle.std.specs.Prelude.{Bool, not, cond, ◌&&◌, List, [], ◌∷◌, ℕ, leb, eqb, length, Err}
use Rattle.geometry.specs.declared.Geometry.{Geometry}
use Rattle.geometry.specs.Geometry.{image_length, sector_words, within_limits}
use Rattle.image.specs.Words.{Image, erase_count}
use Rattle.image.specs.Slots.{is_mapped}
use Rattle.image.specs.Blocks.{victim}
use Rattle.image.specs.WellFormed.{well_formed, ceiling}
use Rattle.image.specs.Faults.{first_fault}
use Rattle.image.specs.Mending.{mendable}
use Rattle.flash.specs.Writing.{must_reclaim}
use Rattle.flash.specs.Repairing.{lacks_room, victim_worn}
use Rattle.answers.specs.declared.Refusal.{Refusal}
use Rattle.answers.specs.declared.Refusal.TheVariants.{BadGeometry, BadBuffer, BadNumber, Malformed, Unmapped, WornOut, NoRoom}
use Rattle.answers.specs.Answers.{Answer, Accepted}

-- a row of the table: its number, the refusal that a call gives by it, and whether it applies
pub record Row : Type 0 where
  pub number : ℕ
  pub refusal : Refusal
  pub applies : Bool

-- the answer of a call: the rows are tried in order, and the first that applies is given
abbrev pub first_that_applies : List Row → Answer
first_that_applies [] = Accepted
first_that_applies (r ∷ rs) = cond r.applies (Err r.refusal) (first_that_applies rs)

-- a buffer is one sector
abbrev pub one_sector : List ℕ → Bool
one_sector buffer = eqb (length buffer) sector_words

module _ (geo : Geometry) (image : Image) where
  -- refusal 1: the geometry breaks a limit, or the image has not the length that it says. Every call tests it first.
  abbrev pub row1 : Row
  row1 = record { number = 1; refusal = BadGeometry; applies = not (within_limits geo && eqb (length image) (image_length geo)) }

  -- refusal 2: what is lent beside the image, the buffer of a read or a write and the table of a call that takes one, has not its length
  abbrev pub row2 : Bool → Row
  row2 has-length = record { number = 2; refusal = BadBuffer; applies = not has-length }

  -- refusal 3: no logical sector has the number of a read, a write or a release
  abbrev pub row3 : ℕ → Row
  row3 n = record { number = 3; refusal = BadNumber; applies = leb geo.logical n }

  -- refusal 4: a rule of well-formed images is broken. Every call but a format and a repair tests it, and names the first failing pair (K1).
  abbrev pub malformed : Refusal
  malformed = Malformed (first_fault geo image).block (first_fault geo image).rule

  abbrev pub row4 : Row
  row4 = record { number = 4; refusal = malformed; applies = not (well_formed geo image) }

  -- of a repair (K4): there is a fault that it cannot mend. The pair is the first that fails, be it that fault or one that could be mended
  abbrev pub row4_repair : Row
  row4_repair = record { number = 4; refusal = malformed; applies = not (mendable geo image) }

  -- refusal 5: what a read or a release asks for is not mapped
  abbrev pub row5 : ℕ → Row
  row5 n = record { number = 5; refusal = Unmapped; applies = not (is_mapped geo image n) }

  -- refusal 6: a write has to reclaim, and its victim cannot be erased once more
  abbrev pub row6 : Row
  row6 =
      record {
        number = 6;
        refusal = WornOut;
        applies = must_reclaim geo image && eqb (erase_count geo image (victim geo image)) ceiling;
      }

  -- refusal 10, of a repair (K4), before 6: it has to empty a block, and has no room for what is live there, or no block is full
  abbrev pub row10 : Row
  row10 = record { number = 10; refusal = NoRoom; applies = lacks_room geo image }

  -- refusal 6, of a repair (K4): that block cannot be erased once more
  abbrev pub row6_repair : Row
  row6_repair = record { number = 6; refusal = WornOut; applies = victim_worn geo image }

  -- each call's rows, in the table's order but for a repair's 10, which comes before 6, and its answer; a report refuses as a check does, and a read
  -- and a write begin alike
  abbrev pub format_rows : List Row
  format_rows = row1 ∷ []

  abbrev pub check_rows : List Row
  check_rows = row1 ∷ row4 ∷ []

  abbrev pub sector_rows : ℕ → List ℕ → List Row
  sector_rows n buffer = row1 ∷ row2 (one_sector buffer) ∷ row3 n ∷ row4 ∷ []

  abbrev pub read_rows : ℕ → List ℕ → List Row
  read_rows n buffer = row1 ∷ row2 (one_sector buffer) ∷ row3 n ∷ row4 ∷ row5 n ∷ []

  abbrev pub write_rows : ℕ → List ℕ → List Row
  write_rows n buffer = row1 ∷ row2 (one_sector buffer) ∷ row3 n ∷ row4 ∷ row6 ∷ []

  abbrev pub release_rows : ℕ → List Row
  release_rows n = row1 ∷ row3 n ∷ row4 ∷ row5 n ∷ []

  abbrev pub repair_rows : List Row
  repair_rows = row1 ∷ row4_repair ∷ row10 ∷ row6_repair ∷ []

  unfoldable pub format_answer : Answer
  format_answer = first_that_applies format_rows

  unfoldable pub check_answer : Answer
  check_answer = first_that_applies check_rows

  unfoldable pub read_answer : ℕ → List ℕ → Answer
  read_answer n buffer = first_that_applies (read_rows n buffer)

  unfoldable pub write_answer : ℕ → List ℕ → Answer
  write_answer n buffer = first_that_applies (write_rows n buffer)

  unfoldable pub release_answer : ℕ → Answer
  release_answer n = first_that_applies (release_rows n)

  unfoldable pub repair_answer : Answer
  repair_answer = first_that_applies repair_rows
