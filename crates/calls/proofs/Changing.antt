-- What the first steps of a write, of a release and of a repair report and leave, by their answer: laws that the proofs of these calls share. Assumes
-- nothing.
use mathlib.Core.Path.{◌≡◌, sym, ap, ◌∙◌}
use mathlib.Core.List.{List, []}
use Prim.Native.Nat.{ℕ, ◌-◌, ◌≤◌}
use native.Mathlib.Omega.{arith}
use lib.ListN.{length, length-take}
use lib.Seq.{take-nil}
use Rattle.std.specs.Prelude.{Ok, Err}
use Rattle.geometry.specs.declared.Geometry.{Geometry}
use Rattle.image.specs.Words.{Image}
use Rattle.tables.specs.Tables.{Table}
use Rattle.flash.specs.declared.Step.{Step}
use Rattle.flash.specs.Steps.{run, words_in, erasures_in, first_of}
use Rattle.flash.proofs.Stores.{run_none}
use Rattle.flash.proofs.Parts.{steps-counted}
use Rattle.answers.specs.declared.Refusal.{Refusal}
use Rattle.answers.specs.Answers.{Answer, Accepted, if_accepted}
use Rattle.calls.specs.declared.Counts.{Counts}
use Rattle.calls.specs.Outcomes.{counts_of}
use Rattle.calls.specs.Calls.{outcome, counted}

-- how many of the first steps program a word
first-words : (most : ℕ) (xs : List Step) {left : ℕ} → left ≡ most - length xs → most - left - erasures_in (first_of most xs) ≡ words_in (first_of most xs)
first-words most xs e = omega (arith, steps-counted (first_of most xs), length-take most xs)

-- what they erase is at most the steps that were done
pub erased-fits : (most : ℕ) (xs : List Step) {left erased : ℕ} → left ≡ most - length xs → erased ≡ erasures_in (first_of most xs) → erased ≤ most - left
erased-fits most xs l e = omega (arith, l, e, steps-counted (first_of most xs), length-take most xs)

-- What is counted of the first steps that were carried out
pub carried-counts :
    (most : ℕ) (xs : List Step) {left erasures words : ℕ} →
    left ≡ most - length xs →
    erasures ≡ erasures_in (first_of most xs) →
    words ≡ most - left - erasures →
    record { words = words; erasures = erasures } ≡ counted (first_of most xs)
carried-counts most xs {left} {erasures} {words} l erased programmed =
    let same : words ≡ words_in (first_of most xs) = omega (arith, programmed, erased, first-words most xs l) in
    rw (same, erased)

-- A refused call reports why, leaves the image, and notes nothing in a table; and of an accepted one what is counted is reported.
module _ (geo : Geometry) (image : Image) (answer : Answer) (steps : List Step) (most : ℕ) where
  abbrev done : List Step
  done = first_of most (if_accepted answer steps [])

  pub refused-counts : {why : Refusal} → answer ≡ Err why → Err why ≡ counts_of (outcome answer done)
  refused-counts e = rw e

  pub refused-image : {why : Refusal} → answer ≡ Err why → image ≡ run geo image done
  refused-image e = sym (rw e (ap (run geo image) (take-nil most) ∙ run_none geo image))

  pub refused-table : (noted table : Table) {why : Refusal} → answer ≡ Err why → table ≡ if_accepted answer noted table
  refused-table noted table e = rw e

pub accepted-counts :
    (answer : Answer) (done : List Step) {c : Counts} → answer ≡ Accepted → c ≡ counted done → Ok c ≡ counts_of (outcome answer done)
accepted-counts answer done e counts = rw e (ap Ok counts)
