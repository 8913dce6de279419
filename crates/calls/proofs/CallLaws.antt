-- The rows of the refusals: what the code's tests say of them, and what they leave where they do not apply. Assumes nothing.
use mathlib.Core.Path.{◌≡◌, refl, sym, ap, ◌∙◌}
use mathlib.Core.Bool.{Bool, true, false, not}
use mathlib.Core.List.{List, [], ◌∷◌}
use mathlib.Core.Logic.{◌≢◌}
use Prim.Native.Nat.{ℕ, ◌<◌}
use native.Mathlib.Omega.{arith}
use lib.Dec.{eqb}
use lib.ListN.{length}
use borrow.Author.Tests.{eq-eqb, eqb-true, lt-leb, not-true, not-false}
use Rattle.ranges.proofs.Tests.{both-pass, unless}
use Rattle.geometry.specs.declared.Geometry.{Geometry}
use Rattle.geometry.specs.Geometry.{image_length, within_limits}
use Rattle.geometry.proofs.Laws.{limits-hold, limits-pass}
use Rattle.std.specs.Prelude.{Result, Ok, Err, Some, cond}
use Rattle.image.specs.declared.Fault.{Fault}
use Rattle.image.specs.Found.{Found, Nothing}
use Rattle.image.specs.Words.{Image, Shaped, Words32}
use Rattle.image.specs.WellFormed.{R6, well_formed}
use Rattle.image.specs.Faults.{first_fault}
use Rattle.image.proofs.Facts.{sound-facts, formed-sound, formed-blank}
use Rattle.image.proofs.Faults.{fault-exactly-when-malformed}
use Rattle.flash.proofs.Filling.{Ready}
use Rattle.answers.specs.declared.Refusal.TheVariants.{Malformed}
use Rattle.answers.specs.declared.Refusal.{Refusal}
use Rattle.answers.specs.Answers.{Answer, Accepted}
use Rattle.checking.specs.FirstFault.{fault_if_any}
use Rattle.calls.specs.Refusals.{first_that_applies, malformed, row1, row4, row5, row6, sector_rows, read_answer, write_answer, release_answer}
use Rattle.calls.proofs.Rows.{NoneApplies, none-applies, first-refuse, first-pass}

-- row 1 is a test turned round: what the code got by turning its test round is what the row says
pub as-tested : {r t u : Bool} → r ≡ t → not r ≡ u → not t ≡ u
as-tested e h = sym (ap not e) ∙ h

-- row 4 applies exactly where there is a pair, which is then the one that the row names
module _ (geo : Geometry) (image : Image) {fault : Fault} (e : fault ≡ first_fault geo image) where
  pub fault-applies : fault.rule ≢ 0 → (row4 geo image).applies ≡ true
  fault-applies n = ap not ((fault-exactly-when-malformed geo image).0.0 (λ z. n (ap (λ f. f.rule) e ∙ z)))

  pub fault-passes : fault.rule ≡ 0 → (row4 geo image).applies ≡ false
  fault-passes z =
      unless (row4 geo image).applies
      (λ t. (fault-exactly-when-malformed geo image).0.1 (not-true _ t) (sym (ap (λ f. f.rule) e) ∙ z))

  pub fault-named : Malformed fault.block fault.rule ≡ (row4 geo image).refusal
  fault-named = ap (λ f. Malformed f.block f.rule) e

-- row 4, by what the check gives: it gives that pair, and only where the image is not well formed
module _ (geo : Geometry) (image : Image) where
  pub given-fault : {fault : Fault} → fault_if_any geo image ≡ Err fault → (fault ≡ first_fault geo image) × (well_formed geo image ≡ false)
  given-fault {fault} = go (well_formed geo image)
    where
      go : (t : Bool) → cond t (Ok (tt {0})) (Err (first_fault geo image)) ≡ Err fault → (fault ≡ first_fault geo image) × (t ≡ false)
      go true e = let z : ◌≡◌ {A = ℕ} 0 1 = cc in absurd (omega arith)
      go false e = let same : fault ≡ first_fault geo image = cc in (same, refl)

  pub given-none : {u : Unit {0}} → fault_if_any geo image ≡ Ok u → well_formed geo image ≡ true
  given-none {u} = go (well_formed geo image)
    where
      go : (t : Bool) → cond t (Ok (tt {0})) (Err (first_fault geo image)) ≡ Ok u → t ≡ true
      go true e = refl
      go false e = let z : ◌≡◌ {A = ℕ} 0 1 = cc in absurd (omega arith)

  pub refusal-named : {fault : Fault} → fault_if_any geo image ≡ Err fault → malformed geo image ≡ Malformed fault.block fault.rule
  refusal-named e = sym (fault-named geo image (given-fault e).0)

  pub fault-refuses : {fault : Fault} → fault_if_any geo image ≡ Err fault → first_that_applies (row4 geo image ∷ []) ≡ Err (Malformed fault.block fault.rule)
  fault-refuses e = rw (ap not (given-fault e).1) (ap Err (refusal-named e))

  pub none-refused : {u : Unit {0}} → fault_if_any geo image ≡ Ok u → first_that_applies (row4 geo image ∷ []) ≡ Accepted
  none-refused e = rw (ap not (given-none e)) refl

-- where row 1 does not apply, the image has its geometry's length, within the limits
pub shaped-left : (geo : Geometry) (image : Image) → (row1 geo image).applies ≡ false → Shaped geo image
shaped-left geo image passed =
    let both = both-pass (within_limits geo) (eqb (length image) (image_length geo)) (not-false _ passed) in
    record { limits = limits-hold geo both.0; long = eqb-true _ _ both.1 }

-- and it does not apply to such an image
pub shaped-passes : (geo : Geometry) (image : Image) → Shaped geo image → (row1 geo image).applies ≡ false
shaped-passes geo image shaped = rw (limits-pass geo shaped.limits, eq-eqb _ _ shaped.long)

-- past rows 1 and 4 the image is one that steps can be carried out on, with a blank block
pub formed-ready : (geo : Geometry) (image : Image) → Shaped geo image → Words32 image → well_formed geo image ≡ true → Ready geo image × (R6 geo image ≡ true)
formed-ready geo image shaped words t =
    (record { shaped = shaped; words = words; sound = sound-facts geo image (formed-sound geo image t) }, formed-blank geo image t)

-- rows 1 to 4 of a read and a write: where one of them refuses, so does the call; and past them the rows after them decide
module _ (geo : Geometry) (image : Image) (n : ℕ) (buffer : List ℕ) where
  abbrev first_four : Answer
  first_four = first_that_applies (sector_rows geo image n buffer)

  pub read-refused : {why : Refusal} → first_four ≡ Err why → read_answer geo image n buffer ≡ Err why
  unfolding read_answer
  read-refused e = first-refuse (row5 geo image n ∷ []) (sector_rows geo image n buffer) e

  pub write-refused : {why : Refusal} → first_four ≡ Err why → write_answer geo image n buffer ≡ Err why
  unfolding write_answer
  write-refused e = first-refuse (row6 geo image ∷ []) (sector_rows geo image n buffer) e

  pub read-passed : first_four ≡ Accepted → read_answer geo image n buffer ≡ first_that_applies (row5 geo image n ∷ [])
  unfolding read_answer
  read-passed e = first-pass (row5 geo image n ∷ []) (sector_rows geo image n buffer) e

  pub write-passed : first_four ≡ Accepted → write_answer geo image n buffer ≡ first_that_applies (row6 geo image ∷ [])
  unfolding write_answer
  write-passed e = first-pass (row6 geo image ∷ []) (sector_rows geo image n buffer) e

  pub sector-formed : first_four ≡ Accepted → Shaped geo image × (well_formed geo image ≡ true)
  sector-formed e =
      let rows : NoneApplies (sector_rows geo image n buffer) = none-applies (sector_rows geo image n buffer) e in
      (shaped-left geo image rows.0, not-false (well_formed geo image) rows.1.1.1.0)

-- rows 1, 3 and 4 of a release
module _ (geo : Geometry) (image : Image) (n : ℕ) (fit : (row1 geo image).applies ≡ false) (below : n < geo.logical) where
  pub release-refused : {why : Refusal} → first_that_applies (row4 geo image ∷ []) ≡ Err why → release_answer geo image n ≡ Err why
  unfolding release_answer
  release-refused e = rw (fit, lt-leb _ _ below) (first-refuse (row5 geo image n ∷ []) (row4 geo image ∷ []) e)

  pub release-passed : first_that_applies (row4 geo image ∷ []) ≡ Accepted → release_answer geo image n ≡ first_that_applies (row5 geo image n ∷ [])
  unfolding release_answer
  release-passed e = rw (fit, lt-leb _ _ below) (first-pass (row5 geo image n ∷ []) (row4 geo image ∷ []) e)

-- past row 4 alone
pub rules-hold : (geo : Geometry) (image : Image) → first_that_applies (row4 geo image ∷ []) ≡ Accepted → well_formed geo image ≡ true
rules-hold geo image e =
    let rows : NoneApplies (row4 geo image ∷ []) = none-applies (row4 geo image ∷ []) e in
    not-false (well_formed geo image) rows.0

-- what gives no fault has found none
pub no-fault : (r : Result (Unit {0}) Fault) → ((fault : Fault) → r ≡ Err fault → ⊥) → r ≡ Ok tt
no-fault (Ok u) n = refl
no-fault (Err fault) n = absurd (n fault refl)

-- what is found at no place is not found
pub nowhere : (f : Found) → ((at : ℕ × ℕ) → f ≡ Some at → ⊥) → f ≡ Nothing
nowhere (Some at) n = absurd (n at refl)
nowhere Nothing n = refl
