-- What the code gives of a call says all that the call reports: a refused one does no step, and so reports zeros. Assumes nothing.
use mathlib.Core.Path.{◌≡◌, refl, ap, ◌∙◌}
use mathlib.Core.List.{List, []}
use mathlib.Core.Logic.{◌≢◌}
use Prim.Native.Nat.{ℕ}
use lib.Seq.{take-nil}
use Rattle.std.specs.Prelude.{Ok, Err}
use Rattle.geometry.specs.declared.Geometry.{Geometry}
use Rattle.image.specs.Words.{Image}
use Rattle.flash.specs.declared.Step.{Step}
use Rattle.flash.specs.Steps.{words_in, erasures_in, first_of}
use Rattle.answers.specs.Answers.{Answer, Accepted, if_accepted}
use Rattle.answers.proofs.Acceptance.{if-refused, not-accepted}
use Rattle.calls.specs.Outcomes.{counts_of, sums_of, outcome_of, totals_of_sums}
use Rattle.calls.specs.Refusals.{format_answer, check_answer, write_answer, release_answer, repair_answer}
use Rattle.calls.specs.Calls.{outcome, format_outcome, no_totals, totals_of, reported, write_steps, release_steps, repair_steps}

module _ (geo : Geometry) (image : Image) where
  pub refused-write : (n : ℕ) (buffer : List ℕ) → write_answer geo image n buffer ≢ Accepted → write_steps geo image n buffer ≡ []
  unfolding write_steps
  refused-write n buffer refused = if-refused _ _ _ refused

  pub refused-release : (n : ℕ) → release_answer geo image n ≢ Accepted → release_steps geo image n ≡ []
  unfolding release_steps
  refused-release n refused = if-refused _ _ _ refused

  pub refused-repair : repair_answer geo image ≢ Accepted → repair_steps geo image ≡ []
  unfolding repair_steps
  refused-repair refused = if-refused _ _ _ refused

  -- of a report
  pub report-told : totals_of_sums (sums_of (reported geo image)) ≡ reported geo image
  unfolding reported
  report-told = go (check_answer geo image)
    where
      go : (a : Answer) → let r = if_accepted a (totals_of geo image) (no_totals a) in totals_of_sums (sums_of r) ≡ r
      go (Ok u) = refl
      go (Err why) = refl

-- nor a first step
pub none-first : {answer : Answer} {steps : List Step} (j : ℕ) → (answer ≢ Accepted → steps ≡ []) → answer ≢ Accepted → first_of j steps ≡ []
none-first j none refused = ap (first_of j) (none refused) ∙ take-nil j

-- so what a call made of steps gives says its outcome
pub outcome-told : (answer : Answer) (steps : List Step) → (answer ≢ Accepted → steps ≡ []) → outcome_of (counts_of (outcome answer steps)) ≡ outcome answer steps
unfolding words_in erasures_in
outcome-told (Ok u) steps none = refl
outcome-told (Err why) steps none = rw (none (not-accepted refl))

-- and a format's, which counts nothing
pub format-told : (geo : Geometry) (image : Image) → outcome_of (counts_of (format_outcome geo image)) ≡ format_outcome geo image
format-told geo image = go (format_answer geo image)
  where
    go : (a : Answer) → outcome_of (counts_of (record { answer = a; words = 0; erasures = 0 })) ≡ record { answer = a; words = 0; erasures = 0 }
    go (Ok u) = refl
    go (Err why) = refl
