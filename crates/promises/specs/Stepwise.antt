-- K4, step by step: what asking for the steps of a write, a release or a repair one by one comes to, and what carrying out its first steps leaves
-- (FORMAT.md, Step by step). proofs/Stepwise.antt proves each statement under its name in small letters.
use Rattle.std.specs.Prelude.{◌≡◌, ◌≢◌, ◌↔◌, List, [], ℕ, zero, suc, ◌+◌, ◌≤◌}
use Rattle.geometry.specs.declared.Geometry.{Geometry}
use Rattle.image.specs.Words.{Image}
use Rattle.flash.specs.declared.NextStep.{NextStep}
use Rattle.flash.specs.declared.NextStep.TheVariants.{Next, Done}
use Rattle.flash.specs.Steps.{applied}
use Rattle.answers.specs.Answers.{Accepted}
use Rattle.calls.specs.Outcomes.{Outcome}
use Rattle.calls.specs.Refusals.{write_answer, release_answer, repair_answer}
use Rattle.calls.specs.Calls.{outcome, write_outcome, written, release_outcome, released, write_first_outcome, written_first, release_first_outcome, released_first, repair_outcome, repaired, repair_first_outcome, repaired_first}
use Rattle.stepwise.specs.Calls.{write_step, release_step, repair_step}

-- a part, and how many steps were carried out on it
pub record Part : Type 0 where
  pub image : Image
  pub steps : ℕ

-- What a driver does, which keeps the image in memory as a mirror of its part: it asks for step 0, 1, .. of a call, always of the mirror before the call,
-- and carries each out on the part, until it is told that the call is done; here for so many turns at most.
abbrev pub carried_on : (geo : Geometry) → (Part → Part) → Part → NextStep → Part
carried_on geo go_on part Done = part
carried_on geo go_on part (Next s) = go_on (record { image = applied geo part.image s; steps = suc part.steps })

unfoldable pub carried_out : Geometry → (ℕ → NextStep) → ℕ → Part → Part
carried_out geo ask zero part = part
carried_out geo ask (suc turns) part = carried_on geo (carried_out geo ask turns) part (ask part.steps)

abbrev pub untouched : Image → Part
untouched image = record { image = image; steps = 0 }

-- what a call of this outcome reports in all
abbrev pub reported_steps : Outcome → ℕ
reported_steps o = o.words + o.erasures

-- A call, by its steps, and what it reports and leaves: a driver's part, as the mirror is before the call, is then as the mirror is after it, and there are
-- as many steps as words and erasures are reported; the call is done from that number on and not before. A loop that ends early leaves what
-- the call for so many first steps leaves, with as many steps done as that one reports; and where these are all, that is the whole call.
abbrev pub StepsMake :
    (geo : Geometry) (image : Image) (ask : ℕ → NextStep) (whole : Outcome) (left : Image) (first : ℕ → Outcome) (firstLeft : ℕ → Image) → Type 0
StepsMake geo image ask whole left first firstLeft =
    ((turns : ℕ) → reported_steps whole ≤ turns → carried_out geo ask turns (untouched image) ≡ record { image = left; steps = reported_steps whole })
    × ((i : ℕ) → (ask i ≡ Done) ↔ (reported_steps whole ≤ i))
    × ((j : ℕ) → carried_out geo ask j (untouched image) ≡ record { image = firstLeft j; steps = reported_steps (first j) })
    × ((j : ℕ) → reported_steps whole ≤ j → (first j ≡ whole) × (firstLeft j ≡ left))

abbrev pub StepsMakeTheCall : Type 0
StepsMakeTheCall =
    (geo : Geometry) (image : Image) (n : ℕ) (buffer : List ℕ) →
    StepsMake geo image (λ i. (write_step geo image n buffer i).next)
    (write_outcome geo image n buffer) (written geo image n buffer)
    (write_first_outcome geo image n buffer) (written_first geo image n buffer)
    × StepsMake geo image (λ i. (release_step geo image n i).next)
    (release_outcome geo image n) (released geo image n)
    (release_first_outcome geo image n) (released_first geo image n)
    × StepsMake geo image (λ i. (repair_step geo image i).next)
    (repair_outcome geo image) (repaired geo image)
    (repair_first_outcome geo image) (repaired_first geo image)

-- Both kinds of call give the answer of the whole call, the pair of refusal 4 included, whichever step or however many are asked for. Where it is a
-- refusal there is no step, nothing changes and zeros are reported.
abbrev pub StepsRefuseAlike : Type 0
StepsRefuseAlike =
    (geo : Geometry) (image : Image) (n : ℕ) (buffer : List ℕ) (i : ℕ) →
    ((write_step geo image n buffer i).answer ≡ write_answer geo image n buffer)
    × ((release_step geo image n i).answer ≡ release_answer geo image n)
    × ((repair_step geo image i).answer ≡ repair_answer geo image)
    × ((write_first_outcome geo image n buffer i).answer ≡ write_answer geo image n buffer)
    × ((release_first_outcome geo image n i).answer ≡ release_answer geo image n)
    × ((repair_first_outcome geo image i).answer ≡ repair_answer geo image)
    × (write_answer geo image n buffer ≢ Accepted →
    ((write_step geo image n buffer i).next ≡ Done)
    × (written_first geo image n buffer i ≡ image)
    × (write_first_outcome geo image n buffer i ≡ outcome (write_answer geo image n buffer) []))
    × (release_answer geo image n ≢ Accepted →
    ((release_step geo image n i).next ≡ Done)
    × (released_first geo image n i ≡ image)
    × (release_first_outcome geo image n i ≡ outcome (release_answer geo image n) []))
    × (repair_answer geo image ≢ Accepted →
    ((repair_step geo image i).next ≡ Done)
    × (repaired_first geo image i ≡ image)
    × (repair_first_outcome geo image i ≡ outcome (repair_answer geo image) []))
