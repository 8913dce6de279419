-- K4: what the call for one step of a write, a release or a repair gives, for every input (FORMAT.md, Step by step). What is reported and left of the first
-- steps stands with the whole calls (calls/specs/Calls).
use Rattle.std.specs.Prelude.{List, ℕ, Result}
use Rattle.geometry.specs.declared.Geometry.{Geometry}
use Rattle.image.specs.Words.{Image}
use Rattle.flash.specs.declared.NextStep.{NextStep}
use Rattle.flash.specs.Steps.{step_at}
use Rattle.answers.specs.declared.Refusal.{Refusal}
use Rattle.answers.specs.Answers.{Answer, answered}
use Rattle.calls.specs.Refusals.{write_answer, release_answer, repair_answer}
use Rattle.calls.specs.Calls.{write_steps, release_steps, repair_steps}

-- what a call for one step gives: the whole call's answer; and the step, or that the call is done before it
pub record Stepped : Type 0 where
  pub answer : Answer
  pub next : NextStep

-- the code gives the same as a Result
abbrev pub step_of : Stepped → Result NextStep Refusal
step_of s = answered s.answer s.next

module _ (geo : Geometry) (image : Image) where
  -- step i, from 0, of the whole call on this image, or that there is none; a refused call has no step, and its answer is the whole call's
  abbrev pub write_step : ℕ → List ℕ → ℕ → Stepped
  write_step n buffer i = record { answer = write_answer geo image n buffer; next = step_at (write_steps geo image n buffer) i }

  abbrev pub release_step : ℕ → ℕ → Stepped
  release_step n i = record { answer = release_answer geo image n; next = step_at (release_steps geo image n) i }

  abbrev pub repair_step : ℕ → Stepped
  repair_step i = record { answer = repair_answer geo image; next = step_at (repair_steps geo image) i }
