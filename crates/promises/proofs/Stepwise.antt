-- The statements of K4's steps (specs/Stepwise.antt), proved. Assumes nothing.
use mathlib.Core.Path.{◌≡◌, refl, sym, ap, ◌∙◌}
use mathlib.Core.List.{List, [], ◌∷◌}
use Prim.Native.Nat.{ℕ, zero, suc, ◌+◌, ◌<◌, ◌≤◌}
use native.Mathlib.Decide.{dec_lt}
use native.Mathlib.Omega.{arith}
use lib.ListN.{length}
use lib.Seq.{take_all, take-nil}
use Rattle.geometry.specs.declared.Geometry.{Geometry}
use Rattle.image.specs.Words.{Image}
use Rattle.flash.specs.declared.Step.{Step}
use Rattle.flash.specs.declared.NextStep.{NextStep}
use Rattle.flash.specs.declared.NextStep.TheVariants.{Done}
use Rattle.flash.specs.Steps.{applied, run, words_in, erasures_in, step_at, first_of}
use Rattle.flash.specs.Placing.{releasing}
use Rattle.flash.specs.Writing.{writing}
use Rattle.flash.specs.Repairing.{repairing}
use Rattle.flash.proofs.Stores.{run_none}
use Rattle.flash.proofs.Parts.{steps-counted, step_past}
use Rattle.answers.specs.Answers.{Answer}
use Rattle.answers.proofs.Acceptance.{if-refused}
use Rattle.calls.specs.Refusals.{write_answer, release_answer, repair_answer}
use Rattle.calls.specs.Calls.{outcome, write_steps, release_steps, repair_steps}
use Rattle.promises.specs.Stepwise.{Part, carried_out, untouched, StepsMake, StepsMakeTheCall, StepsRefuseAlike}

-- a loop that is told the steps of a list, from the one that it is at, carries out as many of them as it has turns
told :
    (geo : Geometry) (ask : ℕ → NextStep) (rest : List Step) (turns : ℕ) (part : Image) (at : ℕ) →
    ((i : ℕ) → ask (at + i) ≡ step_at rest i) →
    carried_out geo ask turns (record { image = part; steps = at })
    ≡ record { image = run geo part (first_of turns rest); steps = at + length (first_of turns rest) }
unfolding carried_out run step_at
told geo ask rest zero part at tells = ap (λ (m : ℕ). record { image = part; steps = m }) (let same : at ≡ at + 0 = omega arith in same)
told geo ask [] (suc turns) part at tells =
    let here : at + 0 ≡ at = omega arith in
    rw (ap ask (sym here) ∙ tells 0) (ap (λ (m : ℕ). record { image = part; steps = m }) (sym here))
told geo ask (s ∷ rest) (suc turns) part at tells =
    let here : at + 0 ≡ at = omega arith in
    let all : suc at + length (first_of turns rest) ≡ at + suc (length (first_of turns rest)) = omega arith in
    let later : (i : ℕ) → ask (suc at + i) ≡ step_at rest i =
    λ i. ap ask (let next : suc at + i ≡ at + suc i = omega arith in next) ∙ tells (suc i) in
    rw (ap ask (sym here) ∙ tells 0)
    (told geo ask rest turns (applied geo part s) (suc at) later
    ∙ ap (λ (m : ℕ). record { image = run geo (applied geo part s) (first_of turns rest); steps = m }) all)

-- before its end a list has a step
step-some : (xs : List Step) (i : ℕ) → i < length xs → step_at xs i ≡ Done → ⊥
unfolding step_at
step-some [] i l e = omega arith
step-some (x ∷ xs) zero l e = let z : ◌≡◌ {A = ℕ} 0 1 = cc in omega arith
step-some (x ∷ xs) (suc i) l e = step-some xs i (omega arith) e

-- any call that is a list of steps
steps-make :
    (geo : Geometry) (image : Image) (answer : Answer) (steps : List Step) →
    StepsMake geo image (step_at steps) (outcome answer steps) (run geo image steps) (λ j. outcome answer (first_of j steps)) (λ j. run geo image (first_of j steps))
steps-make geo image answer steps = (
  λ turns l. loop turns ∙ ap whole (all turns l),
  λ i. (λ e. ends i e, λ l. step_past steps i (omega (arith, steps-counted steps))),
  λ j. loop j,
  λ j l. (ap (outcome answer) (all j l), ap (run geo image) (all j l)),
)
  where
    whole : List Step → Part
    whole xs = record { image = run geo image xs; steps = words_in xs + erasures_in xs }

    loop : (turns : ℕ) → carried_out geo (step_at steps) turns (untouched image) ≡ whole (first_of turns steps)
    loop turns =
        told geo (step_at steps) steps turns image 0 (λ i. ap (step_at steps) (let same : 0 + i ≡ i = omega arith in same))
        ∙ ap (λ (m : ℕ). record { image = run geo image (first_of turns steps); steps = m }) (omega (arith, steps-counted (first_of turns steps)))

    all : (j : ℕ) → words_in steps + erasures_in steps ≤ j → first_of j steps ≡ steps
    all j l = take_all j steps (omega (arith, steps-counted steps))

    ends : (i : ℕ) → step_at steps i ≡ Done → words_in steps + erasures_in steps ≤ i
    ends i e = go (dec_lt i (length steps))
      where
        go : Dec (i < length steps) → words_in steps + erasures_in steps ≤ i
        go (yes l) = absurd (step-some steps i l e)
        go (no l) = omega (arith, steps-counted steps)

pub steps-make-the-call : StepsMakeTheCall
steps-make-the-call geo image n buffer = (
  steps-make geo image (write_answer geo image n buffer) (write_steps geo image n buffer),
  steps-make geo image (release_answer geo image n) (release_steps geo image n),
  steps-make geo image (repair_answer geo image) (repair_steps geo image),
)

pub steps-refuse-alike : StepsRefuseAlike
unfolding write_steps release_steps repair_steps step_at
steps-refuse-alike geo image n buffer i = (
  refl,
  refl,
  refl,
  refl,
  refl,
  refl,
  λ refused. nothing (write_answer geo image n buffer) (if-refused (write_answer geo image n buffer) (writing geo image n buffer) [] refused),
  λ refused. nothing (release_answer geo image n) (if-refused (release_answer geo image n) (releasing geo image n) [] refused),
  λ refused. nothing (repair_answer geo image) (if-refused (repair_answer geo image) (repairing geo image) [] refused),
)
  where
    nothing :
        (answer : Answer) {steps : List Step} →
        steps ≡ [] →
        (step_at steps i ≡ Done) × (run geo image (first_of i steps) ≡ image) × (outcome answer (first_of i steps) ≡ outcome answer [])
    nothing answer none = rw none (refl, ap (run geo image) (take-nil i) ∙ run_none geo image, ap (outcome answer) (take-nil i))
