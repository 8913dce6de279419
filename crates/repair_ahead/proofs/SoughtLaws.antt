-- What is sought in lists one behind the other, and step i of such lists by it. Assumes nothing.
use mathlib.Core.Path.{◌≡◌, refl, sym, ap, ap₂, ◌∙◌}
use mathlib.Core.Bool.{Bool, true, false, cond}
use mathlib.Core.Logic.{⊎_elim}
use mathlib.Core.List.{List, [], ◌∷◌, ◌++◌}
use Prim.Native.Nat.{ℕ, zero, suc, ◌+◌, ◌-◌, ◌<◌}
use native.Mathlib.Numerals.{add-one}
use native.Mathlib.Omega.{arith}
use Rattle.std.specs.declared.ops.ControlFlow.{ControlFlow}
use Rattle.std.specs.declared.ops.ControlFlow.TheVariants.{Continue, Break}
use Rattle.ranges.specs.Range.{join_below}
use Rattle.ranges.proofs.Tests.{below_suc}
use Rattle.flash.specs.declared.Step.{Step}
use Rattle.flash.specs.declared.NextStep.{NextStep}
use Rattle.flash.specs.declared.NextStep.TheVariants.{Next}
use Rattle.flash.specs.Steps.{step_at}
use Rattle.repair_ahead.specs.Sought.{sought}

-- ---- a single step, if it is wanted

abbrev pub only_if : Bool → Step → List Step
only_if wanted s = cond wanted (s ∷ []) []

module _ (wanted : Bool) (s : Step) (i : ℕ) where
  -- it is the first
  pub the_one : wanted ≡ true → i ≡ 0 → Break s ≡ sought (only_if wanted s) i
  unfolding sought
  the_one w e = sym (ap₂ (λ (x : Bool) (n : ℕ). sought (only_if x s) n) w e)

  -- any other lies behind it
  pub behind-one : wanted ≡ true → (i ≡ 0 → ⊥) → Continue (i - 1) ≡ sought (only_if wanted s) i
  unfolding sought
  behind-one w some = go i some ∙ sym (ap (λ (x : Bool). sought (only_if x s) i) w)
    where
      go : (n : ℕ) → (n ≡ 0 → ⊥) → Continue (n - 1) ≡ sought (s ∷ []) n
      go zero some = absurd (some refl)
      go (suc n) some = ap Continue (omega arith)

  -- it is not wanted
  pub not-wanted : wanted ≡ false → Continue i ≡ sought (only_if wanted s) i
  unfolding sought
  not-wanted w = sym (ap (λ (x : Bool). sought (only_if x s) i) w)

-- ---- two lists

-- what was found in the first, or else what is sought in the second
abbrev pub found_or : ControlFlow Step ℕ → (ℕ → ControlFlow Step ℕ) → ControlFlow Step ℕ
found_or (Break s) rest = Break s
found_or (Continue k) rest = rest k

pub sought-both : (xs ys : List Step) (i : ℕ) → sought (xs ++ ys) i ≡ found_or (sought xs i) (sought ys)
unfolding sought
sought-both [] ys i = refl
sought-both (x ∷ xs) ys zero = refl
sought-both (x ∷ xs) ys (suc i) = sought-both xs ys i

module _ (xs ys : List Step) (i : ℕ) where
  -- found in the first
  pub in-first : {s : Step} → sought xs i ≡ Break s → sought (xs ++ ys) i ≡ Break s
  in-first e = sought-both xs ys i ∙ ap (λ (r : ControlFlow Step ℕ). found_or r (sought ys)) e

  -- and behind it
  pub in-second : {k : ℕ} → sought xs i ≡ Continue k → sought (xs ++ ys) i ≡ sought ys k
  in-second e = sought-both xs ys i ∙ ap (λ (r : ControlFlow Step ℕ). found_or r (sought ys)) e

-- ---- lists by index, as a loop passes them

-- before the first
pub none_passed : (f : ℕ → List Step) (i : ℕ) → sought (join_below 0 f) i ≡ Continue i
unfolding sought join_below
none_passed f i = refl

module _ (f : ℕ → List Step) (i : ℕ) where
  -- found in those passed: so in all
  found_before : (n : ℕ) {m : ℕ} {s : Step} → m < suc n → sought (join_below m f) i ≡ Break s → sought (join_below n f) i ≡ Break s
  unfolding join_below
  found_before zero {m} l e = let first : m ≡ 0 = omega arith in rw first at e
  found_before (suc n) l e =
      ⊎_elim (λ same. rw same at e) (λ h. in-first (join_below n f) (f n) i (found_before n h e)) (below_suc l)

  -- all those before list m are passed
  module _ (m : ℕ) {k : ℕ} (passed : sought (join_below m f) i ≡ Continue k) where
    this-one : sought (join_below (suc m) f) i ≡ sought (f m) k
    unfolding join_below
    this-one = in-second (join_below m f) (f m) i passed

    -- found in it
    pub found_there : (n : ℕ) {r : ControlFlow Step ℕ} {s : Step} → m < n → r ≡ sought (f m) k → r ≡ Break s → Break s ≡ sought (join_below n f) i
    found_there n l is e = sym (found_before n {m = suc m} (omega arith) (this-one ∙ sym is ∙ e))

    -- passed as well
    pub one-passed : {r : ControlFlow Step ℕ} {j : ℕ} → r ≡ sought (f m) k → r ≡ Continue j → sought (join_below (m + 1) f) i ≡ Continue j
    one-passed is e = rw add-one (this-one ∙ sym is ∙ e)

-- ---- step i, by what is sought

-- what was found, or else a step of the rest
abbrev pub next_or : ControlFlow Step ℕ → (ℕ → NextStep) → NextStep
next_or (Break s) rest = Next s
next_or (Continue k) rest = rest k

pub step_both : (xs ys : List Step) (i : ℕ) → step_at (xs ++ ys) i ≡ next_or (sought xs i) (step_at ys)
unfolding sought step_at
step_both [] ys i = refl
step_both (x ∷ xs) ys zero = refl
step_both (x ∷ xs) ys (suc i) = step_both xs ys i

module _ (xs : List Step) (i : ℕ) {r : ControlFlow Step ℕ} (is : r ≡ sought xs i) where
  -- found in the first of two lists
  pub step-found : (ys : List Step) {s : Step} → r ≡ Break s → Next s ≡ step_at (xs ++ ys) i
  step-found ys e = sym (step_both xs ys i ∙ ap (λ (q : ControlFlow Step ℕ). next_or q (step_at ys)) (sym is ∙ e))

  -- and behind it
  pub step-behind : (ys : List Step) {k : ℕ} → r ≡ Continue k → step_at ys k ≡ step_at (xs ++ ys) i
  step-behind ys e = sym (step_both xs ys i ∙ ap (λ (q : ControlFlow Step ℕ). next_or q (step_at ys)) (sym is ∙ e))
