-- Acceptance: it alone has the number 0, a call is accepted or not, and what it gives either way. And refusal 4 alone names a pair. Assumes
-- nothing.
use mathlib.Core.Path.{◌≡◌, refl, ap}
use mathlib.Core.Logic.{◌≢◌, ◌↔◌}
use Prim.Native.Nat.{ℕ}
use native.Mathlib.Decide.{ℕ_discrete}
use native.Mathlib.Omega.{arith}
use Rattle.std.specs.Prelude.{Result, Ok, Err, IsErrAnd}
use Rattle.answers.specs.declared.Refusal.{Refusal}
use Rattle.answers.specs.declared.Refusal.TheVariants.{BadGeometry, BadBuffer, BadNumber, Malformed, Unmapped, WornOut, NoRoom}
use Rattle.answers.specs.Answers.{Answer, Accepted, number_of, block_of, rule_of, if_accepted, answered, answer_of}

pub accepted-number : (a : Answer) → (a ≡ Accepted) ↔ (number_of a ≡ 0)
accepted-number a = (λ e. ap number_of e, go a)
  where
    go : (x : Answer) → number_of x ≡ 0 → x ≡ Accepted
    go (Ok u) e = refl
    go (Err BadGeometry) e = absurd (omega arith)
    go (Err BadBuffer) e = absurd (omega arith)
    go (Err BadNumber) e = absurd (omega arith)
    go (Err (Malformed block rule)) e = absurd (omega arith)
    go (Err Unmapped) e = absurd (omega arith)
    go (Err WornOut) e = absurd (omega arith)
    go (Err NoRoom) e = absurd (omega arith)

pub accepted? : (a : Answer) → Dec (a ≡ Accepted)
accepted? a = go (ℕ_discrete (number_of a) 0)
  where
    go : Dec (number_of a ≡ 0) → Dec (a ≡ Accepted)
    go (yes e) = yes ((accepted-number a).1 e)
    go (no n) = no (λ e. n (ap number_of e))

pub if-accepted {ℓ} : {A : Type ℓ} {a : Answer} (x y : A) → a ≡ Accepted → if_accepted a x y ≡ x
if-accepted x y e = rw e

pub if-refused {ℓ} : {A : Type ℓ} (a : Answer) (x y : A) → a ≢ Accepted → if_accepted a x y ≡ y
if-refused (Ok u) x y n = absurd (n refl)
if-refused (Err why) x y n = refl

-- the answer of what a call gave
pub of-answered : {A : Type 0} (a : Answer) (x : A) → answer_of (answered a x) ≡ a
of-answered (Ok u) x = refl
of-answered (Err why) x = refl

-- a call that gave something was accepted, and that is what it gives; and one that gave a refusal was refused with it
pub gave : {A : Type 0} (a : Answer) {x y : A} → answered a x ≡ Ok y → (a ≡ Accepted) × (x ≡ y)
gave (Ok u) e = (refl, cc)
gave (Err why) e = let z : ◌≡◌ {A = ℕ} 0 1 = cc in absurd (omega arith)

pub refused-with : {A : Type 0} (a : Answer) (x : A) {why : Refusal} → answered a x ≡ Err why → a ≡ Err why
refused-with (Ok u) x e = let z : ◌≡◌ {A = ℕ} 0 1 = cc in absurd (omega arith)
refused-with (Err other) x e = cc

-- what gave nothing but this refusal gave it
pub handed-on : {T : Type 0} {why : Refusal} (r : Result T Refusal) → IsErrAnd r (λ e. e ≡ why) → r ≡ Err why
handed-on (Ok x) k = absurd k
handed-on (Err e) k = ap Err k

-- a refusal is no acceptance
pub not-accepted : {a : Answer} {why : Refusal} → a ≡ Err why → a ≢ Accepted
not-accepted e y = let z : ◌≡◌ {A = ℕ} 0 1 = cc in omega arith

pub others-name-none : (a : Answer) → number_of a ≢ 4 → (block_of a ≡ 0) × (rule_of a ≡ 0)
others-name-none (Ok u) n = (refl, refl)
others-name-none (Err BadGeometry) n = (refl, refl)
others-name-none (Err BadBuffer) n = (refl, refl)
others-name-none (Err BadNumber) n = (refl, refl)
others-name-none (Err (Malformed block rule)) n = absurd (n refl)
others-name-none (Err Unmapped) n = (refl, refl)
others-name-none (Err WornOut) n = (refl, refl)
others-name-none (Err NoRoom) n = (refl, refl)
