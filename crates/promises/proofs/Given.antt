-- What is given, by its number: the number of the first row that applies, and 0 where none does. Assumes nothing.
use mathlib.Core.Path.{◌≡◌, refl, sym, ap, ◌∙◌}
use mathlib.Core.Logic.{◌↔◌, ◌⊎◌, ⊎_elim}
use mathlib.Core.Bool.{Bool, true, false, not, cond, ◌&&◌, true≢false}
use mathlib.Core.List.{List, [], ◌∷◌}
use Prim.Native.Nat.{ℕ, ◌≤◌}
use native.Mathlib.Omega.{arith}
use lib.Dec.{eqb}
use borrow.Author.Tests.{eq-eqb, eqb-true}
use Rattle.std.specs.Prelude.{Err}
use Rattle.geometry.specs.declared.Geometry.{Geometry}
use Rattle.image.specs.Words.{Image}
use Rattle.answers.specs.Answers.{Answer, Accepted, number_of, block_of, rule_of, if_accepted}
use Rattle.answers.proofs.Acceptance.{accepted-number, accepted?, if-accepted, if-refused, others-name-none}
use Rattle.calls.specs.Refusals.{Row, first_that_applies, row4}
use Rattle.calls.proofs.Rows.{numbered, numbered-parts}
use Rattle.promises.specs.Demands.{is_first, none_applies, GivenExactly, NamesThePair}

-- the number of what is given is that of the first row that applies
number-first : (rows : List Row) → numbered rows ≡ true → (k : ℕ) → 1 ≤ k → (number_of (first_that_applies rows) ≡ k) ↔ (is_first k rows ≡ true)
number-first [] t k l = (λ e. absurd (omega arith), λ e. absurd (true≢false (sym e)))
number-first (r ∷ rs) t k l = go r.applies (number-first rs (numbered-parts r rs t).2 k l)
  where
    go :
        (x : Bool) →
        (number_of (first_that_applies rs) ≡ k) ↔ (is_first k rs ≡ true) →
        (number_of (cond x (Err r.refusal) (first_that_applies rs)) ≡ k) ↔ (cond x (eqb r.number k) (is_first k rs) ≡ true)
    go true ih =
        let same = (numbered-parts r rs t).0 in
        (λ e. eq-eqb r.number k (sym same ∙ e), λ e. same ∙ eqb-true r.number k e)
    go false ih = ih

-- and 0 where none does
number-none : (rows : List Row) → numbered rows ≡ true → (number_of (first_that_applies rows) ≡ 0) ↔ (none_applies rows ≡ true)
number-none [] t = (λ e. refl, λ e. refl)
number-none (r ∷ rs) t = go r.applies (number-none rs (numbered-parts r rs t).2)
  where
    go :
        (x : Bool) →
        (number_of (first_that_applies rs) ≡ 0) ↔ (none_applies rs ≡ true) →
        (number_of (cond x (Err r.refusal) (first_that_applies rs)) ≡ 0) ↔ ((not x && none_applies rs) ≡ true)
    go true ih =
        let parts = numbered-parts r rs t in
        (λ e. absurd (omega (arith, parts.0, parts.1)), λ e. absurd (true≢false (sym e)))
    go false ih = ih

pub given-exactly : (rows : List Row) → numbered rows ≡ true → GivenExactly (first_that_applies rows) rows
given-exactly rows t = (number-first rows t, number-none rows t, accepted-number (first_that_applies rows))

-- K1: among these rows, one whose refusal has the number 4 is row 4; so that is what is given under this number
module _ (geo : Geometry) (image : Image) where
  abbrev pub FourIsRow4 : List Row → Type 0
  FourIsRow4 [] = Unit {0}
  FourIsRow4 (r ∷ rs) = ((eqb (number_of (Err r.refusal)) 4 ≡ false) ⊎ (r.refusal ≡ (row4 geo image).refusal)) × FourIsRow4 rs

  given-4 : (rows : List Row) → FourIsRow4 rows → number_of (first_that_applies rows) ≡ 4 → first_that_applies rows ≡ Err (row4 geo image).refusal
  given-4 [] four e = absurd (omega arith)
  given-4 (r ∷ rs) four e = go r.applies (given-4 rs four.1) e
    where
      go :
          (x : Bool) →
          (number_of (first_that_applies rs) ≡ 4 → first_that_applies rs ≡ Err (row4 geo image).refusal) →
          number_of (cond x (Err r.refusal) (first_that_applies rs)) ≡ 4 →
          cond x (Err r.refusal) (first_that_applies rs) ≡ Err (row4 geo image).refusal
      go true ih e = ⊎_elim (λ other. absurd (true≢false (sym (eq-eqb _ 4 e) ∙ other))) (λ is. ap Err is) four.0
      go false ih e = ih e

  pub names-the-pair : (rows : List Row) → FourIsRow4 rows → NamesThePair geo image (first_that_applies rows)
  names-the-pair rows four =
      (λ e. let is = given-4 rows four e in (ap block_of is, ap rule_of is), others-name-none (first_that_applies rows))

-- what holds whether a call is accepted or not
pub if-either : {A B : Type 0} (f : A → B) (a : Answer) {x y : A} {z : B} → f x ≡ z → f y ≡ z → f (if_accepted a x y) ≡ z
if-either f a {x} {y} {z} p q = go (accepted? a)
  where
    go : Dec (a ≡ Accepted) → f (if_accepted a x y) ≡ z
    go (yes e) = ap f (if-accepted x y e) ∙ p
    go (no n) = ap f (if-refused a x y n) ∙ q
