-- The number of a row's refusal, that none applies where a call is accepted, and what rows that come first say of those after them. Assumes nothing.
use mathlib.Core.Path.{◌≡◌, refl}
use mathlib.Core.Bool.{Bool, true, false, ◌&&◌}
use mathlib.Core.List.{List, [], ◌∷◌, ◌++◌}
use Prim.Native.Nat.{◌<◌}
use lib.Dec.{eqb, ltb}
use borrow.Author.Tests.{eqb-true, ltb-true}
use Rattle.std.specs.Prelude.{Err}
use Rattle.ranges.proofs.Tests.{both-pass}
use Rattle.answers.specs.declared.Refusal.{Refusal}
use Rattle.answers.specs.Answers.{Accepted, number_of}
use Rattle.answers.proofs.Acceptance.{not-accepted}
use Rattle.calls.specs.Refusals.{Row, first_that_applies}

-- each row's refusal has the row's number, which is not 0
abbrev pub numbered : List Row → Bool
numbered [] = true
numbered (r ∷ rs) = eqb (number_of (Err r.refusal)) r.number && (ltb 0 r.number && numbered rs)

pub numbered-parts : (r : Row) (rs : List Row) → numbered (r ∷ rs) ≡ true → (number_of (Err r.refusal) ≡ r.number) × (0 < r.number) × (numbered rs ≡ true)
numbered-parts r rs t =
    let first = both-pass (eqb (number_of (Err r.refusal)) r.number) (ltb 0 r.number && numbered rs) t in
    let second = both-pass (ltb 0 r.number) (numbered rs) first.1 in
    (eqb-true (number_of (Err r.refusal)) r.number first.0, ltb-true 0 r.number second.0, second.1)

-- where a call is accepted, no row applies
abbrev pub NoneApplies : List Row → Type 0
NoneApplies [] = Unit {0}
NoneApplies (r ∷ rs) = (r.applies ≡ false) × NoneApplies rs

pub none-applies : (rows : List Row) → first_that_applies rows ≡ Accepted → NoneApplies rows
none-applies [] e = tt
none-applies (r ∷ rs) e = go r.applies refl (none-applies rs)
  where
    go : (b : Bool) → r.applies ≡ b → (first_that_applies rs ≡ Accepted → NoneApplies rs) → NoneApplies (r ∷ rs)
    go true p ih = absurd (not-accepted refl (rw p at e))
    go false p ih = (p, ih (rw p at e))

-- where one of the first rows refuses, so do all together; and where none does, those after them decide
module _ (rest : List Row) where
  pub first-refuse : (rows : List Row) {why : Refusal} → first_that_applies rows ≡ Err why → first_that_applies (rows ++ rest) ≡ Err why
  first-refuse [] e = absurd (not-accepted e refl)
  first-refuse (r ∷ rs) {why} e = go r.applies refl (first-refuse rs)
    where
      go :
          (b : Bool) →
          r.applies ≡ b →
          (first_that_applies rs ≡ Err why → first_that_applies (rs ++ rest) ≡ Err why) →
          first_that_applies (r ∷ rs ++ rest) ≡ Err why
      go true p ih = rw p (rw p at e)
      go false p ih = rw p (ih (rw p at e))

  pub first-pass : (rows : List Row) → first_that_applies rows ≡ Accepted → first_that_applies (rows ++ rest) ≡ first_that_applies rest
  first-pass [] e = refl
  first-pass (r ∷ rs) e =
      let none = none-applies (r ∷ rs) e in
      rw none.0 (first-pass rs (rw none.0 at e))
