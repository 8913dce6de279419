-- What a rule's number that was handed on, or none, says of the number. Assumes nothing.
use Rattle.std.proofs.Common.{Bool, true, false, cond, Some, None, ◌≡◌, ℕ, refl, eqb}
use borrow.Author.Tests.{eqb-true, eqb-false}
use Rattle.naming.specs.Broken.{rule_if_any}

pub none_broken : (r : ℕ) → rule_if_any r ≡ None → r ≡ 0
none_broken r = go (eqb r 0) refl
  where
    go : (t : Bool) → eqb r 0 ≡ t → cond t None (Some r) ≡ None → r ≡ 0
    go true t e = eqb-true r 0 t
    go false t e = cc

pub some_broken : (r : ℕ) {n : ℕ} → rule_if_any r ≡ Some n → (n ≡ r) × (r ≡ 0 → ⊥)
some_broken r {n} = go (eqb r 0) refl
  where
    go : (t : Bool) → eqb r 0 ≡ t → cond t None (Some r) ≡ Some n → (n ≡ r) × (r ≡ 0 → ⊥)
    go true t e = cc
    go false t e = let same : n ≡ r = cc in (same, eqb-false r 0 t)
