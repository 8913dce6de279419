-- Stores one after the other: those of a text that is put together from two, and so of a number's digits and of a row's numbers. Assumes nothing.
use mathlib.Core.Path.{◌≡◌, sym, ap, ◌∙◌}
use mathlib.Core.List.{List, [], ◌∷◌, ◌++◌}
use Prim.Native.Nat.{ℕ, suc, ◌+◌, ◌/◌, ◌%◌, ◌≤◌}
use native.Mathlib.Omega.{arith}
use lib.ListN.{length, set}
use lib.Seq.{sets}
use Rattle.text.specs.Decimal.{digit, decimal}
use Rattle.text.proofs.Decimal.{more-digits}

-- the second goes where the first ends
pub sets-append : (l : List ℕ) (i : ℕ) (s t : List ℕ) → sets l i (s ++ t) ≡ sets (sets l i s) (i + length s) t
sets-append l i [] t = ap (λ (k : ℕ). sets l k t) (omega arith)
sets-append l i (c ∷ s) t = sets-append (set l i c) (suc i) s t ∙ ap (λ (k : ℕ). sets (sets (set l i c) (suc i) s) k t) (omega arith)

-- a number's digits: those of its tenth, and then the last one where they end
pub one-more-put :
    {buffer : List ℕ} {end : ℕ} (out : List ℕ) (at n : ℕ) →
    10 ≤ n →
    buffer ≡ sets out at (decimal (n / 10)) →
    end ≡ at + length (decimal (n / 10)) →
    set buffer end (digit (n % 10)) ≡ sets out at (decimal n)
one-more-put out at n ten put ends =
    rw (put, ends) (sym (ap (sets out at) (more-digits n ten) ∙ sets-append out at (decimal (n / 10)) (digit (n % 10) ∷ [])))
