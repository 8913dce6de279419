-- A row, number by number: its text and its length. Assumes nothing.
use mathlib.Core.Path.{◌≡◌, refl, sym, ap, ◌∙◌}
use mathlib.Core.List.{List, [], ◌∷◌, ◌++◌, append_assoc, append-nil}
use Prim.Native.Nat.{ℕ, suc, ◌+◌, ◌≤◌, ◌<◌}
use native.Mathlib.Nat.{zero-add}
use native.Mathlib.Numerals.{add-one}
use native.Mathlib.Omega.{arith}
use lib.ListN.{length, get_or, take, drop, set, length-append}
use lib.Seq.{sets, sets-eq, take-suc}
use Rattle.text.specs.Decimal.{decimal}
use Rattle.text.specs.Lines.{spaced, row, put_first}
use Rattle.text.proofs.Stores.{sets-append}

spaced-append : (ms ns : List ℕ) → spaced (ms ++ ns) ≡ spaced ms ++ spaced ns
unfolding spaced
spaced-append [] ns = refl
spaced-append (m ∷ ms) ns =
    ap (λ t. 32 ∷ decimal m ++ t) (spaced-append ms ns) ∙ ap (32 ∷◌) (sym (append_assoc (decimal m) (spaced ms) (spaced ns)))

pub none-spaced : spaced [] ≡ []
unfolding spaced
none-spaced = refl

one-spaced : (n : ℕ) → spaced (n ∷ []) ≡ 32 ∷ decimal n
unfolding spaced
one-spaced n = ap (32 ∷◌) (append-nil (decimal n))

-- one number more
module _ (ns : List ℕ) (i : ℕ) (more : i < length ns) where
  next : spaced (take (i + 1) ns) ≡ spaced (take i ns) ++ 32 ∷ decimal (get_or ns i 0)
  next =
      rw (add-one, take-suc ns i 0 more) (spaced-append (take i ns) (get_or ns i 0 ∷ []) ∙ ap (spaced (take i ns) ++◌) (one-spaced (get_or ns i 0)))

  pub next-length : length (spaced (take (i + 1) ns)) ≡ length (spaced (take i ns)) + 1 + length (decimal (get_or ns i 0))
  next-length = ap length next ∙ length-append (spaced (take i ns)) (32 ∷ decimal (get_or ns i 0)) ∙ omega arith

  -- it is put where those before it end
  pub next-put :
      {out : List ℕ} {at : ℕ} (start : List ℕ) →
      out ≡ sets start 1 (spaced (take i ns)) →
      at ≡ 1 + length (spaced (take i ns)) →
      sets (set out at 32) (at + 1) (decimal (get_or ns i 0)) ≡ sets start 1 (spaced (take (i + 1) ns))
  next-put {out} {at} start put ends =
      rw (put, ends, add-one)
      (sym (ap (sets start 1) next ∙ sets-append start 1 (spaced (take i ns)) (32 ∷ decimal (get_or ns i 0))))

pub row-length : (letter : ℕ) (ns : List ℕ) → length (row letter ns) ≡ length (spaced ns) + 2
unfolding row
row-length letter ns = ap suc (length-append (spaced ns) (10 ∷ [])) ∙ omega arith

-- letter, numbers and newline, one after the other, are the row at the start
pub whole-put :
    {out : List ℕ} {at : ℕ} (letter : ℕ) (ns start : List ℕ) →
    length (row letter ns) ≤ length start →
    out ≡ sets (set start 0 letter) 1 (spaced ns) →
    at ≡ 1 + length (spaced ns) →
    set out at 10 ≡ put_first (row letter ns) start
unfolding row
whole-put letter ns start fits put ends =
    rw (put, ends)
    (sym (sets-append (set start 0 letter) 1 (spaced ns) (10 ∷ []))
    ∙ sets-eq (row letter ns) start 0 (omega arith)
    ∙ ap (λ (k : ℕ). row letter ns ++ drop k start) (zero-add (length (row letter ns))))
