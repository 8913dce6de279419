-- One bit cleared, at any place: `cleared`. Assumes nothing.
use mathlib.Core.Path.{◌≡◌, refl, sym, ap, ◌∙◌}
use mathlib.Core.Logic.{⊎_elim}
use Prim.Native.Nat.{ℕ, zero, suc, ◌-◌, ◌/◌, ◌%◌, ◌^◌, ◌≤◌}
use native.Mathlib.Nat.{pow-suc}
use native.Mathlib.Omega.{arith}
use Rattle.bits.specs.Word.{bit, cleared}
use Rattle.bits.proofs.Bit.{bit-zero, bit-suc, bit-cases, bit_le}

-- a bit that is clear stays, and one that is set takes 2 ^ j away
pub cleared-clear : (w j : ℕ) → bit w j ≡ 0 → cleared w j ≡ w
unfolding cleared
cleared-clear w j e = rw e (omega arith)

pub cleared-set : (w j : ℕ) → bit w j ≡ 1 → cleared w j ≡ w - 2 ^ j
unfolding cleared
cleared-set w j e = rw e (omega arith)

-- so nothing is added
pub cleared-le : (w j : ℕ) → cleared w j ≤ w
unfolding cleared
cleared-le w j = omega arith

-- ---- the number less a bit that it has

module _ (w j : ℕ) (h : 2 ^ suc j ≤ w) where
  less-half : (w - 2 ^ suc j) / 2 ≡ w / 2 - 2 ^ j
  less-half = omega (arith, pow-suc 2 j)

  less-odd : (w - 2 ^ suc j) % 2 ≡ w % 2
  less-odd = omega (arith, pow-suc 2 j)

less-here : (j w : ℕ) → bit w j ≡ 1 → bit (w - 2 ^ j) j ≡ 0
less-here zero w e = bit-zero (w - 1) ∙ omega (arith, bit-zero w)
less-here (suc j) w e =
    bit-suc (w - 2 ^ suc j) j
    ∙ ap (λ (x : ℕ). bit x j) (less-half w j (bit_le w (suc j) e))
    ∙ less-here j (w / 2) (sym (bit-suc w j) ∙ e)

less_other : (j i w : ℕ) → bit w j ≡ 1 → (i ≡ j → ⊥) → bit (w - 2 ^ j) i ≡ bit w i
less_other zero zero w e n = absurd (n refl)
less_other zero (suc i) w e n =
    let half : (w - 1) / 2 ≡ w / 2 = omega (arith, bit-zero w) in
    bit-suc (w - 1) i ∙ ap (λ (x : ℕ). bit x i) half ∙ sym (bit-suc w i)
less_other (suc j) zero w e n = bit-zero (w - 2 ^ suc j) ∙ less-odd w j (bit_le w (suc j) e) ∙ sym (bit-zero w)
less_other (suc j) (suc i) w e n =
    bit-suc (w - 2 ^ suc j) i
    ∙ ap (λ (x : ℕ). bit x i) (less-half w j (bit_le w (suc j) e))
    ∙ less_other j i (w / 2) (sym (bit-suc w j) ∙ e) (λ q. n (ap suc q))
    ∙ sym (bit-suc w i)

-- ---- the laws

-- the bit is clear after
pub cleared-here : (w j : ℕ) → bit (cleared w j) j ≡ 0
cleared-here w j =
    ⊎_elim
    (λ e. ap (λ (x : ℕ). bit x j) (cleared-clear w j e) ∙ e)
    (λ e. ap (λ (x : ℕ). bit x j) (cleared-set w j e) ∙ less-here j w e)
    (bit-cases w j)

-- and every other bit is what it was
pub cleared-other : (w j i : ℕ) → (i ≡ j → ⊥) → bit (cleared w j) i ≡ bit w i
cleared-other w j i n =
    ⊎_elim
    (λ e. ap (λ (x : ℕ). bit x i) (cleared-clear w j e))
    (λ e. ap (λ (x : ℕ). bit x i) (cleared-set w j e) ∙ less_other j i w e n)
    (bit-cases w j)
