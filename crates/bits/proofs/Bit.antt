-- The bits of a number, at any place: `bit` and `is_set`. Assumes nothing.
use mathlib.Core.Path.{◌≡◌, refl, sym, ap, ◌∙◌}
use mathlib.Core.Logic.{◌⊎◌, inl, inr, ⊎_elim}
use mathlib.Core.Bool.{true, false}
use Prim.Native.Nat.{ℕ, zero, suc, ◌-◌, ◌*◌, ◌/◌, ◌%◌, ◌^◌, ◌≤◌, ◌<◌}
use native.Mathlib.Nat.{pow-suc, div-one, mod-lt, zero-lt-suc, le-div_iff_mul-le, div-div-eq-div-mul, mul_comm, not-suc-le-zero, le_of_suc-le-suc}
use native.Mathlib.Omega.{arith}
use lib.Pow.{pow_pos, pow_mono}
use borrow.Author.Tests.{eq-eqb, ne_eqb, eqb-true, eqb-false}
use Rattle.bits.specs.Word.{bit, is_set}

-- the lowest bit, and each other as a bit of the half
pub bit-zero : (w : ℕ) → bit w 0 ≡ w % 2
unfolding bit
bit-zero w = ap (λ (x : ℕ). x % 2) (div-one w)

pub bit-suc : (w j : ℕ) → bit w (suc j) ≡ bit (w / 2) j
unfolding bit
bit-suc w j =
    ap (λ (x : ℕ). x % 2) (ap (λ (x : ℕ). w / x) (pow-suc 2 j ∙ mul_comm (2 ^ j) 2) ∙ sym (div-div-eq-div-mul w 2 (2 ^ j)))

-- a number's last digit
pub digit : (w : ℕ) → (w % 2 ≡ 0) ⊎ (w % 2 ≡ 1)
digit w = go (w % 2) (mod-lt w (zero-lt-suc 1))
  where
    go : (r : ℕ) → r < 2 → (r ≡ 0) ⊎ (r ≡ 1)
    go zero h = inl refl
    go (suc zero) h = inr refl
    go (suc (suc r)) h = absurd (not-suc-le-zero (le_of_suc-le-suc (le_of_suc-le-suc h)))

-- a bit is clear or set
pub bit-cases : (w j : ℕ) → (bit w j ≡ 0) ⊎ (bit w j ≡ 1)
unfolding bit
bit-cases w j = digit (w / 2 ^ j)

pub bit-at-most-one : (w j : ℕ) → bit w j ≤ 1
bit-at-most-one w j = ⊎_elim (λ e. omega arith) (λ e. omega arith) (bit-cases w j)

-- the same as a test
pub bit-set : (w j : ℕ) → is_set w j ≡ true → bit w j ≡ 1
bit-set w j t = eqb-true (bit w j) 1 t

pub bit-clear : (w j : ℕ) → is_set w j ≡ false → bit w j ≡ 0
bit-clear w j t = go (bit-cases w j)
  where
    go : (bit w j ≡ 0) ⊎ (bit w j ≡ 1) → bit w j ≡ 0
    go (inl e) = e
    go (inr e) = absurd (eqb-false (bit w j) 1 t e)

pub set-bit : (w j : ℕ) → bit w j ≡ 1 → is_set w j ≡ true
set-bit w j e = eq-eqb (bit w j) 1 e

pub clear-bit : (w j : ℕ) → bit w j ≡ 0 → is_set w j ≡ false
clear-bit w j e = ne_eqb (bit w j) 1 (λ q. omega arith)

-- a number that has bit j set is at least 2 ^ j
pub bit_le : (w j : ℕ) → bit w j ≡ 1 → 2 ^ j ≤ w
unfolding bit
bit_le w j e =
    let h : 1 ≤ w / 2 ^ j = omega arith in
    let g : 1 * 2 ^ j ≤ w = (le-div_iff_mul-le (pow_pos j)).0 h in
    omega arith

-- a number below 2 ^ m has no bit set from place m on
pub bit-beyond : (m w j : ℕ) → w < 2 ^ m → m ≤ j → bit w j ≡ 0
bit-beyond m w j l h = go (bit-cases w j)
  where
    go : (bit w j ≡ 0) ⊎ (bit w j ≡ 1) → bit w j ≡ 0
    go (inl e) = e
    go (inr e) = absurd (omega (arith, bit_le w j e, pow_mono h))

-- every bit of 2 ^ m − 1 below place m is set
pub ones_bit : (m j : ℕ) → j < m → bit (2 ^ m - 1) j ≡ 1
ones_bit zero j l = absurd (omega arith)
ones_bit (suc m) zero l = bit-zero (2 ^ suc m - 1) ∙ omega (arith, pow-suc 2 m, pow_pos m)
ones_bit (suc m) (suc j) l =
    let half : (2 ^ suc m - 1) / 2 ≡ 2 ^ m - 1 = omega (arith, pow-suc 2 m, pow_pos m) in
    bit-suc (2 ^ suc m - 1) j ∙ ap (λ (x : ℕ). bit x j) half ∙ ones_bit m j (omega arith)

-- 2 ^ m − 2 ^ l: its half, and that its bits below place l are clear, and from there on set
upper-half : (m l : ℕ) → (2 ^ suc m - 2 ^ suc l) / 2 ≡ 2 ^ m - 2 ^ l
upper-half m l = omega (arith, pow-suc 2 m, pow-suc 2 l)

pub upper-clear : (m l j : ℕ) → l ≤ m → j < l → bit (2 ^ m - 2 ^ l) j ≡ 0
upper-clear m zero j h k = absurd (omega arith)
upper-clear zero (suc l) j h k = absurd (omega arith)
upper-clear (suc m) (suc l) zero h k = bit-zero (2 ^ suc m - 2 ^ suc l) ∙ omega (arith, pow-suc 2 m, pow-suc 2 l)
upper-clear (suc m) (suc l) (suc j) h k =
    bit-suc (2 ^ suc m - 2 ^ suc l) j ∙ ap (λ (x : ℕ). bit x j) (upper-half m l) ∙ upper-clear m l j (omega arith) (omega arith)

pub upper-set : (m l j : ℕ) → l ≤ j → j < m → bit (2 ^ m - 2 ^ l) j ≡ 1
upper-set m zero j h k = ones_bit m j k
upper-set zero (suc l) j h k = absurd (omega arith)
upper-set (suc m) (suc l) zero h k = absurd (omega arith)
upper-set (suc m) (suc l) (suc j) h k =
    bit-suc (2 ^ suc m - 2 ^ suc l) j ∙ ap (λ (x : ℕ). bit x j) (upper-half m l) ∙ upper-set m l j (omega arith) (omega arith)

-- numbers below 2 ^ m with the same m bits are equal
pub bits-same : (m a b : ℕ) → a < 2 ^ m → b < 2 ^ m → ((j : ℕ) → j < m → bit a j ≡ bit b j) → a ≡ b
bits-same zero a b l k h = omega arith
bits-same (suc m) a b l k h =
    let halves = bits-same m (a / 2) (b / 2) (omega (arith, pow-suc 2 m)) (omega (arith, pow-suc 2 m))
    (λ j q. sym (bit-suc a j) ∙ h (suc j) (omega arith) ∙ bit-suc b j) in
    omega (arith, halves, h 0 (omega arith), bit-zero a, bit-zero b)
