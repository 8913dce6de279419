-- The upper bits of a number, those from place k on: `w - w % 2 ^ k` keeps them, and has every lower one clear. Assumes nothing.
use mathlib.Core.Path.{◌≡◌, sym, ap, ◌∙◌}
use Prim.Native.Nat.{ℕ, zero, suc, ◌+◌, ◌-◌, ◌*◌, ◌/◌, ◌%◌, ◌^◌, ◌≤◌, ◌<◌}
use native.Mathlib.Nat.{pow-suc, mul_assoc}
use native.Mathlib.Omega.{arith}
use lib.Pow.{shl-shr, shr-shr, split}
use Rattle.bits.specs.Word.{bit}
use Rattle.bits.proofs.Bit.{bit-zero, bit-suc}

-- as a multiple of 2 ^ k
multiple : (w k : ℕ) → w - w % 2 ^ k ≡ w / 2 ^ k * 2 ^ k
multiple w k = omega (arith, split w k)

doubled : (q k : ℕ) → q * 2 ^ suc k ≡ q * 2 ^ k * 2
doubled q k = ap (q *◌) (pow-suc 2 k) ∙ sym (mul_assoc q (2 ^ k) 2)

shifted-clear : (q k j : ℕ) → j < k → bit (q * 2 ^ k) j ≡ 0
shifted-clear q zero j l = absurd (omega arith)
shifted-clear q (suc k) zero l = bit-zero (q * 2 ^ suc k) ∙ omega (arith, doubled q k)
shifted-clear q (suc k) (suc j) l =
    let half : q * 2 ^ suc k / 2 ≡ q * 2 ^ k = omega (arith, doubled q k) in
    bit-suc (q * 2 ^ suc k) j ∙ ap (λ (x : ℕ). bit x j) half ∙ shifted-clear q k j (omega arith)

pub lower-cleared : (w k j : ℕ) → j < k → bit (w - w % 2 ^ k) j ≡ 0
lower-cleared w k j l = ap (λ (x : ℕ). bit x j) (multiple w k) ∙ shifted-clear (w / 2 ^ k) k j l

pub upper-kept : (w k j : ℕ) → k ≤ j → bit (w - w % 2 ^ k) j ≡ bit w j
unfolding bit
upper-kept w k j l =
    let behind : j ≡ k + (j - k) = omega arith in
    let from : (x : ℕ) → x / 2 ^ j ≡ x / 2 ^ k / 2 ^ (j - k) = λ x. ap (λ (i : ℕ). x / 2 ^ i) behind ∙ sym (shr-shr x k (j - k)) in
    ap (◌% 2)
    (from (w - w % 2 ^ k)
    ∙ ap (λ (x : ℕ). x / 2 ^ (j - k)) (ap (◌/ 2 ^ k) (multiple w k) ∙ shl-shr (w / 2 ^ k) k)
    ∙ sym (from w))
