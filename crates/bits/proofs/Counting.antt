-- The lowest set bit and the number of set bits, from the machine's counts to the definitions. Assumes nothing.
use mathlib.Core.Path.{◌≡◌, sym, ap, ap₂, ◌∙◌, subst}
use mathlib.Core.Logic.{◌⊎◌, inl, inr, ⊎_elim}
use Prim.Native.Nat.{ℕ, zero, suc, ◌+◌, ◌/◌, ◌%◌, ◌^◌, ◌<◌}
use native.Mathlib.Nat.{pow-suc, not-suc-le-zero, le_of_suc-le-suc}
use native.Mathlib.Omega.{arith}
use lib.Arith.{lt-one}
use lib.Count.{ones as onesOf, ones_step, count_trailing_zeros, trailing_le, under}
use Rattle.ranges.specs.Range.{one_if, sum_below}
use Rattle.ranges.proofs.Sums.{sum-ext, sum_first}
use Rattle.ranges.proofs.Searches.{first-is}
use Rattle.bits.specs.Word.{bit, is_set, lowest_set, set_bits}
use Rattle.bits.proofs.Bit.{bit-zero, bit-suc, bit-cases, digit, set-bit, clear-bit}

-- ---- trailing zeros: the bits below are clear, and the bit there is set

under-zero : (b t : ℕ) → b ≡ 0 → under b t ≡ suc t
under-zero b t e = ap (λ (x : ℕ). under x t) e

under_one : (b t : ℕ) → b ≡ 1 → under b t ≡ 0
under_one b t e = ap (λ (x : ℕ). under x t) e

below-trailing : (k w j : ℕ) → j < count_trailing_zeros k w → bit w j ≡ 0
unfolding count_trailing_zeros
below-trailing zero w j h = absurd (not-suc-le-zero h)
below-trailing (suc k) w j h = go j h (digit w) (λ i. below-trailing k (w / 2) i)
  where
    go :
        (i : ℕ) →
        i < under (w % 2) (count_trailing_zeros k (w / 2)) →
        (w % 2 ≡ 0) ⊎ (w % 2 ≡ 1) →
        ((n : ℕ) → n < count_trailing_zeros k (w / 2) → bit (w / 2) n ≡ 0) →
        bit w i ≡ 0
    go i l (inr e) ih = absurd (not-suc-le-zero (rw (under_one _ _ e) at l))
    go zero l (inl e) ih = bit-zero w ∙ e
    go (suc i) l (inl e) ih = bit-suc w i ∙ ih i (le_of_suc-le-suc (rw (under-zero _ _ e) at l))

at-trailing : (k w : ℕ) → count_trailing_zeros k w < k → bit w (count_trailing_zeros k w) ≡ 1
unfolding count_trailing_zeros
at-trailing zero w h = absurd (not-suc-le-zero h)
at-trailing (suc k) w h = go (digit w) (λ l. at-trailing k (w / 2) l)
  where
    go :
        (w % 2 ≡ 0) ⊎ (w % 2 ≡ 1) →
        (count_trailing_zeros k (w / 2) < k → bit (w / 2) (count_trailing_zeros k (w / 2)) ≡ 1) →
        bit w (under (w % 2) (count_trailing_zeros k (w / 2))) ≡ 1
    go (inr e) ih = ap (bit w) (under_one _ _ e) ∙ bit-zero w ∙ e
    go (inl e) ih =
        ap (bit w) (under-zero _ _ e)
        ∙ bit-suc w (count_trailing_zeros k (w / 2))
        ∙ ih (le_of_suc-le-suc (subst (λ (t : ℕ). t < suc k) (under-zero _ _ e) h))

pub lowest-trailing : (w : ℕ) → lowest_set w ≡ count_trailing_zeros 32 w
lowest-trailing w =
    first-is 32 (is_set w) (count_trailing_zeros 32 w) (trailing_le 32 w)
    (λ i l. clear-bit w i (below-trailing 32 w i l))
    (λ l. set-bit w (count_trailing_zeros 32 w) (at-trailing 32 w l))

-- ---- the machine's count of ones is the sum of the bits

ones-sum : (k w : ℕ) → w < 2 ^ k → onesOf w ≡ sum_below k (bit w)
unfolding onesOf sum_below
ones-sum zero w h = ap onesOf (lt-one h)
ones-sum (suc k) w h =
    ones_step w
    ∙ ap₂ ◌+◌
    (sym (bit-zero w))
    (ones-sum k (w / 2) (omega (arith, pow-suc 2 k)) ∙ sum-ext k (λ i l. sym (bit-suc w i)))
    ∙ sym (sum_first k (bit w))

bit-as-test : (w j : ℕ) → bit w j ≡ one_if (is_set w j)
bit-as-test w j =
    ⊎_elim (λ e. rw (clear-bit w j e) e) (λ e. rw (set-bit w j e) e) (bit-cases w j)

pub set-ones : (w : ℕ) → w < 2 ^ 32 → set_bits w ≡ onesOf w
set-ones w h = sym (ones-sum 32 w h ∙ sum-ext 32 (λ j l. bit-as-test w j))
