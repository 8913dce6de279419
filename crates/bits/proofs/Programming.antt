-- A word programmed over another: `programmed`, and when it leaves the asked word. Assumes nothing.
use mathlib.Core.Path.{◌≡◌, refl, sym, ap, ap₂, ◌∙◌}
use mathlib.Core.Bool.{Bool, true, false}
use Prim.Native.Nat.{ℕ, zero, suc, ◌-◌, ◌/◌, ◌^◌, ◌<◌, min}
use native.Mathlib.Nat.{pow-suc}
use native.Mathlib.Decide.{dec_lt, ℕ_discrete}
use native.Mathlib.Omega.{arith}
use lib.Arith.{lt-one}
use lib.Bits.{bit_and, and_step, and_zero_l}
use Rattle.bits.specs.Word.{ones, bit, is_set, cleared, shared, programmed}
use Rattle.bits.proofs.Bit.{bit-zero, bit-suc, bit-at-most-one, ones_bit, bits-same, bit-set, bit-clear, set-bit, bit-beyond}
use Rattle.bits.proofs.Clearing.{cleared-set, cleared-here, cleared-other, cleared-le}

-- ---- over m bits

pub shared-lt : (m a b : ℕ) → shared m a b < 2 ^ m
unfolding shared
shared-lt zero a b = omega arith
shared-lt (suc m) a b = omega (arith, shared-lt m (a / 2) (b / 2), pow-suc 2 m)

-- it is the library's bitwise and
pub shared-and : (m a b : ℕ) → a < 2 ^ m → shared m a b ≡ bit_and a b
unfolding shared
shared-and zero a b l = sym (and_zero_l b) ∙ ap (λ (x : ℕ). bit_and x b) (sym (lt-one l))
shared-and (suc m) a b l = omega (arith, shared-and m (a / 2) (b / 2) (omega (arith, pow-suc 2 m)), and_step a b)

-- a bit is set where both have it set
pub shared-bit : (m a b j : ℕ) → j < m → bit (shared m a b) j ≡ min (bit a j) (bit b j)
unfolding shared
shared-bit zero a b j l = absurd (omega arith)
shared-bit (suc m) a b zero l =
    bit-zero (shared (suc m) a b) ∙ omega (arith, bit-zero a, bit-zero b)
shared-bit (suc m) a b (suc j) l =
    let half : shared (suc m) a b / 2 ≡ shared m (a / 2) (b / 2) = omega arith in
    bit-suc (shared (suc m) a b) j
    ∙ ap (λ (x : ℕ). bit x j) half
    ∙ shared-bit m (a / 2) (b / 2) j (omega arith)
    ∙ ap₂ min (sym (bit-suc a j)) (sym (bit-suc b j))

-- ---- on words

-- on words the definition, which computes, is the library's bit_and, which does not
pub programmed-and : (old asked : ℕ) → old < 2 ^ 32 → programmed old asked ≡ bit_and old asked
programmed-and old asked l = shared-and 32 old asked l

-- what is left is a word
pub programmed-lt : (old asked : ℕ) → programmed old asked < 2 ^ 32
programmed-lt old asked = shared-lt 32 old asked

-- a bit that is set after was set before
pub programmed-never-sets : (old asked j : ℕ) → is_set (programmed old asked) j ≡ true → is_set old j ≡ true
programmed-never-sets old asked j t = go (dec_lt j 32)
  where
    go : Dec (j < 32) → is_set old j ≡ true
    go (yes l) = set-bit old j (omega (arith, bit-set (programmed old asked) j t, shared-bit 32 old asked j l, bit-at-most-one old j))
    go (no n) =
        absurd (omega (arith, bit-set (programmed old asked) j t, bit-beyond 32 (programmed old asked) j (programmed-lt old asked) (omega arith)))

-- an asked word that has no bit set but those of the old one is left as asked
pub left-when-only-clears : (old asked : ℕ) → asked < 2 ^ 32 → ((j : ℕ) → is_set asked j ≡ true → is_set old j ≡ true) → programmed old asked ≡ asked
left-when-only-clears old asked l only =
    bits-same 32 (programmed old asked) asked (programmed-lt old asked) l
    (λ j q. shared-bit 32 old asked j q ∙ go j (is_set asked j) refl)
  where
    go : (j : ℕ) (b : Bool) → is_set asked j ≡ b → min (bit old j) (bit asked j) ≡ bit asked j
    go j true e = omega (arith, bit-set asked j e, bit-set old j (only j e))
    go j false e = omega (arith, bit-clear asked j e)

-- ---- the words that the steps ask for

-- a word with one bit cleared
pub clearing-leaves : (w j : ℕ) → w < 2 ^ 32 → programmed w (cleared w j) ≡ cleared w j
clearing-leaves w j l =
    left-when-only-clears w (cleared w j) (omega (arith, cleared-le w j)) (λ i t. go i (ℕ_discrete i j) (bit-set (cleared w j) i t))
  where
    go : (i : ℕ) → Dec (i ≡ j) → bit (cleared w j) i ≡ 1 → is_set w i ≡ true
    go i (yes e) t = absurd (omega (arith, ap (bit (cleared w j)) e, cleared-here w j))
    go i (no n) t = set-bit w i (omega (arith, cleared-other w j i n))

-- any word over ones
pub ones-leave : (w : ℕ) → w < 2 ^ 32 → programmed ones w ≡ w
ones-leave w l =
    bits-same 32 (programmed ones w) w (programmed-lt ones w) l
    (λ j q. shared-bit 32 ones w j q ∙ omega (arith, ones_bit 32 j q, bit-at-most-one w j))

-- programming goes by the 32 lowest bits of the asked word: by what it leaves over ones
pub over-ones-first : (old asked : ℕ) → programmed old (programmed ones asked) ≡ programmed old asked
over-ones-first old asked =
    bits-same 32 (programmed old (programmed ones asked)) (programmed old asked) (programmed-lt old (programmed ones asked)) (programmed-lt old asked)
    (λ j q.
    shared-bit 32 old (programmed ones asked) j q
    ∙ ap (min (bit old j)) (shared-bit 32 ones asked j q ∙ omega (arith, ones_bit 32 j q, bit-at-most-one asked j))
    ∙ sym (shared-bit 32 old asked j q))

-- the mask that the machine clears a bit by: ones, but for that bit
pub mask-clears : (w j : ℕ) → w < 2 ^ 32 → j < 32 → bit_and w (ones - 2 ^ j) ≡ cleared w j
mask-clears w j l h =
    ap (bit_and w) (sym (cleared-set ones j (ones_bit 32 j h)))
    ∙ sym (programmed-and w (cleared ones j) l)
    ∙ bits-same 32 (programmed w (cleared ones j)) (cleared w j) (programmed-lt w (cleared ones j)) (omega (arith, cleared-le w j))
    (λ i q. shared-bit 32 w (cleared ones j) i q ∙ go i q (ℕ_discrete i j))
  where
    go : (i : ℕ) → i < 32 → Dec (i ≡ j) → min (bit w i) (bit (cleared ones j) i) ≡ bit (cleared w j) i
    go i q (yes e) = rw e (omega (arith, cleared-here ones j, cleared-here w j))
    go i q (no n) =
        omega (arith, cleared-other ones j i n, cleared-other w j i n, ones_bit 32 i q, bit-at-most-one w i)
