-- A number in decimal digits, in ASCII (FORMAT.md, The script program), and what is promised of them. proofs/Decimal.antt proves each statement
-- under the name in small letters.
use Rattle.std.specs.Prelude.{◌≡◌, Bool, true, cond, ◌&&◌, List, [], ◌∷◌, ◌++◌, ℕ, zero, suc, ◌+◌, ◌-◌, ◌*◌, ◌/◌, ◌%◌, ◌^◌, ◌≤◌, ◌<◌, leb, ltb, length, get_or}

-- the digits 0 to 9 are 48 to 57 in ASCII
abbrev pub digit : ℕ → ℕ
digit d = 48 + d

-- The digits of n: those of n / 10 and then that of n % 10; one digit where n is below 10. It is taken apart at most `turns` times.
unfoldable pub decimal_within : ℕ → ℕ → List ℕ
decimal_within zero n = []
decimal_within (suc turns) n = cond (ltb n 10) (digit n ∷ []) (decimal_within turns (n / 10) ++ (digit (n % 10) ∷ []))

-- n + 1 turns are enough for any n: each leaves a smaller number
unfoldable pub decimal : ℕ → List ℕ
decimal n = decimal_within (suc n) n

-- ---- What is promised of them.

-- the number that digits say, read from the left: what was read so far counts ten times
abbrev pub read_on : ℕ → List ℕ → ℕ
read_on n [] = n
read_on n (c ∷ cs) = read_on (n * 10 + (c - 48)) cs

-- each of these bytes is a digit
abbrev pub all_digits : List ℕ → Bool
all_digits [] = true
all_digits (c ∷ cs) = leb 48 c && leb c 57 && all_digits cs

-- The digits of a number give the number back.
abbrev pub DigitsGiveTheNumberBack : Type 0
DigitsGiveTheNumberBack = (n : ℕ) → read_on 0 (decimal n) ≡ n

-- They are digits and nothing else, one or more, and the first is a 0 in `0` alone.
abbrev pub NoLeadingZero : Type 0
NoLeadingZero =
    (n : ℕ) →
    (all_digits (decimal n) ≡ true)
    × (1 ≤ length (decimal n))
    × (get_or (decimal n) 0 0 ≡ digit 0 → decimal n ≡ digit 0 ∷ [])

-- A number below 10^k has k digits at most, so one of 32 bits has ten at most.
abbrev pub FewDigits : Type 0
FewDigits =
    ((k n : ℕ) → 1 ≤ k → n < 10 ^ k → length (decimal n) ≤ k) × ((n : ℕ) → n < 2 ^ 32 → length (decimal n) ≤ 10)
