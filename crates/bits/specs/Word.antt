-- One word of 32 bits: its bits, one of them cleared, a word programmed over another.
use Rattle.std.specs.Prelude.{Bool, ℕ, zero, suc, ◌+◌, ◌-◌, ◌*◌, ◌/◌, ◌%◌, ◌^◌, min, eqb}
use Rattle.ranges.specs.Range.{count_below, first_below}

abbrev pub word_bits : ℕ
word_bits = 32

-- a word whose every bit is set
abbrev pub ones : ℕ
ones = 0xFFFFFFFF

-- bit j of w: 0 or 1
unfoldable pub bit : ℕ → ℕ → ℕ
bit w j = w / 2 ^ j % 2

abbrev pub is_set : ℕ → ℕ → Bool
is_set w j = eqb (bit w j) 1

-- w with bit j cleared
unfoldable pub cleared : ℕ → ℕ → ℕ
cleared w j = w - bit w j * 2 ^ j

-- The lowest m bits that two words share. (The library's bit_and says the same and does not compute on words: proofs/Programming.antt.)
unfoldable pub shared : ℕ → ℕ → ℕ → ℕ
shared zero a b = 0
shared (suc m) a b = shared m (a / 2) (b / 2) * 2 + min (a % 2) (b % 2)

-- what programming leaves of two words: the bits that both have set (FORMAT.md, Steps)
abbrev pub programmed : ℕ → ℕ → ℕ
programmed old asked = shared word_bits old asked

-- the place of the lowest set bit, or 32
abbrev pub lowest_set : ℕ → ℕ
lowest_set w = first_below word_bits (is_set w)

-- how many bits are set
abbrev pub set_bits : ℕ → ℕ
set_bits w = count_below word_bits (is_set w)
