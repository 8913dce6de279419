-- What becomes of a number that a C program hands in.
use Rattle.std.specs.Prelude.{ℕ, min}

-- the number that 16 bits hold for x: x, or 65,535 where it does not fit
abbrev pub narrowed : ℕ → ℕ
narrowed x = min x 65535
