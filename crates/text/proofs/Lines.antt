-- The statement of specs/Lines.antt, whose definitions are computed; and that a text which was put first is within its buffer. Assumes nothing.
use mathlib.Core.Path.{◌≡◌, refl}
use mathlib.Core.List.{List}
use Prim.Native.Nat.{ℕ, ◌≤◌}
use native.Mathlib.Omega.{arith}
use lib.ListN.{length, drop, length-append}
use Rattle.text.specs.Decimal.{decimal_within, decimal}
use Rattle.text.specs.Lines.{spaced, row, put_first, ShortRecordsLine}

pub short-records-line : ShortRecordsLine
unfolding decimal_within decimal spaced row
short-records-line = refl

pub within :
    {out : List ℕ} {n : ℕ} (text buffer : List ℕ) →
    n ≡ length text →
    out ≡ put_first text buffer →
    n ≤ length out
within text buffer count put = rw (count, put) (omega (arith, length-append text (drop (length text) buffer)))
