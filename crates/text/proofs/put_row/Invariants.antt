-- `text::put_row` meets its contract. The loop's invariant: the numbers before this one stand after the letter, each after a space, and there is room for a
-- space and ten digits of each that is left, and for a newline.
use mathlib.Core.Path.{◌≡◌}
use Prim.Native.Nat.{◌+◌, ◌-◌, ◌*◌, ◌≤◌}
use lib.ListN.{length, take}
use lib.Seq.{sets}
use Rattle.text.specs.Lines.{spaced}
use Rattle.text.proofs.put_row.Given as goal

abbrev pub invariant-loop-n : goal.invariant-loop-n
invariant-loop-n l = (l.at + 11 * (length l.numbers - l.n-index) + 1 ≤ length l.out)
    × (l.at ≡ 1 + length (spaced (take l.n-index l.numbers)))
    × (l.out ≡ sets l.initial.out 1 (spaced (take l.n-index l.numbers)))
