-- `flash::steps::erase` meets its contract: the words passed are ones, and the rest are as they were.
use Rattle.std.proofs.Common.{◌≡◌, ◌≤◌, ◌++◌, length, drop, replicate}
use Rattle.bits.specs.Word.{ones}
use Rattle.flash.proofs.steps.erase.Given as goal

abbrev pub invariant-loop-i : goal.invariant-loop-i
invariant-loop-i l = (l.i ≤ length l.initial.part) × (length l.part ≡ length l.initial.part) × (l.part ≡ replicate l.i ones ++ drop l.i l.initial.part)
