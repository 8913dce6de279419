-- `tables::forget` meets its contract: the words passed are those of a number that is live nowhere, and the rest are as they were.
use Rattle.std.proofs.Common.{◌≡◌, ◌++◌, length, drop, replicate}
use Rattle.tables.specs.Tables.{nowhere}
use Rattle.tables.proofs.forget.Given as goal

abbrev pub invariant-loop-word : goal.invariant-loop-word
invariant-loop-word l = (length l.table ≡ length l.initial.table) × (l.table ≡ replicate l.word-index nowhere ++ drop l.word-index l.initial.table)
