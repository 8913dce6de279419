-- `blocks::lowest_free` meets its contract: no map bit before the one found is set, and by R2 the map says which slots are free.
use Rattle.std.proofs.Common.{◌≡◌, ℕ, ◌<◌, get_or}
use Rattle.bits.specs.Word.{lowest_set}
use Rattle.blocks.proofs.lowest_free.Given as goal

abbrev pub invariant-loop-m : goal.invariant-loop-m
invariant-loop-m l = (j : ℕ) → j < l.m → lowest_set (get_or l.word-items j 0) ≡ 32
