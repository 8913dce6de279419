-- `blocks::free_slots` meets its contract: the set bits of the map's words are the free slots and, by R2, the bits from d on.
use Rattle.std.proofs.Common.{◌≡◌, get_or}
use Rattle.ranges.specs.Range.{sum_below}
use Rattle.bits.specs.Word.{set_bits}
use Rattle.blocks.proofs.free_slots.Given as goal

abbrev pub invariant-loop-word : goal.invariant-loop-word
invariant-loop-word l = l.ones ≡ sum_below l.word-index (λ j. set_bits (get_or l.word-items j 0))
