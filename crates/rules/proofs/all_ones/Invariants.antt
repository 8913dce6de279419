-- `rules::all_ones` meets its contract: what all words passed have in common is ones exactly where each word is.
use Rattle.std.proofs.Common.{◌≡◌, ◌≤◌, eqb, get_or}
use Rattle.ranges.specs.Range.{all_below}
use Rattle.bits.specs.Word.{ones}
use Rattle.rules.proofs.all_ones.Given as goal

abbrev pub invariant-loop-word : goal.invariant-loop-word
invariant-loop-word l = (l.all ≤ ones) × (eqb l.all ones ≡ all_below l.word-index (λ n. eqb (get_or l.sector n 0) ones))
