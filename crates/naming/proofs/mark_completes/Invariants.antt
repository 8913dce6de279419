-- `naming::mark_completes` meets its contract: the marks know the complete entries of the slots passed.
use Rattle.rules.specs.Marks.{Marks}
use Rattle.naming.specs.Completes.{complete_slot}
use Rattle.naming.proofs.mark_completes.Given as goal

abbrev pub invariant-loop-word : goal.invariant-loop-word
invariant-loop-word l = Marks l.block.image.geo (complete_slot l.block.image.geo l.block.image.words.now) l.block.index l.word-index l.marks.words
