-- `naming::mark_all_completes` meets its contract: the marks know the complete entries of the blocks passed.
use Rattle.rules.specs.Marks.{Marks}
use Rattle.naming.specs.Completes.{complete_slot}
use Rattle.naming.proofs.mark_all_completes.Given as goal

abbrev pub invariant-loop-b : goal.invariant-loop-b
invariant-loop-b l = Marks l.image.geo (complete_slot l.image.geo l.image.words.now) l.b 0 l.marks.words
