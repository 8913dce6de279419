-- `rules::NumberSet::mark` meets its contract: the number's bit is read, and cleared.
use mathlib.Core.Path.{sym, ◌∙◌}
use mathlib.Core.Bool.{not-not}
use native.Mathlib.Omega.{arith}
use Rattle.rules.specs.Marks.{seen}
use Rattle.rules.proofs.MarkLaws.{seen-marked}
use Rattle.rules.proofs.NumberSet.mark.Goals as goal

pub returns-clause-by_index : goal.returns-clause-by_index
unfolding seen
returns-clause-by_index c = λ m. rw c.clear_bit.ensures (seen-marked c.args.self.now.words c.args.n m (omega arith))

pub returns-clause-value : goal.returns-clause-value
unfolding seen
returns-clause-value c = c.is_set-new.ensures ∙ sym (not-not _)
