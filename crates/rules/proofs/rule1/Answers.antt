-- `rules::rule1` meets its contract: it compares the erase count as the rule does.
use Rattle.image.specs.WellFormed.{R1}
use Rattle.rules.proofs.rule1.Goals as goal

pub returns : goal.returns
unfolding R1
returns c = rw c.erase_count.ensures
