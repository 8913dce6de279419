-- `rules::NumberSet::is_marked` meets its contract: it reads the bit that `seen` does.
use mathlib.Core.Path.{ap}
use mathlib.Core.Bool.{not}
use Rattle.rules.specs.Marks.{seen}
use Rattle.rules.proofs.NumberSet.is_marked.Goals as goal

pub returns : goal.returns
unfolding seen
returns c = ap not c.is_set.ensures
