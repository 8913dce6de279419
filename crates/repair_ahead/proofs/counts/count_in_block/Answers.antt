-- `repair_ahead::counts::count_in_block` meets its contract: the count is wanted where it is not set.
use mathlib.Core.Path.{sym, ◌∙◌}
use Rattle.repair_ahead.proofs.SoughtLaws.{not-wanted}
use Rattle.repair_ahead.proofs.counts.count_in_block.Goals as goal

pub returns : goal.returns
returns c = not-wanted _ _ _ (sym c.count_unset.ensures ∙ c.if-count_unset.false)
