-- `rules::rule2` meets its contract: it asks both.
use Rattle.std.proofs.Common.{sym, ◌∙◌}
use Rattle.image.specs.WellFormed.{R2}
use Rattle.rules.proofs.rule2.Goals as goal

pub returns-then-map_agrees : goal.returns-then-map_agrees
unfolding R2
returns-then-map_agrees c = rw (sym c.map_agrees.ensures ∙ c.if-map_agrees.true) c.rest_set.ensures

pub returns-else-map_agrees : goal.returns-else-map_agrees
unfolding R2
returns-else-map_agrees c = c.if-map_agrees.false ∙ sym (rw (sym c.map_agrees.ensures ∙ c.if-map_agrees.false))
