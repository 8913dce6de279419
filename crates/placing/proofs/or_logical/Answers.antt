-- `placing::or_logical` meets its contract: where no number is live, the bounds by definition are L.
use mathlib.Core.Path.{sym, ◌∙◌}
use Rattle.std.specs.Prelude.{Some, None}
use Rattle.placing.proofs.BoundLaws.{bounds-or}
use Rattle.placing.proofs.or_logical.Goals as goal

pub returns-in-Some : goal.returns-in-Some
returns-in-Some c f e = bounds-or c.args.logical f {live = Some c.in-Some.live} (sym c.in-Some.is ∙ e)

pub returns-in-None : goal.returns-in-None
returns-in-None c f e = bounds-or c.args.logical f {live = None} (sym c.in-None.is ∙ e)
