-- `blocks::is_full` meets its contract: a block is full exactly when it has no lowest free slot. Assumes nothing.
use mathlib.Core.Path.{sym, ap₂, ◌∙◌}
use lib.Dec.{eqb}
use Rattle.image.proofs.Reading.{full-first}
use Rattle.blocks.proofs.is_full.Goals as goal

pub returns : goal.returns
returns c = ap₂ eqb c.lowest_free.ensures c.d.ensures ∙ sym (full-first _ _ _)
