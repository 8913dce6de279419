-- `blocks::live_slots` meets its contract: where none is superseded, a slot is what its own entry says.
use Rattle.std.proofs.Common.{sym, ap, ◌∙◌}
use Rattle.ranges.proofs.Sums.{count-ext}
use Rattle.geometry.specs.Geometry.{d}
use Rattle.image.specs.Slots.{is_live}
use Rattle.image.proofs.Own.{each-own}
use Rattle.blocks.proofs.live_slots.Goals as goal

pub returns : goal.returns
returns c =
    let b = c.args.block.now in
    c.count_live.ensures ∙ count-ext (d b.image.geo) (λ i l. ap is_live (sym (each-own c.requires b.in_image l)))
