-- `entries_start` is what the definition says: the entries come after the map.
use native.Mathlib.Omega.{arith}
use Rattle.geometry.proofs.Laws.{block_inside, length-small, k-small}
use Rattle.geometry.proofs.Geometry.entries_start.Goals as goal

pub overflow_add-result : goal.overflow_add-result
overflow_add-result c =
    let geo = c.args.self in
    omega (arith, block_inside geo c.requires.b_lt_blocks, length-small geo c.requires.limits, k-small geo c.requires.limits)
