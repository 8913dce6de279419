-- `naming::mark_all_completes` meets its contract: the marks know the complete entries of the blocks passed.
use mathlib.Core.Path.{◌≡◌}
use native.Mathlib.Omega.{arith}
use Rattle.naming.proofs.CompleteLaws.{marks-complete}
use Rattle.naming.proofs.mark_all_completes.Goals as goal

pub returns : goal.returns
returns c =
    let end : c.loop-b.b ≡ c.args.image.now.geo.blocks = omega arith in
    marks-complete _ _ (rw end at c.loop-b.invariant)
