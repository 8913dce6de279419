-- `k` is what the definition says: the slots of a block divided by 32, rounded up.
use Rattle.geometry.specs.Geometry.{rounded_up}
use Rattle.geometry.proofs.Geometry.k.Goals as goal

pub returns : goal.returns
unfolding rounded_up
returns c = rw c.d.ensures
