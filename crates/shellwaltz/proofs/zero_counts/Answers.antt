-- `shellwaltz::zero_counts` meets its contract: the counts of the blocks passed are zeroed.
use mathlib.Core.Path.{refl}
use native.Mathlib.Numerals.{add-one}
use native.Mathlib.Omega.{arith}
use lib.ListN.{length-set}
use Rattle.calls.specs.Calls.{counts_zeroed}
use Rattle.shellwaltz.proofs.zero_counts.Goals as goal

pub loop-b-init : goal.loop-b-init
unfolding counts_zeroed
loop-b-init c = (omega arith, refl, refl)

pub loop-b-preserved : goal.loop-b-preserved
unfolding counts_zeroed
loop-b-preserved c =
    let l = c.loop-b in
    (omega arith, simp length-set l.invariant.1, rw (add-one, c.start-at.ensures, l.invariant.2))
