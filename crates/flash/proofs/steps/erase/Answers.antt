-- `flash::steps::erase` meets its contract: a word more is ones. Written out, so that a loop that ends too early is refused for the words that it leaves.
use Prim.Native.Nat.{◌<◌}
use native.Mathlib.Omega.{arith}
use lib.ListN.{length, length-set}
use borrow.Author.Fill.{fill_more}
use Rattle.flash.proofs.steps.erase.Goals as goal

pub loop-i-preserved : goal.loop-i-preserved
loop-i-preserved c =
    let l = c.loop-i in
    let h : l.i < length c.args.part.now = omega arith in
    (omega arith, simp length-set l.invariant.1, rw l.invariant.2 (fill_more _ _ _ h))
