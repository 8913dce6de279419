-- `repair_ahead::emptying::nth_free` meets its contract: the slots that are free pass the test.
use Rattle.std.proofs.Common.{rules}
use Rattle.image.specs.Slots.{slot, is_free}
use Rattle.flash.specs.Ahead.{nth_free}
use Rattle.repair_ahead.proofs.emptying.nth_free.Goals as goal

pub returns : goal.returns
unfolding nth_free
returns c =
    let b = c.args.judged.now.block in
    rw c.d.ensures at (c.nth.ensures (λ i. is_free (slot b.image.geo b.image.words.now b.index i)) (λ i r l k. search rules))
