-- `mending::emptiest` meets its contract: of the full blocks the one with fewest live slots, the least worn among equals, and the first of those.
use Rattle.std.proofs.Common.{rules}
use Rattle.image.specs.Words.{erase_count}
use Rattle.image.specs.Blocks.{full, live_slots}
use Rattle.image.specs.Mending.{emptiest}
use Rattle.mending.proofs.emptiest.Goals as goal

pub returns : goal.returns
unfolding emptiest
returns c =
    let geo = c.args.image.now.geo in
    let image = c.args.image.now.words.now in
    c.least.ensures (full geo image) (λ b. (live_slots geo image b, erase_count geo image b)) (λ b t l k. search rules) (λ b key l k. search rules)
