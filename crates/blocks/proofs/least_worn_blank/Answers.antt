-- `blocks::least_worn_blank` meets its contract: of the blank blocks the least worn, the first among equals.
use Rattle.std.proofs.Common.{rules}
use Rattle.image.specs.Words.{erase_count}
use Rattle.image.specs.Blocks.{blank, least_worn_blank}
use Rattle.blocks.proofs.least_worn_blank.Goals as goal

pub returns : goal.returns
unfolding least_worn_blank
returns c =
    let geo = c.args.image.now.geo in
    let image = c.args.image.now.words.now in
    c.least.ensures (blank geo image) (λ b. (0, erase_count geo image b)) (search rules) (search rules)
