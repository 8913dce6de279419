-- `rules::contents_clean` meets its contract: the contents of a slot are 128 words.
use Rattle.std.proofs.Common.{ap, ◌∙◌, length}
use Rattle.image.proofs.Places.{contents-long}
use Rattle.rules.proofs.contents_clean.Goals as goal

pub all_ones-requires : goal.all_ones-requires
all_ones-requires c = ap length c.contents.ensures ∙ contents-long c.args.block.now.image.geo c.args.block.now.image.words.now c.args.block.now.image.shaped c.args.block.now.in_image c.requires
