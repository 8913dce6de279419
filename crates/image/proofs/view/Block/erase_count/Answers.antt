-- `image::view::Block::erase_count` meets its contract: it reads the word where the definition has it.
use Rattle.image.specs.Words.{erase_count}
use Rattle.image.proofs.view.Block.erase_count.Goals as goal

pub returns : goal.returns
unfolding erase_count
returns c = rw c.start-at.ensures
