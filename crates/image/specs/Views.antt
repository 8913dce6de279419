-- What a definition over a geometry and an image's words says of a view of it, and one of a block, of the block.
use Rattle.std.specs.Prelude.{ℕ}
use Rattle.geometry.specs.declared.Geometry.{Geometry}
use Rattle.image.specs.Words.{Image}
use Rattle.image.specs.declared.view.View.{View}
use Rattle.image.specs.declared.view.Block.{Block}

module _ {ℓ} {A : Type ℓ} where
  abbrev pub of_image : (Geometry → Image → A) → View → A
  of_image f view = f view.geo view.words.now

  abbrev pub of_block : (Geometry → Image → ℕ → A) → Block → A
  of_block f block = f block.image.geo block.image.words.now block.index
