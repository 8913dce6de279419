-- `image::view::Block::copy_contents` meets its contract: each word of the buffer that was passed is the word of the contents at its place.
use mathlib.Core.Path.{sym, ap, ◌∙◌}
use Prim.Native.Nat.{◌+◌, ◌≤◌}
use native.Mathlib.Omega.{arith}
use lib.ListN.{length}
use Rattle.geometry.specs.Geometry.{sector_words}
use Rattle.image.specs.Words.{word}
use Rattle.image.proofs.Reading.{contents-inside}
use Rattle.image.proofs.Places.{contents-are}
use Rattle.image.proofs.view.Block.copy_contents.Goals.{After-contents_start-at}
use Rattle.image.proofs.view.Block.copy_contents.Goals as goal

-- the contents end within the image
room : (c : After-contents_start-at) →
    c.contents_start-at.result + sector_words ≤ length c.args.self.now.image.words.now
room c =
    omega (arith, contents-inside _ _ c.args.self.now.image.shaped c.args.self.now.in_image c.requires.i_bound)

pub returns : goal.returns
returns c =
    let l = c.loop-j in
    sym
    (contents-are _ _ _ _ _
    c.args.self.now.image.shaped
    c.args.self.now.in_image
    c.requires.i_bound
    (omega arith)
    (λ m h. ap (word c.args.self.now.image.words.now) (omega arith) ∙ sym (l.invariant.2 m (omega arith))))
