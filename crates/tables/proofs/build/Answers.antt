-- `tables::build` meets its contract: after the blocks passed the table is what the definition notes of them, and in the end it is right.
use mathlib.Core.Path.{◌≡◌, refl, ap, ◌∙◌}
use native.Mathlib.Omega.{arith}
use Rattle.image.proofs.Facts.{sound-facts}
use Rattle.tables.specs.Tables.{blocks_noted}
use Rattle.tables.proofs.Laws.{blocks-next, built-right}
use Rattle.tables.proofs.build.Goals as goal

pub loop-b-init : goal.loop-b-init
unfolding blocks_noted
loop-b-init c =
    let gone = c.forget in
    (omega arith, refl, gone.ensures ∙ rw c.requires.table_len)

pub note_block-requires : goal.note_block-requires
note_block-requires c = rw c.block.ensures.image (sound-facts _ _ c.requires.image_value).current

pub loop-b-preserved : goal.loop-b-preserved
loop-b-preserved c =
    let noted = c.note_block in
    let l = c.loop-b in
    (omega arith, noted.auto.table ∙ l.invariant.1, noted.ensures ∙ rw (c.block.ensures.image, c.block.ensures.index, blocks-next, ← l.invariant.2))

pub returns : goal.returns
returns c =
    let l = c.loop-b in
    let geo = c.args.image.now.geo in
    let image = c.args.image.now.words.now in
    let end : l.b ≡ geo.blocks = omega arith in
    l.invariant.2 ∙ ap (blocks_noted geo image) end ∙ built-right geo image (sound-facts geo image c.requires.image_value)
