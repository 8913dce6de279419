-- `tables::note_block` meets its contract: after the slots passed the table is what the definition notes of them.
use mathlib.Core.Path.{refl, sym, ◌∙◌}
use native.Mathlib.Omega.{arith}
use Rattle.image.proofs.Own.{each-own}
use Rattle.tables.specs.Tables.{block_noted}
use Rattle.tables.proofs.Laws.{block-next, block_same}
use Rattle.tables.proofs.note_block.Goals.{in-Live, in_default}
use Rattle.tables.proofs.note_block.Goals as goal

pub loop-i-init : goal.loop-i-init
unfolding block_noted
loop-i-init c = (omega arith, refl, refl)

pub loop-i-preserved : goal.loop-i-preserved
loop-i-preserved c =
    let l = c.loop-i in
    let this = each-own c.requires c.args.block.now.in_image (omega arith) ∙ sym c.own_slot.ensures in
    elim c.match-own_slot.branch [
      | in-Live w ↦ rw w.table-is (omega arith, w.note.auto.table ∙ l.invariant.1, w.note.ensures ∙ rw (w.word_at.ensures, block-next _ _ _ _ _ (this ∙ w.in-Live.is), ← l.invariant.2))
      | in_default w ↦ rw w.table-is (omega arith, l.invariant.1, l.invariant.2 ∙ sym (block_same _ _ _ _ _ this w.in_default.not-Live))
    ]
