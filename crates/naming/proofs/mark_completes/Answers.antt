-- `naming::mark_completes` meets its contract: the marks know the complete entries of the slots passed.
use Rattle.std.proofs.Common.{Bool, ◌≡◌, ℕ, false, cond, sym, ap, ◌∙◌, ◌&&◌, ◌<◌, ltb, get_or, length, arith}
use borrow.Author.Tests.{lt-ltb, le-ltb}
use Rattle.geometry.specs.Geometry.{d}
use Rattle.image.specs.declared.Slot.TheVariants.{Live, Dead}
use Rattle.image.specs.Words.{entry}
use Rattle.image.specs.Slots.{number_in, is_live_with}
use Rattle.image.proofs.Places.{entries-long, entries-at}
use Rattle.rules.proofs.MarkLaws.{marks-next, other-learnt, live-learnt}
use Rattle.naming.specs.Completes.{complete_slot}
use Rattle.naming.proofs.mark_completes.Goals.{then-is_complete+then-number-block, else-is_complete, else-is_complete-via-then-is_complete+else-number-block, else-is_complete-via-else-is_complete}
use Rattle.naming.proofs.mark_completes.Goals.{After-is_complete}
use Rattle.naming.proofs.mark_completes.Goals as goal

-- slot i, by the entry that the code reads
module _ (c : After-is_complete) where
  abbrev word : ℕ
  word = get_or c.entries-word-items.result.now c.loop-word.word-index 0

  inside : c.loop-word.word-index < d c.args.block.now.image.geo
  inside = omega (arith, ap length c.entries-word-items.ensures, entries-long c.args.block.now.image.geo c.args.block.now.image.words.now c.args.block.now.image.shaped c.args.block.now.in_image)

  read : entry c.args.block.now.image.geo c.args.block.now.image.words.now c.args.block.now.index c.loop-word.word-index ≡ word
  read =
      sym (ap (λ ws. get_or ws c.loop-word.word-index 0) c.entries-word-items.ensures ∙ entries-at c.args.block.now.image.geo c.args.block.now.image.words.now c.args.block.now.index c.loop-word.word-index inside)

  by_word :
      complete_slot c.args.block.now.image.geo c.args.block.now.image.words.now c.args.block.now.index c.loop-word.word-index
      ≡ cond (c.is_complete.result && ltb (number_in word) c.args.block.now.image.geo.logical) (Live (number_in word)) Dead
  unfolding complete_slot
  by_word = rw (read, c.is_complete.ensures)

  other : (c.is_complete.result && ltb (number_in word) c.args.block.now.image.geo.logical) ≡ false → (f : ℕ → Bool) → is_live_with f (complete_slot c.args.block.now.image.geo c.args.block.now.image.words.now c.args.block.now.index c.loop-word.word-index) ≡ false
  other t f = ap (is_live_with f) by_word ∙ rw t

pub loop-word-preserved : goal.loop-word-preserved
loop-word-preserved c =
    let here = (goal.at.loop-word-preserved c).After-is_complete in
    elim c.if-is_complete.branch [
      | then-is_complete+then-number-block w ↦ rw w.marks-is
          (live-learnt _ _ c.loop-word.invariant _
          (by_word here ∙ rw (w.if-is_complete.true, ← w.number.ensures, lt-ltb _ _ w.if-number-block.true) (ap Live (w.number.ensures ∙ sym w.number-then-number-block.ensures)))
          _ (w.mark.ensures.long ∙ sym c.loop-word.invariant.long) w.mark.ensures.by_index)
      | else-is_complete w ↦ rw w.marks-is (other-learnt _ _ c.loop-word.invariant (other here
          (elim w.else-is_complete.branch [
            | else-is_complete-via-then-is_complete+else-number-block v ↦ rw (v.if-is_complete.true, ← v.number.ensures, le-ltb _ _ v.if-number-block.false)
            | else-is_complete-via-else-is_complete v ↦ rw v.if-is_complete.false
          ])))
    ]

pub returns : goal.returns
returns c =
    let end : c.loop-word.word-index ≡ d c.args.block.now.image.geo =
    omega (arith, ap length c.entries-word-items.ensures, entries-long c.args.block.now.image.geo c.args.block.now.image.words.now c.args.block.now.image.shaped c.args.block.now.in_image) in
    marks-next _ _ (rw end at c.loop-word.invariant)
