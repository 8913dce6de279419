-- `naming::judged::Judged::is_superseded` meets its contract: the marks say whether another entry is complete for its number.
use Rattle.std.proofs.Common.{rules, ◌≡◌, sym, ap, ◌∙◌, ◌&&◌, ◌<◌, ltb, get_or, length, arith}
use borrow.Author.Tests.{ltb-true}
use Rattle.image.specs.Words.{entry}
use Rattle.image.specs.Slots.{number_in, has_complete, superseded}
use Rattle.image.proofs.Places.{entries-long, entries-at}
use Rattle.naming.proofs.judged.Judged.is_superseded.Goals.{then-is_passing, else-is_passing}
use Rattle.naming.proofs.judged.Judged.is_superseded.Goals.{After-is_passing}
use Rattle.naming.proofs.judged.Judged.is_superseded.Goals as goal

pub bounds-entries-i : goal.bounds-entries-i
bounds-entries-i c =
    let block = c.args.self.now.block in
    omega (arith, c.requires, ap length c.entries.ensures, entries-long block.image.geo block.image.words.now block.image.shaped block.in_image)

-- what the entry that the code reads says of the slot
module _ (c : After-is_passing) where
  by_word :
      superseded c.args.self.now.block.image.geo c.args.self.now.block.image.words.now c.args.self.now.block.index c.args.i
      ≡ (c.is_passing.result
      && ltb (number_in (get_or c.entries.result.now c.args.i 0)) c.args.self.now.block.image.geo.logical
      && has_complete c.args.self.now.block.image.geo c.args.self.now.block.image.words.now (number_in (get_or c.entries.result.now c.args.i 0)))
  unfolding superseded
  by_word =
      let read : entry c.args.self.now.block.image.geo c.args.self.now.block.image.words.now c.args.self.now.block.index c.args.i ≡ get_or c.entries.result.now c.args.i 0 =
      sym (ap (λ ws. get_or ws c.args.i 0) c.entries.ensures ∙ entries-at _ _ _ _ c.requires) in
      rw (read, c.is_passing.ensures)

pub returns-then-number-self : goal.returns-then-number-self
returns-then-number-self c =
    let here = (goal.at.returns-then-number-self c).After-is_passing in
    elim c.if-is_passing.branch [
      | then-is_passing w ↦
          let below = sym w.value-is ∙ c.if-number-self.true in
          let small : c.number-then-number-self.result < c.args.self.now.block.image.geo.logical = omega (arith, ltb-true _ _ below, w.number.ensures, c.number-then-number-self.ensures) in
          c.is_marked.ensures
          ∙ c.args.self.now.complete.says _ small
          ∙ sym (by_word here ∙ rw (w.if-is_passing.true, ← w.number.ensures, below, w.number.ensures, ← c.number-then-number-self.ensures))
      | else-is_passing w ↦ search rules
    ]

pub returns-else-number-self : goal.returns-else-number-self
returns-else-number-self c =
    let here = (goal.at.returns-else-number-self c).After-is_passing in
    elim c.if-is_passing.branch [
      | then-is_passing w ↦ c.if-number-self.false ∙ sym (by_word here ∙ rw (w.if-is_passing.true, ← w.number.ensures, sym w.value-is ∙ c.if-number-self.false))
      | else-is_passing w ↦ c.if-number-self.false ∙ sym (by_word here ∙ rw w.if-is_passing.false)
    ]
