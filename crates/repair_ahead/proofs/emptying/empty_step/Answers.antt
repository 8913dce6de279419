-- `repair_ahead::emptying::empty_step` meets its contract: step i is one of the copies, or of the erasing behind them, or there is none. Assumes nothing.
use Rattle.std.proofs.Common.{◌≡◌, ap, sym, ◌∙◌, ◌≤◌, arith}
use Rattle.ranges.proofs.Searches.{index-some, index-none}
use Rattle.image.specs.Blocks.{lowest_open}
use Rattle.flash.specs.Repairing.{counted}
use Rattle.flash.specs.Ahead.{copy_steps}
use Rattle.repair_ahead.proofs.EmptyingLaws.{nothing-copied, told-erase, told-count, told-done, count_low}
use Rattle.repair_ahead.proofs.emptying.empty_step.Goals.{Joined-lowest_open, in-Some+else-i-copies, in-None}
use Rattle.repair_ahead.proofs.emptying.empty_step.Goals as goal

-- how many steps the copies have, and that they are passed
copies : (c : Joined-lowest_open) →
    let image = c.args.image.now in
    (c.match-lowest_open.copies ≡ copy_steps image.geo image.words.now c.args.v (lowest_open image.geo image.words.now))
    × (c.match-lowest_open.copies ≤ c.args.i)
copies c =
    let image = c.args.image.now in
    let v = c.args.v in
    elim c.match-lowest_open.branch [
      | in-Some+else-i-copies w ↦ (
        w.copies-is ∙ w.copy_steps-copies.ensures ∙ ap (copy_steps image.geo image.words.now v) (sym (index-some (sym c.lowest_open.ensures ∙ w.in-Some.is)).0),
        omega (arith, w.copies-is, w.if-i-copies.false),
      )
      | in-None w ↦
          let none = index-none (sym c.lowest_open.ensures ∙ w.in-None.is) in
          (w.copies-is ∙ sym (nothing-copied image.geo image.words.now _ v _ c.requires.same none), omega (arith, w.copies-is))
    ]

pub returns-then-j-eq0 : goal.returns-then-j-eq0
returns-then-j-eq0 c =
    let image = c.args.image.now in
    let told = copies (goal.at.returns-then-j-eq0 c).Joined-lowest_open in
    told-erase image.geo image.words.now (counted image.geo image.words.now) c.args.v (lowest_open image.geo image.words.now) c.requires.same c.args.i
    (omega (arith, c.if-j-eq0.true, told.0, told.1))

pub overflow_add-count : goal.overflow_add-count
overflow_add-count c =
    let image = c.args.image.now in
    omega (
      arith,
      c.erase_count-count.ensures,
      count_low image.geo image.words.now (counted image.geo image.words.now) c.args.v (lowest_open image.geo image.words.now) c.requires.same,
    )

pub returns-then-j-eq1 : goal.returns-then-j-eq1
returns-then-j-eq1 c =
    let image = c.args.image.now in
    let told = copies (goal.at.returns-then-j-eq1 c).Joined-lowest_open in
    told-count image.geo image.words.now (counted image.geo image.words.now) c.args.v (lowest_open image.geo image.words.now) c.requires.same c.args.i _ _
    (omega (arith, c.if-j-eq1.true, told.0, told.1))
    c.start-at.ensures
    c.erase_count-count.ensures

pub returns : goal.returns
returns c =
    let image = c.args.image.now in
    let told = copies (goal.at.returns c).Joined-lowest_open in
    told-done image.geo image.words.now (counted image.geo image.words.now) c.args.v (lowest_open image.geo image.words.now) c.requires.same c.args.i
    (omega (arith, c.if-j-eq0.false, c.if-j-eq1.false, told.0, told.1))
