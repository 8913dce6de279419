-- `checking::first_fault` meets its contract: an image that is not sound has its pair named, and in one that is R6 decides.
use Rattle.std.proofs.Common.{◌≡◌, true, not, sym, ap, ◌∙◌, eqb}
use borrow.Author.Tests.{eq-eqb, ne_eqb}
use Rattle.ranges.proofs.Sums.{any-count}
use Rattle.image.specs.Blocks.{blank}
use Rattle.image.specs.WellFormed.{R6, sound, well_formed}
use Rattle.image.proofs.Facts.{sound-facts, sound-maps}
use Rattle.image.proofs.Faults.{fault-last}
use Rattle.checking.proofs.first_fault.Goals.{After-count_blank, Else-not-is_sound}
use Rattle.checking.proofs.first_fault.Goals as goal

pub returns-then-not-is_sound : goal.returns-then-not-is_sound
unfolding well_formed
returns-then-not-is_sound c = rw (sym c.is_sound.ensures ∙ c.if-not-is_sound.true, ← c.first_bad.ensures)

-- after the first test the image is sound
is-sound : (c : Else-not-is_sound) → sound c.args.image.now.geo c.args.image.now.words.now ≡ true
is-sound c = sym c.is_sound.ensures ∙ c.if-not-is_sound.false

pub count_blank-requires : goal.count_blank-requires
count_blank-requires c = sound-maps _ _ (sound-facts _ _ (is-sound (goal.at.count_blank-requires c).Else-not-is_sound))

-- and R6 is whether a block is blank
blank-decides : (c : After-count_blank) → R6 c.args.image.now.geo c.args.image.now.words.now ≡ not (eqb c.count_blank.result 0)
unfolding R6
blank-decides c =
    any-count c.args.image.now.geo.blocks (blank c.args.image.now.geo c.args.image.now.words.now)
    ∙ ap (λ n. not (eqb n 0)) (sym c.count_blank.ensures)

pub returns-then-count_blank-eq0 : goal.returns-then-count_blank-eq0
unfolding well_formed
returns-then-count_blank-eq0 c =
    let here = goal.at.returns-then-count_blank-eq0 c in
    let none = blank-decides here.After-count_blank ∙ ap not (eq-eqb _ 0 c.if-count_blank-eq0.true) in
    rw (is-sound here.Else-not-is_sound, none, fault-last _ _ (is-sound here.Else-not-is_sound) none)

pub returns : goal.returns
unfolding well_formed
returns c =
    let here = goal.at.returns c in
    rw (is-sound here.Else-not-is_sound, blank-decides here.After-count_blank ∙ ap not (ne_eqb _ 0 c.if-count_blank-eq0.false))
