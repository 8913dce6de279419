-- `naming::first_bad` meets its contract: the blocks passed are sound and the marks know their numbers; a block that is not decides, and
-- the image has one.
use mathlib.Core.Path.{◌≡◌, refl, sym, ap, ◌∙◌}
use mathlib.Core.Bool.{true≢false}
use native.Mathlib.Numerals.{add-one}
use native.Mathlib.Omega.{arith}
use borrow.Author.Tests.{eq-eqb}
use Rattle.ranges.specs.Range.{all_below}
use Rattle.ranges.proofs.Tests.{all-at}
use Rattle.geometry.proofs.Laws.{logical-small}
use Rattle.image.specs.WellFormed.{broken_rule, sound}
use Rattle.image.specs.Faults.{pair}
use Rattle.image.proofs.Faults.{first-broken, fault-here}
use Rattle.rules.proofs.RuleLaws.{all_more}
use Rattle.rules.proofs.MarkLaws.{marks-start}
use Rattle.naming.proofs.BrokenLaws.{none_broken, some_broken}
use Rattle.naming.proofs.first_bad.Goals as goal

pub mark_all_completes-requires : goal.mark_all_completes-requires
mark_all_completes-requires c = rw c.new-completes.ensures (marks-start _ _ (omega (arith, logical-small c.args.image.now.geo c.args.image.now.shaped.limits)))

pub loop-b-init : goal.loop-b-init
unfolding all_below
loop-b-init c = (rw c.new-marks.ensures (marks-start _ _ (omega (arith, logical-small c.args.image.now.geo c.args.image.now.shaped.limits))), refl)

pub returns-in-Some : goal.returns-in-Some
returns-in-Some c =
    let loop = c.loop-b in
    let named = some_broken (broken_rule c.args.image.now.geo c.args.image.now.words.now loop.b) (sym (rw (c.block.ensures.image, c.block.ensures.index) at c.broken_rule.ensures.value) ∙ c.in-Some.is) in
    ap (pair loop.b) named.0 ∙ sym (fault-here _ _ _ c.loop-b-test.true (all-at loop.b _ loop.invariant.1) named.1)

pub loop-b-preserved : goal.loop-b-preserved
loop-b-preserved c =
    let loop = c.loop-b in
    let kept = none_broken (broken_rule c.args.image.now.geo c.args.image.now.words.now loop.b) (sym (rw (c.block.ensures.image, c.block.ensures.index) at c.broken_rule.ensures.value) ∙ c.in_default.is) in (
      rw add-one (rw (c.block.ensures.image, c.block.ensures.index) at c.broken_rule.ensures.marks_2 c.in_default.is),
      all_more loop.b _ loop.invariant.1 ((first-broken _ _ _).all ∙ eq-eqb _ 0 kept),
    )

pub returns : goal.returns
unfolding sound
returns c =
    let end : c.loop-b.b ≡ c.args.image.now.geo.blocks = omega arith in
    absurd (true≢false (sym (rw end at c.loop-b.invariant.1) ∙ c.requires))
