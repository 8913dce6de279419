-- `checking::is_sound` meets its contract: the blocks passed keep their rules by own kinds and the marks know their numbers; a block that does
-- not decides, and the whole is the law of proofs/OwnLaws.antt.
use Rattle.std.proofs.Common.{◌≡◌, refl, sym, ◌∙◌, add-one, arith}
use Rattle.ranges.specs.Range.{all_below}
use Rattle.ranges.proofs.Tests.{not-all}
use Rattle.geometry.proofs.Laws.{logical-small}
use Rattle.rules.proofs.RuleLaws.{all_more}
use Rattle.rules.proofs.MarkLaws.{marks-start}
use Rattle.checking.proofs.OwnLaws.{sound-by-own}
use Rattle.checking.proofs.is_sound.Goals as goal

pub loop-b-init : goal.loop-b-init
unfolding all_below
loop-b-init c = (rw c.new-marks.ensures (marks-start _ _ (omega (arith, logical-small c.args.image.now.geo c.args.image.now.shaped.limits))), refl)

pub keeps_rules-requires : goal.keeps_rules-requires
keeps_rules-requires c = rw (c.block.ensures.image, c.block.ensures.index) c.loop-b.invariant.0

pub returns-then-not-keeps_rules : goal.returns-then-not-keeps_rules
returns-then-not-keeps_rules c =
    let value = rw (c.block.ensures.image, c.block.ensures.index) at c.keeps_rules.ensures.value in
    sym (sound-by-own _ _ ∙ not-all _ _ c.loop-b-test.true (sym value ∙ c.if-not-keeps_rules.true))

pub loop-b-preserved : goal.loop-b-preserved
loop-b-preserved c =
    let kept = c.if-not-keeps_rules.false in (
      rw add-one (rw (c.block.ensures.image, c.block.ensures.index) at c.keeps_rules.ensures.marks_2 kept),
      all_more c.loop-b.b _ c.loop-b.invariant.1 (sym (rw (c.block.ensures.image, c.block.ensures.index) at c.keeps_rules.ensures.value) ∙ kept),
    )

pub returns : goal.returns
returns c =
    let end : c.loop-b.b ≡ c.args.image.now.geo.blocks = omega arith in
    sym (sound-by-own _ _ ∙ rw end at c.loop-b.invariant.1)
