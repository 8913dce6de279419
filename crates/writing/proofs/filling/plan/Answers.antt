-- `writing::filling::plan` meets its contract: each answer is the plan that the tests before it leave.
use Rattle.std.proofs.Common.{◌≡◌, sym, ap, ◌∙◌, arith}
use Rattle.ranges.proofs.Searches.{index-some, index-none}
use Rattle.image.specs.Words.{erase_count}
use Rattle.image.specs.Blocks.{victim}
use Rattle.image.proofs.Facts.{sound-facts, sound-maps}
use Rattle.flash.specs.Writing.{Reclaim}
use Rattle.flash.proofs.Planned.{fill-planned, worn-planned, reclaim-planned}
use Rattle.writing.specs.Planned.{plan_or_refusal}
use Rattle.writing.proofs.filling.plan.Goals.{After-erase_count}
use Rattle.writing.proofs.filling.plan.Goals as goal

pub must_reclaim-requires : goal.must_reclaim-requires
must_reclaim-requires c = sound-maps _ _ (sound-facts _ _ c.requires.image_value)

pub returns-then-not-must_reclaim : goal.returns-then-not-must_reclaim
returns-then-not-must_reclaim c = ap plan_or_refusal (sym (fill-planned _ _ (sym c.must_reclaim.ensures ∙ c.if-not-must_reclaim.true)))

pub returns-in_default : goal.returns-in_default
returns-in_default c =
    absurd (omega (arith, c.requires.image_bound (sym c.must_reclaim.ensures ∙ c.if-not-must_reclaim.false), index-none (sym c.victim.ensures ∙ c.in_default.is)))

-- the victim, and its count
victim-is : (c : After-erase_count) → victim c.args.image.now.geo c.args.image.now.words.now ≡ c.in-Some.v
victim-is c = (index-some (sym c.victim.ensures ∙ c.in-Some.is)).0

count-is : (c : After-erase_count) →
    let image = c.args.image.now in
    c.erase_count.result ≡ erase_count image.geo image.words.now (victim image.geo image.words.now)
count-is c = rw (c.block.ensures.image, c.block.ensures.index) at c.erase_count.ensures ∙ sym (ap (erase_count _ _) (victim-is c))

pub returns-then-erase_count-eq1000000 : goal.returns-then-erase_count-eq1000000
returns-then-erase_count-eq1000000 c =
    let count = count-is (goal.at.returns-then-erase_count-eq1000000 c).After-erase_count in
    ap plan_or_refusal
    (sym (worn-planned _ _ (sym c.must_reclaim.ensures ∙ c.if-not-must_reclaim.false) (sym count ∙ c.if-erase_count-eq1000000.true)))

pub returns : goal.returns
returns c =
    let count = count-is (goal.at.returns c).After-erase_count in
    ap (λ v. plan_or_refusal (Reclaim v)) (sym (victim-is (goal.at.returns c).After-erase_count))
    ∙ ap plan_or_refusal
    (sym (reclaim-planned _ _ (sym c.must_reclaim.ensures ∙ c.if-not-must_reclaim.false) (λ e. c.if-erase_count-eq1000000.false (count ∙ e))))
