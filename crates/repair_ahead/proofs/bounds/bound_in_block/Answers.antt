-- `repair_ahead::bounds::bound_in_block` meets its contract: there are steps only where the block is full and one of the words is not programmed, and
-- the second word is asked for what lies behind the first.
use Rattle.std.proofs.Common.{◌≡◌, sym, ap, ap₂, ◌∙◌, ℕ, arith}
use lib.Dec.{eqb}
use Rattle.geometry.specs.Places.{place, least_word}
use Rattle.bits.specs.Word.{ones}
use Rattle.flash.specs.declared.Step.TheVariants.{Program}
use Rattle.flash.specs.Placing.{least_live, greatest_live}
use Rattle.restoring.proofs.Bounded.{asked-bounds}
use Rattle.repair_ahead.specs.Bounds.{asked_bounds}
use Rattle.repair_ahead.specs.Sought.{sought}
use Rattle.repair_ahead.proofs.SoughtLaws.{only_if, in-first, in-second}
use Rattle.repair_ahead.proofs.BoundingLaws.{ReadBounds, some-unset, none-unset}
use Rattle.repair_ahead.proofs.bounds.bound_in_block.Goals.{After-is_full, After-or_zero-asked, After-single_step-first}
use Rattle.repair_ahead.proofs.bounds.bound_in_block.Goals as goal

-- what was read
read : (c : After-is_full) →
    let b = c.args.judged.now.block in
    ReadBounds b.image.geo b.image.words.now b.index c.is_full.result c.least_mapped-least_unset.result c.greatest_mapped-greatest_unset.result
read c = record { fullness = c.is_full.ensures; low = c.least_mapped-least_unset.ensures; high = c.greatest_mapped-greatest_unset.ensures }

-- the two words that are asked for
asked : (c : After-or_zero-asked) →
    let b = c.args.judged.now.block in c.or_zero-asked.result ≡ asked_bounds b.image.geo b.image.words.now b.index
unfolding least_live greatest_live
asked c =
    let b = c.args.judged.now.block in
    let both = asked-bounds b.image.geo b.image.words.now b.index c.live_bounds.ensures in
    c.or_zero-asked.ensures ∙ ap₂ (λ (x y : ℕ). record { least = x; greatest = y }) both.0 both.1

-- what is sought in word 1, at the place that the definition has
first : (c : After-single_step-first) →
    let b = c.args.judged.now.block in
    c.single_step-first.result
    ≡ sought (only_if (eqb c.least_mapped-least_unset.result ones) (Program (place b.image.geo b.index least_word) c.or_zero-asked.result.least)) c.args.i
first c =
    c.single_step-first.ensures
    ∙ ap (λ (p : ℕ). sought (only_if (eqb c.least_mapped-least_unset.result ones) (Program p c.or_zero-asked.result.least)) c.args.i) (omega (arith, c.start-start.ensures))

pub returns-in_default : goal.returns-in_default
returns-in_default c =
    c.in_default.is
    ∙ sym (in-first _ _ _ (sym (first (goal.at.returns-in_default c).After-single_step-first) ∙ c.in_default.is))
    ∙ some-unset (read (goal.at.returns-in_default c).After-is_full) _ c.if-is_full-least_unset.true (asked (goal.at.returns-in_default c).After-or_zero-asked)

pub returns-then-is_full-least_unset : goal.returns-then-is_full-least_unset
returns-then-is_full-least_unset c =
    let g = c.greatest_mapped-greatest_unset.result in
    let k = c.in-Continue.k in
    c.single_step.ensures
    ∙ ap (λ (p : ℕ). sought (only_if (eqb g ones) (Program p c.or_zero-asked.result.greatest)) k) (omega (arith, c.start-start.ensures))
    ∙ sym (in-second _ _ _ (sym (first (goal.at.returns-then-is_full-least_unset c).After-single_step-first) ∙ c.in-Continue.is))
    ∙ some-unset (read (goal.at.returns-then-is_full-least_unset c).After-is_full) _ c.if-is_full-least_unset.true (asked (goal.at.returns-then-is_full-least_unset c).After-or_zero-asked)

pub returns : goal.returns
returns c = none-unset (read (goal.at.returns c).After-is_full) _ c.if-is_full-least_unset.false
