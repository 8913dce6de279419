-- `repair_ahead::parts::mended_step` meets its contract: each part is asked for what lies behind the one before it.
use Rattle.std.proofs.Common.{◌≡◌, sym, ◌∙◌, ◌++◌, rules}
use Rattle.ranges.specs.Range.{join_below}
use Rattle.geometry.specs.Geometry.{d}
use Rattle.flash.specs.Repairing.{clears_slot, sets_least, sets_greatest, sets_count, clearing, bounding, counting}
use Rattle.repair_ahead.specs.Sought.{sought}
use Rattle.repair_ahead.proofs.SoughtLaws.{in-first, in-second}
use Rattle.repair_ahead.proofs.parts.mended_step.Goals.{After-step_among-retired, After-step_among-bounded, After-step_among}
use Rattle.repair_ahead.proofs.parts.mended_step.Goals as goal

-- what each of the three tells
retired : (c : After-step_among-retired) → let image = c.args.image.now in c.step_among-retired.result ≡ sought (clearing image.geo image.words.now) c.args.i
unfolding clearing
retired c =
    let image = c.args.image.now in
    c.step_among-retired.ensures (λ b. join_below (d image.geo) (clears_slot image.geo image.words.now b)) (λ k b r l p. search rules)

bounded : (c : After-step_among-bounded) → let image = c.args.image.now in c.step_among-bounded.result ≡ sought (bounding image.geo image.words.now) c.in-Continue.j
unfolding bounding
bounded c =
    let image = c.args.image.now in
    c.step_among-bounded.ensures (λ b. sets_least image.geo image.words.now b ++ sets_greatest image.geo image.words.now b) (λ k b r l p. search rules)

counted : (c : After-step_among) → let image = c.args.image.now in c.step_among.result ≡ sought (counting image.geo image.words.now) c.in-Continue-bounded.k
unfolding counting
counted c = let image = c.args.image.now in c.step_among.ensures (sets_count image.geo image.words.now) (λ k b r l p. search rules)

pub returns-in_default : goal.returns-in_default
returns-in_default c =
    c.in_default.is ∙ sym (in-first _ _ _ (sym (retired (goal.at.returns-in_default c).After-step_among-retired) ∙ c.in_default.is))

pub returns-in_default-bounded : goal.returns-in_default-bounded
returns-in_default-bounded c =
    c.in_default-bounded.is
    ∙ sym
    (in-second _ _ _ (sym (retired (goal.at.returns-in_default-bounded c).After-step_among-retired) ∙ c.in-Continue.is)
    ∙ in-first _ _ _ (sym (bounded (goal.at.returns-in_default-bounded c).After-step_among-bounded) ∙ c.in_default-bounded.is))

pub returns : goal.returns
returns c =
    counted (goal.at.returns c).After-step_among
    ∙ sym
    (in-second _ _ _ (sym (retired (goal.at.returns c).After-step_among-retired) ∙ c.in-Continue.is)
    ∙ in-second _ _ _ (sym (bounded (goal.at.returns c).After-step_among-bounded) ∙ c.in-Continue-bounded.is))
