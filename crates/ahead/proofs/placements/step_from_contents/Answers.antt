-- `ahead::placements::step_from_contents` meets its contract: a word of the contents, or a step behind them.
use mathlib.Core.Path.{refl}
use native.Mathlib.Omega.{arith}
use Rattle.ahead.proofs.PlacementLaws.{content-step, after-contents}
use Rattle.ahead.proofs.placements.step_from_contents.Goals as goal

pub returns-then-s-lt128 : goal.returns-then-s-lt128
returns-then-s-lt128 c =
    let a = c.args in
    content-step a.geo a.p a.s a.words.now _ _
    c.if-s-lt128.true
    (omega (arith, c.contents_start.ensures))
    refl

pub returns : goal.returns
returns c =
    let a = c.args in
    after-contents a.geo a.p a.s a.words.now _ c.step_behind.ensures (omega arith)
