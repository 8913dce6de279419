-- `rules::all_ones` meets its contract: what all words passed have in common is ones exactly where each word is.
use Rattle.std.proofs.Common.{◌≡◌, ◌≤◌, refl, ap, ◌∙◌, ◌&&◌, eqb, get_or, add-one, arith}
use lib.Bits.{and_le_l}
use Rattle.ranges.specs.Range.{all_below}
use Rattle.bits.specs.Word.{ones}
use Rattle.geometry.specs.Geometry.{sector_words}
use Rattle.rules.proofs.RuleLaws.{and-ones}
use Rattle.rules.proofs.all_ones.Goals as goal

pub loop-word-init : goal.loop-word-init
unfolding all_below
loop-word-init c = (omega arith, refl)

pub loop-word-preserved : goal.loop-word-preserved
unfolding all_below
loop-word-preserved c =
    let turn = c.loop-word in
    let word = get_or c.args.sector.now turn.word-index 0 in
    let small : word ≤ ones = omega (arith, c.type_inv.sector turn.word-index) in (
      omega (arith, and_le_l turn.all word),
      rw add-one (and-ones turn.all word turn.invariant.0 small ∙ ap (λ x. x && eqb word ones) turn.invariant.1),
    )

pub returns : goal.returns
returns c =
    let end : c.loop-word.word-index ≡ sector_words = omega arith in
    rw end at c.loop-word.invariant.1
