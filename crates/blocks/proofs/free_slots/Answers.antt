-- `blocks::free_slots` meets its contract: the set bits of the map's words are the free slots and, by R2, the bits from d on.
use Rattle.std.proofs.Common.{◌≡◌, ◌∙◌, ◌+◌, ◌*◌, ◌-◌, length, get_or, refl, ap, add-one, arith}
use Rattle.ranges.specs.Range.{sum_below}
use Rattle.ranges.proofs.Sums.{sum_bound, count-le}
use Rattle.bits.specs.Word.{is_set, set_bits}
use Rattle.geometry.specs.Geometry.{d, k}
use Rattle.geometry.proofs.Laws.{k-small, map-covers}
use Rattle.image.specs.Blocks.{free_slots}
use Rattle.blocks.proofs.FreeMap.{words-long, ones-counted}
use Rattle.blocks.proofs.free_slots.Goals.{After-k}
use Rattle.blocks.proofs.free_slots.Goals as goal

-- the set bits of all words of the map
counted : (c : After-k) → c.loop-word.ones ≡ free_slots c.args.block.now.image.geo c.args.block.now.image.words.now c.args.block.now.index + (k c.args.block.now.image.geo * 32 - d c.args.block.now.image.geo)
counted c =
    let b = c.args.block.now in
    c.loop-word.invariant
    ∙ ap (λ n. sum_below n (λ m. set_bits (get_or c.map_words-word-items.result.now m 0))) (omega arith)
    ∙ ap (λ ws. sum_below (length ws) (λ m. set_bits (get_or ws m 0))) c.map_words-word-items.ensures
    ∙ ones-counted b.image.geo b.image.words.now b.index b.image.shaped b.in_image c.requires

pub loop-word-init : goal.loop-word-init
unfolding sum_below
loop-word-init c = refl

pub overflow_add-ones : goal.overflow_add-ones
overflow_add-ones c =
    let b = c.args.block.now in
    omega (
      arith,
      sum_bound c.loop-word.word-index 32 (λ m l. count-le 32 (is_set (get_or c.map_words-word-items.result.now m 0))),
      words-long b.image.geo b.image.words.now b.index c.map_words-word-items.ensures b.image.shaped b.in_image c.requires,
      k-small b.image.geo b.image.shaped.limits,
    )

pub loop-word-preserved : goal.loop-word-preserved
unfolding sum_below
loop-word-preserved c = rw add-one (omega arith)

pub overflow_mul-result : goal.overflow_mul-result
overflow_mul-result c = omega (arith, k-small _ c.args.block.now.image.shaped.limits)

pub overflow_sub-result : goal.overflow_sub-result
overflow_sub-result c = omega (arith, map-covers _ c.args.block.now.image.shaped.limits)

pub overflow_sub-result-2 : goal.overflow_sub-result-2
overflow_sub-result-2 c = omega (arith, counted (goal.at.overflow_sub-result-2 c).After-k)

pub returns : goal.returns
returns c = omega (arith, counted (goal.at.returns c).After-k)
