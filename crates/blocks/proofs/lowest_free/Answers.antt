-- `blocks::lowest_free` meets its contract: no map bit before the one found is set, and by R2 the map says which slots are free.
use Rattle.std.proofs.Common.{◌<◌, ◌∙◌, false, get_or, below_more, arith}
use Rattle.ranges.proofs.Searches.{best-le}
use Rattle.bits.specs.Word.{is_set}
use Rattle.geometry.proofs.Laws.{k-small}
use Rattle.blocks.proofs.FreeMap.{words-long, lowest-found, lowest-missing}
use Rattle.blocks.proofs.lowest_free.Goals.{Then-z-lt32}
use Rattle.blocks.proofs.lowest_free.Goals as goal

-- the map has two words at most
few : (c : Then-z-lt32) → c.loop-m.m < 2
few c =
    let a = c.args in
    omega (arith, words-long a.block.now.image.geo a.block.now.image.words.now a.block.now.index c.map_words-word-items.ensures c.args.block.now.image.shaped c.args.block.now.in_image c.requires, k-small a.block.now.image.geo c.args.block.now.image.shaped.limits)

pub overflow_mul-result : goal.overflow_mul-result
overflow_mul-result c = omega (arith, few c)

pub overflow_add-result : goal.overflow_add-result
overflow_add-result c = omega (arith, few c)

pub returns-then-z-lt32 : goal.returns-then-z-lt32
returns-then-z-lt32 c =
    let a = c.args in
    lowest-found a.block.now.image.geo a.block.now.image.words.now a.block.now.index c.map_words-word-items.ensures c.args.block.now.image.shaped c.args.block.now.in_image c.requires c.loop-m.m _ (omega arith) c.loop-m.invariant c.lowest_set-z.ensures c.if-z-lt32.true

pub loop-m-preserved : goal.loop-m-preserved
loop-m-preserved c = below_more _ _ c.loop-m.invariant (omega (arith, best-le (λ i r. false) 32 (is_set (get_or c.map_words-word-items.result.now c.loop-m.m 0))))

pub returns : goal.returns
returns c =
    let a = c.args in
    c.d.ensures
    ∙ lowest-missing a.block.now.image.geo a.block.now.image.words.now a.block.now.index c.map_words-word-items.ensures c.args.block.now.image.shaped c.args.block.now.in_image c.requires (λ j l. c.loop-m.invariant j (omega arith))
