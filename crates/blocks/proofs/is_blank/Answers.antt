-- `blocks::is_blank` meets its contract: it asks of each word of the map what a blank block asks.
use Rattle.std.proofs.Common.{◌∙◌, ap, eqb, get_or, length, rules}
use Rattle.ranges.specs.Range.{all_below}
use Rattle.bits.specs.Word.{ones}
use Rattle.blocks.proofs.FreeMap.{blank-test}
use Rattle.blocks.proofs.is_blank.Goals as goal

pub returns : goal.returns
returns c =
    let b = c.args.block.now in
    c.all.ensures (λ m. eqb (get_or c.map_words-map.result.now m 0) ones) (search rules)
    ∙ ap (λ ws. all_below (length ws) (λ m. eqb (get_or ws m 0) ones)) c.map_words-map.ensures
    ∙ blank-test b.image.geo b.image.words.now b.index b.image.shaped b.in_image c.requires b.image.words32.small
