-- `rules::rest_set` meets its contract: the bits that it reads are those from d on.
use Rattle.std.proofs.Common.{rules, ◌≡◌, ◌<◌, ◌+◌, ◌*◌, ◌-◌, ◌/◌, ◌%◌, ap, ap₂, ◌∙◌, length, get_or, arith}
use Rattle.ranges.specs.Range.{all_below}
use Rattle.bits.specs.Word.{is_set}
use Rattle.geometry.specs.Geometry.{d}
use Rattle.geometry.proofs.Laws.{k-small, map-covers}
use Rattle.image.specs.Words.{map_words, map_bit}
use Rattle.image.proofs.Places.{map-long, free-map-at}
use Rattle.rules.proofs.rest_set.Goals as goal

pub overflow_mul-k : goal.overflow_mul-k
overflow_mul-k c = omega (arith, k-small c.args.block.now.image.geo c.args.block.now.image.shaped.limits)

pub overflow_sub-k : goal.overflow_sub-k
overflow_sub-k c = omega (arith, map-covers c.args.block.now.image.geo c.args.block.now.image.shaped.limits)

pub all-requires : goal.all-requires
all-requires c = λ j l.
    let geo = c.args.block.now.image.geo in
    let image = c.args.block.now.image.words.now in
    let small = k-small geo c.args.block.now.image.shaped.limits in
    let in_map : (c.d-d.result + j) / 32 < length c.map_words-map.result.now =
    omega (arith, ap length c.map_words-map.ensures, map-long geo image c.args.block.now.image.shaped c.args.block.now.in_image) in
    search rules

pub returns : goal.returns
returns c =
    let geo = c.args.block.now.image.geo in
    let image = c.args.block.now.image.words.now in
    let b = c.args.block.now.index in
    c.all.ensures (λ j. map_bit geo image b (d geo + j)) (λ j t l q.
    let own : t ≡ is_set (get_or (map_words geo image b) ((d geo + j) / 32) 0) ((d geo + j) % 32) = search rules in
    own ∙ ap (λ w. is_set w ((d geo + j) % 32)) (free-map-at geo image b (d geo + j) (omega (arith, l))))
    ∙ ap₂ (λ x y. all_below (32 * x - y) (λ j. map_bit geo image b (d geo + j))) c.k.ensures c.d-d.ensures
