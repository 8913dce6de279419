-- `rules::map_agrees` meets its contract: its test of slot i is the rule's.
use Rattle.std.proofs.Common.{rules, ◌≡◌, ◌<◌, ◌||◌, not, eqb, ap, ◌∙◌, length, get_or, ◌/◌, ◌%◌, arith}
use Rattle.ranges.specs.Range.{all_below}
use Rattle.bits.specs.Word.{ones, is_set}
use Rattle.geometry.proofs.Laws.{map-covers}
use Rattle.image.specs.Words.{map_words, entries}
use Rattle.image.proofs.Places.{map-long, entries-long}
use Rattle.rules.proofs.RuleLaws.{agrees, agrees-test}
use Rattle.rules.proofs.map_agrees.Goals as goal

pub all-requires : goal.all-requires
all-requires c = λ i l.
    let geo = c.args.block.now.image.geo in
    let image = c.args.block.now.image.words.now in
    let room = c.args.block.now.image.shaped in
    let in_map : i / 32 < length c.map_words-map.result.now =
    omega (arith, ap length c.map_words-map.ensures, map-long geo image room c.args.block.now.in_image, map-covers geo room.limits) in
    let in_entries : i < length c.entries-entries.result.now =
    omega (arith, ap length c.entries-entries.ensures, entries-long geo image room c.args.block.now.in_image) in
    search rules

pub returns : goal.returns
returns c =
    let geo = c.args.block.now.image.geo in
    let image = c.args.block.now.image.words.now in
    let b = c.args.block.now.index in
    c.all.ensures (agrees geo image b) (λ i t l k.
    let own : t ≡ (not (is_set (get_or (map_words geo image b) (i / 32) 0) (i % 32)) || eqb (get_or (entries geo image b) i 0) ones) = search rules in
    own ∙ agrees-test geo image c.args.block.now.image.shaped.limits b i (omega (arith, l)))
    ∙ ap (λ m. all_below m (agrees geo image b)) c.d.ensures
