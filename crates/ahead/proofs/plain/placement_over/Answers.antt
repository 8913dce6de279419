-- `ahead::plain::placement_over` meets its contract: it is what the definition has, field by field.
use Rattle.std.proofs.Common.{◌≡◌, ap, ◌∙◌, ℕ, ◌/◌, ◌%◌, ◌<◌, ◌*◌, arith, length, get_or}
use Rattle.bits.specs.Word.{cleared}
use Rattle.geometry.specs.Geometry.{k}
use Rattle.geometry.proofs.Laws.{map-covers}
use Rattle.image.specs.Words.{free_map}
use Rattle.image.proofs.Places.{map-long, free-map-at}
use Rattle.flash.specs.Placing.{entry_at}
use Rattle.flash.proofs.CodeLaws.{found_inside}
use Rattle.ahead.proofs.plain.placement_over.Goals.{After-map_words}
use Rattle.ahead.proofs.plain.placement_over.Goals as goal

-- the map has a bit for every slot
in_map : (c : After-map_words) → c.args.i < 32 * k c.args.block.now.image.geo
in_map c = omega (arith, map-covers c.args.block.now.image.geo c.args.block.now.image.shaped.limits)

pub bounds-map_words-i : goal.bounds-map_words-i
bounds-map_words-i c =
    let b = c.args.block.now in
    omega (arith, in_map (goal.at.bounds-map_words-i c).After-map_words, ap length c.map_words.ensures, map-long b.image.geo b.image.words.now b.image.shaped b.in_image)

pub entry_at-requires : goal.entry_at-requires
entry_at-requires c = found_inside _ _ c.args.n c.find-old.ensures

pub returns : goal.returns
returns c =
    let b = c.args.block.now in
    let word : get_or c.map_words.result.now (c.args.i / 32) 0 ≡ free_map b.image.geo b.image.words.now b.index c.args.i =
    ap (λ ws. get_or ws (c.args.i / 32) 0) c.map_words.ensures ∙ free-map-at b.image.geo b.image.words.now b.index c.args.i (in_map (goal.at.returns c).After-map_words) in
    let map = c.clear_bit-map.ensures ∙ ap (λ (w : ℕ). cleared w (c.args.i % 32)) word in
    let kept = c.entry_at.ensures ∙ ap (entry_at b.image.geo b.image.words.now) c.find-old.ensures in
    rw (c.bounds_with.ensures, c.free_slots.ensures, kept, c.find-old.ensures, map)
