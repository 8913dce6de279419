-- `repair_ahead::emptying::Emptying::copy_into` meets its contract: it is what the definition has, field by field. Assumes nothing.
use Rattle.std.proofs.Common.{◌≡◌, refl, sym, ap, ◌∙◌, ℕ, ◌+◌, ◌*◌, ◌/◌, ◌<◌, length, get_or, arith}
use lib.Dec.{eqb}
use Rattle.ranges.proofs.Sums.{count-le}
use Rattle.ranges.proofs.Searches.{index-some}
use Rattle.geometry.specs.Geometry.{k}
use Rattle.geometry.proofs.Laws.{map-covers, d_small}
use Rattle.image.specs.declared.view.View.{View}
use Rattle.image.specs.Words.{free_map}
use Rattle.image.specs.Slots.{number_in, slot, is_live}
use Rattle.image.specs.Blocks.{free_slots}
use Rattle.image.proofs.Places.{map-long, free-map-at}
use Rattle.flash.specs.Ahead.{taken_with, nth_free, copy_into}
use Rattle.ahead.proofs.ReclaimLaws.{Nth, nth_told, at-inside}
use Rattle.repair_ahead.proofs.EmptyingLaws.{copy-made}
use Rattle.repair_ahead.proofs.emptying.Emptying.copy_into.Goals.{Start}
use Rattle.repair_ahead.proofs.emptying.Emptying.copy_into.Goals as goal

-- the slot that is copied
copied : (c : Start) → let v = c.args.self.now.victim.block in Nth v.image.geo v.image.words.now v.index c.args.r c.args.m
copied c = nth_told _ _ _ _ (sym c.requires.m_value) refl

-- the map has a bit for the slot that it goes to
in_map : (c : Start) → c.args.slot < 32 * k c.args.self.now.target.block.image.geo
in_map c =
    let t = c.args.self.now.target.block in
    omega (arith, (index-some c.requires.slot_value).1, map-covers t.image.geo t.image.shaped.limits)

pub entry_at-entry-requires : goal.entry_at-entry-requires
entry_at-entry-requires c =
    let v = c.args.self.now.victim.block in
    at-inside v.image.geo v.index c.args.m v.in_image (copied (goal.at.entry_at-entry-requires c).Start).below

pub bounds-map_words-slot : goal.bounds-map_words-slot
bounds-map_words-slot c =
    let t = c.args.self.now.target.block in
    omega (arith, in_map (goal.at.bounds-map_words-slot c).Start, ap length c.map_words.ensures, map-long t.image.geo t.image.words.now t.image.shaped t.in_image)

pub overflow_add-result : goal.overflow_add-result
overflow_add-result c =
    let v = c.args.self.now.victim.block in
    let this = copied (goal.at.overflow_add-result c).Start in
    omega (arith, this.before, this.below, count-le c.args.m (λ i. is_live (slot v.image.geo v.image.words.now v.index i)), d_small v.image.geo v.image.shaped.limits)

pub returns : goal.returns
returns c =
    let q = c.args.self.now in
    let a = c.args in
    let v = q.victim.block in
    let t = q.target.block in
    let read : get_or c.map_words.result.now (a.slot / 32) 0 ≡ free_map t.image.geo t.image.words.now t.index a.slot =
    ap (λ ws. get_or ws (a.slot / 32) 0) c.map_words.ensures ∙ free-map-at t.image.geo t.image.words.now t.index a.slot (in_map (goal.at.returns c).Start) in
    let free = (index-some c.requires.slot_value).0 in
    copy-made v.image.geo v.image.words.now v.index t.index a.m _ a.r a.slot _ _ _ _
    (sym (copied (goal.at.returns c).Start).before)
    (sym free ∙ ap (λ (image : View). nth_free image.geo image.words.now t.index a.r) q.one_image)
    (c.taken_with.ensures ∙ ap (λ (w : ℕ). taken_with w a.slot) (read ∙ ap (λ (image : View). free_map image.geo image.words.now t.index a.slot) q.one_image))
    c.entry_at-entry.ensures
    (ap (λ (x : ℕ). eqb x (a.r + 1)) (c.free_slots.ensures ∙ ap (λ (image : View). free_slots image.geo image.words.now t.index) q.one_image))
    c.bounds_of_both.ensures
    ∙ ap (copy_into v.image.geo v.image.words.now v.index t.index a.m) (c.number.ensures ∙ ap number_in c.entry_at-entry.ensures)
