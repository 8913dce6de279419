-- `ahead::plain::fill_step` meets its contract: the slot that it asks for is a free one of the image, and the placing of the sector there is known
-- beforehand.
use mathlib.Core.Path.{◌≡◌, refl, sym, ap, ◌∙◌}
use mathlib.Core.List.{List, []}
use native.Mathlib.Omega.{arith}
use Rattle.geometry.proofs.Laws.{d-positive}
use Rattle.image.specs.Found.{At, Nothing}
use Rattle.image.proofs.Facts.{sound-facts, sound-maps, formed-sound, formed-blank}
use Rattle.flash.specs.declared.Placement.{Placement}
use Rattle.flash.specs.declared.Step.{Step}
use Rattle.flash.specs.Steps.{step_at}
use Rattle.flash.specs.Writing.{next_slot, filling}
use Rattle.flash.specs.Ahead.{placement_steps}
use Rattle.flash.proofs.Parts.{step_past}
use Rattle.flash.proofs.CodeLaws.{found_inside}
use Rattle.flash.proofs.Filling.{Ready, Target}
use Rattle.flash.proofs.Planned.{next-free, filling-next}
use Rattle.flash.proofs.Ahead.{placing-ahead}
use Rattle.writing.proofs.NextSlot.{next-chosen}
use Rattle.ahead.proofs.plain.fill_step.Goals.{Start, In-Some}
use Rattle.ahead.proofs.plain.fill_step.Goals as goal

-- the image is one that laws speak of
ready : (c : Start) → let image = c.args.image.now in Ready image.geo image.words.now
ready c =
    let image = c.args.image.now in
    record { shaped = image.shaped; words = image.words32; sound = sound-facts _ _ (formed-sound _ _ c.requires.image_value) }

-- the slot that was found is that of the next write
found : (c : In-Some) → let image = c.args.image.now in next_slot image.geo image.words.now ≡ At c.in-Some.b c.in-Some.slot
found c =
    let image = c.args.image.now in
    sym (next-chosen image.geo image.words.now (formed-blank _ _ c.requires.image_value)) ∙ sym c.next_slot.ensures ∙ c.in-Some.is

-- and one that the sector can be placed in
target : (c : In-Some) →
    let image = c.args.image.now in
    let sector = c.args.sector.now in
    Target image.geo image.words.now sector.number sector.words.now c.in-Some.b c.in-Some.slot
target c =
    let place = next-free _ _ (formed-blank _ _ c.requires.image_value) (d-positive _ c.args.image.now.shaped.limits) _ _ (found c) in
    record {
      number = c.requires.number_lt_logical;
      long = c.args.sector.now.whole;
      words = c.args.sector.now.words32;
      block = place.0;
      slot_is = place.1;
      free = place.2;
    }

pub next_slot-requires : goal.next_slot-requires
next_slot-requires c = sound-maps _ _ (ready (goal.at.next_slot-requires c).Start).sound

pub block-requires : goal.block-requires
block-requires c = (target (goal.at.block-requires c).In-Some).block

pub placement_over-p-requires : goal.placement_over-p-requires
placement_over-p-requires c =
    let sound = (ready (goal.at.placement_over-p-requires c).Start).sound in
    let t = target (goal.at.placement_over-p-requires c).In-Some in
    rw (c.block.ensures.image, c.block.ensures.index)
    record { none_superseded = sound.current; n_lt_logical = t.number; i_bound = t.slot_is; b_value = (sound-maps _ _ sound).agrees _ t.block }

pub placement_step-requires-clause-placeable : goal.placement_step-requires-clause-placeable
placement_step-requires-clause-placeable c =
    let image = c.args.image.now in
    let t = target (goal.at.placement_step-requires-clause-placeable c).In-Some in
    let is = rw (c.block.ensures.image, c.block.ensures.index) at c.placement_over-p.ensures in
    rw is
    record { number_is = t.number; block_is = t.block; slot_is = t.slot_is; old_is = found_inside image.geo image.words.now c.args.sector.now.number refl }

pub returns-in-Some : goal.returns-in-Some
returns-in-Some c =
    let image = c.args.image.now in
    let sector = c.args.sector.now in
    let i = c.args.i in
    let is = rw (c.block.ensures.image, c.block.ensures.index) at c.placement_over-p.ensures in
    c.placement_step.ensures
    ∙ ap (λ (p : Placement). step_at (placement_steps image.geo p sector.words.now) i) is
    ∙ ap (λ (steps : List Step). step_at steps i)
    (sym
    (filling-next image.geo image.words.now (found (goal.at.returns-in-Some c).In-Some) sector.number sector.words.now
    ∙ placing-ahead image.geo image.words.now sector.number sector.words.now _ _ (ready (goal.at.returns-in-Some c).Start) (target (goal.at.returns-in-Some c).In-Some)))

pub returns-in-None : goal.returns-in-None
unfolding filling
returns-in-None c =
    let image = c.args.image.now in
    let none : next_slot image.geo image.words.now ≡ Nothing =
    sym (next-chosen image.geo image.words.now (formed-blank _ _ c.requires.image_value)) ∙ sym c.next_slot.ensures ∙ c.in-None.is in
    rw none (sym (step_past [] _ (omega arith)))
