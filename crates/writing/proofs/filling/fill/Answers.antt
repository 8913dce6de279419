-- `writing::filling::fill` meets its contract: the slot that it asks for is a free one of the image, and the sector is placed there.
use Rattle.std.proofs.Common.{◌≡◌, ◌<◌, true, sym, ◌∙◌, arith}
use Rattle.geometry.specs.Geometry.{d}
use Rattle.geometry.proofs.Laws.{d-positive}
use Rattle.image.specs.Found.{Found, At}
use Rattle.image.specs.declared.Slot.TheVariants.{Free}
use Rattle.image.specs.Slots.{slot}
use Rattle.image.specs.declared.view.View.{View}
use Rattle.image.specs.Views.{of_image}
use Rattle.image.specs.WellFormed.{well_formed}
use Rattle.image.proofs.Facts.{sound-facts, sound-maps, formed-sound, formed-blank}
use Rattle.flash.specs.declared.run.Run.{Run}
use Rattle.flash.specs.Runs.{of_run}
use Rattle.flash.specs.Writing.{next_slot}
use Rattle.flash.proofs.RunLaws.{as-steps}
use Rattle.flash.proofs.Planned.{next-some, next-free, filling-next, table-next}
use Rattle.writing.specs.Planned.{place_below}
use Rattle.writing.proofs.NextSlot.{next-chosen}
use Rattle.writing.proofs.filling.fill.Goals.{In-Some, In_default}
use Rattle.writing.proofs.filling.fill.Goals as goal

pub next_slot-requires : goal.next_slot-requires
next_slot-requires c = rw (c.view.ensures.words, c.view.ensures.geo) (sound-maps _ _ (sound-facts _ _ (formed-sound _ _ c.requires.image_value)))

-- the slot that was found is that of the next write
found :
    (r : Run) (image : View) {slot : Found} →
    image.words.now ≡ r.words.now →
    image.geo ≡ r.geo →
    of_run well_formed r ≡ true →
    slot ≡ place_below image.geo.blocks (of_image next_slot image) →
    slot ≡ of_run next_slot r
found r image words geo formed e = rw (words, geo) at e ∙ next-chosen r.geo r.words.now (formed-blank r.geo r.words.now formed)

next-is : (c : In-Some) → of_run next_slot c.args.run.now ≡ At c.in-Some.b c.in-Some.i
next-is c = sym (found c.args.run.now c.view.result c.view.ensures.words c.view.ensures.geo c.requires.image_value c.next_slot.ensures) ∙ c.in-Some.is

-- and is free
free : (c : In-Some) →
    let r = c.args.run.now in
    (c.in-Some.b < r.geo.blocks) × (c.in-Some.i < d r.geo) × (slot r.geo r.words.now c.in-Some.b c.in-Some.i ≡ Free)
free c = next-free _ _ (formed-blank _ _ c.requires.image_value) (d-positive _ c.args.run.now.shaped.limits) _ _ (next-is c)

pub place-requires-clause-image_value : goal.place-requires-clause-image_value
place-requires-clause-image_value c = formed-sound _ _ c.requires.image_value

pub place-requires-clause-b_lt_blocks : goal.place-requires-clause-b_lt_blocks
place-requires-clause-b_lt_blocks c = (free (goal.at.place-requires-clause-b_lt_blocks c).In-Some).0

pub place-requires-clause-i_bound : goal.place-requires-clause-i_bound
place-requires-clause-i_bound c = omega (arith, (free (goal.at.place-requires-clause-i_bound c).In-Some).1)

pub place-requires-clause-i_value : goal.place-requires-clause-i_value
place-requires-clause-i_value c = (free (goal.at.place-requires-clause-i_value c).In-Some).2

pub returns-in-Some-clause-run_after : goal.returns-in-Some-clause-run_after
returns-in-Some-clause-run_after c = as-steps c.place.ensures.run_after (sym (filling-next _ _ (next-is (goal.at.returns-in-Some-clause-run_after c).In-Some) _ _))

pub returns-in-Some-clause-table_after : goal.returns-in-Some-clause-table_after
returns-in-Some-clause-table_after c = c.place.ensures.table_after ∙ sym (table-next _ _ (next-is (goal.at.returns-in-Some-clause-table_after c).In-Some) _ _)

-- there is one
some : (c : In_default) → ⊥
some c = next-some _ _ (sym (found c.args.run.now c.view.result c.view.ensures.words c.view.ensures.geo c.requires.image_value c.next_slot.ensures) ∙ c.in_default.is)

pub returns-in_default-clause-run_after : goal.returns-in_default-clause-run_after
returns-in_default-clause-run_after c = absurd (some c)

pub returns-in_default-clause-table_after : goal.returns-in_default-clause-table_after
returns-in_default-clause-table_after c = absurd (some c)
