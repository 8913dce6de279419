-- `image::kinds::BlockKinds::live_at` meets its contract: the entry alone says which number the slot is live for, and that is one of the image's.
use Rattle.std.proofs.Common.{◌≡◌, refl, sym, ap, ◌∙◌, length, arith}
use Rattle.std.specs.Prelude.{None}
use Rattle.image.specs.declared.Slot.{Slot}
use Rattle.image.specs.declared.Slot.TheVariants.{Free, Live, Dead, Faulty, Superseded}
use Rattle.image.specs.Live.{live_number}
use Rattle.image.specs.Slots.{own_slot}
use Rattle.image.specs.Words.{map_bit}
use Rattle.image.proofs.Entries.{any-bit, live-parts}
use Rattle.image.proofs.Places.{entries-long, entries-at}
use Rattle.image.proofs.kinds.BlockKinds.live_at.Goals.{After-slot_of}
use Rattle.image.proofs.kinds.BlockKinds.live_at.Goals as goal

-- with the block's own bit it is live for the same number
same-number : (c : After-slot_of) →
    let block = c.args.self.now in
    live_number c.slot_of.result ≡ live_number (own_slot block.image.geo block.image.words.now block.index c.args.i)
unfolding own_slot
same-number c =
    let block = c.args.self.now in
    let geo = block.image.geo in
    let image = block.image.words.now in
    let is = entries-at geo image block.index c.args.i c.requires in
    ap live_number c.slot_of.ensures
    ∙ rw (c.entries.ensures, is) (any-bit live_number refl geo.logical _ (map_bit geo image block.index c.args.i) _)

-- a slot that is live for none
no-number : (s : Slot) → ((n : _) → s ≡ Live n → ⊥) → None ≡ live_number s
no-number Free e = refl
no-number (Live n) e = absurd (e n refl)
no-number Dead e = refl
no-number Faulty e = refl
no-number Superseded e = refl

pub bounds-entries-i : goal.bounds-entries-i
bounds-entries-i c =
    let image = c.args.self.now.image in
    omega (arith, ap length c.entries.ensures, entries-long image.geo image.words.now image.shaped c.args.self.now.in_image)

pub returns-in-Live-clause-value : goal.returns-in-Live-clause-value
returns-in-Live-clause-value c = sym (ap live_number c.in-Live.is) ∙ same-number (goal.at.returns-in-Live-clause-value c).After-slot_of

pub returns-in-Live-clause-in_range : goal.returns-in-Live-clause-in_range
returns-in-Live-clause-in_range c = (live-parts _ _ _ _ (sym c.slot_of.ensures ∙ c.in-Live.is)).2

pub returns-in_default-clause-value : goal.returns-in_default-clause-value
returns-in_default-clause-value c = no-number _ c.in_default.not-Live ∙ same-number (goal.at.returns-in_default-clause-value c).After-slot_of
