-- `naming::judged::Judged::slot` meets its contract: a slot is superseded, or what its own entry and map bit say.
use mathlib.Core.Path.{sym, ◌∙◌}
use Rattle.image.proofs.Own.{superseded-slot, slot-own}
use Rattle.naming.proofs.judged.Judged.slot.Goals as goal

pub returns-then-is_superseded : goal.returns-then-is_superseded
returns-then-is_superseded c = sym (superseded-slot _ _ _ _ (sym c.is_superseded.ensures ∙ c.if-is_superseded.true))

pub returns : goal.returns
returns c = c.own_slot.ensures ∙ sym (slot-own _ _ _ _ (sym c.is_superseded.ensures ∙ c.if-is_superseded.false))
