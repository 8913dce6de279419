-- `naming::judged::JudgedKinds::live_at` meets its contract: a slot that is superseded is live for no number, and any other for the one that its own entry says.
use Rattle.std.proofs.Common.{sym, ap, ◌∙◌}
use Rattle.image.specs.Live.{live_number}
use Rattle.image.proofs.Own.{superseded-slot, slot-own}
use Rattle.naming.proofs.judged.JudgedKinds.live_at.Goals as goal

pub returns-then-is_superseded-clause-value : goal.returns-then-is_superseded-clause-value
returns-then-is_superseded-clause-value c = sym (ap live_number (superseded-slot _ _ _ _ (sym c.is_superseded.ensures ∙ c.if-is_superseded.true)))

pub returns-clause-value : goal.returns-clause-value
returns-clause-value c = c.live_at.ensures.value ∙ sym (ap live_number (slot-own _ _ _ _ (sym c.is_superseded.ensures ∙ c.if-is_superseded.false)))
