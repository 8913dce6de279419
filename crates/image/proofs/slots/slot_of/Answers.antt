-- `image::slots::slot_of` meets its contract: each answer is the kind of slot that the tests before it leave.
use Rattle.std.proofs.Common.{Bool, true, false, cond, ◌||◌, ◌≡◌, sym, ◌∙◌, eqb, ltb}
use borrow.Author.Tests.{lt-ltb, le-ltb}
use Rattle.bits.specs.Word.{ones}
use Rattle.image.specs.declared.Slot.TheVariants.{Free, Live, Dead, Faulty}
use Rattle.image.specs.Slots.{slot_of, is_complete, is_passing}
use Rattle.image.proofs.Entries.{slot-tests}
use Rattle.image.proofs.slots.slot_of.Goals.{After-has_number}
use Rattle.image.proofs.slots.slot_of.Goals as goal

-- the kind, where the entry is complete or in passing, and where it is neither
module _ (c : After-has_number) where
  tests : {t : Bool} → c.has_number.result ≡ t → (is_complete c.args.entry || is_passing c.args.entry) ≡ t
  tests e = sym c.has_number.ensures ∙ e

  stored :
      c.has_number.result ≡ true →
      slot_of c.args.logical c.args.set c.args.entry
      ≡ cond (ltb c.number-number.result c.args.logical) (Live c.number-number.result) (cond (is_complete c.args.entry) Faulty Dead)
  stored e = slot-tests c.args.logical c.args.set c.args.entry ∙ rw (tests e, c.number-number.ensures)

  other :
      c.has_number.result ≡ false →
      slot_of c.args.logical c.args.set c.args.entry ≡ cond (eqb c.args.entry ones) (cond c.args.set Free Dead) Dead
  other e = slot-tests c.args.logical c.args.set c.args.entry ∙ rw (tests e)

pub returns-then-number-logical : goal.returns-then-number-logical
returns-then-number-logical c =
    sym (stored (goal.at.returns-then-number-logical c).After-has_number c.if-has_number.true ∙ rw (lt-ltb _ _ c.if-number-logical.true))

pub returns-then-is_complete : goal.returns-then-is_complete
returns-then-is_complete c =
    sym
    (stored (goal.at.returns-then-is_complete c).After-has_number c.if-has_number.true
    ∙ rw (le-ltb _ _ c.if-number-logical.false, sym c.is_complete.ensures ∙ c.if-is_complete.true))

pub returns-then-has_number : goal.returns-then-has_number
returns-then-has_number c =
    sym
    (stored (goal.at.returns-then-has_number c).After-has_number c.if-has_number.true
    ∙ rw (le-ltb _ _ c.if-number-logical.false, sym c.is_complete.ensures ∙ c.if-is_complete.false))

pub returns-then-set : goal.returns-then-set
returns-then-set c =
    sym (other (goal.at.returns-then-set c).After-has_number c.if-has_number.false ∙ rw (sym c.is_free.ensures ∙ c.if-is_free.true, c.if-set.true))

pub returns-else-set : goal.returns-else-set
returns-else-set c =
    sym (other (goal.at.returns-else-set c).After-has_number c.if-has_number.false ∙ rw (sym c.is_free.ensures ∙ c.if-is_free.true, c.if-set.false))

pub returns-else-is_free : goal.returns-else-is_free
returns-else-is_free c =
    sym (other (goal.at.returns-else-is_free c).After-has_number c.if-has_number.false ∙ rw (sym c.is_free.ensures ∙ c.if-is_free.false))
