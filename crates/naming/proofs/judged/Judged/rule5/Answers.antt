-- `naming::judged::Judged::rule5` meets its contract: the marks know the live numbers of all slots before this one, none was live twice so far, and the first that
-- is decides.
use mathlib.Core.Path.{◌≡◌, refl, sym, ap, ◌∙◌}
use mathlib.Core.Bool.{Bool, true, not}
use Prim.Native.Nat.{ℕ, ◌+◌, ◌<◌}
use native.Mathlib.Omega.{arith}
use Rattle.std.specs.Prelude.{Some}
use Rattle.ranges.specs.Range.{all_below}
use Rattle.ranges.proofs.Tests.{not-all}
use Rattle.geometry.specs.Geometry.{d}
use Rattle.geometry.proofs.Laws.{logical-small}
use Rattle.image.specs.declared.Slot.{Slot}
use Rattle.image.specs.declared.Slot.TheVariants.{Live}
use Rattle.image.specs.Slots.{slot, is_live_with}
use Rattle.image.specs.WellFormed.{live_before, R5}
use Rattle.image.proofs.Own.{live-number}
use Rattle.image.proofs.SlotKinds.{not_live_with, live-is, none-live}
use Rattle.rules.specs.declared.NumberSet.{NumberSet}
use Rattle.rules.specs.Marks.{seen, Marks}
use Rattle.rules.proofs.RuleLaws.{all_more}
use Rattle.rules.proofs.MarkLaws.{marks-next, other-learnt, live-learnt}
use Rattle.naming.proofs.judged.Judged.rule5.Goals.{in-Some+else-not-mark, in_default}
use Rattle.naming.proofs.judged.Judged.rule5.Goals.{After-live_at}
use Rattle.naming.proofs.judged.Judged.rule5.Goals as goal

pub loop-i-init : goal.loop-i-init
unfolding all_below
loop-i-init c = (c.requires, refl)

-- slot i, whose kind is known
module _ (c : After-live_at) where
  abbrev kinds : ℕ → ℕ → Slot
  kinds = slot c.args.self.now.block.image.geo c.args.self.now.block.image.words.now

  abbrev here : Slot
  here = kinds c.args.self.now.block.index c.loop-i.i

  slot_is : {n : ℕ} → c.live_at.result ≡ Some n → here ≡ Live n
  slot_is some = live-is here (sym some ∙ c.live_at.ensures.value)

  -- the rule's test of it
  abbrev new : Slot → Bool
  new s = not (is_live_with (live_before c.args.self.now.block.image.geo kinds c.args.self.now.block.index c.loop-i.i) s)

  -- a live number is one of the numbers, and was live before exactly where it was seen
  number_small : (n : ℕ) → c.live_at.result ≡ Some n → n < c.args.self.now.block.image.geo.logical
  number_small n some = live-number _ _ c.args.self.now.block.index c.loop-i.i (slot_is some)

  live-new : (n : ℕ) → c.live_at.result ≡ Some n → new here ≡ not (seen c.loop-i.marks.words n)
  live-new n some = ap new (slot_is some) ∙ sym (ap not (c.loop-i.invariant.0.says n (number_small n some)))

  -- what the invariant asks after the turn
  abbrev Passed : NumberSet → Type 0
  Passed marks =
      Marks c.args.self.now.block.image.geo kinds c.args.self.now.block.index (c.loop-i.i + 1) marks.words × (new (kinds c.args.self.now.block.index c.loop-i.i) ≡ true)

  other : ((n : ℕ) → c.live_at.result ≡ Some n → ⊥) → (marks : NumberSet) → marks ≡ c.loop-i.marks → Passed marks
  other none marks e =
      let none_with = not_live_with here (none-live here (λ n some. none n (c.live_at.ensures.value ∙ sym some))) in
      (rw e (other-learnt _ _ c.loop-i.invariant.0 none_with), ap not (none_with _))

pub mark-requires : goal.mark-requires
mark-requires c = omega (arith, number_small (goal.at.mark-requires c).After-live_at _ c.in-Some.is, logical-small c.args.self.now.block.image.geo c.args.self.now.block.image.shaped.limits)

pub returns-then-not-mark-clause-value : goal.returns-then-not-mark-clause-value
unfolding R5
returns-then-not-mark-clause-value c = let again = live-new (goal.at.returns-then-not-mark-clause-value c).After-live_at _ c.in-Some.is ∙ sym c.mark.ensures.value ∙ c.if-not-mark.true in
    sym (not-all (d c.args.self.now.block.image.geo) _ (omega arith) again)

pub loop-i-preserved : goal.loop-i-preserved
loop-i-preserved c =
    let loop = c.loop-i in
    let passed : Passed (goal.at.loop-i-preserved c).After-live_at c.match-live_at.marks =
    elim c.match-live_at.branch [
      | in-Some+else-not-mark w ↦ (
        rw w.marks-is (live-learnt _ _ loop.invariant.0 _ (slot_is (goal.at.loop-i-preserved c).After-live_at w.in-Some.is) _ (w.mark.ensures.long ∙ sym loop.invariant.0.long) w.mark.ensures.by_index),
        live-new (goal.at.loop-i-preserved c).After-live_at _ w.in-Some.is ∙ sym w.mark.ensures.value ∙ w.if-not-mark.false,
      )
      | in_default w ↦ other (goal.at.loop-i-preserved c).After-live_at w.in_default.not-Some _ w.marks-is
    ] in
    (passed.0, all_more loop.i _ loop.invariant.1 passed.1)

pub returns-clause-marks_2 : goal.returns-clause-marks_2
unfolding R5
returns-clause-marks_2 c = let end : c.loop-i.i ≡ d c.args.self.now.block.image.geo = omega arith in
    λ r. marks-next _ _ (rw end at c.loop-i.invariant.0)

pub returns-clause-value : goal.returns-clause-value
unfolding R5
returns-clause-value c = let end : c.loop-i.i ≡ d c.args.self.now.block.image.geo = omega arith in
    sym (rw end at c.loop-i.invariant.1)
