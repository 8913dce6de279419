-- `ahead::plain::release_step` meets its contract: the entry that was found is asked for once, and then nothing.
use mathlib.Core.Path.{◌≡◌, sym, ap, ap₂, ◌∙◌}
use mathlib.Core.List.{[]}
use Prim.Native.Nat.{ℕ}
use native.Mathlib.Omega.{arith}
use Rattle.bits.specs.Word.{cleared}
use Rattle.image.specs.Found.{Found}
use Rattle.image.specs.Slots.{valid_bit}
use Rattle.flash.specs.declared.NextStep.TheVariants.{Next}
use Rattle.flash.specs.declared.Step.TheVariants.{Program}
use Rattle.flash.specs.Steps.{step_at}
use Rattle.flash.specs.Placing.{entry_at, invalidates}
use Rattle.flash.proofs.Parts.{step_past}
use Rattle.ahead.proofs.PlacementLaws.{found-place-small}
use Rattle.ahead.proofs.plain.release_step.Goals as goal

pub overflow_add-at : goal.overflow_add-at
overflow_add-at c = omega (arith, c.entries_start.ensures, found-place-small c.args.image.now.geo c.args.image.now.shaped.limits c.requires c.in-Some.is)

pub returns-then-i-eq0 : goal.returns-then-i-eq0
unfolding step_at
returns-then-i-eq0 c =
    let a = c.args in
    let first : a.i ≡ 0 = omega (arith, c.if-i-eq0.true) in
    ap₂ (λ (at w : ℕ). Next (Program at w))
    (omega (arith, c.entries_start.ensures))
    (c.clear_bit-invalid.ensures ∙ ap (λ (w : ℕ). cleared w valid_bit) (c.entry_at.ensures ∙ ap (entry_at a.image.now.geo a.image.now.words.now) c.in-Some.is))
    ∙ sym (ap₂ (λ (live : Found) (s : ℕ). step_at (invalidates a.image.now.geo a.image.now.words.now live) s) c.in-Some.is first)

pub returns-else-i-eq0 : goal.returns-else-i-eq0
returns-else-i-eq0 c = rw c.in-Some.is (sym (step_past _ _ (omega (arith, c.if-i-eq0.false))))

pub returns-in-None : goal.returns-in-None
returns-in-None c = rw c.in-None.is (sym (step_past [] _ (omega arith)))
