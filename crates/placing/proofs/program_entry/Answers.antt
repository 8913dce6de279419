-- `placing::program_entry` meets its contract: it programs the entry where one was found, and else nothing.
use mathlib.Core.Path.{◌≡◌, refl}
use native.Mathlib.Omega.{arith}
use Rattle.std.specs.Prelude.{Option, Some, None}
use Rattle.flash.proofs.CodeLaws.{found-entry-inside}
use Rattle.flash.proofs.RunLaws.{nothing}
use Rattle.placing.proofs.program_entry.Goals as goal

-- what is not a place is none
none : {A : Type 0} (found : Option A) → ((x : A) → found ≡ Some x → ⊥) → found ≡ None
none None e = refl
none (Some x) e = absurd (e x refl)

pub overflow_add-at : goal.overflow_add-at
overflow_add-at c = omega (arith, found-entry-inside _ (c.args.run.now.shaped, c.requires) c.in-Some.is)

pub program-requires : goal.program-requires
program-requires c = omega (arith, found-entry-inside _ (c.args.run.now.shaped, c.requires) c.in-Some.is)

pub returns-in_default : goal.returns-in_default
returns-in_default c = rw (none _ c.in_default.not-Some) (nothing _)
