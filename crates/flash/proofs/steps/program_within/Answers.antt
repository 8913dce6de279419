-- `flash::steps::program_within` meets its contract: with none left the image is as it was, and else one step was done.
use mathlib.Core.List.{[], ◌∷◌}
use mathlib.Core.Path.{refl, sym, ap, ◌∙◌}
use Prim.Native.Nat.{ℕ}
use native.Mathlib.Omega.{arith}
use lib.Seq.{take_all}
use Rattle.flash.specs.declared.Step.TheVariants.{Program}
use Rattle.flash.specs.Steps.{run, first_of}
use Rattle.flash.proofs.Stores.{run_none}
use Rattle.flash.proofs.CodeLaws.{run-program}
use Rattle.flash.proofs.steps.program_within.Goals as goal

pub returns-then-left-eq0-clause-image_after : goal.returns-then-left-eq0-clause-image_after
returns-then-left-eq0-clause-image_after c = let args = c.args in λ geo. sym (ap (λ (m : ℕ). run geo args.image.now (first_of m (Program args.place args.asked ∷ []))) c.if-left-eq0.true ∙ run_none geo args.image.now)

pub returns-clause-image_after : goal.returns-clause-image_after
returns-clause-image_after c = let args = c.args in λ geo.
    run-program geo args.image.now c.program.ensures refl refl
    ∙ ap (run geo args.image.now) (sym (take_all args.left (Program args.place args.asked ∷ []) (omega arith)))
