-- `flash::run::Run::erase` meets its contract: with one left it is done and taken off those left, and else nothing is done.
use mathlib.Core.Path.{refl}
use native.Mathlib.Omega.{arith}
use Rattle.flash.specs.Steps.{applied}
use Rattle.flash.proofs.RunLaws.{none, one}
use Rattle.flash.proofs.run.Run.erase.Goals as goal

pub returns-then-self-gt0 : goal.returns-then-self-gt0
unfolding applied
returns-then-self-gt0 c = one _ (omega (arith, c.if-self-gt0.true)) c.erase_block.ensures refl refl refl

pub returns-else-self-gt0 : goal.returns-else-self-gt0
returns-else-self-gt0 c = none _ (omega (arith, c.if-self-gt0.false)) _
