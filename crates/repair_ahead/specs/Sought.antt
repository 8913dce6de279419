-- K4: step i of a list that others follow: that step, or how far behind the list's end i lies, so that the next list is asked for that one.
use Rattle.std.specs.Prelude.{List, [], ◌∷◌, ℕ, zero, suc}
use Rattle.std.specs.declared.ops.ControlFlow.{ControlFlow}
use Rattle.std.specs.declared.ops.ControlFlow.TheVariants.{Continue, Break}
use Rattle.flash.specs.declared.Step.{Step}

unfoldable pub sought : List Step → ℕ → ControlFlow Step ℕ
sought [] i = Continue i
sought (s ∷ ss) zero = Break s
sought (s ∷ ss) (suc i) = sought ss i
