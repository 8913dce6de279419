-- `placing::store_contents` meets its contract: the image is the one that the steps of the words passed leave, and as many are passed as are left.
use mathlib.Core.List.{List}
use mathlib.Core.Path.{◌≡◌}
use Prim.Native.Nat.{ℕ}
use lib.ListN.{get_or}
use Rattle.ranges.specs.Range.{list_below}
use Rattle.geometry.specs.declared.Geometry.{Geometry}
use Rattle.geometry.specs.Places.{place, content_word}
use Rattle.flash.specs.declared.Step.{Step}
use Rattle.flash.specs.declared.Step.TheVariants.{Program}
use Rattle.flash.specs.Steps.{run}
use Rattle.placing.proofs.store_contents.Given as goal

-- the steps of the first m words
abbrev pub stores : Geometry → ℕ → ℕ → List ℕ → ℕ → List Step
stores geo b i words m = list_below m (λ j. Program (place geo b (content_word geo i j)) (get_or words j 0))

-- the image is the one that they leave
abbrev pub invariant-loop-j : goal.invariant-loop-j
invariant-loop-j l = let r = l.fn.run in l.words ≡ run r.geo r.words.now (stores r.geo l.b l.i l.sector.words.now l.j)
