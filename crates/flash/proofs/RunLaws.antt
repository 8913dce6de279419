-- What a run does, part by part. Assumes nothing.
use mathlib.Core.List.{List, [], ◌∷◌, ◌++◌}
use mathlib.Core.Path.{◌≡◌, refl, sym, ap, ◌∙◌}
use Prim.Native.Nat.{ℕ, ◌-◌, ◌≤◌}
use native.Mathlib.Omega.{arith}
use lib.ListN.{length}
use lib.Seq.{take_all}
use Rattle.geometry.specs.declared.Geometry.{Geometry}
use Rattle.flash.specs.declared.Step.{Step}
use Rattle.flash.specs.declared.Step.TheVariants.{Program}
use Rattle.flash.specs.declared.run.Run.{Run}
use Rattle.flash.specs.Steps.{applied, run}
use Rattle.flash.specs.Runs.{Does}
use Rattle.flash.proofs.Parts.{Carried, and_then, stopped}
use Rattle.flash.proofs.CodeLaws.{nothing-carried}

-- it carries the steps out, as laws about lists of steps say it
pub carried : {before after : Run} {steps : List Step} → Does before after steps → Carried before.geo before.words.now before.left steps after.left after.words.now
carried does = (does.left_after, does.image_after)

-- no step
pub nothing : (r : Run) → Does r r []
nothing r =
    let none = nothing-carried r.geo r.words.now r.left in
    record { image_after = none.1; left_after = none.0; same_geo = refl; same_words = refl }

-- none is left, and so none of some steps is done
pub none : (r : Run) → r.left ≡ 0 → (ys : List Step) → Does r r ys
none r e ys =
    let all = stopped r.geo r.words.now r.left [] (carried (nothing r)) e ys in
    record { image_after = all.1; left_after = e ∙ all.0; same_geo = refl; same_words = refl }

-- one is left, and one is done
pub one :
    {before after : Run} (s : Step) →
    (before.left ≡ 0 → ⊥) →
    after.words.now ≡ applied before.geo before.words.now s →
    after.left ≡ before.left - 1 →
    after.geo ≡ before.geo →
    after.words.ghost_name ≡ before.words.ghost_name →
    Does before after (s ∷ [])
unfolding run
one {before} s some image left geo words =
    record {
      image_after = image ∙ ap (run before.geo before.words.now) (sym (take_all before.left (s ∷ []) (omega (arith, some))));
      left_after = left;
      same_geo = geo;
      same_words = words;
    }

-- the steps, told otherwise; where they are told from a geometry, that of an earlier run
pub as-steps : {before after : Run} {xs ys : List Step} → Does before after xs → xs ≡ ys → Does before after ys
as-steps does e = rw (← e) does

pub by-geo : {before after : Run} {geo : Geometry} (f : Geometry → List Step) → Does before after (f before.geo) → before.geo ≡ geo → Does before after (f geo)
by-geo f does e = as-steps does (ap f e)

-- one word, told otherwise
pub at-place : {before after : Run} {p q w v : ℕ} → Does before after (Program p w ∷ []) → p ≡ q → w ≡ v → Does before after (Program q v ∷ [])
at-place does p w = rw (← p, ← w) does

module _ {before between : Run} {xs : List Step} (first : Does before between xs) where
  -- one part and then another
  pub both : {after : Run} {ys : List Step} → Does between after ys → Does before after (xs ++ ys)
  both {after} {ys} second =
      let rest : Carried before.geo between.words.now between.left ys after.left after.words.now =
      (second.left_after, rw first.same_geo at second.image_after) in
      let all = and_then before.geo before.words.now before.left xs (carried first) ys rest in
      record {
        image_after = all.1;
        left_after = all.0;
        same_geo = second.same_geo ∙ first.same_geo;
        same_words = second.same_words ∙ first.same_words;
      }

  -- where none is left, nothing of what follows is done
  pub none-left : between.left ≡ 0 → (ys : List Step) → Does before between (xs ++ ys)
  none-left e ys = both (none between e ys)

  -- where as many were left as there are, all were done; so where one is left still
  pub done-all : length xs ≤ before.left → between.words.now ≡ run before.geo before.words.now xs
  done-all l = first.image_after ∙ ap (run before.geo before.words.now) (take_all before.left xs l)

  pub done : (between.left ≡ 0 → ⊥) → between.words.now ≡ run before.geo before.words.now xs
  done some = done-all (omega (arith, first.left_after, some))
