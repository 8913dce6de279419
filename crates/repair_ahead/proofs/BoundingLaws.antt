-- (ii) of a repair in one block, by the words that the code reads there. Assumes nothing.
use mathlib.Core.Path.{◌≡◌, refl, sym, ap, ◌∙◌}
use mathlib.Core.Bool.{Bool, true, false, ◌&&◌, ◌||◌, true≢false}
use mathlib.Core.List.{List, [], ◌++◌}
use Prim.Native.Nat.{ℕ}
use lib.Dec.{eqb}
use Rattle.std.specs.declared.ops.ControlFlow.TheVariants.{Continue}
use Rattle.ranges.proofs.Tests.{both-pass}
use Rattle.bits.specs.Word.{ones}
use Rattle.geometry.specs.declared.Geometry.{Geometry}
use Rattle.image.specs.Words.{Image, least_mapped, greatest_mapped}
use Rattle.image.specs.Blocks.{full}
use Rattle.flash.specs.declared.LiveBounds.{LiveBounds}
use Rattle.flash.specs.declared.Step.{Step}
use Rattle.flash.specs.Repairing.{sets_least, sets_greatest}
use Rattle.repair_ahead.specs.Bounds.{asked_bounds, bound_steps}
use Rattle.repair_ahead.specs.Sought.{sought}

-- no step where a slot is free, or both words are programmed
neither :
    (geo : Geometry) (b : ℕ) (asked : LiveBounds) (full first second : Bool) →
    (full && (first || second)) ≡ false → bound_steps geo b (full && first) (full && second) asked ≡ []
neither geo b asked false first second e = refl
neither geo b asked true true second e = absurd (true≢false e)
neither geo b asked true false true e = absurd (true≢false e)
neither geo b asked true false false e = refl

-- what the code reads in block b: whether it is full, and words 1 and 2
pub record ReadBounds (geo : Geometry) (image : Image) (b : ℕ) (fills : Bool) (least greatest : ℕ) : Type 0 where
  pub fullness : fills ≡ full geo image b
  pub low : least ≡ least_mapped geo image b
  pub high : greatest ≡ greatest_mapped geo image b

module _ {geo : Geometry} {image : Image} {b : ℕ} {fills : Bool} {least greatest : ℕ} (r : ReadBounds geo image b fills least greatest) (i : ℕ) where
  -- the block is full, and one of the two words is not programmed
  abbrev wanted : Bool
  wanted = fills && (eqb least ones || eqb greatest ones)

  abbrev steps : List Step
  steps = sets_least geo image b ++ sets_greatest geo image b

  as_read : steps ≡ bound_steps geo b (fills && eqb least ones) (fills && eqb greatest ones) (asked_bounds geo image b)
  as_read = rw (← r.fullness, ← r.low, ← r.high)

  pub some-unset :
      {asked : LiveBounds} →
      wanted ≡ true → asked ≡ asked_bounds geo image b → sought (bound_steps geo b (eqb least ones) (eqb greatest ones) asked) i ≡ sought steps i
  some-unset w e =
      let is-full = (both-pass fills (eqb least ones || eqb greatest ones) w).0 in
      rw e (sym (ap (λ (xs : List Step). sought xs i) (as_read ∙ rw is-full)))

  pub none-unset : wanted ≡ false → Continue i ≡ sought steps i
  unfolding sought
  none-unset w =
      sym (ap (λ (xs : List Step). sought xs i) (as_read ∙ neither geo b (asked_bounds geo image b) fills (eqb least ones) (eqb greatest ones) w))
