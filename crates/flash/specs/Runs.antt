-- A run, and what carrying out some steps does to it.
use Rattle.std.specs.Prelude.{List, ◌≡◌}
use Rattle.geometry.specs.declared.Geometry.{Geometry}
use Rattle.image.specs.Words.{Image}
use Rattle.flash.specs.declared.Step.{Step}
use Rattle.flash.specs.declared.run.Run.{Run}
use Rattle.flash.specs.Steps.{run, first_of, progress}

-- what a definition over a geometry and an image's words says of the image of a run
module _ {ℓ} {A : Type ℓ} where
  abbrev pub of_run : (Geometry → Image → A) → Run → A
  of_run f it = f it.geo it.words.now

-- what the steps do to the image, and to how many are left; and that it is the same image still
pub record Does (before after : Run) (steps : List Step) : Type 0 where
  pub image_after : after.words.now ≡ run before.geo before.words.now (first_of before.left steps)
  pub left_after : after.left ≡ (progress before.left steps).left
  pub same_geo : after.geo ≡ before.geo
  pub same_words : after.words.ghost_name ≡ before.words.ghost_name
