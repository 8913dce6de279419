-- What (ii) of a repair asks for in words 1 and 2 of a full block (flash/specs/Repairing.antt), both together.
use Rattle.std.specs.Prelude.{Bool, cond, List, [], ◌∷◌, ◌++◌, ℕ}
use Rattle.geometry.specs.declared.Geometry.{Geometry}
use Rattle.geometry.specs.Places.{place, least_word, greatest_word}
use Rattle.image.specs.Words.{Image}
use Rattle.flash.specs.declared.LiveBounds.{LiveBounds}
use Rattle.flash.specs.declared.Step.{Step}
use Rattle.flash.specs.declared.Step.TheVariants.{Program}
use Rattle.flash.specs.Placing.{least_live, greatest_live}
use Rattle.flash.specs.Repairing.{or_zero}

-- the two words, or 0 for both where no number is live
abbrev pub asked_bounds : Geometry → Image → ℕ → LiveBounds
asked_bounds geo image b =
    record { least = or_zero geo image b (least_live geo image b); greatest = or_zero geo image b (greatest_live geo image b) }

-- the steps that program them, each only if it is wanted
abbrev pub bound_steps : Geometry → ℕ → Bool → Bool → LiveBounds → List Step
bound_steps geo b first second asked =
    cond first (Program (place geo b least_word) asked.least ∷ []) []
    ++ cond second (Program (place geo b greatest_word) asked.greatest ∷ []) []
