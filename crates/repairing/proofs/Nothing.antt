-- A repair of a well-formed image does nothing. Assumes nothing.
use mathlib.Core.Path.{◌≡◌, refl, ap, ◌∙◌}
use mathlib.Core.Bool.{Bool, true, false}
use mathlib.Core.List.{[], ◌++◌}
use Prim.Native.Nat.{ℕ, ◌<◌}
use borrow.Author.Tests.{ne_eqb}
use Rattle.ranges.proofs.Lists.{join-none}
use Rattle.geometry.specs.declared.Geometry.{Geometry}
use Rattle.geometry.specs.Geometry.{d}
use Rattle.image.specs.Words.{Image}
use Rattle.image.specs.Blocks.{full}
use Rattle.image.specs.WellFormed.{R6}
use Rattle.image.proofs.Facts.{Sound}
use Rattle.image.proofs.Mending.{sound-no-unset}
use Rattle.flash.specs.Steps.{run}
use Rattle.flash.specs.Repairing.{clearing, sets_least, sets_greatest, bounding, counting, emptying, settled, bounded, counted, repairing, lacks_room, victim_worn}
use Rattle.flash.proofs.Stores.{run_none}

module _ (geo : Geometry) (image : Image) (s : Sound geo image) where
  -- (i): no slot is superseded
  pub none-cleared : clearing geo image ≡ []
  unfolding clearing
  none-cleared = join-none geo.blocks (λ b l. join-none (d geo) (λ i h. rw (s.current.none b i l h)))

  -- (ii): words 1 and 2 of a full block are programmed
  none-bounded : bounding geo image ≡ []
  unfolding bounding
  none-bounded = join-none geo.blocks (λ b l. go b (full geo image b) refl l)
    where
      go : (b : ℕ) (f : Bool) → full geo image b ≡ f → b < geo.blocks → sets_least geo image b ++ sets_greatest geo image b ≡ []
      go b true e l = let set = s.closed b l e in rw (e, ne_eqb _ _ set.0, ne_eqb _ _ set.1)
      go b false e l = rw e

  -- (iii): no count is all ones
  none-counted : counting geo image ≡ []
  unfolding counting
  none-counted = join-none geo.blocks (λ b l. rw (sound-no-unset geo image s b l))

  module _ (spare : R6 geo image ≡ true) where
    -- the image is the same before each of the four
    same-settled : settled geo image ≡ image
    unfolding settled
    same-settled = ap (run geo image) none-cleared ∙ run_none geo image

    same-bounded : bounded geo image ≡ image
    unfolding bounded
    same-bounded = ap (λ (x : Image). run geo x (bounding geo x)) same-settled ∙ ap (run geo image) none-bounded ∙ run_none geo image

    same-counted : counted geo image ≡ image
    unfolding counted
    same-counted = ap (λ (x : Image). run geo x (counting geo x)) same-bounded ∙ ap (run geo image) none-counted ∙ run_none geo image

    -- (iv): a block is blank
    pub nothing-repaired : repairing geo image ≡ []
    unfolding repairing emptying
    nothing-repaired = rw (same-settled, same-bounded, same-counted, none-cleared, none-bounded, none-counted, spare)

    -- and neither refusal 10 nor 6 applies
    pub nothing-lacks : (lacks_room geo image ≡ false) × (victim_worn geo image ≡ false)
    unfolding lacks_room victim_worn
    nothing-lacks = rw (same-settled, spare) (refl, refl)
