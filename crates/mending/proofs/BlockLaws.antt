-- That the blocks of a mendable image keep R2, by which their maps are read: so `is_mendable` answers for what `emptiest` asks. Assumes nothing.
use mathlib.Core.Path.{◌≡◌, sym, ◌∙◌}
use mathlib.Core.Logic.{⊎_elim}
use mathlib.Core.Bool.{true, false, ◌||◌, and-false, false≢true}
use Prim.Native.Nat.{ℕ}
use Rattle.ranges.specs.Range.{all_below}
use Rattle.ranges.proofs.Tests.{passes-or-fails, both-pass, all-at}
use Rattle.geometry.specs.declared.Geometry.{Geometry}
use Rattle.image.specs.Words.{Image}
use Rattle.image.specs.WellFormed.{R1, R2, MapsAgree}
use Rattle.image.specs.Mending.{count_unset, mendable_block, mendable}

module _ (geo : Geometry) (image : Image) where
  -- one block, and all of them
  pub breaks-map : (b : ℕ) → R2 geo image b ≡ false → mendable_block geo image b ≡ false
  unfolding mendable_block
  breaks-map b e = rw (e, and-false (R1 geo image b || count_unset geo image b))

  pub keeps-map : (b : ℕ) → mendable_block geo image b ≡ true → R2 geo image b ≡ true
  keeps-map b t = ⊎_elim (λ e. e) (λ e. absurd (false≢true (sym (breaks-map b e) ∙ t))) (passes-or-fails (R2 geo image b))

  pub mendable-maps : mendable geo image ≡ true → MapsAgree geo image
  unfolding mendable
  mendable-maps t =
      let every = (both-pass (all_below geo.blocks (mendable_block geo image)) _ t).0 in
      record { agrees = λ b l. keeps-map b (all-at geo.blocks _ every b l) }
