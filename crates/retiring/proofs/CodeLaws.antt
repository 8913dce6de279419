-- What the loops of this crate find when the turn of a slot or of a block comes. Assumes nothing.
use mathlib.Core.List.{List}
use mathlib.Core.Path.{◌≡◌, sym, ◌∙◌}
use Prim.Native.Nat.{ℕ, ◌<◌, ◌≤◌}
use native.Mathlib.Omega.{arith}
use Rattle.ranges.specs.Range.{join_below}
use Rattle.ranges.proofs.Lists.{join-ext}
use Rattle.geometry.specs.declared.Geometry.{Geometry}
use Rattle.geometry.specs.Geometry.{d}
use Rattle.image.specs.Words.{Image, Shaped, Words32}
use Rattle.naming.specs.Completes.{Completes}
use Rattle.flash.specs.Steps.{run}
use Rattle.flash.specs.Repairing.{clears_slot}
use Rattle.retiring.proofs.Retired.{Retired, Turn, turn-first, steps-same, turns-of-slots, clears_block, turns-of-blocks}

-- the marks of the complete numbers stay right
pub completes-still : {geo : Geometry} {image now : Image} {marks : List ℕ} → Retired geo image now → Completes geo image marks → Completes geo now marks
completes-still r marked = record { long = marked.long; says = λ n l. marked.says n l ∙ sym (r.completes n) }

module _ (geo : Geometry) (image : Image) (shaped : Shaped geo image) (words : Words32 image) {now : Image} where
  -- the slots of block b before slot i had their turns, all steps of theirs being done
  pub slot_turn : {b i : ℕ} → b < geo.blocks → i ≤ d geo → now ≡ run geo image (join_below i (clears_slot geo image b)) → Turn geo image b b i now
  slot_turn {b} {i} l m done = rw done (turns-of-slots geo image b (turn-first geo image b shaped words) l i m).1

  -- the blocks before block b had theirs
  pub block-turn : {b : ℕ} → b ≤ geo.blocks → now ≡ run geo image (join_below b (clears_block geo image)) → Turn geo image 0 b 0 now
  block-turn {b} m done = rw done (turns-of-blocks geo image shaped words b m).1

-- of a block whose turn has come the steps are the same, told by the image as it is now
pub block-steps :
    {geo : Geometry} {image now : Image} {from b : ℕ} →
    Turn geo image from b 0 now →
    b < geo.blocks →
    clears_block geo now b ≡ clears_block geo image b
block-steps {geo} {image} {now} {from} turn l = join-ext (d geo) (λ i h. steps-same geo image from turn l i (omega arith) h)
