-- The slot of the next write, from the blocks that the code found. Assumes nothing.
use mathlib.Core.Path.{◌≡◌, refl, sym}
use mathlib.Core.Bool.{true}
use Prim.Native.Nat.{ℕ, ◌<◌}
use native.Mathlib.Decide.{dec_lt}
use native.Mathlib.Omega.{arith}
use borrow.Author.Tests.{lt-ltb}
use Rattle.std.specs.Prelude.{Some, None}
use Rattle.ranges.specs.Range.{index_below}
use Rattle.ranges.proofs.Searches.{index-some, index-none}
use Rattle.geometry.specs.declared.Geometry.{Geometry}
use Rattle.image.specs.Found.{At}
use Rattle.image.specs.Words.{Image}
use Rattle.image.specs.Blocks.{lowest_free, lowest_open, least_worn_blank}
use Rattle.image.specs.WellFormed.{R6}
use Rattle.flash.specs.Writing.{next_slot}
use Rattle.flash.proofs.Planned.{next-open, next-blank, blank-block}
use Rattle.writing.specs.Planned.{place_below}

module _ (geo : Geometry) (image : Image) where
  -- in the first open block
  pub found-open :
      {b i : ℕ} →
      Some b ≡ index_below geo.blocks (lowest_open geo image) → i ≡ lowest_free geo image b → At b i ≡ place_below geo.blocks (next_slot geo image)
  found-open {b} {i} e low =
      let (is, l) = index-some (sym e) in
      rw (next-open geo image b i (sym is) low l, lt-ltb b geo.blocks l)

  -- and where none is open, in the blank one that rule 2 takes
  module _ (none : None ≡ index_below geo.blocks (lowest_open geo image)) where
    next-is : next_slot geo image ≡ At (least_worn_blank geo image) 0
    next-is = next-blank geo image (least_worn_blank geo image) refl (index-none (sym none))

    pub found-blank : {b : ℕ} → Some b ≡ index_below geo.blocks (least_worn_blank geo image) → At b 0 ≡ place_below geo.blocks (next_slot geo image)
    found-blank {b} e =
        let (is, l) = index-some (sym e) in
        rw (next-is, is, lt-ltb b geo.blocks l)

  -- where a block is blank, there is one
  pub next-chosen : R6 geo image ≡ true → place_below geo.blocks (next_slot geo image) ≡ next_slot geo image
  next-chosen some = go (dec_lt (lowest_open geo image) geo.blocks)
    where
      go : Dec (lowest_open geo image < geo.blocks) → place_below geo.blocks (next_slot geo image) ≡ next_slot geo image
      go (yes l) = rw (next-open geo image (lowest_open geo image) _ refl refl l, lt-ltb (lowest_open geo image) geo.blocks l)
      go (no l) = rw (next-blank geo image (least_worn_blank geo image) refl (omega arith), lt-ltb (least_worn_blank geo image) geo.blocks (blank-block geo image some))
