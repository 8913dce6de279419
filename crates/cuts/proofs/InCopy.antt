-- An image on the way through the copying of a reclaim, by the counts of its blocks. Assumes nothing.
use mathlib.Core.Path.{◌≡◌}
use mathlib.Core.Logic.{◌≢◌, ◌⊎◌}
use mathlib.Core.Bool.{false}
use Prim.Native.Nat.{ℕ, ◌+◌, ◌<◌, ◌≤◌}
use Rattle.geometry.specs.declared.Geometry.{Geometry}
use Rattle.image.specs.Words.{Image, Shaped, Words32, erase_count}
use Rattle.image.specs.Slots.{map_of}
use Rattle.image.specs.Blocks.{blank, full, free_slots, live_slots}
use Rattle.image.proofs.Mending.{Mendable}

-- an image that a repair can mend, with the map of another
pub record Mends (geo : Geometry) (image now : Image) : Type 0 where
  pub shaped : Shaped geo now
  pub words : Words32 now
  pub mendable : Mendable geo now
  pub map : (n : ℕ) → map_of geo now n ≡ map_of geo image n

-- Of a reclaim of v into t, from the image on: the blocks other than the two are as they were, and so are all counts of erasures. What v lost of live
-- slots t has, and of the free slots of t one at most was taken for nothing.
pub record InCopy (geo : Geometry) (image : Image) (v t : ℕ) (now : Image) : Type 0 where
  pub mends : Mends geo image now
  pub counts : (c : ℕ) → c < geo.blocks → erase_count geo now c ≡ erase_count geo image c
  pub fulls : (c : ℕ) → c < geo.blocks → c ≢ t → full geo now c ≡ full geo image c
  pub lives : (c : ℕ) → c < geo.blocks → c ≢ v → c ≢ t → live_slots geo now c ≡ live_slots geo image c
  pub moved : live_slots geo now v + live_slots geo now t ≡ live_slots geo image v + live_slots geo image t
  pub fewer : live_slots geo now v ≤ live_slots geo image v
  pub wasted : free_slots geo image t + live_slots geo image t ≤ free_slots geo now t + live_slots geo now t + 1
  pub left : free_slots geo image t ≤ free_slots geo now t + live_slots geo image v
  pub begun : (now ≡ image) ⊎ (blank geo now t ≡ false)
