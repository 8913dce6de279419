-- K4: what (iv) of a repair copies, told from the image before (i): all that is read for it is the same in the image that (i) to (iii) leave.
use Rattle.std.specs.Prelude.{Bool, true, ◌≢◌, ◌≡◌, ℕ, ◌<◌, ◌≤◌}
use Rattle.geometry.specs.declared.Geometry.{Geometry}
use Rattle.geometry.specs.Geometry.{d}
use Rattle.image.specs.Words.{Image, Shaped, Words32, erase_count, free_map, entry, contents}
use Rattle.image.specs.Slots.{slot, is_free, is_live, is_live_with}
use Rattle.image.specs.Blocks.{free_slots, live_slots}
use Rattle.image.specs.WellFormed.{sound}

-- v can be reclaimed into t in a later image, and what is live or free, with its entry, map word and contents, and the count of v are as in this one.
-- Where nothing is live in v, t need be no block.
pub record SameToCopy (geo : Geometry) (image later : Image) (v t : ℕ) : Type 0 where
  pub shaped : Shaped geo later
  pub words : Words32 later
  pub well : sound geo later ≡ true
  pub victim_in : v < geo.blocks
  pub target_in : 1 ≤ live_slots geo image v → t < geo.blocks
  pub apart : v ≢ t
  pub room : live_slots geo image v ≤ free_slots geo image t
  pub lives : (f : ℕ → Bool) (b i : ℕ) → b < geo.blocks → i < d geo → is_live_with f (slot geo later b i) ≡ is_live_with f (slot geo image b i)
  pub frees : (b i : ℕ) → b < geo.blocks → i < d geo → is_free (slot geo later b i) ≡ is_free (slot geo image b i)
  pub entries : (b i : ℕ) → b < geo.blocks → i < d geo → is_live (slot geo image b i) ≡ true → entry geo later b i ≡ entry geo image b i
  pub maps : (b i : ℕ) → b < geo.blocks → i < d geo → free_map geo later b i ≡ free_map geo image b i
  pub kept : (b i : ℕ) → b < geo.blocks → i < d geo → contents geo later b i ≡ contents geo image b i
  pub count : erase_count geo later v ≡ erase_count geo image v
