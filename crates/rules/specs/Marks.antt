-- Numbers that were met in the slots passed, as a bit each: how R5 is checked in one pass, and how the complete entries of an image are known by
-- their numbers. Internal to the check.
use Rattle.std.specs.Prelude.{Bool, not, List, ◌≡◌, ℕ, ◌/◌, ◌%◌, ◌<◌, length, get_or}
use Rattle.bits.specs.Word.{is_set}
use Rattle.geometry.specs.declared.Geometry.{Geometry}
use Rattle.image.specs.declared.Slot.{Slot}
use Rattle.image.specs.WellFormed.{live_before}

-- the words that hold a bit for each number there can be
abbrev pub mark_words : ℕ
mark_words = 124

-- the bit of n is clear once n was marked
unfoldable pub seen : List ℕ → ℕ → Bool
seen marks n = not (is_set (get_or marks (n / 32) 0) (n % 32))

-- the marks after all slots before slot i of block b: the numbers that were live there, whatever the kinds of the slots are taken from
pub record Marks (geo : Geometry) (kind : ℕ → ℕ → Slot) (b i : ℕ) (marks : List ℕ) : Type 0 where
  pub long : length marks ≡ mark_words
  pub says : (n : ℕ) → n < geo.logical → seen marks n ≡ live_before geo kind b i n
