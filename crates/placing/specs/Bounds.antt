-- The least and the greatest of some numbers, whatever these are taken from. Internal to a placing and to a repair.
use Rattle.std.specs.Prelude.{Bool, cond, Option, Some, None, ℕ, ltb}
use Rattle.ranges.specs.Range.{any_below, first_below, last_below}
use Rattle.geometry.specs.declared.Geometry.{Geometry}
use Rattle.geometry.specs.Geometry.{d}
use Rattle.image.specs.declared.Slot.{Slot}
use Rattle.image.specs.Slots.{is_live_for}
use Rattle.flash.specs.declared.LiveBounds.{LiveBounds}

-- of those below m that pass a test; m for both where none does
abbrev pub bounds_of : ℕ → (ℕ → Bool) → LiveBounds
bounds_of m f = record { least = first_below m f; greatest = last_below m f }

-- such bounds, if some number does
abbrev pub bounds_below : ℕ → LiveBounds → Option LiveBounds
bounds_below m bounds = cond (ltb bounds.least m) (Some bounds) None

-- n is live in one of the first i slots
abbrev pub live_among : (ℕ → Slot) → ℕ → ℕ → Bool
live_among slots i n = any_below i (λ j. is_live_for n (slots j))

-- of the numbers that are live in a block with these slots
abbrev pub bounds_among : Geometry → (ℕ → Slot) → Option LiveBounds
bounds_among geo slots = bounds_below geo.logical (bounds_of geo.logical (live_among slots (d geo)))
