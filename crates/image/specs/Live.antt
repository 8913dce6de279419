-- The number that a slot is live for.
use Rattle.std.specs.Prelude.{ℕ, Option, Some, None}
use Rattle.image.specs.declared.Slot.{Slot}
use Rattle.image.specs.declared.Slot.TheVariants.{Free, Live, Dead, Faulty, Superseded}

abbrev pub live_number : Slot → Option ℕ
live_number Free = None
live_number (Live n) = Some n
live_number Dead = None
live_number Faulty = None
live_number Superseded = None
