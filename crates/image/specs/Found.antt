-- Where a number is live, as the code says it: a block and a slot of it, or that it is live nowhere.
use Rattle.std.specs.Prelude.{Option, Some, None, ℕ}

abbrev pub Found : Type 0
Found = Option (ℕ × ℕ)

pattern abbrev pub At : ℕ → ℕ → Found
At b i = Some (b, i)

pattern abbrev pub Nothing : Found
Nothing = None
