-- What a function asks of a closure that it asks at the indices 0, 1, .. m − 1, and how it takes what the closure answers.
use Rattle.std.specs.Prelude.{◌≡◌, ℕ, ◌<◌}

-- it may be asked at each index below m
abbrev pub MayBeAsked : (ℕ → Type 0) → ℕ → Type 0
MayBeAsked pre m = (i : ℕ) → i < m → pre i

-- it answers at each with what f says there
abbrev pub Tells : {A : Type 0} → (ℕ → A → Type 0) → ℕ → (ℕ → A) → Type 0
Tells {A} post m f = (i : ℕ) (r : A) → i < m → post i r → r ≡ f i
