-- The laws of `all_below` and `any_below`: from the test to each index and back. Assumes nothing.
use Prim.Native.Nat.{ℕ, zero, suc, ◌+◌, ◌<◌}
use mathlib.Core.Path.{◌≡◌, refl, sym, ap₂, ◌∙◌}
use mathlib.Core.Logic.{◌⊎◌, inl, inr, ⊎_elim}
use mathlib.Core.Bool.{Bool, true, false, ◌&&◌, ◌||◌, or-true, false≢true, true≢false}
use native.Mathlib.Nat.{eq-or-lt_of_le, le_of_suc-le-suc, le_step, lt-suc_self}
use native.Mathlib.Numerals.{add-one}
use native.Mathlib.Omega.{arith}
use Rattle.ranges.specs.Range.{all_below, any_below}

-- an index below m + 1 is m, or below m
pub below_suc : {i m : ℕ} → i < suc m → (i ≡ m) ⊎ (i < m)
below_suc l = eq-or-lt_of_le (le_of_suc-le-suc l)

-- a test passes or fails
pub passes-or-fails : (b : Bool) → (b ≡ true) ⊎ (b ≡ false)
passes-or-fails true = inl refl
passes-or-fails false = inr refl

-- and fails where it cannot pass
pub unless : (b : Bool) → (b ≡ true → ⊥) → b ≡ false
unless true k = absurd (k refl)
unless false k = refl

-- ---- two tests joined

pub both-pass : (a b : Bool) → (a && b) ≡ true → (a ≡ true) × (b ≡ true)
both-pass true b e = (refl, e)
both-pass false b e = absurd (false≢true e)

pub either-passes : (a b : Bool) → (a || b) ≡ true → (a ≡ true) ⊎ (b ≡ true)
either-passes true b e = inl refl
either-passes false b e = inr e

pub neither-passes : (a b : Bool) → (a || b) ≡ false → (a ≡ false) × (b ≡ false)
neither-passes true b e = absurd (true≢false e)
neither-passes false b e = (refl, e)

-- ---- every index

pub all-at : (m : ℕ) (f : ℕ → Bool) → all_below m f ≡ true → (i : ℕ) → i < m → f i ≡ true
unfolding all_below
all-at zero f t i l = absurd (omega arith)
all-at (suc m) f t i l =
    let both = both-pass (all_below m f) (f m) t in
    ⊎_elim (λ e. rw e both.1) (λ k. all-at m f both.0 i k) (below_suc l)

pub all_of : (m : ℕ) {f : ℕ → Bool} → ((i : ℕ) → i < m → f i ≡ true) → all_below m f ≡ true
unfolding all_below
all_of zero h = refl
all_of (suc m) h = rw (all_of m (λ i l. h i (le_step l))) (h m (lt-suc_self m))

-- one index more
pub all-next : (i : ℕ) (f : ℕ → Bool) {so_far now : Bool} → so_far ≡ all_below i f → now ≡ (so_far && f i) → now ≡ all_below (i + 1) f
unfolding all_below
all-next i f before here = rw (add-one i, ← before) here

-- one index that fails
pub not-all : (m : ℕ) (f : ℕ → Bool) {i : ℕ} → i < m → f i ≡ false → all_below m f ≡ false
not-all m f {i} l e = unless (all_below m f) (λ t. true≢false (sym (all-at m f t i l) ∙ e))

pub all-fails : (m : ℕ) (f : ℕ → Bool) → all_below m f ≡ false → (i : ℕ) × (i < m) × (f i ≡ false)
unfolding all_below
all-fails zero f t = absurd (true≢false t)
all-fails (suc m) f t =
    ⊎_elim
    (λ e. (m, lt-suc_self m, rw e at t))
    (λ e. let r = all-fails m f e in (r.0, le_step r.1, r.2))
    (passes-or-fails (all_below m f))

-- ---- some index

pub any_at : (m : ℕ) (f : ℕ → Bool) → any_below m f ≡ true → (i : ℕ) × (i < m) × (f i ≡ true)
unfolding any_below
any_at zero f t = absurd (false≢true t)
any_at (suc m) f t =
    ⊎_elim
    (λ e. let r = any_at m f e in (r.0, le_step r.1, r.2))
    (λ e. (m, lt-suc_self m, e))
    (either-passes (any_below m f) (f m) t)

pub any_of : (m : ℕ) (f : ℕ → Bool) {i : ℕ} → i < m → f i ≡ true → any_below m f ≡ true
unfolding any_below
any_of zero f l e = absurd (omega arith)
any_of (suc m) f {i} l e =
    ⊎_elim (λ q. rw (← q, e) (or-true (any_below i f))) (λ k. rw (any_of m f k e)) (below_suc l)

-- no index
pub none-at : (m : ℕ) (f : ℕ → Bool) → any_below m f ≡ false → (i : ℕ) → i < m → f i ≡ false
none-at m f t i l = unless (f i) (λ e. true≢false (sym (any_of m f l e) ∙ t))

pub none_of : (m : ℕ) {f : ℕ → Bool} → ((i : ℕ) → i < m → f i ≡ false) → any_below m f ≡ false
unfolding any_below
none_of zero h = refl
none_of (suc m) h = rw (none_of m (λ i l. h i (le_step l))) (h m (lt-suc_self m))

-- ---- equal tests

pub all-ext : (m : ℕ) {f g : ℕ → Bool} → ((i : ℕ) → i < m → f i ≡ g i) → all_below m f ≡ all_below m g
unfolding all_below
all-ext zero h = refl
all-ext (suc m) h = ap₂ ◌&&◌ (all-ext m (λ i l. h i (le_step l))) (h m (lt-suc_self m))

pub any-ext : (m : ℕ) {f g : ℕ → Bool} → ((i : ℕ) → i < m → f i ≡ g i) → any_below m f ≡ any_below m g
unfolding any_below
any-ext zero h = refl
any-ext (suc m) h = ap₂ ◌||◌ (any-ext m (λ i l. h i (le_step l))) (h m (lt-suc_self m))
