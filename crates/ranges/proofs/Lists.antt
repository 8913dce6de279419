-- The laws of `list_below` and `join_below`. Assumes nothing.
use Prim.Native.Nat.{ℕ, zero, suc, ◌<◌}
use mathlib.Core.Path.{◌≡◌, refl, ap, ap₂, ◌∙◌}
use mathlib.Core.Logic.{⊎_elim}
use mathlib.Core.List.{List, [], ◌∷◌, ◌++◌}
use native.Mathlib.Nat.{le_step, lt-suc_self}
use native.Mathlib.Omega.{arith}
use lib.ListN.{length, get_or, length-append, get_or-append}
use lib.Seq.{get_or_at}
use Rattle.ranges.specs.Range.{list_below, join_below}
use Rattle.ranges.proofs.Tests.{below_suc}

pub list_length : {A : Type 0} (m : ℕ) (f : ℕ → A) → length (list_below m f) ≡ m
unfolding list_below
list_length zero f = refl
list_length (suc m) f = length-append (list_below m f) (f m ∷ []) ∙ omega (arith, list_length m f)

-- what stands at an index
pub list_at : {A : Type 0} (m : ℕ) (f : ℕ → A) (z : A) {i : ℕ} → i < m → get_or (list_below m f) i z ≡ f i
unfolding list_below
list_at zero f z l = absurd (omega arith)
list_at (suc m) f z {i} l =
    ⊎_elim
    (λ e. rw e (get_or_at (list_below m f) (f m) [] z m (list_length m f)))
    (λ k. get_or-append (list_below m f) (f m ∷ []) z i (omega (arith, list_length m f)) ∙ list_at m f z k)
    (below_suc l)

-- the first of the list, and the others
pub list-first : {A : Type 0} (m : ℕ) (f : ℕ → A) → list_below (suc m) f ≡ f 0 ∷ list_below m (λ i. f (suc i))
unfolding list_below
list-first zero f = refl
list-first (suc m) f = ap (◌++ (f (suc m) ∷ [])) (list-first m f)

pub list_same : {A : Type 0} (m : ℕ) (f g : ℕ → A) → ((i : ℕ) → f i ≡ g i) → list_below m f ≡ list_below m g
unfolding list_below
list_same zero f g e = refl
list_same (suc m) f g e = ap₂ ◌++◌ (list_same m f g e) (ap (◌∷ []) (e m))

-- ---- lists one behind the other

-- equal lists
pub join-ext : {A : Type 0} (m : ℕ) {f g : ℕ → List A} → ((i : ℕ) → i < m → f i ≡ g i) → join_below m f ≡ join_below m g
unfolding join_below
join-ext zero h = refl
join-ext (suc m) h = ap₂ ◌++◌ (join-ext m (λ i l. h i (le_step l))) (h m (lt-suc_self m))

-- empty ones
pub join-none : {A : Type 0} (m : ℕ) {f : ℕ → List A} → ((k : ℕ) → k < m → f k ≡ []) → join_below m f ≡ []
unfolding join_below
join-none zero each = refl
join-none (suc m) each = ap₂ ◌++◌ (join-none m (λ k l. each k (omega arith))) (each m (omega arith))
