-- Tests, sums, counts, lists and searches over 0, 1, .. m − 1. Each takes the last index off, as a loop that counts up adds it:
-- the invariant of such a loop is the definition at the loop's index. Their laws are in proofs/.
use Rattle.std.specs.Prelude.{Bool, true, false, cond, ◌&&◌, ◌||◌, List, [], ◌∷◌, ◌++◌, ℕ, zero, suc, ◌+◌, max, eqb, ltb, Option, Some, None}

infixr 25 ◌implies◌
-- a test that is asked only where another passes
abbrev pub ◌implies◌ : Bool → Bool → Bool
true implies b = b
false implies b = true

-- a test as a number
abbrev pub one_if : Bool → ℕ
one_if true = 1
one_if false = 0

-- f passes at each index below m
unfoldable pub all_below : ℕ → (ℕ → Bool) → Bool
all_below zero f = true
all_below (suc m) f = all_below m f && f m

-- f passes at some index below m
unfoldable pub any_below : ℕ → (ℕ → Bool) → Bool
any_below zero f = false
any_below (suc m) f = any_below m f || f m

-- a test that passes at n as well
abbrev pub or_at : (ℕ → Bool) → ℕ → ℕ → Bool
or_at f n i = f i || eqb n i

-- f 0 + f 1 + .. + f (m − 1)
unfoldable pub sum_below : ℕ → (ℕ → ℕ) → ℕ
sum_below zero f = 0
sum_below (suc m) f = sum_below m f + f m

-- at how many indices below m the test f passes
abbrev pub count_below : ℕ → (ℕ → Bool) → ℕ
count_below m f = sum_below m (λ i. one_if (f i))

-- f 0, f 1, .. f (m − 1), in this order
unfoldable pub list_below : {A : Type 0} → ℕ → (ℕ → A) → List A
list_below zero f = []
list_below (suc m) f = list_below m f ++ (f m ∷ [])

-- the lists f 0, f 1, .. f (m − 1), one behind the other
unfoldable pub join_below : {A : Type 0} → ℕ → (ℕ → List A) → List A
join_below zero f = []
join_below (suc m) f = join_below m f ++ f m

-- the largest of f 0, f 1, .. f (m − 1); 0 where there is none
unfoldable pub largest_below : ℕ → (ℕ → ℕ) → ℕ
largest_below zero f = 0
largest_below (suc m) f = max (largest_below m f) (f m)

-- Of the indices below m at which f passes, the one that is left when each in turn takes the place of the one before it
-- wherever it beats it; m where f passes at none.
unfoldable pub best_below : (ℕ → ℕ → Bool) → ℕ → (ℕ → Bool) → ℕ
best_below beats zero f = 0
best_below beats (suc m) f =
    let r = best_below beats m f in
    cond (ltb r m) (cond (f m && beats m r) m r) (cond (f m) m (suc m))

-- the least index below m at which f passes, or m: none beats one before it
abbrev pub first_below : ℕ → (ℕ → Bool) → ℕ
first_below = best_below (λ i r. false)

-- the greatest index below m at which f passes, or m: each beats those before it
abbrev pub last_below : ℕ → (ℕ → Bool) → ℕ
last_below = best_below (λ i r. true)

-- the test passes, and has n such indices before it
abbrev pub nth_passing : ℕ → (ℕ → Bool) → ℕ → Bool
nth_passing n f i = f i && eqb (count_below i f) n

-- one pair of numbers is below another: by the first, and among equals by the second
abbrev pub pair_below : ℕ × ℕ → ℕ × ℕ → Bool
pair_below a b = ltb a.0 b.0 || eqb a.0 b.0 && ltb a.1 b.1

-- the index whose pair is below beats another
abbrev pub by_key : (ℕ → ℕ × ℕ) → ℕ → ℕ → Bool
by_key key i r = pair_below (key i) (key r)

-- the index that a search found, which says m where there is none
abbrev pub index_below : ℕ → ℕ → Option ℕ
index_below m i = cond (ltb i m) (Some i) None
