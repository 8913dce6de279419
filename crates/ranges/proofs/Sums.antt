-- The laws of `sum_below` and `count_below`. Assumes nothing.
use Prim.Native.Nat.{ℕ, zero, suc, ◌+◌, ◌-◌, ◌*◌, ◌≤◌, ◌<◌}
use mathlib.Core.Path.{◌≡◌, refl, sym, ap, ◌∙◌}
use mathlib.Core.Logic.{◌⊎◌, inl, inr, ⊎_elim, ◌≢◌}
use mathlib.Core.Bool.{Bool, true, false, not, cond, true≢false}
use native.Mathlib.Nat.{eq-zero-or-pos, le_step, lt-suc_self, add-zero, add-suc}
use native.Mathlib.Decide.{ℕ_discrete, dec_lt}
use native.Mathlib.Numerals.{add-one}
use native.Mathlib.Omega.{arith}
use lib.Dec.{eqb}
use borrow.Author.Tests.{eq-eqb, ne_eqb, eqb-true, eqb-false}
use Rattle.ranges.specs.Range.{one_if, sum_below, count_below, all_below, any_below}
use Rattle.ranges.proofs.Tests.{unless, below_suc, all-at, all_of, none-at, none_of}

-- ---- terms that agree, or are ordered

-- equal terms have equal sums
pub sum-ext : (m : ℕ) {f g : ℕ → ℕ} → ((i : ℕ) → i < m → f i ≡ g i) → sum_below m f ≡ sum_below m g
unfolding sum_below
sum-ext zero h = refl
sum-ext (suc m) h = omega (arith, sum-ext m (λ i l. h i (omega arith)), h m (lt-suc_self m))

-- smaller terms have a smaller sum
pub sum_mono : (m : ℕ) {f g : ℕ → ℕ} → ((i : ℕ) → i < m → f i ≤ g i) → sum_below m f ≤ sum_below m g
unfolding sum_below
sum_mono zero h = omega arith
sum_mono (suc m) h = omega (arith, sum_mono m (λ i l. h i (omega arith)), h m (lt-suc_self m))

-- ---- sums of sums, of constants, of multiples

pub sum-add : (m : ℕ) (f g : ℕ → ℕ) → sum_below m (λ i. f i + g i) ≡ sum_below m f + sum_below m g
unfolding sum_below
sum-add zero f g = refl
sum-add (suc m) f g = omega (arith, sum-add m f g)

pub sum-const : (m c : ℕ) → sum_below m (λ i. c) ≡ m * c
unfolding sum_below
sum-const zero c = omega arith
sum-const (suc m) c = omega (arith, sum-const m c)

-- a factor comes out
pub sum-scale : (m c : ℕ) (f : ℕ → ℕ) → sum_below m (λ i. c * f i) ≡ c * sum_below m f
unfolding sum_below
sum-scale zero c f = omega arith
sum-scale (suc m) c f = omega (arith, sum-scale m c f)

-- the order of a double sum is free
pub sum-swap : (m n : ℕ) (f : ℕ → ℕ → ℕ) → sum_below m (λ i. sum_below n (λ j. f i j)) ≡ sum_below n (λ j. sum_below m (λ i. f i j))
unfolding sum_below
sum-swap zero n f = omega (arith, sum-const n 0)
sum-swap (suc m) n f = omega (arith, sum-swap m n f, sum-add n (λ j. sum_below m (λ i. f i j)) (f m))

-- ---- a range cut in two

-- the first term apart
pub sum_first : (m : ℕ) (f : ℕ → ℕ) → sum_below (suc m) f ≡ f 0 + sum_below m (λ i. f (suc i))
unfolding sum_below
sum_first zero f = omega arith
sum_first (suc m) f = omega (arith, sum_first m f)

-- the first m terms apart
pub sum-cut : (m n : ℕ) (f : ℕ → ℕ) → sum_below (m + n) f ≡ sum_below m f + sum_below n (λ i. f (m + i))
unfolding sum_below
sum-cut m zero f = ap (λ (n : ℕ). sum_below n f) (add-zero m) ∙ sym (add-zero (sum_below m f))
sum-cut m (suc n) f = ap (λ (n : ℕ). sum_below n f) (add-suc m n) ∙ omega (arith, sum-cut m n f)

-- fewer terms
pub sum-prefix : {m n : ℕ} (f : ℕ → ℕ) → m ≤ n → sum_below m f ≤ sum_below n f
sum-prefix {m} {n} f l =
    let whole : m + (n - m) ≡ n = omega arith in
    omega (arith, sum-cut m (n - m) f, ap (λ (x : ℕ). sum_below x f) whole)

-- ---- a term changed

-- a change at one index changes the sum by as much
pub sum-update :
    (m : ℕ) {x : ℕ} {f f' : ℕ → ℕ} → x < m → ((i : ℕ) → i < m → i ≢ x → f' i ≡ f i) → sum_below m f' + f x ≡ sum_below m f + f' x
unfolding sum_below
sum-update zero l same = omega arith
sum-update (suc m) {x} {f} {f'} l same =
    ⊎_elim
    (λ e. rw e (omega (arith, sum-ext m (λ i k. same i (omega arith) (omega arith)))))
    (λ k. omega (arith, sum-update m k (λ i j. same i (omega arith)), same m (lt-suc_self m) (omega arith)))
    (below_suc l)

-- a change at two indices
pub sum-update-two :
    (m : ℕ) {x y : ℕ} {f f' : ℕ → ℕ} →
    x < m →
    y < m →
    x ≢ y →
    ((i : ℕ) → i < m → i ≢ x → i ≢ y → f' i ≡ f i) →
    sum_below m f' + (f x + f y) ≡ sum_below m f + (f' x + f' y)
sum-update-two m {x} {y} {f} {f'} l k ne same =
    let first = sum-update m {f = f} {f' = half} l (λ i q e. rw (ne_eqb i x e)) in
    let second = sum-update m {f = half} {f' = f'} k (λ i q e. go i q e (eqb i x) refl) in
    let at_x : half x ≡ f' x = rw (eq-eqb x x refl) in
    let at_y : half y ≡ f y = rw (ne_eqb y x (λ e. ne (sym e))) in
    omega arith
  where
    half : ℕ → ℕ
    half i = cond (eqb i x) (f' x) (f i)

    go : (i : ℕ) → i < m → i ≢ y → (b : Bool) → eqb i x ≡ b → f' i ≡ half i
    go i q e true t = rw (t, eqb-true i x t)
    go i q e false t = rw t (same i q (eqb-false i x t) e)

-- the same for a double sum, changed at one pair of indices
pub sum-pairs-update :
    (m n : ℕ) {x y : ℕ} {f f' : ℕ → ℕ → ℕ} →
    x < m →
    y < n →
    ((i j : ℕ) → i < m → j < n → (i ≢ x) ⊎ (j ≢ y) → f' i j ≡ f i j) →
    sum_below m (λ i. sum_below n (f' i)) + f x y ≡ sum_below m (λ i. sum_below n (f i)) + f' x y
sum-pairs-update m n {x} {y} {f} {f'} l k same =
    let row = sum-update n {f = f x} {f' = f' x} k (λ j q e. same x j l q (inr e)) in
    let rows = sum-update m {f = λ i. sum_below n (f i)} {f' = λ i. sum_below n (f' i)} l (λ i q e. sum-ext n (λ j r. same i j q r (inl e))) in
    omega arith

-- ---- one term and the sum

-- each term is at most the sum
pub term-le-sum : (m : ℕ) (f : ℕ → ℕ) {x : ℕ} → x < m → f x ≤ sum_below m f
unfolding sum_below
term-le-sum zero f l = omega arith
term-le-sum (suc m) f {x} l = ⊎_elim (λ e. rw e (omega arith)) (λ k. omega (arith, term-le-sum m f k)) (below_suc l)

-- terms of at most c
pub sum_bound : (m c : ℕ) {f : ℕ → ℕ} → ((i : ℕ) → i < m → f i ≤ c) → sum_below m f ≤ m * c
sum_bound m c h = rw (← sum-const m c) (sum_mono m h)

-- terms that are all 0
pub sum-zero : (m : ℕ) {f : ℕ → ℕ} → ((i : ℕ) → i < m → f i ≡ 0) → sum_below m f ≡ 0
sum-zero m h = omega (arith, sum-ext m {g = λ i. 0} h, sum-const m 0)

-- a sum above 0 has a term above 0
pub sum-positive : (m : ℕ) (f : ℕ → ℕ) → 1 ≤ sum_below m f → (i : ℕ) × (i < m) × (1 ≤ f i)
unfolding sum_below
sum-positive zero f h = absurd (omega arith)
sum-positive (suc m) f h =
    ⊎_elim
    (λ e. let r = sum-positive m f (omega arith) in (r.0, le_step r.1, r.2))
    (λ k. (m, lt-suc_self m, k))
    (eq-zero-or-pos (f m))

-- at most one term is above 0, and it is at most 1: so is the sum
pub sum-at-most-one :
    (m : ℕ) {f : ℕ → ℕ} →
    ((i : ℕ) → i < m → f i ≤ 1) →
    ((i j : ℕ) → i < m → j < m → 1 ≤ f i → 1 ≤ f j → i ≡ j) →
    sum_below m f ≤ 1
unfolding sum_below
sum-at-most-one zero small one = omega arith
sum-at-most-one (suc m) {f} small one =
    ⊎_elim
    (λ e. omega (arith, small m (lt-suc_self m)))
    (λ k.
    let r = sum-positive m f k in
    let less = sum-at-most-one m {f = f} (λ i l. small i (le_step l)) (λ i j l n. one i j (le_step l) (le_step n)) in
    ⊎_elim
    (λ e. omega arith)
    (λ n. omega (arith, one r.0 m (le_step r.1) (lt-suc_self m) r.2 n))
    (eq-zero-or-pos (f m)))
    (eq-zero-or-pos (sum_below m f))

-- ---- counts: sums of tests

pub one-if-le : (b : Bool) → one_if b ≤ 1
one-if-le true = omega arith
one-if-le false = omega arith

pub one-if-zero : (b : Bool) → one_if b ≡ 0 → b ≡ false
one-if-zero true h = absurd (omega arith)
one-if-zero false h = refl

pub one-if-positive : (b : Bool) → 1 ≤ one_if b → b ≡ true
one-if-positive true h = refl
one-if-positive false h = absurd (omega arith)

one-if-not : (b : Bool) → one_if b + one_if (not b) ≡ 1
one-if-not true = refl
one-if-not false = refl

pub count-ext : (m : ℕ) {f g : ℕ → Bool} → ((i : ℕ) → i < m → f i ≡ g i) → count_below m f ≡ count_below m g
count-ext m h = sum-ext m (λ i l. ap one_if (h i l))

pub count-le : (m : ℕ) (f : ℕ → Bool) → count_below m f ≤ m
count-le m f = omega (arith, sum_bound m 1 (λ i l. one-if-le (f i)))

-- a test and its negation
pub count-not : (m : ℕ) (f : ℕ → Bool) → count_below m f + count_below m (λ i. not (f i)) ≡ m
count-not m f =
    omega (arith, sum-add m (λ i. one_if (f i)) (λ i. one_if (not (f i))), sum-ext m (λ i l. one-if-not (f i)), sum-const m 1)

-- one index more, that passes
pub count-more : (i : ℕ) (f : ℕ → Bool) {passed : ℕ} → passed ≡ count_below i f → f i ≡ true → passed + 1 ≡ count_below (i + 1) f
unfolding sum_below
count-more i f before t = rw (add-one i, t, ← before)

-- and one that fails
pub count-same : (i : ℕ) (f : ℕ → Bool) {passed : ℕ} → passed ≡ count_below i f → f i ≡ false → passed ≡ count_below (i + 1) f
unfolding sum_below
count-same i f before t = rw (add-one i, t, ← before) (omega arith)

-- no index, and none
pub count_none : (m : ℕ) {f : ℕ → Bool} → ((i : ℕ) → i < m → f i ≡ false) → count_below m f ≡ 0
count_none m h = sum-zero m (λ i l. ap one_if (h i l))

pub count-fails : (m : ℕ) (f : ℕ → Bool) → count_below m f ≡ 0 → (i : ℕ) → i < m → f i ≡ false
count-fails m f h i l = one-if-zero (f i) (omega (arith, term-le-sum m (λ i. one_if (f i)) l))

-- every index, and all m
pub count-every : (m : ℕ) {f : ℕ → Bool} → ((i : ℕ) → i < m → f i ≡ true) → count_below m f ≡ m
count-every m h = omega (arith, sum-ext m {g = λ i. 1} (λ i l. ap one_if (h i l)), sum-const m 1)

pub count-passes : (m : ℕ) (f : ℕ → Bool) → count_below m f ≡ m → (i : ℕ) → i < m → f i ≡ true
count-passes m f h i l =
    not-fails (f i) (count-fails m (λ i. not (f i)) (omega (arith, count-not m f)) i l)
  where
    not-fails : (b : Bool) → not b ≡ false → b ≡ true
    not-fails true e = refl
    not-fails false e = sym e

-- some index
pub count-positive : (m : ℕ) (f : ℕ → Bool) → 1 ≤ count_below m f → (i : ℕ) × (i < m) × (f i ≡ true)
count-positive m f h = let r = sum-positive m (λ i. one_if (f i)) h in (r.0, r.1, one-if-positive (f r.0) r.2)

-- a test that passes at one index at most
pub count-at-most-one :
    (m : ℕ) (f : ℕ → Bool) → ((i j : ℕ) → i < m → j < m → f i ≡ true → f j ≡ true → i ≡ j) → count_below m f ≤ 1
count-at-most-one m f one =
    sum-at-most-one m
    (λ i l. one-if-le (f i))
    (λ i j l n u v. one i j l n (one-if-positive (f i) u) (one-if-positive (f j) v))

-- a test that passes at one pair of indices at most
pub count-pairs-at-most-one :
    (m n : ℕ) (f : ℕ → ℕ → Bool) →
    ((i i' j j' : ℕ) → i < m → i' < m → j < n → j' < n → f i j ≡ true → f i' j' ≡ true → (i ≡ i') × (j ≡ j')) →
    sum_below m (λ i. count_below n (f i)) ≤ 1
count-pairs-at-most-one m n f one =
    sum-at-most-one m
    (λ i l. count-at-most-one n (f i) (λ j j' k k' u v. (one i i j j' l l k k' u v).1))
    (λ i i' l l' u v.
    let r = count-positive n (f i) u in
    let r' = count-positive n (f i') v in
    (one i i' r.0 r'.0 l l' r.1 r'.1 r.2 r'.2).0)

-- a test that passes at one index alone
pub count-one : (m : ℕ) (f : ℕ → Bool) {i j : ℕ} → count_below m f ≡ 1 → i < m → j < m → f i ≡ true → f j ≡ true → i ≡ j
count-one m f {i} {j} one l h e e' = go (ℕ_discrete i j)
  where
    rest : ℕ → Bool
    rest x = cond (eqb x i) false (f x)

    go : Dec (i ≡ j) → i ≡ j
    go (yes q) = q
    go (no n) =
        let at_i : one_if (rest i) ≡ 0 = rw (eq-eqb i i refl) in
        let change =
        sum-update m {f = λ x. one_if (f x)} {f' = λ x. one_if (rest x)} l (λ x q ne. rw (ne_eqb x i ne)) in
        let none = count-fails m rest (omega (arith, ap one_if e)) j h in
        let still : rest j ≡ true = rw (ne_eqb j i (λ q. n (sym q))) e' in
        absurd (true≢false (sym still ∙ none))

-- two indices
pub record Two (m : ℕ) (f : ℕ → Bool) : Type 0 where
  pub one : ℕ
  pub other : ℕ
  pub one_below : one < m
  pub other-below : other < one
  pub one_passes : f one ≡ true
  pub other-passes : f other ≡ true

pub count-two : (m : ℕ) (f : ℕ → Bool) → 2 ≤ count_below m f → Two m f
unfolding sum_below
count-two zero f h = absurd (omega arith)
count-two (suc m) f h = go (f m) refl (count-two m f)
  where
    go : (b : Bool) → f m ≡ b → (2 ≤ count_below m f → Two m f) → Two (suc m) f
    go true e before =
        let r = count-positive m f (omega (arith, ap one_if e)) in
        record { one = m; other = r.0; one_below = lt-suc_self m; other-below = r.1; one_passes = e; other-passes = r.2 }
    go false e before =
        let t = before (omega (arith, ap one_if e)) in
        record {
          one = t.one;
          other = t.other;
          one_below = le_step t.one_below;
          other-below = t.other-below;
          one_passes = t.one_passes;
          other-passes = t.other-passes;
        }

-- a test that fails below a and passes from a on
pub count-from :
    (m a : ℕ) {f : ℕ → Bool} → a ≤ m → ((i : ℕ) → i < a → f i ≡ false) → ((i : ℕ) → a ≤ i → i < m → f i ≡ true) → count_below m f + a ≡ m
count-from m a {f} l before behind =
    let whole : a + (m - a) ≡ m = omega arith in
    let low = count_none a before in
    let high = count-every (m - a) {f = λ i. f (a + i)} (λ i h. behind (a + i) (omega arith) (omega arith)) in
    omega (arith, sum-cut a (m - a) (λ i. one_if (f i)), ap (λ (n : ℕ). count_below n f) whole)

-- ---- the r-th of the indices that pass

-- it passes, and r before it do
pub record NthBelow (m : ℕ) (f : ℕ → Bool) (r : ℕ) : Type 0 where
  pub i : ℕ
  pub below : i < m
  pub passes : f i ≡ true
  pub before : count_below i f ≡ r

-- it is there where more than r pass
pub count-nth : (m : ℕ) (f : ℕ → Bool) (r : ℕ) → r < count_below m f → NthBelow m f r
unfolding sum_below
count-nth zero f r l = absurd (omega arith)
count-nth (suc m) f r l = go (dec_lt r (count_below m f)) (count-nth m f r)
  where
    go : Dec (r < count_below m f) → (r < count_below m f → NthBelow m f r) → NthBelow (suc m) f r
    go (yes h) earlier =
        let e = earlier h in
        record { i = e.i; below = omega (arith, e.below); passes = e.passes; before = e.before }
    go (no h) earlier =
        record { i = m; below = omega arith; passes = one-if-positive (f m) (omega arith); before = omega (arith, one-if-le (f m)) }

-- an index that passes has fewer before it than a later one has
pub count-grows : (f : ℕ → Bool) {i j : ℕ} → f i ≡ true → i < j → count_below i f < count_below j f
unfolding sum_below
count-grows f {i} {j} e l = omega (arith, sum-prefix {m = suc i} {n = j} (λ x. one_if (f x)) l, ap one_if e)

-- so there is one r-th at most
pub nth-alone : (f : ℕ → Bool) (i j : ℕ) → f i ≡ true → f j ≡ true → count_below i f ≡ count_below j f → i ≡ j
nth-alone f i j e e' same = unless-apart (λ l. omega (arith, count-grows f e l)) (λ l. omega (arith, count-grows f e' l))
  where
    unless-apart : (i < j → ⊥) → (j < i → ⊥) → i ≡ j
    unless-apart below above = omega arith

-- ---- counts and tests of the range: each says the other

pub all-count : (m : ℕ) (f : ℕ → Bool) → all_below m f ≡ eqb (count_below m f) m
all-count m f = go (eqb (count_below m f) m) refl
  where
    go : (b : Bool) → eqb (count_below m f) m ≡ b → all_below m f ≡ b
    go true e = all_of m (count-passes m f (eqb-true (count_below m f) m e))
    go false e = unless (all_below m f) (λ t. eqb-false (count_below m f) m e (count-every m (all-at m f t)))

pub any-count : (m : ℕ) (f : ℕ → Bool) → any_below m f ≡ not (eqb (count_below m f) 0)
any-count m f = go (eqb (count_below m f) 0) refl
  where
    go : (b : Bool) → eqb (count_below m f) 0 ≡ b → any_below m f ≡ not b
    go true e = none_of m (count-fails m f (eqb-true (count_below m f) 0 e))
    go false e = true-unless (any_below m f) (λ t. eqb-false (count_below m f) 0 e (count_none m (none-at m f t)))
      where
        true-unless : (b : Bool) → (b ≡ false → ⊥) → b ≡ true
        true-unless true h = refl
        true-unless false h = absurd (h refl)
