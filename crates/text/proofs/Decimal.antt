-- The digits of a number: how they go on from those of a tenth of it, and the statements of specs/Decimal.antt. Assumes nothing.
use mathlib.Core.Path.{◌≡◌, refl, sym, ap, ◌∙◌}
use mathlib.Core.Bool.{Bool, true, false, ◌&&◌}
use mathlib.Core.List.{List, [], ◌∷◌, ◌++◌}
use Prim.Native.Nat.{ℕ, zero, suc, ◌+◌, ◌-◌, ◌*◌, ◌/◌, ◌%◌, ◌^◌, ◌≤◌, ◌<◌}
use native.Mathlib.Nat.{div-lt_self, div-add-mod', mod-lt, div-lt_iff_lt-mul, pow-suc}
use native.Mathlib.Omega.{arith}
use borrow.Author.Tests.{ltb-true, ltb-false, lt-ltb, le-ltb, le-leb}
use lib.Dec.{ltb, leb}
use lib.ListN.{length, get_or, length-append, get_or-append}
use Rattle.text.specs.Decimal.{digit, decimal_within, decimal, read_on, all_digits, DigitsGiveTheNumberBack, NoLeadingZero, FewDigits}

-- the tenth of a number of two digits or more is smaller
pub tenth-less : (n : ℕ) → 10 ≤ n → n / 10 < n
tenth-less n l = div-lt_self (omega arith) (omega arith)

-- What is so of each number of one digit, and of any other if it is of its tenth, is so of every number.
module _ {ℓ} (P : ℕ → Type ℓ) (few : (n : ℕ) → n < 10 → P n) (more : (n : ℕ) → 10 ≤ n → P (n / 10) → P n) where
  within : (t n : ℕ) → n < t → P n
  within zero n l = absurd (omega arith)
  within (suc t) n l = go (ltb n 10) refl (λ ten. within t (n / 10) (omega (arith, tenth-less n ten)))
    where
      go : (b : Bool) → ltb n 10 ≡ b → (10 ≤ n → P (n / 10)) → P n
      go true e tenth = few n (ltb-true n 10 e)
      go false e tenth = more n (ltb-false n 10 e) (tenth (ltb-false n 10 e))

  pub by-tenths : (n : ℕ) → P n
  by-tenths n = within (suc n) n (omega arith)

-- more turns than n change nothing
turns-enough : (n t u : ℕ) → n < t → n < u → decimal_within t n ≡ decimal_within u n
unfolding decimal_within
turns-enough = by-tenths (λ n. (t u : ℕ) → n < t → n < u → decimal_within t n ≡ decimal_within u n) few more
  where
    few : (n : ℕ) → n < 10 → (t u : ℕ) → n < t → n < u → decimal_within t n ≡ decimal_within u n
    few n l zero u p q = absurd (omega arith)
    few n l (suc t) zero p q = absurd (omega arith)
    few n l (suc t) (suc u) p q = rw (lt-ltb n 10 l)

    more :
        (n : ℕ) →
        10 ≤ n →
        ((t u : ℕ) → n / 10 < t → n / 10 < u → decimal_within t (n / 10) ≡ decimal_within u (n / 10)) →
        (t u : ℕ) →
        n < t →
        n < u →
        decimal_within t n ≡ decimal_within u n
    more n l tenth zero u p q = absurd (omega arith)
    more n l tenth (suc t) zero p q = absurd (omega arith)
    more n l tenth (suc t) (suc u) p q =
        let less = tenth-less n l in
        rw (le-ltb n 10 l) (ap (◌++ (digit (n % 10) ∷ [])) (tenth t u (omega arith) (omega arith)))

-- one turn
turn : (n : ℕ) → 10 ≤ n → decimal_within (suc n) n ≡ decimal_within n (n / 10) ++ (digit (n % 10) ∷ [])
unfolding decimal_within
turn n l = rw (le-ltb n 10 l)

-- a number below ten is its digit
pub one-digit : (n : ℕ) → n < 10 → decimal n ≡ digit n ∷ []
unfolding decimal decimal_within
one-digit n l = rw (lt-ltb n 10 l)

-- the digits of any other are those of its tenth, and one more
pub more-digits : (n : ℕ) → 10 ≤ n → decimal n ≡ decimal (n / 10) ++ (digit (n % 10) ∷ [])
unfolding decimal
more-digits n l = turn n l ∙ ap (◌++ (digit (n % 10) ∷ [])) (turns-enough (n / 10) n (suc (n / 10)) (tenth-less n l) (omega arith))

-- how many there are
pub one_more : (n : ℕ) → 10 ≤ n → length (decimal n) ≡ length (decimal (n / 10)) + 1
one_more n l = ap length (more-digits n l) ∙ length-append (decimal (n / 10)) (digit (n % 10) ∷ [])

some-digits : (n : ℕ) → 1 ≤ length (decimal n)
some-digits =
    by-tenths (λ n. 1 ≤ length (decimal n))
    (λ n l. rw (one-digit n l) (omega arith))
    (λ n l tenth. omega (arith, one_more n l))

pub digits-give-the-number-back : DigitsGiveTheNumberBack
digits-give-the-number-back =
    by-tenths (λ n. read_on 0 (decimal n) ≡ n)
    (λ n l. rw (one-digit n l) (omega arith))
    (λ n l tenth.
    rw (more-digits n l, read-append 0 (decimal (n / 10)) (digit (n % 10) ∷ []), tenth) (omega (arith, div-add-mod' n 10)))
  where
    read-append : (n : ℕ) (s t : List ℕ) → read_on n (s ++ t) ≡ read_on (read_on n s) t
    read-append n [] t = refl
    read-append n (c ∷ s) t = read-append (n * 10 + (c - 48)) s t

only-digits : (n : ℕ) → all_digits (decimal n) ≡ true
only-digits =
    by-tenths (λ n. all_digits (decimal n) ≡ true)
    (λ n l. rw (one-digit n l) (one-after [] n refl l))
    (λ n l tenth. rw (more-digits n l) (one-after (decimal (n / 10)) (n % 10) tenth (mod-lt n (omega arith))))
  where
    after : (a b x y : Bool) → (a && b && x) ≡ true → (x ≡ true → y ≡ true) → (a && b && y) ≡ true
    after true true x y e then = then e
    after true false x y e then = e
    after false b x y e then = e

    one-after : (s : List ℕ) (d : ℕ) → all_digits s ≡ true → d < 10 → all_digits (s ++ (digit d ∷ [])) ≡ true
    one-after [] d e l = rw (le-leb 48 (digit d) (omega arith), le-leb (digit d) 57 (omega arith))
    one-after (c ∷ s) d e l =
        after (leb 48 c) (leb c 57) (all_digits s) (all_digits (s ++ (digit d ∷ []))) e (λ rest. one-after s d rest l)

-- the first digit of a number of two or more is that of its tenth, and so of no number but 0 is it a 0
first-digit : (n : ℕ) → get_or (decimal n) 0 0 ≡ digit 0 → n ≡ 0
first-digit =
    by-tenths (λ n. get_or (decimal n) 0 0 ≡ digit 0 → n ≡ 0)
    (λ n l is. omega (arith, rw (one-digit n l) at is))
    (λ n l tenth is.
    let same = get_or-append (decimal (n / 10)) (digit (n % 10) ∷ []) 0 0 (some-digits (n / 10)) in
    let none = tenth (sym same ∙ (rw (more-digits n l) at is)) in
    absurd (omega (arith, none, div-add-mod' n 10, mod-lt n {m = 10} (omega arith))))

pub no-leading-zero : NoLeadingZero
no-leading-zero n = (only-digits n, some-digits n, λ is. rw (first-digit n is) (one-digit 0 (omega arith)))

pub few-digits : FewDigits
few-digits = (λ k n. all n k, λ n l. all n 10 (omega arith) (omega arith))
  where
    more :
        (n : ℕ) →
        10 ≤ n →
        ((k : ℕ) → 1 ≤ k → n / 10 < 10 ^ k → length (decimal (n / 10)) ≤ k) →
        (k : ℕ) →
        1 ≤ k →
        n < 10 ^ k →
        length (decimal n) ≤ k
    more n l tenth zero one below = absurd (omega arith)
    more n l tenth (suc zero) one below = absurd (omega arith)
    more n l tenth (suc (suc k)) one below =
        let less = (div-lt_iff_lt-mul {k = 10} (omega arith)).1 (rw (pow-suc 10 (suc k)) at below) in
        omega (arith, one_more n l, tenth (suc k) (omega arith) less)

    all : (n k : ℕ) → 1 ≤ k → n < 10 ^ k → length (decimal n) ≤ k
    all = by-tenths (λ n. (k : ℕ) → 1 ≤ k → n < 10 ^ k → length (decimal n) ≤ k) (λ n l k one below. rw (one-digit n l) one) more
