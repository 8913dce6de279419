-- K4: step i of a list of steps and its first steps, where the list is made of parts. Assumes nothing.
use mathlib.Core.Path.{◌≡◌, refl, sym, ap, ap₂, ◌∙◌}
use mathlib.Core.List.{List, [], ◌∷◌, ◌++◌, append-nil}
use Prim.Native.Nat.{ℕ, zero, suc, ◌+◌, ◌-◌, ◌<◌, ◌≤◌, min}
use native.Mathlib.Omega.{arith}
use native.Mathlib.Decide.{dec_lt}
use lib.ListN.{length, length-append}
use lib.Seq.{take_all, take-nil}
use Rattle.ranges.specs.Range.{list_below}
use Rattle.ranges.proofs.Lists.{list_length}
use Rattle.geometry.specs.declared.Geometry.{Geometry}
use Rattle.image.specs.Words.{Image}
use Rattle.flash.specs.declared.Step.{Step}
use Rattle.flash.specs.declared.Step.TheVariants.{Program, Erase}
use Rattle.flash.specs.declared.NextStep.TheVariants.{Done}
use Rattle.flash.specs.Steps.{run, words_in, erasures_in, step_at, first_of}
use Rattle.flash.proofs.Stores.{run-append, run_none}

-- ---- how many steps there are

-- each programs a word or erases a block
pub steps-counted : (xs : List Step) → length xs ≡ words_in xs + erasures_in xs
unfolding words_in erasures_in
steps-counted [] = refl
steps-counted (Program p w ∷ xs) = omega (arith, steps-counted xs)
steps-counted (Erase b ∷ xs) = omega (arith, steps-counted xs)

-- ---- step i

-- of two parts, one of the first
pub step-before : (xs ys : List Step) (i : ℕ) → i < length xs → step_at (xs ++ ys) i ≡ step_at xs i
unfolding step_at
step-before [] ys i l = absurd (omega arith)
step-before (x ∷ xs) ys zero l = refl
step-before (x ∷ xs) ys (suc i) l = step-before xs ys i (omega arith)

-- one of the second
pub step-behind : (xs ys : List Step) (i : ℕ) → step_at (xs ++ ys) (length xs + i) ≡ step_at ys i
unfolding step_at
step-behind [] ys i = ap (step_at ys) (omega arith)
step-behind (x ∷ xs) ys i =
    let one_on : suc (length xs) + i ≡ suc (length xs + i) = omega arith in
    ap (step_at (x ∷ (xs ++ ys))) one_on ∙ step-behind xs ys i

-- past the end there is none
pub step_past : (xs : List Step) (i : ℕ) → length xs ≤ i → step_at xs i ≡ Done
unfolding step_at
step_past [] i l = refl
step_past (x ∷ xs) zero l = absurd (omega arith)
step_past (x ∷ xs) (suc i) l = step_past xs i (omega arith)

-- ---- the first j steps

-- of a list in two parts: those of the first part, and of the second as many as are left
pub first-parts : (j : ℕ) (xs ys : List Step) → first_of j (xs ++ ys) ≡ first_of j xs ++ first_of (j - length xs) ys
first-parts j [] ys =
    let all : j ≡ j - 0 = omega arith in
    rw (take-nil {A = Step} j) (ap (λ (m : ℕ). first_of m ys) all)
first-parts zero (x ∷ xs) ys =
    let none : 0 ≡ 0 - suc (length xs) = omega arith in
    ap (λ (m : ℕ). first_of m ys) none
first-parts (suc j) (x ∷ xs) ys =
    let same : j - length xs ≡ suc j - suc (length xs) = omega arith in
    ap (x ∷◌) (first-parts j xs ys ∙ ap (λ (m : ℕ). first_of j xs ++ first_of m ys) same)

-- no first steps erase where none of all does
pub erases-none-first : (j : ℕ) (xs : List Step) → erasures_in xs ≡ 0 → erasures_in (first_of j xs) ≡ 0
unfolding erasures_in
erases-none-first zero xs e = refl
erases-none-first (suc j) [] e = refl
erases-none-first (suc j) (Program p w ∷ xs) e = erases-none-first j xs e
erases-none-first (suc j) (Erase b ∷ xs) e = absurd (omega arith)

-- of a list by index: those of the first indices
pub first-list : (j m : ℕ) (f : ℕ → Step) → first_of j (list_below m f) ≡ list_below (min j m) f
unfolding list_below
first-list j zero f = take-nil j ∙ ap (λ (x : ℕ). list_below x f) {x = 0} {y = min j 0} (omega arith)
first-list j (suc m) f = first-parts j (list_below m f) (f m ∷ []) ∙ go (first-list j m f) (dec_lt m j)
  where
    go :
        first_of j (list_below m f) ≡ list_below (min j m) f →
        Dec (m < j) →
        first_of j (list_below m f) ++ first_of (j - length (list_below m f)) (f m ∷ []) ≡ list_below (min j (suc m)) f
    go before (yes l) =
        let all : min j (suc m) ≡ suc m = omega arith in
        let long = list_length m f in
        rw all (ap₂ ◌++◌ (take_all j (list_below m f) (omega arith)) (take_all (j - length (list_below m f)) (f m ∷ []) (omega arith)))
    go before (no l) =
        let some : min j m ≡ min j (suc m) = omega arith in
        let none : j - length (list_below m f) ≡ 0 = omega (arith, list_length m f) in
        rw none (append-nil (first_of j (list_below m f))) ∙ before ∙ ap (λ (x : ℕ). list_below x f) some

-- ---- the first steps carried out: how many of `most` are left then, and the image

abbrev pub Carried : Geometry → Image → ℕ → List Step → ℕ → Image → Type 0
Carried geo image most steps left after = (left ≡ most - length steps) × (after ≡ run geo image (first_of most steps))

module _ (geo : Geometry) (image : Image) (most : ℕ) {now : Image} {left : ℕ} (xs : List Step) (first : Carried geo image most xs left now) where
  -- as the first part of more, of which the rest is carried out too
  pub and_then : (ys : List Step) {after : Image} {rest : ℕ} → Carried geo now left ys rest after → Carried geo image most (xs ++ ys) rest after
  and_then ys second = (
    omega (arith, first.0, second.0, length-append xs ys),
    second.1
        ∙ ap₂ (λ (x : Image) (m : ℕ). run geo x (first_of m ys)) first.1 first.0
        ∙ sym (run-append geo image (first_of most xs) (first_of (most - length xs) ys))
        ∙ ap (run geo image) (sym (first-parts most xs ys)),
  )

  -- where none is left, nothing of what follows is done
  pub stopped : left ≡ 0 → (ys : List Step) → Carried geo image most (xs ++ ys) 0 now
  stopped none ys =
      and_then ys (omega arith, sym (ap (λ (m : ℕ). run geo now (first_of m ys)) none ∙ run_none geo now))

  -- where one is left, all were done; so what follows may depend on the image
  pub passed : (left ≡ 0 → ⊥) → now ≡ run geo image xs
  passed some = first.1 ∙ ap (run geo image) (take_all most xs (omega (arith, first.0, some)))
