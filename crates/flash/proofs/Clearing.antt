-- Programming only clears bits: what a list of steps leaves of a word, unless one of them erases the word's block. Assumes nothing.
use mathlib.Core.Path.{◌≡◌, refl, sym, ap, ◌∙◌}
use mathlib.Core.Logic.{◌≢◌}
use mathlib.Core.Bool.{Bool, true, false, ◌||◌, true≢false}
use mathlib.Core.List.{List, [], ◌∷◌, ◌++◌}
use Prim.Native.Nat.{ℕ, ◌/◌, ◌<◌}
use native.Mathlib.Decide.{dec_lt, ℕ_discrete}
use native.Mathlib.Omega.{arith}
use lib.Dec.{eqb}
use lib.ListN.{length, length-set}
use lib.Seq.{get_or-set_same, get_or-set_other, set_out}
use borrow.Author.Tests.{eqb-true, eqb-false}
use Rattle.ranges.proofs.Tests.{neither-passes}
use Rattle.bits.specs.Word.{is_set, programmed}
use Rattle.bits.proofs.Programming.{programmed-never-sets}
use Rattle.geometry.specs.declared.Geometry.{Geometry}
use Rattle.geometry.specs.Geometry.{block_length}
use Rattle.image.specs.Words.{Image, word}
use Rattle.flash.specs.declared.Step.{Step}
use Rattle.flash.specs.declared.Step.TheVariants.{Program, Erase}
use Rattle.flash.specs.Steps.{programmed_at, erased_block, applied, run, erasures_in, erases_block}
use Rattle.flash.specs.Writing.{erases_victim}
use Rattle.flash.proofs.Erased.{erased-at-least, erased-elsewhere}

-- one word programmed: it and every other word have only bits that they had
pub program-clears : (image : Image) (q asked p j : ℕ) → is_set (word (programmed_at image q asked) p) j ≡ true → is_set (word image p) j ≡ true
program-clears image q asked p j t = go (ℕ_discrete p q) (dec_lt q (length image))
  where
    new : ℕ
    new = programmed (word image q) asked

    go : Dec (p ≡ q) → Dec (q < length image) → is_set (word image p) j ≡ true
    go (no n) l = sym (ap (λ (w : ℕ). is_set w j) (get_or-set_other image q p new 0 n)) ∙ t
    go (yes e) (no l) = sym (ap (λ (x : Image). is_set (word x p) j) (set_out image q new (omega arith))) ∙ t
    go (yes e) (yes l) =
        rw e
        (programmed-never-sets (word image q) asked j
        (sym (ap (λ (w : ℕ). is_set w j) (get_or-set_same image q new 0 l)) ∙ rw e at t))

-- any steps that do not erase the word's block
pub run-clears :
    (geo : Geometry) (image : Image) (steps : List Step) (p j : ℕ) →
    p < length image →
    erases_block steps (p / block_length geo) ≡ false →
    is_set (word (run geo image steps) p) j ≡ true →
    is_set (word image p) j ≡ true
unfolding run applied erases_block
run-clears geo image [] p j inside kept t = t
run-clears geo image (Program q w ∷ ss) p j inside kept t =
    program-clears image q w p j
    (run-clears geo (programmed_at image q w) ss p j (omega (arith, length-set image q (programmed (word image q) w))) kept t)
run-clears geo image (Erase c ∷ ss) p j inside kept t =
    let both = neither-passes (eqb c (p / block_length geo)) (erases_block ss (p / block_length geo)) kept in
    let other : p / block_length geo ≢ c = λ q. eqb-false c (p / block_length geo) both.0 (sym q) in
    sym (ap (λ (w : ℕ). is_set w j) (erased-elsewhere geo image c p inside other))
    ∙ run-clears geo (erased_block geo image c) ss p j (omega (arith, erased-at-least geo image c)) both.1 t

-- ---- which blocks steps erase

pub erases-append : (xs ys : List Step) (b : ℕ) → erases_block (xs ++ ys) b ≡ (erases_block xs b || erases_block ys b)
unfolding erases_block
erases-append [] ys b = refl
erases-append (Program p w ∷ xs) ys b = erases-append xs ys b
erases-append (Erase c ∷ xs) ys b = go (eqb c b) (erases-append xs ys b)
  where
    go : (x : Bool) → erases_block (xs ++ ys) b ≡ (erases_block xs b || erases_block ys b) → (x || erases_block (xs ++ ys) b) ≡ ((x || erases_block xs b) || erases_block ys b)
    go true e = refl
    go false e = e

-- steps without an erasure erase no block
pub erases-none : (steps : List Step) → erasures_in steps ≡ 0 → (b : ℕ) → erases_block steps b ≡ false
unfolding erasures_in erases_block
erases-none [] none b = refl
erases-none (Program p w ∷ ss) none b = erases-none ss none b
erases-none (Erase c ∷ ss) none b = absurd (omega arith)

-- and the end of a reclaim erases the victim alone
pub erases-victim : (geo : Geometry) (v count b : ℕ) → erases_block (erases_victim geo v count) b ≡ true → b ≡ v
unfolding erases_block
erases-victim geo v count b e = go (eqb v b) refl e
  where
    go : (x : Bool) → eqb v b ≡ x → (x || false) ≡ true → b ≡ v
    go true same t = sym (eqb-true v b same)
    go false other t = absurd (true≢false (sym t))
