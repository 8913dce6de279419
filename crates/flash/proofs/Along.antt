-- What holds of an image on the way through a list of steps: after the first j of them, for every j. Assumes nothing.
use mathlib.Core.Path.{◌≡◌, ap, ◌∙◌}
use mathlib.Core.List.{List, [], ◌∷◌, ◌++◌}
use Prim.Native.Nat.{ℕ, zero, suc, ◌-◌, ◌<◌, ◌≤◌}
use native.Mathlib.Decide.{dec_lt}
use native.Mathlib.Omega.{arith}
use lib.ListN.{length}
use lib.Seq.{take_all}
use Rattle.ranges.specs.Range.{join_below}
use Rattle.geometry.specs.declared.Geometry.{Geometry}
use Rattle.image.specs.Words.{Image}
use Rattle.flash.specs.declared.Step.{Step}
use Rattle.flash.specs.Steps.{applied, run, first_of}
use Rattle.flash.proofs.Stores.{run-append, run_none}
use Rattle.flash.proofs.Parts.{first-parts}

abbrev pub Along : Geometry → (Image → Type 0) → Image → List Step → Type 0
Along geo P image steps = (j : ℕ) → P (run geo image (first_of j steps))

-- Lists by index, one behind the other: where a property of steps holds of each list on the image that it finds, and of two lists in a row if of
-- each, it holds of all of them in a row.
pub join-each :
    (geo : Geometry) (K : Image → List Step → Type 0) →
    ((image : Image) (xs ys : List Step) → K image xs → K (run geo image xs) ys → K image (xs ++ ys)) →
    (f : ℕ → List Step) (Q : ℕ → Image → Type 0) (m : ℕ) (image : Image) →
    K image [] →
    ((k : ℕ) (now : Image) → k < m → Q k now → K now (f k) × Q (suc k) (run geo now (f k))) →
    Q 0 image →
    K image (join_below m f) × Q m (run geo image (join_below m f))
unfolding join_below
join-each geo K both f Q zero image none each q = (none, rw (run_none geo image) q)
join-each geo K both f Q (suc m) image none each q =
    let before = join-each geo K both f Q m image none (λ k now l. each k now (omega arith)) q in
    let next = each m (run geo image (join_below m f)) (omega arith) before.1 in
    (both image (join_below m f) (f m) before.0 next.0, rw (run-append geo image (join_below m f) (f m)) next.1)

module _ (geo : Geometry) (P : Image → Type 0) where
  pub along-none : (image : Image) → P image → Along geo P image []
  unfolding run
  along-none image p zero = p
  along-none image p (suc j) = p

  -- it holds at the end
  pub along-end : (image : Image) (steps : List Step) → Along geo P image steps → P (run geo image steps)
  along-end image steps a = rw (take_all (length steps) steps (omega arith)) at (a (length steps))

  -- at most one step, one step, and one list behind another
  pub along-short : (image : Image) (steps : List Step) → length steps ≤ 1 → P image → P (run geo image steps) → Along geo P image steps
  unfolding run
  along-short image steps l p q zero = p
  along-short image steps l p q (suc j) = rw (take_all (suc j) steps (omega arith)) q

  pub along_one : (image : Image) (s : Step) → P image → P (applied geo image s) → Along geo P image (s ∷ [])
  unfolding run
  along_one image s p q zero = p
  along_one image s p q (suc zero) = q
  along_one image s p q (suc (suc j)) = q

  pub along-append :
      (image : Image) (xs ys : List Step) → Along geo P image xs → Along geo P (run geo image xs) ys → Along geo P image (xs ++ ys)
  along-append image xs ys a b j = go (dec_lt j (length xs))
    where
      parts : run geo image (first_of j (xs ++ ys)) ≡ run geo (run geo image (first_of j xs)) (first_of (j - length xs) ys)
      parts = ap (run geo image) (first-parts j xs ys) ∙ run-append geo image (first_of j xs) (first_of (j - length xs) ys)

      go : Dec (j < length xs) → P (run geo image (first_of j (xs ++ ys)))
      go (yes l) =
          let none : j - length xs ≡ 0 = omega arith in
          rw (parts, none, run_none geo (run geo image (first_of j xs))) (a j)
      go (no l) = rw (parts, take_all j xs (omega arith)) (b (j - length xs))

  -- lists by index, one behind the other, with what holds before each of them
  pub along-join :
      (f : ℕ → List Step) (Q : ℕ → Image → Type 0) (m : ℕ) (image : Image) →
      ((k : ℕ) (now : Image) → Q k now → P now) →
      ((k : ℕ) (now : Image) → k < m → Q k now → Along geo P now (f k) × Q (suc k) (run geo now (f k))) →
      Q 0 image →
      Along geo P image (join_below m f) × Q m (run geo image (join_below m f))
  along-join f Q m image here each q = join-each geo (Along geo P) along-append f Q m image (along-none image (here 0 image q)) each q

  -- what holds on the way, and what follows from it
  pub along-map :
      (Q : Image → Type 0) (image : Image) (steps : List Step) →
      ((now : Image) → P now → Q now) →
      Along geo P image steps →
      Along geo Q image steps
  along-map Q image steps f a j = f (run geo image (first_of j steps)) (a j)
