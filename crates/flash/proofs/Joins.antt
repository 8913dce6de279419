-- Lists of steps by index, one behind the other: how many steps they have, and the loop that carries them out as far as steps are left (K4).
-- Assumes nothing.
use mathlib.Core.Path.{◌≡◌, sym, ap, ◌∙◌}
use mathlib.Core.List.{List, [], ◌++◌, append-nil, append_assoc}
use mathlib.Core.Logic.{⊎_elim}
use Prim.Native.Nat.{ℕ, zero, suc, ◌+◌, ◌≤◌}
use native.Mathlib.Numerals.{add-one}
use native.Mathlib.Omega.{arith}
use Rattle.ranges.specs.Range.{sum_below, join_below}
use Rattle.ranges.proofs.Tests.{below_suc}
use Rattle.flash.specs.declared.Step.{Step}
use Rattle.flash.specs.declared.run.Run.{Run}
use Rattle.flash.specs.Runs.{Does}
use Rattle.flash.proofs.Stores.{Counts, count-append}
use Rattle.flash.proofs.RunLaws.{nothing, both, none-left}

-- any count of their steps is the sum of the counts
pub count-join :
    {count : List Step → ℕ} {u v : ℕ} → Counts count u v → (m : ℕ) (f : ℕ → List Step) → count (join_below m f) ≡ sum_below m (λ i. count (f i))
unfolding join_below sum_below
count-join c zero f = c.none
count-join c (suc m) f = count-append c (join_below m f) (f m) ∙ omega (arith, count-join c m f)

-- those before an index are followed by some others
join-behind : (m : ℕ) (f : ℕ → List Step) {i : ℕ} → i ≤ m → (rest : List Step) × (join_below m f ≡ join_below i f ++ rest)
unfolding join_below
join-behind zero f {i} l = let none : i ≡ 0 = omega arith in ([], rw none)
join-behind (suc m) f {i} l =
    ⊎_elim
    (λ e. ([], rw e (sym (append-nil (join_below m f ++ f m)))))
    (λ k.
    let more = join-behind m f {i = i} (omega arith) in
    (more.0 ++ f m, ap (◌++ f m) more.1 ∙ append_assoc (join_below i f) more.0 (f m)))
    (below_suc {i = i} {m = suc m} (omega arith))

-- ---- the loop that carries them out: behind the lists before index i

-- at its start
pub none-joined : (r : Run) (f : ℕ → List Step) → Does r r (join_below 0 f)
unfolding join_below
none-joined r f = nothing r

module _ (f : ℕ → List Step) {before now : Run} {i : ℕ} (passed : Does before now (join_below i f)) where
  -- with the turn of index i
  pub next-joined : {after : Run} → Does now after (f i) → Does before after (join_below (i + 1) f)
  unfolding join_below
  next-joined turn = rw add-one (both passed turn)

  -- where none is left it ends there: nothing of the lists behind is done
  pub joined-early : now.left ≡ 0 → {m : ℕ} → i ≤ m → Does before now (join_below m f)
  joined-early none {m} l =
      let behind = join-behind m f l in
      rw behind.1 (none-left passed none behind.0)
