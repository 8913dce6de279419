-- The index of the least key as a loop keeps it, with its key: of the indices passed, the one that `best_below` leaves. Assumes nothing.
use Prim.Native.Nat.{ℕ, ◌+◌, ◌<◌}
use mathlib.Core.Path.{◌≡◌, sym, ap₂, ◌∙◌}
use mathlib.Core.Bool.{Bool, true, false, and-false}
use native.Mathlib.Omega.{arith}
use Rattle.std.specs.Prelude.{Option, Some, None}
use Rattle.std.specs.Option.{MatchOption}
use Rattle.ranges.specs.Range.{best_below, pair_below, by_key}
use Rattle.ranges.proofs.Searches.{best-found, best-missing, best-beaten, best-stays}

-- the index that is left, and its key
abbrev pub Left : (ℕ → ℕ × ℕ) → (ℕ → Bool) → ℕ → ℕ × (ℕ × ℕ) → Type 0
Left k f m b = (b.0 ≡ best_below (by_key k) m f) × (b.0 < m) × (b.1 ≡ k b.0)

abbrev pub Chosen : (ℕ → ℕ × ℕ) → (ℕ → Bool) → ℕ → Option (ℕ × (ℕ × ℕ)) → Type 0
Chosen k f m best = MatchOption best (m ≡ best_below (by_key k) m f) (Left k f m)

module _ (k : ℕ → ℕ × ℕ) (f : ℕ → Bool) (m : ℕ) (best : Option (ℕ × (ℕ × ℕ))) (before : Chosen k f m best) where
  pub chosen-fails : {told : Bool} → told ≡ f m → told ≡ false → Chosen k f (m + 1) best
  chosen-fails told fails = go best before
    where
      go : (o : Option (ℕ × (ℕ × ℕ))) → Chosen k f m o → Chosen k f (m + 1) o
      go None e = best-missing (by_key k) m f e (omega arith) (sym told ∙ fails)
      go (Some b) (e, l, key) = (best-stays (by_key k) m f e l (rw (sym told ∙ fails)), omega arith, key)

  pub chosen-first : {told : Bool} → told ≡ f m → told ≡ true → best ≡ None → {rank : ℕ × ℕ} → rank ≡ k m → Chosen k f (m + 1) (Some (m, rank))
  chosen-first told passes none is = (best-found (by_key k) m f (rw none at before) (omega arith) (sym told ∙ passes), omega arith, is)

  pub chosen-stays : {b : ℕ × (ℕ × ℕ)} → best ≡ Some b → {rank : ℕ × ℕ} → rank ≡ k m → {beats : Bool} → beats ≡ pair_below rank b.1 → beats ≡ false → Chosen k f (m + 1) (Some b)
  chosen-stays {b} some is compared above =
      let left : Left k f m b = rw some at before in
      let lost : by_key k m b.0 ≡ false = sym (ap₂ pair_below is left.2) ∙ sym compared ∙ above in
      (best-stays (by_key k) m f left.0 left.1 (rw lost (and-false (f m))), omega arith, left.2)

  pub chosen-next :
      {told : Bool} → told ≡ f m → told ≡ true → {b : ℕ × (ℕ × ℕ)} → best ≡ Some b → {rank : ℕ × ℕ} → rank ≡ k m → {beats : Bool} → beats ≡ pair_below rank b.1 → beats ≡ true → Chosen k f (m + 1) (Some (m, rank))
  chosen-next told passes {b} some is compared below =
      let left : Left k f m b = rw some at before in
      (best-beaten (by_key k) m f left.0 left.1 (sym told ∙ passes) (sym (ap₂ pair_below is left.2) ∙ sym compared ∙ below), omega arith, is)
