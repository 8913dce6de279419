-- K4: a placing is known before its first step: what (g) finds when (a) to (f) are done follows from the image before them. Assumes nothing.
use mathlib.Core.Path.{◌≡◌, refl, sym, ap, ◌∙◌}
use mathlib.Core.Logic.{⊎_elim}
use mathlib.Core.Bool.{Bool, true, false, ◌||◌, or-true, or-false}
use mathlib.Core.List.{List, ◌++◌, append_assoc}
use Prim.Native.Nat.{ℕ, ◌+◌, ◌<◌}
use native.Mathlib.Decide.{ℕ_discrete}
use native.Mathlib.Omega.{arith}
use lib.Dec.{eqb}
use borrow.Author.Tests.{eq-eqb, ne_eqb}
use Rattle.ranges.specs.Range.{one_if, or_at, best_below}
use Rattle.ranges.proofs.Tests.{any_of, any-ext}
use Rattle.ranges.proofs.Sums.{sum-update}
use Rattle.ranges.proofs.Searches.{best-ext}
use Rattle.geometry.specs.declared.Geometry.{Geometry}
use Rattle.geometry.specs.Geometry.{d}
use Rattle.image.specs.declared.Slot.{Slot}
use Rattle.image.specs.Words.{Image}
use Rattle.image.specs.Slots.{slot, is_free, is_live_for, find, live_in}
use Rattle.image.specs.Blocks.{full, free_slots}
use Rattle.image.proofs.Reading.{full-count}
use Rattle.flash.specs.declared.Step.{Step}
use Rattle.flash.specs.Steps.{run}
use Rattle.flash.specs.Placing.{takes_slot, outdates, stores_contents, begins_entry, completes_entry, retires, least_live, greatest_live, closes_block, fills_slot, placing}
use Rattle.flash.specs.Ahead.{closes_with, placement_steps, placement_over}
use Rattle.flash.proofs.Filling.{Ready, Target}
use Rattle.flash.proofs.Changed.{renewed, which, old-was}
use Rattle.flash.proofs.Placed.{Placed, filled-placed}
use Rattle.flash.proofs.Kept.{free-as-before}

module _
    (geo : Geometry) (image : Image) (n : ℕ) (ws : List ℕ) (b i : ℕ)
    (ready : Ready geo image)
    (target : Target geo image n ws b i)
  where
    -- the image that (g) looks at
    abbrev filled : Image
    filled = run geo image (fills_slot geo image (find geo image n) n ws b i)

    p : Placed geo image filled n ws b i
    p = filled-placed geo image n ws b i ready target

    -- the block has one free slot fewer then
    free-fewer : free_slots geo filled b + 1 ≡ free_slots geo image b
    free-fewer =
        let change =
        sum-update (d geo) {f = λ j. one_if (is_free (slot geo image b j))} {f' = λ j. one_if (is_free (slot geo filled b j))} target.slot_is
        (λ j l x. ap one_if (free-as-before geo image filled n ws b i ready target p b j target.block l (λ y z. x z))) in
        let was = ap (λ (s : Slot). one_if (is_free s)) target.free in
        let is = ap (λ (s : Slot). one_if (is_free s)) p.changed.here in
        omega arith

    full-ahead : full geo filled b ≡ eqb (free_slots geo image b) 1
    full-ahead = full-count geo filled b ∙ go (ℕ_discrete (free_slots geo filled b) 0)
      where
        go : Dec (free_slots geo filled b ≡ 0) → eqb (free_slots geo filled b) 0 ≡ eqb (free_slots geo image b) 1
        go (yes e) = eq-eqb _ _ e ∙ sym (eq-eqb (free_slots geo image b) 1 (omega (arith, free-fewer)))
        go (no e) = ne_eqb _ _ e ∙ sym (ne_eqb (free_slots geo image b) 1 (λ x. e (omega (arith, free-fewer))))

    -- and the numbers live in it are those of before, and n
    live-ahead : (x : ℕ) → live_in geo filled b x ≡ (live_in geo image b x || eqb n x)
    live-ahead x = go (ℕ_discrete n x)
      where
        same : (eqb n x ≡ false) → (j : ℕ) → j < d geo → is_live_for x (slot geo filled b j) ≡ is_live_for x (slot geo image b j)
        same other j l =
            ⊎_elim
            (λ here. ap (is_live_for x) (ap (slot geo filled b) here.1 ∙ p.changed.here) ∙ other ∙ sym (ap (is_live_for x) (ap (slot geo image b) here.1 ∙ target.free)))
            (⊎_elim
            (λ old.
            ap (is_live_for x) (p.changed.old-dead b j old)
            ∙ sym (ap (is_live_for x) (old-was geo image (slot geo filled) n b i ready.sound (renewed p.changed) old) ∙ other))
            (λ s. ap (is_live_for x) s.slots))
            (which geo image (slot geo filled) n b i ready.sound (renewed p.changed) b j target.block l)

        go : Dec (n ≡ x) → live_in geo filled b x ≡ (live_in geo image b x || eqb n x)
        go (yes e) =
            any_of (d geo) (λ j. is_live_for x (slot geo filled b j)) target.slot_is (ap (is_live_for x) p.changed.here ∙ eq-eqb n x e)
            ∙ sym (rw (eq-eqb n x e) (or-true (live_in geo image b x)))
        go (no e) =
            any-ext (d geo) (same (ne_eqb n x e)) ∙ sym (rw (ne_eqb n x e) (or-false (live_in geo image b x)))

    bound-ahead :
        (beats : ℕ → ℕ → Bool) →
        best_below beats geo.logical (live_in geo filled b) ≡ best_below beats geo.logical (or_at (live_in geo image b) n)
    bound-ahead beats = best-ext geo.logical (λ x l. live-ahead x) (λ x r l h. refl)

    closing-ahead : closes_block geo filled b ≡ closes_with geo (placement_over geo image n (find geo image n) b i)
    unfolding closes_block least_live greatest_live
    closing-ahead = rw (full-ahead, bound-ahead (λ x r. false), bound-ahead (λ x r. true))

    -- the six parts of (a) to (f), and a last one behind them
    behind : {A : Type 0} (u v w x y z l : List A) → (u ++ (v ++ (w ++ (x ++ (y ++ z))))) ++ l ≡ u ++ (v ++ (w ++ (x ++ (y ++ (z ++ l)))))
    behind u v w x y z l =
        append_assoc u _ l
        ∙ ap (u ++◌)
        (append_assoc v _ l
        ∙ ap (v ++◌) (append_assoc w _ l ∙ ap (w ++◌) (append_assoc x _ l ∙ ap (x ++◌) (append_assoc y z l))))

    pub placing-ahead : placing geo image n ws b i ≡ placement_steps geo (placement_over geo image n (find geo image n) b i) ws
    unfolding placing fills_slot placement_steps
    placing-ahead =
        let old = find geo image n in
        behind (takes_slot geo image b i) (outdates geo image old) (stores_contents geo b i ws) (begins_entry geo b i n) (completes_entry geo b i n)
        (retires geo image old)
        (closes_block geo filled b)
        ∙ ap
        (λ (l : List Step).
        takes_slot geo image b i
        ++ (outdates geo image old
        ++ (stores_contents geo b i ws ++ (begins_entry geo b i n ++ (completes_entry geo b i n ++ (retires geo image old ++ l))))))
        closing-ahead
