-- The marks: after each slot they know the numbers of the slots passed. Assumes nothing.
use mathlib.Core.List.{List}
use mathlib.Core.Path.{◌≡◌, refl, sym, ap, ◌∙◌}
use mathlib.Core.Bool.{Bool, false, not, ◌||◌, or-true, or-false, or_assoc}
use Prim.Native.Nat.{ℕ, suc, ◌+◌, ◌*◌, ◌/◌, ◌%◌, ◌<◌, ◌≤◌}
use native.Mathlib.Numerals.{add-one}
use native.Mathlib.Decide.{ℕ_discrete}
use native.Mathlib.Omega.{arith}
use lib.Dec.{eqb}
use lib.ListN.{length, get_or, set, replicate, length-replicate, get_or-replicate}
use lib.Seq.{get_or-set_same, get_or-set_other}
use borrow.Author.Tests.{eq-eqb, ne_eqb}
use Rattle.ranges.specs.Range.{any_below}
use Rattle.bits.specs.Word.{ones, bit, is_set, cleared}
use Rattle.bits.proofs.Bit.{set-bit, clear-bit, ones_bit}
use Rattle.bits.proofs.Clearing.{cleared-here, cleared-other}
use Rattle.geometry.specs.declared.Geometry.{Geometry}
use Rattle.geometry.specs.Geometry.{d}
use Rattle.image.specs.declared.Slot.{Slot}
use Rattle.image.specs.declared.Slot.TheVariants.{Live}
use Rattle.image.specs.Slots.{is_live_with, is_live_for}
use Rattle.image.specs.WellFormed.{live_before}
use Rattle.rules.specs.Marks.{mark_words, seen, Marks}

-- after a number is marked it was seen, and every other number is as before
pub seen-marked :
    (marks : List ℕ) (n m : ℕ) →
    n / 32 < length marks →
    seen (set marks (n / 32) (cleared (get_or marks (n / 32) 0) (n % 32))) m ≡ (seen marks m || eqb n m)
unfolding seen
seen-marked marks n m l = go (ℕ_discrete m n)
  where
    w : ℕ
    w = get_or marks (n / 32) 0

    bits :
        (m ≡ n → ⊥) →
        Dec (m / 32 ≡ n / 32) →
        bit (get_or (set marks (n / 32) (cleared w (n % 32))) (m / 32) 0) (m % 32) ≡ bit (get_or marks (m / 32) 0) (m % 32)
    bits other (yes e) =
        rw (e, get_or-set_same marks (n / 32) (cleared w (n % 32)) 0 l)
        (cleared-other w (n % 32) (m % 32) (λ q. other (omega arith)))
    bits other (no apart) =
        ap (λ (v : ℕ). bit v (m % 32)) (get_or-set_other marks (n / 32) (m / 32) (cleared w (n % 32)) 0 apart)

    go : Dec (m ≡ n) → seen (set marks (n / 32) (cleared w (n % 32))) m ≡ (seen marks m || eqb n m)
    go (yes e) =
        rw (e, get_or-set_same marks (n / 32) (cleared w (n % 32)) 0 l, eq-eqb n n refl)
        (ap not (clear-bit _ (n % 32) (cleared-here w (n % 32))) ∙ sym (or-true (seen marks n)))
    go (no other) =
        ap (λ (x : ℕ). not (eqb x 1)) (bits other (ℕ_discrete (m / 32) (n / 32)))
        ∙ sym (ap (seen marks m ||◌) (ne_eqb n m (λ e. other (sym e))) ∙ or-false (seen marks m))

module _ (geo : Geometry) (kind : ℕ → ℕ → Slot) where
  -- marks that are all set are right before the first block: no number was seen
  pub marks-start : geo.logical ≤ 32 * mark_words → Marks geo kind 0 0 (replicate mark_words ones)
  unfolding seen any_below
  marks-start small =
      record {
        long = length-replicate mark_words ones;
        says = λ n l.
            ap (λ (w : ℕ). not (is_set w (n % 32))) (get_or-replicate mark_words (n / 32) ones 0 (omega arith))
            ∙ ap not (set-bit ones (n % 32) (ones_bit 32 (n % 32) (omega arith)));
      }

  -- those after the last slot of a block are the next block's
  pub marks-next : {b : ℕ} {marks : List ℕ} → Marks geo kind b (d geo) marks → Marks geo kind (suc b) 0 marks
  unfolding any_below
  marks-next {b} m = record { long = m.long; says = λ n l. m.says n l ∙ sym (or-false (live_before geo kind b (d geo) n)) }

  module _ {b i : ℕ} {marks : List ℕ} (m : Marks geo kind b i marks) where
    -- marks that learn the number of slot i
    learnt :
        (next : List ℕ) →
        length next ≡ length marks →
        ((n : ℕ) → seen next n ≡ (seen marks n || is_live_for n (kind b i))) →
        Marks geo kind b (i + 1) next
    unfolding any_below
    learnt next e more =
        record {
          long = e ∙ m.long;
          says = λ n l.
              more n
              ∙ ap (◌|| is_live_for n (kind b i)) (m.says n l)
              ∙ rw add-one (or_assoc (any_below b (λ c. any_below (d geo) (λ j. is_live_for n (kind c j)))) (any_below i (λ j. is_live_for n (kind b j))) (is_live_for n (kind b i)));
        }

    -- a slot that is not live leaves the marks, and a live one has its number marked
    pub other-learnt : ((f : ℕ → Bool) → is_live_with f (kind b i) ≡ false) → Marks geo kind b (i + 1) marks
    other-learnt none = learnt marks refl (λ n. sym (ap (seen marks n ||◌) (none (λ (k : ℕ). eqb k n)) ∙ or-false (seen marks n)))

    pub live-learnt :
        (n : ℕ) →
        kind b i ≡ Live n →
        (next : List ℕ) →
        length next ≡ length marks →
        ((k : ℕ) → seen next k ≡ (seen marks k || eqb n k)) →
        Marks geo kind b (i + 1) next
    live-learnt n live next e more = learnt next e (λ k. more k ∙ sym (ap (λ (s : Slot). seen marks k || is_live_for k s) live))
