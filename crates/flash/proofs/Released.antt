-- A release: its one word, and what it leaves. Assumes nothing.
use mathlib.Core.Path.{◌≡◌, sym, ap, ap₂, ◌∙◌}
use mathlib.Core.Logic.{◌≢◌}
use mathlib.Core.Bool.{true, not}
use mathlib.Core.List.{List}
use mathlib.Core.Option.{none}
use Prim.Native.Nat.{ℕ, ◌<◌}
use native.Mathlib.Omega.{arith}
use lib.ListN.{get_or}
use Rattle.ranges.specs.Range.{one_if, sum_below}
use Rattle.ranges.proofs.Tests.{any-ext, all-ext}
use Rattle.ranges.proofs.Sums.{sum-ext}
use Rattle.geometry.specs.declared.Geometry.{Geometry}
use Rattle.geometry.specs.Geometry.{Limits, d}
use Rattle.geometry.proofs.Laws.{map-covers}
use Rattle.image.specs.declared.Slot.TheVariants.{Live, Dead}
use Rattle.image.specs.Found.{At, Nothing}
use Rattle.image.specs.Words.{Image, erase_count}
use Rattle.image.specs.Slots.{own_slot, slot, is_free, is_live, is_faulty, find, map_of}
use Rattle.image.specs.Blocks.{blank, full, free_slots}
use Rattle.image.specs.WellFormed.{R6, NoneSuperseded}
use Rattle.image.proofs.Own.{none-superseded, each-own}
use Rattle.image.proofs.Facts.{Sound}
use Rattle.image.proofs.Finding.{LiveAt, found-live, none_found, map-nothing, find-same, map_same}
use Rattle.tables.specs.Tables.{right_table}
use Rattle.tables.proofs.Laws.{right-noted}
use Rattle.flash.specs.declared.Step.{Step}
use Rattle.flash.specs.Steps.{run, words_in, erasures_in, leaves_asked}
use Rattle.flash.specs.Placing.{releasing}
use Rattle.flash.specs.Tables.{table_released}
use Rattle.flash.proofs.Counts.{releasing-words, releasing-erasures}
use Rattle.flash.proofs.Filling.{Ready}
use Rattle.flash.proofs.Invalidated.{invalidation, invalidated, Invalidated, invalidate, own-dead, own-other}
use Rattle.flash.proofs.Changed.{not_live, at_slot, dead-not-free, same_number}

-- what the steps of a release of n leave
pub record Released (geo : Geometry) (image : Image) (n : ℕ) (steps : List Step) : Type 0 where
  pub asked : leaves_asked geo image steps ≡ true
  pub words : words_in steps ≡ 1
  pub erasures : erasures_in steps ≡ 0
  pub ready : Ready geo (run geo image steps)
  pub still-blank : R6 geo (run geo image steps) ≡ R6 geo image
  pub here : map_of geo (run geo image steps) n ≡ none
  pub other : (m : ℕ) → m ≢ n → map_of geo (run geo image steps) m ≡ map_of geo image m
  pub free : sum_below geo.blocks (free_slots geo (run geo image steps)) ≡ sum_below geo.blocks (free_slots geo image)
  pub worn : sum_below geo.blocks (erase_count geo (run geo image steps)) ≡ sum_below geo.blocks (erase_count geo image)

module _ (geo : Geometry) (image : Image) (n b i : ℕ) (start : Ready geo image) (found : find geo image n ≡ At b i) where
  within : Limits geo
  within = start.shaped.limits

  at : LiveAt geo image n b i
  at = found-live geo image n b i found

  abbrev steps : List Step
  steps = invalidation geo image b i

  abbrev after : Image
  after = invalidated geo image b i

  -- each reading
  made : Invalidated geo image b i
  made = invalidate geo image b i start.shaped start.words at.block at.slot_is

  -- by their own entries and map bits: this one is not valid any more, all others are as they were
  own-gone : own_slot geo after b i ≡ Dead
  own-gone = own-dead geo image b i within made

  own-kept : (c j : ℕ) → c < geo.blocks → j < d geo → (c ≡ b → j ≡ i → ⊥) → own_slot geo after c j ≡ slot geo image c j
  own-kept c j l h n' = own-other geo image b i within made c j h n' ∙ sym (each-own start.sound.current l h)

  own-was : (m c j : ℕ) → c < geo.blocks → j < d geo → own_slot geo after c j ≡ Live m → slot geo image c j ≡ Live m
  own-was m c j l h e =
      at_slot c j b i
      (λ x y. absurd (not_live (ap is_live (ap₂ (own_slot geo after) x y ∙ own-gone)) e))
      (λ o. sym (own-kept c j l h o) ∙ e)

  -- so no slot is superseded
  current : NoneSuperseded geo after
  current =
      none-superseded geo after
      (λ m c c' j j' l l' h h' e e'. start.sound.once m c c' j j' l l' h h' (own-was m c j l h e) (own-was m c' j' l' h' e'))

  dead : slot geo after b i ≡ Dead
  dead = each-own current at.block at.slot_is ∙ own-gone

  slot-other : (c j : ℕ) → c < geo.blocks → j < d geo → (c ≡ b → j ≡ i → ⊥) → slot geo after c j ≡ slot geo image c j
  slot-other c j l h n' = each-own current l h ∙ own-kept c j l h n'

  -- ---- any slot is the released one, or as it was

  released-at : {c j : ℕ} → c ≡ b → j ≡ i → slot geo after c j ≡ Dead
  released-at x y = ap₂ (slot geo after) x y ∙ dead

  was-at : {c j : ℕ} → c ≡ b → j ≡ i → slot geo image c j ≡ Live n
  was-at x y = ap₂ (slot geo image) x y ∙ at.live

  free-same : (c j : ℕ) → c < geo.blocks → j < d geo → is_free (slot geo after c j) ≡ is_free (slot geo image c j)
  free-same c j l h =
      at_slot c j b i (λ x y. ap is_free (released-at x y) ∙ sym (ap is_free (was-at x y))) (λ o. ap is_free (slot-other c j l h o))

  live-was : (m c j : ℕ) → c < geo.blocks → j < d geo → slot geo after c j ≡ Live m → slot geo image c j ≡ Live m
  live-was m c j l h e = own-was m c j l h (sym (each-own current l h) ∙ e)

  full-same : (c : ℕ) → c < geo.blocks → full geo after c ≡ full geo image c
  unfolding full
  full-same c l = ap not (any-ext (d geo) (λ j h. free-same c j l h))

  blank-same : (c : ℕ) → c < geo.blocks → blank geo after c ≡ blank geo image c
  unfolding blank
  blank-same c l = all-ext (d geo) (λ j h. free-same c j l h)

  sound-after : Sound geo after
  sound-after =
      let s = start.sound in
      record {
        worn = λ c l. rw (made.counts c) (s.worn c l);
        map = λ c j l h.
            made.maps c j (omega (arith, map-covers geo within)) ∙ s.map c j l h ∙ sym (free-same c j l h);
        rest = λ c j l h m. made.maps c j m ∙ s.rest c j l h m;
        clean = λ c j l h e m q.
            ap (λ (x : List ℕ). get_or x m 0) (made.contents-kept c j l h)
            ∙ s.clean c j l h (at_slot c j b i (λ x y. absurd (dead-not-free (released-at x y) e)) (λ o. sym (slot-other c j l h o) ∙ e)) m q;
        proper = λ c j l h.
            at_slot c j b i (λ x y. ap is_faulty (released-at x y)) (λ o. ap is_faulty (slot-other c j l h o) ∙ s.proper c j l h);
        once = λ m c c' j j' l l' h h' e e'. s.once m c c' j j' l l' h h' (live-was m c j l h e) (live-was m c' j' l' h' e');
        unbounded = λ c l f.
            let were = s.unbounded c l (sym (full-same c l) ∙ f) in
            ((made.bounds c).0 ∙ were.0, (made.bounds c).1 ∙ were.1);
        bounded = λ c j m l h f e.
            let were = s.bounded c j m l h (sym (full-same c l) ∙ f) (live-was m c j l h e) in
            (rw (made.bounds c).0 were.0, rw (made.bounds c).1 were.1);
        closed = λ c l f.
            let were = s.closed c l (sym (full-same c l) ∙ f) in
            (λ e. were.0 (sym (made.bounds c).0 ∙ e), λ e. were.1 (sym (made.bounds c).1 ∙ e));
        current = current;
      }

  -- n is found nowhere, and every other number where it was
  gone : find geo after n ≡ Nothing
  gone =
      none_found geo after n
      (λ c j l h e.
      let same = start.sound.once n c b j i l at.block h at.slot_is (live-was n c j l h e) at.live in
      not_live (ap is_live (released-at same.0 same.1)) e)

  kept : (m : ℕ) → m ≢ n → find geo after m ≡ find geo image m
  kept m x =
      find-same geo image after m sound-after.once
      (λ c j l h e. at_slot c j b i (λ p q. absurd (x (same_number e (was-at p q)))) (λ o. slot-other c j l h o ∙ e))
      (λ c j l h e. live-was m c j l h e)

  steps-are : releasing geo image n ≡ steps
  unfolding releasing
  steps-are = rw found

  pub releasing-released : Released geo image n (releasing geo image n)
  unfolding R6
  releasing-released =
      rw steps-are
      (record {
        asked = made.asked;
        words = sym (ap words_in steps-are) ∙ releasing-words geo image n ∙ rw found;
        erasures = sym (ap erasures_in steps-are) ∙ releasing-erasures geo image n;
        ready =
            record {
              shaped = made.shaped;
              words = made.words;
              sound = sound-after;
            };
        still-blank = any-ext geo.blocks (λ c l. blank-same c l);
        here = map-nothing geo after n gone;
        other = λ m x. map_same geo image after m (kept m x) (λ c j l h e. made.contents-kept c j l h);
        free = sum-ext geo.blocks (λ c l. sum-ext (d geo) (λ j h. ap one_if (free-same c j l h)));
        worn = sum-ext geo.blocks (λ c l. made.counts c);
      })

  -- so a right table stays right when n is noted as live nowhere
  pub releasing-right : table_released geo n (right_table geo image) ≡ right_table geo (run geo image (releasing geo image n))
  unfolding table_released
  releasing-right = rw steps-are (right-noted geo image after n Nothing gone kept)
