-- What the code of a reclaim stands on: the r-th live slot is there, with its number and r before it; the placings of a reclaim fit the image; and
-- step i, found by division, is the one of the definition. Assumes nothing.
use mathlib.Core.Path.{◌≡◌, refl, sym, ap, subst, ◌∙◌}
use mathlib.Core.Logic.{dite}
use mathlib.Core.Bool.{Bool, true, false, cond, ◌&&◌}
use mathlib.Core.List.{List}
use Prim.Native.Nat.{ℕ, ◌+◌, ◌*◌, ◌/◌, ◌%◌, ◌^◌, ◌<◌, ◌≤◌}
use native.Mathlib.Decide.{dec_lt}
use native.Mathlib.Omega.{arith}
use lib.Dec.{eqb}
use borrow.Author.Tests.{eq-eqb, eqb-true}
use Rattle.ranges.proofs.Tests.{both-pass}
use Rattle.ranges.proofs.Sums.{count-le, count-nth}
use Rattle.std.specs.Prelude.{Option, Some}
use Rattle.ranges.specs.Range.{first_below, index_below, nth_passing}
use Rattle.ranges.proofs.Searches.{best-some, best-passes, index-found, index-some}
use Rattle.geometry.specs.declared.Geometry.{Geometry}
use Rattle.geometry.specs.Geometry.{d}
use Rattle.image.proofs.SlotKinds.{same_place}
use Rattle.image.specs.Found.{Found}
use Rattle.image.specs.Found.{At, Nothing}
use Rattle.image.specs.declared.Slot.TheVariants.{Live}
use Rattle.image.specs.Words.{Image, map_bit, entry, contents}
use Rattle.image.specs.Slots.{number_in, own_slot, slot, is_live, find}
use Rattle.image.specs.Blocks.{live_slots}
use Rattle.image.proofs.Entries.{live-parts}
use Rattle.image.proofs.Own.{live_own, live-number}
use Rattle.image.proofs.Facts.{live-is}
use Rattle.flash.specs.declared.Placement.{Placement}
use Rattle.flash.specs.Steps.{step_at}
use Rattle.flash.specs.Placing.{InImage}
use Rattle.flash.specs.Writing.{reclaiming_first}
use Rattle.flash.specs.Ahead.{placement_steps, live_before, copy_placement, moved_to, victim_first, last_placement}
use Rattle.flash.proofs.CodeLaws.{found_inside}
use Rattle.flash.proofs.Written.{Reclaims, reclaims, blank-in, spare}
use Rattle.flash.proofs.Copies.{copy_step}
use Rattle.ahead.specs.Ahead.{nth_live, Placeable}
use Rattle.ahead.proofs.NthLaws.{own_nth}
use Rattle.ahead.specs.declared.reclaims.Reclaiming.{Reclaiming}

-- ---- the r-th live slot

-- the r-th live slot of v: its number is in its entry
pub record Nth (geo : Geometry) (image : Image) (v r m : ℕ) : Type 0 where
  pub below : m < d geo
  pub live : slot geo image v m ≡ Live (entry geo image v m % 2 ^ 29)
  pub before : live_before geo image v m ≡ r

module _ (geo : Geometry) (image : Image) (v r : ℕ) where
  abbrev test : ℕ → Bool
  test i = is_live (slot geo image v i) && eqb (live_before geo image v i) r

  -- there is one where more than r slots are live
  nth_inside : r < live_slots geo image v → nth_live geo image v r < d geo
  unfolding nth_live
  nth_inside l =
      let is = count-nth (d geo) (λ j. is_live (slot geo image v j)) r l in
      best-some (λ x y. false) (d geo) test is.below (rw is.passes (eq-eqb (live_before geo image v is.i) r is.before))

  nth : (m : ℕ) → m ≡ nth_live geo image v r → nth_live geo image v r < d geo → Nth geo image v r m
  unfolding nth_live own_slot
  nth m e l =
      let passes = both-pass _ _ (best-passes (λ x y. false) (d geo) test l) in
      rw e (
      let (n, is) = live-is _ passes.0 in
      let number = (live-parts geo.logical (map_bit geo image v _) (entry geo image v _) n (live_own geo image v _ is)).1 in
      record { below = l; live = is ∙ ap Live (sym number); before = eqb-true _ _ passes.1 }
      )

-- ---- and as the code tells it

module _ (geo : Geometry) (image : Image) (v k : ℕ) {o : Option ℕ} (told : o ≡ index_below (d geo) (nth_live geo image v k)) where
  -- where a slot is told, it is that one
  pub nth_told : {m : ℕ} → o ≡ Some m → Nth geo image v k m
  nth_told {m} e =
      let (is, below) = index-some (sym told ∙ e) in
      nth geo image v k m (sym is) (omega (arith, is))

  -- and where none is, no more than k slots are live
  pub nth_none : ((m : ℕ) → o ≡ Some m → ⊥) → live_slots geo image v ≤ k
  nth_none none =
      dite (dec_lt k (live_slots geo image v))
      (λ more. absurd (none _ (told ∙ sym (index-found refl (nth_inside geo image v k more)))))
      (λ few. omega arith)

-- ---- the placings of a reclaim fit the image

-- a place by its block and slot
pub at-inside : (geo : Geometry) (b i : ℕ) → b < geo.blocks → i < d geo → InImage geo (At b i)
at-inside geo b i l h =
    record {
      block = λ c j e. let same : b ≡ c = (same_place e).0 in omega (arith, same);
      slot_is = λ c j e. let same : i ≡ j = (same_place e).1 in omega (arith, same);
    }

-- a reclaim as the code holds it
module _ (q : Reclaiming) where
  abbrev geo : Geometry
  geo = q.victim.image.geo

  abbrev image : Image
  image = q.victim.image.words.now

  abbrev v : ℕ
  v = q.victim.index

  abbrev t : ℕ
  t = q.target

  pub planned_so : Reclaims geo image v
  planned_so = reclaims geo image v q.victim.image.shaped q.well q.plan q.victim.image.words32

  abbrev r : Reclaims geo image v
  r = planned_so

  -- the live slot with k before it, told by the slots' own kinds
  pub own_told :
      (k : ℕ) {o : Option ℕ} → o ≡ index_below (d geo) (first_below (d geo) (nth_passing k (λ m. is_live (own_slot geo image v m)))) → o ≡ index_below (d geo) (nth_live geo image v k)
  own_told k told = told ∙ ap (index_below (d geo)) (own_nth geo image r.ready.sound.current q.victim.in_image k)

  -- there is a blank block to copy to
  pub target_in : t < geo.blocks
  target_in = subst (λ x. x < geo.blocks) (sym q.target_is) (blank-in geo image r.ready r.must v r.victim-is)

  -- a slot of t is left behind the copies: v has a dead one
  pub slot-left : live_slots geo image v < d geo
  slot-left = spare geo image r.ready r.must v r.victim-is

  -- a copy
  pub copy-fits : {k m : ℕ} (p : Placement) → Nth geo image v k m → p ≡ copy_placement geo image v t m (number_in (entry geo image v m)) → Placeable geo p
  copy-fits {m = m} p is e =
      rw e
      record {
        number_is = live-number geo image v m is.live;
        block_is = target_in;
        slot_is = omega (arith, is.below, count-le m (λ i. is_live (slot geo image v i)));
        old_is = at-inside geo v m r.victim-is.block is.below;
      }

  -- where a number is found behind the copies
  moved_inside : (found : Found) → InImage geo found → InImage geo (moved_to geo image v t found)
  moved_inside Nothing inside = inside
  moved_inside (At b i) inside = go (eqb b v)
    where
      below : i < d geo
      below = inside.slot_is b i refl

      go : (x : Bool) → InImage geo (cond x (At t (live_before geo image v i)) (At b i))
      go true = at-inside geo t (live_before geo image v i) target_in (omega (arith, below, count-le i (λ j. is_live (slot geo image v j))))
      go false = inside

  -- the last placing
  pub last_fits : (n : ℕ) (p : Placement) → n < geo.logical → p ≡ last_placement geo image v t n → Placeable geo p
  last_fits n p l e =
      rw e
      record {
        number_is = l;
        block_is = block_inside (eqb (live_slots geo image v) 0 && victim_first geo image v t);
        slot_is = slot-left;
        old_is = moved_inside (find geo image n) (found_inside geo image n refl);
      }
    where
      block_inside : (x : Bool) → cond x v t < geo.blocks
      block_inside true = r.victim-is.block
      block_inside false = target_in

  -- ---- step i, where it is one of the copies

  -- i / 133 copies are done, and of the next i mod 133 steps
  pub copied-step :
      (i m n : ℕ) (ws : List ℕ) →
      Nth geo image v (i / 133) m →
      step_at (placement_steps geo (copy_placement geo image v t m (number_in (entry geo image v m))) (contents geo image v m)) (i % 133)
      ≡ step_at (reclaiming_first geo image v n ws) i
  copied-step i m n ws is =
      let at : 133 * live_before geo image v m + i % 133 ≡ i = omega (arith, is.before) in
      let x = number_in (entry geo image v m) in
      ap (λ b. step_at (placement_steps geo (copy_placement geo image v b m x) (contents geo image v m)) (i % 133)) q.target_is
      ∙ sym (copy_step geo image r.ready r.must v r.victim-is m x is.below is.live n ws (i % 133) (omega arith))
      ∙ ap (step_at (reclaiming_first geo image v n ws)) at
