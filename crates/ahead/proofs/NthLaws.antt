-- The indices that pass a test, by their number, where the test is that a slot is live. Assumes nothing.
use mathlib.Core.Path.{◌≡◌, refl, sym, ap, ap₂}
use mathlib.Core.Bool.{◌&&◌}
use Prim.Native.Nat.{ℕ, ◌<◌, ◌≤◌}
use native.Mathlib.Omega.{arith}
use lib.Dec.{eqb}
use Rattle.std.specs.Prelude.{is_some}
use Rattle.ranges.specs.Range.{count_below, first_below, nth_passing}
use Rattle.ranges.proofs.Sums.{count-ext}
use Rattle.ranges.proofs.Searches.{best-ext}
use Rattle.geometry.specs.declared.Geometry.{Geometry}
use Rattle.geometry.specs.Geometry.{d}
use Rattle.image.specs.declared.Slot.{Slot}
use Rattle.image.specs.declared.Slot.TheVariants.{Free, Live, Dead, Faulty, Superseded}
use Rattle.image.specs.Words.{Image}
use Rattle.image.specs.Slots.{own_slot, slot, is_live}
use Rattle.image.specs.WellFormed.{NoneSuperseded}
use Rattle.image.specs.Live.{live_number}
use Rattle.image.proofs.Own.{each-own}
use Rattle.flash.specs.Ahead.{live_before}
use Rattle.ahead.specs.Ahead.{nth_live}

-- a slot with a live number is live
pub live_some : (s : Slot) → is_some (live_number s) ≡ is_live s
live_some Free = refl
live_some (Live n) = refl
live_some Dead = refl
live_some Faulty = refl
live_some Superseded = refl

-- where no slot is superseded, the slots' own kinds say which are live: how many are before a slot, and which has a number of others before it
module _ (geo : Geometry) (image : Image) (none : NoneSuperseded geo image) {b : ℕ} (l : b < geo.blocks) where
  own_live : {i : ℕ} → i < d geo → is_live (own_slot geo image b i) ≡ is_live (slot geo image b i)
  own_live h = ap is_live (sym (each-own none l h))

  pub own_before : {m : ℕ} → m ≤ d geo → count_below m (λ i. is_live (own_slot geo image b i)) ≡ live_before geo image b m
  own_before {m} h = count-ext m (λ i k. own_live (omega arith))

  pub own_nth : (r : ℕ) → first_below (d geo) (nth_passing r (λ i. is_live (own_slot geo image b i))) ≡ nth_live geo image b r
  unfolding nth_live
  own_nth r = best-ext (d geo) (λ i k. ap₂ (λ x n. x && eqb n r) (own_live k) (own_before (omega arith))) (λ i j k h. refl)
