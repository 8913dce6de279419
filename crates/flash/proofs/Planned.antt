-- How a write goes about it, from what the code finds to the definitions. Assumes nothing.
use mathlib.Core.Path.{◌≡◌, refl, sym, ◌∙◌}
use mathlib.Core.Bool.{Bool, true, false, cond}
use mathlib.Core.List.{List}
use Prim.Native.Nat.{ℕ, ◌<◌, ◌≤◌}
use native.Mathlib.Decide.{dec_lt}
use native.Mathlib.Omega.{arith}
use lib.Dec.{eqb}
use borrow.Author.Tests.{eq-eqb, ne_eqb, eqb-false}
use Rattle.ranges.specs.Range.{count_below}
use Rattle.ranges.proofs.Tests.{unless, any_of}
use Rattle.ranges.proofs.Searches.{best-passes, best-any}
use Rattle.geometry.specs.declared.Geometry.{Geometry}
use Rattle.geometry.specs.Geometry.{d}
use Rattle.image.proofs.SlotKinds.{same_place}
use Rattle.image.specs.Found.{At, Nothing}
use Rattle.image.specs.declared.Slot.TheVariants.{Free}
use Rattle.image.specs.Words.{Image, erase_count}
use Rattle.image.specs.Slots.{slot, is_free}
use Rattle.image.specs.Blocks.{blank, is_open, lowest_free, lowest_open, less_worn, least_worn_blank, victim}
use Rattle.image.specs.WellFormed.{ceiling, R6}
use Rattle.tables.specs.Tables.{Table, noted}
use Rattle.flash.specs.Placing.{placing}
use Rattle.flash.specs.Writing.{Fill, Reclaim, Worn, open_slot, blank_slot, any_open, next_slot, filling, must_reclaim, reclaiming_first, writing, planned}
use Rattle.flash.specs.Tables.{table_filled, table_reclaimed_first, table_written}
use Rattle.image.proofs.Facts.{free-is}
use Rattle.flash.proofs.Chosen.{open_free, blank-slot}

module _ (geo : Geometry) (image : Image) where
  -- a block is open where the lowest open block is one of the blocks
  pub some-open : lowest_open geo image < geo.blocks → any_open geo image ≡ true
  unfolding lowest_open
  some-open l = any_of geo.blocks (is_open geo image) l (best-passes (λ i r. false) geo.blocks (is_open geo image) l)

  pub none_open : geo.blocks ≤ lowest_open geo image → any_open geo image ≡ false
  unfolding lowest_open
  none_open l = unless (any_open geo image) (λ t. omega (arith, best-any (λ i r. false) geo.blocks (is_open geo image) t))

  pub no-reclaim : lowest_open geo image < geo.blocks → must_reclaim geo image ≡ false
  unfolding must_reclaim
  no-reclaim l = rw (some-open l)

  pub reclaim-by-count : geo.blocks ≤ lowest_open geo image → must_reclaim geo image ≡ eqb (count_below geo.blocks (blank geo image)) 1
  unfolding must_reclaim
  reclaim-by-count l = rw (none_open l)

  -- the three plans
  pub fill-planned : must_reclaim geo image ≡ false → planned geo image ≡ Fill
  unfolding planned
  fill-planned t = rw t

  pub worn-planned : must_reclaim geo image ≡ true → erase_count geo image (victim geo image) ≡ ceiling → planned geo image ≡ Worn
  unfolding planned
  worn-planned t e = rw (t, eq-eqb _ _ e)

  pub reclaim-planned :
      must_reclaim geo image ≡ true → (erase_count geo image (victim geo image) ≡ ceiling → ⊥) → planned geo image ≡ Reclaim (victim geo image)
  unfolding planned
  reclaim-planned t n = rw (t, ne_eqb _ _ n)

  -- the slot that rule 1 takes: the lowest free one of the lowest open block is one of its slots
  pub open-slot : lowest_open geo image < geo.blocks → lowest_free geo image (lowest_open geo image) < d geo
  unfolding lowest_open lowest_free
  open-slot l =
      best-any (λ i r. false) (d geo) (λ j. is_free (slot geo image (lowest_open geo image) j))
      (open_free geo image (lowest_open geo image) (best-passes (λ i r. false) geo.blocks (is_open geo image) l))

  pub open-slot-free : lowest_open geo image < geo.blocks → slot geo image (lowest_open geo image) (lowest_free geo image (lowest_open geo image)) ≡ Free
  unfolding lowest_free
  open-slot-free l =
      free-is _ (best-passes (λ i r. false) (d geo) (λ j. is_free (slot geo image (lowest_open geo image) j)) (open-slot l))

  -- the block that rule 2 takes
  pub blank-block : R6 geo image ≡ true → least_worn_blank geo image < geo.blocks
  unfolding R6 least_worn_blank
  blank-block t = best-any (less_worn geo image) geo.blocks (blank geo image) t

  pub blank-slot-free : R6 geo image ≡ true → 0 < d geo → slot geo image (least_worn_blank geo image) 0 ≡ Free
  unfolding least_worn_blank
  blank-slot-free t l =
      blank-slot geo image (least_worn_blank geo image) (best-passes (less_worn geo image) geo.blocks (blank geo image) (blank-block t)) 0 l

  -- the slot of the next write, by what the code found
  pub next-open : (b i : ℕ) → b ≡ lowest_open geo image → i ≡ lowest_free geo image b → b < geo.blocks → next_slot geo image ≡ At b i
  next-open b i p q l =
      let block : lowest_open geo image < geo.blocks = omega arith in
      rw (some-open block, ← p, ← q)

  pub next-blank : (b : ℕ) → b ≡ least_worn_blank geo image → geo.blocks ≤ lowest_open geo image → next_slot geo image ≡ At b 0
  next-blank b p l = rw (none_open l, ← p)

  -- the slot of the next write is a place, in the image, and free
  pub next-some : next_slot geo image ≡ Nothing → ⊥
  next-some e = go (any_open geo image) e
    where
      go : (x : Bool) → cond x (open_slot geo image) (blank_slot geo image) ≡ Nothing → ⊥
      go true e = let z : ◌≡◌ {A = ℕ} 0 1 = cc in omega arith
      go false e = let z : ◌≡◌ {A = ℕ} 0 1 = cc in omega arith

  pub next-free : R6 geo image ≡ true → 0 < d geo → (b i : ℕ) → next_slot geo image ≡ At b i → (b < geo.blocks) × (i < d geo) × (slot geo image b i ≡ Free)
  next-free some within b i e = go (dec_lt (lowest_open geo image) geo.blocks)
    where
      moved :
          {c j : ℕ} →
          next_slot geo image ≡ At c j →
          (c < geo.blocks) × (j < d geo) × (slot geo image c j ≡ Free) →
          (b < geo.blocks) × (i < d geo) × (slot geo image b i ≡ Free)
      moved {c} {j} f h =
          let same = sym e ∙ f in
          let p : b ≡ c = (same_place (sym e ∙ f)).0 in
          let q : i ≡ j = (same_place (sym e ∙ f)).1 in
          rw (p, q) h

      go : Dec (lowest_open geo image < geo.blocks) → (b < geo.blocks) × (i < d geo) × (slot geo image b i ≡ Free)
      go (yes l) = moved (next-open _ _ refl refl l) (l, open-slot l, open-slot-free l)
      go (no l) = moved (next-blank _ refl (omega arith)) (blank-block some, within, blank-slot-free some within)

  -- the steps of rules 1 and 2, and the table that they leave, by that slot
  pub filling-next : {b i : ℕ} → next_slot geo image ≡ At b i → (n : ℕ) (ws : List ℕ) → filling geo image n ws ≡ placing geo image n ws b i
  unfolding filling
  filling-next e n ws = rw e

  pub table-next : {b i : ℕ} → next_slot geo image ≡ At b i → (n : ℕ) (table : Table) → table_filled geo image n table ≡ noted geo table n (At b i)
  unfolding table_filled
  table-next e n table = rw e

  -- what a plan to reclaim says
  pub plan-says :
      (v : ℕ) →
      planned geo image ≡ Reclaim v →
      (must_reclaim geo image ≡ true) × (v ≡ victim geo image) × (erase_count geo image (victim geo image) ≡ ceiling → ⊥)
  unfolding planned
  plan-says v e = go (must_reclaim geo image) refl (eqb (erase_count geo image (victim geo image)) ceiling) refl e
    where
      go :
          (x : Bool) →
          must_reclaim geo image ≡ x →
          (y : Bool) →
          eqb (erase_count geo image (victim geo image)) ceiling ≡ y →
          cond x (cond y Worn (Reclaim (victim geo image))) Fill ≡ Reclaim v →
          (must_reclaim geo image ≡ true) × (v ≡ victim geo image) × (erase_count geo image (victim geo image) ≡ ceiling → ⊥)
      go true p true q r = let z : ◌≡◌ {A = ℕ} 0 1 = cc in absurd (omega arith)
      go true p false q r =
          let same : v ≡ victim geo image = cc in
          (p, same, eqb-false _ _ q)
      go false p y q r = let z : ◌≡◌ {A = ℕ} 0 1 = cc in absurd (omega arith)

  pub fill-says : planned geo image ≡ Fill → must_reclaim geo image ≡ false
  unfolding planned
  fill-says e = go (must_reclaim geo image) refl (eqb (erase_count geo image (victim geo image)) ceiling) e
    where
      go : (x : Bool) → must_reclaim geo image ≡ x → (y : Bool) → cond x (cond y Worn (Reclaim (victim geo image))) Fill ≡ Fill → must_reclaim geo image ≡ false
      go true p true r = let z : ◌≡◌ {A = ℕ} 0 1 = cc in absurd (omega arith)
      go true p false r = let z : ◌≡◌ {A = ℕ} 0 1 = cc in absurd (omega arith)
      go false p y r = p

  -- the steps of a write by its plan
  pub writing-fills : must_reclaim geo image ≡ false → (n : ℕ) (ws : List ℕ) → writing geo image n ws ≡ filling geo image n ws
  unfolding writing
  writing-fills t n ws = rw t

  pub writing-reclaims : must_reclaim geo image ≡ true → (n : ℕ) (ws : List ℕ) → writing geo image n ws ≡ reclaiming_first geo image (victim geo image) n ws
  unfolding writing
  writing-reclaims t n ws = rw t

  -- and the table that it leaves
  pub table-fills : must_reclaim geo image ≡ false → (n : ℕ) (table : Table) → table_written geo image n table ≡ table_filled geo image n table
  unfolding table_written
  table-fills t n table = rw t

  pub table-reclaims :
      must_reclaim geo image ≡ true → (n : ℕ) (table : Table) → table_written geo image n table ≡ table_reclaimed_first geo image (victim geo image) n table
  unfolding table_written
  table-reclaims t n table = rw t
