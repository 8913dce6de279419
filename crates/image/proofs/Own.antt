-- A slot and its own entry and map bit: whether it is free or faulty they alone say; where it is not superseded they say all; and where no number
-- is live twice by them, no slot is superseded. The laws of whole images and the code stand on these. Assumes nothing.
use mathlib.Core.Path.{◌≡◌, refl, sym, ap, ap₂, ◌∙◌}
use mathlib.Core.Bool.{Bool, true, false, ◌&&◌, true≢false}
use Prim.Native.Nat.{ℕ, ◌%◌, ◌^◌, ◌<◌}
use native.Mathlib.Omega.{arith}
use lib.Dec.{ltb}
use borrow.Author.Tests.{eqb-true}
use Rattle.ranges.proofs.Tests.{unless, both-pass, any_at}
use Rattle.geometry.specs.declared.Geometry.{Geometry}
use Rattle.geometry.specs.Geometry.{d}
use Rattle.image.specs.declared.Slot.{Slot}
use Rattle.image.specs.declared.Slot.TheVariants.{Live, Superseded}
use Rattle.image.specs.Words.{Image, map_bit, entry}
use Rattle.image.specs.Slots.{is_free_entry, is_complete, is_passing, has_complete, superseded, own_slot, slot, is_free, is_faulty}
use Rattle.image.specs.WellFormed.{NoneSuperseded}
use Rattle.image.proofs.Entries.{complete-slot, passing-slot, passing-not-complete, free-test, live-parts, never-superseded}

-- no number is live twice, whatever the kinds of the slots are taken from
abbrev pub Once : Geometry → (ℕ → ℕ → Slot) → Type 0
Once geo kind =
    (n b c i j : ℕ) →
    b < geo.blocks →
    c < geo.blocks →
    i < d geo →
    j < d geo →
    kind b i ≡ Live n →
    kind c j ≡ Live n →
    (b ≡ c) × (i ≡ j)

module _ (geo : Geometry) (image : Image) where
  -- what a superseded slot's entry is: in passing, with a number that there is, for which some entry is complete
  pub record Passed (b i : ℕ) : Type 0 where
    pub passing : is_passing (entry geo image b i) ≡ true
    pub known : ltb (entry geo image b i % 2 ^ 29) geo.logical ≡ true
    pub complete : has_complete geo image (entry geo image b i % 2 ^ 29) ≡ true

  pub passed : (b i : ℕ) → superseded geo image b i ≡ true → Passed b i
  unfolding superseded
  passed b i t =
      let two = both-pass _ (has_complete geo image (entry geo image b i % 2 ^ 29)) t in
      let one = both-pass (is_passing (entry geo image b i)) _ two.0 in
      record { passing = one.0; known = one.1; complete = two.1 }

  -- by itself it would be live
  passed-live : (b i : ℕ) → superseded geo image b i ≡ true → own_slot geo image b i ≡ Live (entry geo image b i % 2 ^ 29)
  unfolding own_slot
  passed-live b i t = let p = passed b i t in passing-slot geo.logical (map_bit geo image b i) (entry geo image b i) p.passing ∙ rw p.known

  pub superseded-slot : (b i : ℕ) → superseded geo image b i ≡ true → slot geo image b i ≡ Superseded
  unfolding slot
  superseded-slot b i t = rw t

  pub slot-own : (b i : ℕ) → superseded geo image b i ≡ false → slot geo image b i ≡ own_slot geo image b i
  unfolding slot
  slot-own b i f = rw f

  pub not-superseded : (b i : ℕ) → superseded geo image b i ≡ false → slot geo image b i ≡ Superseded → ⊥
  unfolding own_slot
  not-superseded b i f e = never-superseded geo.logical (map_bit geo image b i) (entry geo image b i) (sym (slot-own b i f) ∙ e)

  -- a test that says the same of a superseded slot and of a live one says of every slot what it says of its own entry
  own-test :
      (f : Slot → Bool) →
      ((n : ℕ) → f (Live n) ≡ f Superseded) →
      (b i : ℕ) →
      f (slot geo image b i) ≡ f (own_slot geo image b i)
  own-test f same b i = go (superseded geo image b i) refl
    where
      go : (t : Bool) → superseded geo image b i ≡ t → f (slot geo image b i) ≡ f (own_slot geo image b i)
      go true t = ap f (superseded-slot b i t) ∙ sym (same _) ∙ sym (ap f (passed-live b i t))
      go false t = ap f (slot-own b i t)

  pub free_own : (b i : ℕ) → is_free (slot geo image b i) ≡ is_free (own_slot geo image b i)
  free_own = own-test is_free (λ n. refl)

  pub faulty-own : (b i : ℕ) → is_faulty (slot geo image b i) ≡ is_faulty (own_slot geo image b i)
  faulty-own = own-test is_faulty (λ n. refl)

  -- free: the entry is free, and the map bit set
  pub free-read : (b i : ℕ) → is_free (slot geo image b i) ≡ (is_free_entry (entry geo image b i) && map_bit geo image b i)
  unfolding own_slot
  free-read b i = free_own b i ∙ free-test geo.logical (map_bit geo image b i) (entry geo image b i)

  -- a live slot is live by its own entry
  pub live_own : (b i : ℕ) {n : ℕ} → slot geo image b i ≡ Live n → own_slot geo image b i ≡ Live n
  live_own b i {n} e = go (superseded geo image b i) refl
    where
      go : (t : Bool) → superseded geo image b i ≡ t → own_slot geo image b i ≡ Live n
      go true t = let clash : Superseded ≡ Live n = sym (superseded-slot b i t) ∙ e in let z : ◌≡◌ {A = ℕ} 0 1 = cc in absurd (omega arith)
      go false t = sym (slot-own b i t) ∙ e

  -- so its number is one of the numbers
  pub own-number : (b i : ℕ) {n : ℕ} → own_slot geo image b i ≡ Live n → n < geo.logical
  unfolding own_slot
  own-number b i {n} e = (live-parts geo.logical (map_bit geo image b i) (entry geo image b i) n e).2

  pub live-number : (b i : ℕ) {n : ℕ} → slot geo image b i ≡ Live n → n < geo.logical
  live-number b i e = own-number b i (live_own b i e)

  -- A superseded slot, which is not complete, and another whose entry is complete for its number: by their own entries both are live for it.
  pub record Replaced (b i : ℕ) : Type 0 where
    pub number : ℕ
    pub live : own_slot geo image b i ≡ Live number
    pub outdated : is_complete (entry geo image b i) ≡ false
    pub by-block : ℕ
    pub by-slot : ℕ
    pub block_of : by-block < geo.blocks
    pub slot_is : by-slot < d geo
    pub by-live : own_slot geo image by-block by-slot ≡ Live number
    pub complete : is_complete (entry geo image by-block by-slot) ≡ true

  pub replaced : (b i : ℕ) → superseded geo image b i ≡ true → Replaced b i
  unfolding has_complete own_slot
  replaced b i t =
      let p = passed b i t in
      let (c, m, there) = any_at geo.blocks _ p.complete in
      let (j, k, found) = any_at (d geo) _ there in
      let both = both-pass (is_complete (entry geo image c j)) _ found in
      let number : entry geo image c j % 2 ^ 29 ≡ entry geo image b i % 2 ^ 29 = eqb-true _ _ both.1 in
      record {
        number = entry geo image b i % 2 ^ 29;
        live = passed-live b i t;
        outdated = passing-not-complete (entry geo image b i) p.passing;
        by-block = c;
        by-slot = j;
        block_of = m;
        slot_is = k;
        by-live = complete-slot geo.logical (map_bit geo image c j) (entry geo image c j) both.0 ∙ rw (number, p.known);
        complete = both.0;
      }

  -- where no number is live twice by the slots' own entries, none is superseded
  pub none-superseded : Once geo (own_slot geo image) → NoneSuperseded geo image
  none-superseded once = record { none = λ b i l h. unless (superseded geo image b i) (λ t. clash b i l h (replaced b i t)) }
    where
      clash : (b i : ℕ) → b < geo.blocks → i < d geo → Replaced b i → ⊥
      clash b i l h r =
          let same = once r.number b r.by-block i r.by-slot l r.block_of h r.slot_is r.live r.by-live in
          true≢false (sym (ap₂ (λ (x y : ℕ). is_complete (entry geo image x y)) same.0 same.1 ∙ r.complete) ∙ r.outdated)

-- where none is superseded, each slot is what its own entry and map bit say
pub each-own : {geo : Geometry} {image : Image} → NoneSuperseded geo image → {b i : ℕ} → b < geo.blocks → i < d geo → slot geo image b i ≡ own_slot geo image b i
each-own {geo} {image} none {b} {i} l h = slot-own geo image b i (none.none b i l h)
