-- What `find` answers, and the map. Assumes nothing.
use mathlib.Core.Path.{◌≡◌, refl, sym, ap, ap₂, ◌∙◌}
use mathlib.Core.Bool.{Bool, true, false, cond, true≢false}
use mathlib.Core.Option.{some, none}
use Prim.Native.Nat.{ℕ, ◌<◌}
use native.Mathlib.Omega.{arith}
use Rattle.ranges.specs.Range.{any_below, first_below}
use Rattle.ranges.proofs.Tests.{any_of, none-at, none_of}
use Rattle.ranges.proofs.Searches.{best-passes, best-any, first-is}
use Rattle.geometry.specs.declared.Geometry.{Geometry}
use Rattle.geometry.specs.Geometry.{d}
use Rattle.image.specs.declared.Slot.TheVariants.{Live}
use Rattle.image.specs.Found.{Found}
use Rattle.image.specs.Found.{At, Nothing}
use Rattle.image.specs.Words.{Image, contents}
use Rattle.image.specs.Slots.{slot, is_live_for, live_in, find, map_of}
use Rattle.image.proofs.Own.{Once}
use Rattle.image.proofs.SlotKinds.{same_place}
use Rattle.image.proofs.Facts.{live-for, live-is-for}

-- what `At b i` says
pub record LiveAt (geo : Geometry) (image : Image) (n b i : ℕ) : Type 0 where
  pub block : b < geo.blocks
  pub slot_is : i < d geo
  pub live : slot geo image b i ≡ Live n

module _ (geo : Geometry) (image : Image) where
  abbrev first_block : ℕ → ℕ
  first_block n = first_below geo.blocks (λ b. live_in geo image b n)

  abbrev first_slot : ℕ → ℕ → ℕ
  first_slot n b = first_below (d geo) (λ i. is_live_for n (slot geo image b i))

  -- a slot that was found is live for n
  pub found-live : (n b i : ℕ) → find geo image n ≡ At b i → LiveAt geo image n b i
  unfolding find
  found-live n b i q = go (any_below geo.blocks (λ b. live_in geo image b n)) refl q
    where
      go :
          (t : Bool) →
          any_below geo.blocks (λ b. live_in geo image b n) ≡ t →
          cond t (At (first_block n) (first_slot n (first_block n))) Nothing ≡ At b i →
          LiveAt geo image n b i
      go true t e =
          let block = best-any (λ i r. false) geo.blocks (λ b. live_in geo image b n) t in
          let holds = best-passes (λ i r. false) geo.blocks (λ b. live_in geo image b n) block in
          let inside = best-any (λ i r. false) (d geo) (λ i. is_live_for n (slot geo image (first_block n) i)) holds in
          let lives = best-passes (λ i r. false) (d geo) (λ i. is_live_for n (slot geo image (first_block n) i)) inside in
          let eb : first_block n ≡ b = (same_place e).0 in
          let ei : first_slot n (first_block n) ≡ i = (same_place e).1 in
          record {
            block = rw eb at block;
            slot_is = rw ei at inside;
            live = sym (ap₂ (slot geo image) eb ei) ∙ live-for n _ lives;
          }
      go false t e = let z : ◌≡◌ {A = ℕ} 0 1 = cc in absurd (omega arith)

  -- where nothing was found, no slot is live for n
  pub found_nothing : (n : ℕ) → find geo image n ≡ Nothing → (b i : ℕ) → b < geo.blocks → i < d geo → slot geo image b i ≡ Live n → ⊥
  unfolding find
  found_nothing n q b i l h e = go (any_below geo.blocks (λ b. live_in geo image b n)) refl q
    where
      go :
          (t : Bool) →
          any_below geo.blocks (λ b. live_in geo image b n) ≡ t →
          cond t (At (first_block n) (first_slot n (first_block n))) Nothing ≡ Nothing →
          ⊥
      go true t e = let z : ◌≡◌ {A = ℕ} 0 1 = cc in absurd (omega arith)
      go false t p =
          true≢false
          (sym (live-is-for e)
          ∙ none-at (d geo) (λ i. is_live_for n (slot geo image b i)) (none-at geo.blocks (λ b. live_in geo image b n) t b l) i h)

  -- so where no slot is live for n, nothing is found
  pub none_found : (n : ℕ) → ((b i : ℕ) → b < geo.blocks → i < d geo → slot geo image b i ≡ Live n → ⊥) → find geo image n ≡ Nothing
  none_found n nowhere = go (find geo image n) refl
    where
      go : (f : Found) → find geo image n ≡ f → find geo image n ≡ Nothing
      go (At b i) e = let at = found-live n b i e in absurd (nowhere b i at.block at.slot_is at.live)
      go Nothing e = e

  -- and, by R5, a slot that is live for n is the one that is found
  pub live-found : Once geo (slot geo image) → (n b i : ℕ) → LiveAt geo image n b i → find geo image n ≡ At b i
  live-found once n b i at = go (find geo image n) refl
    where
      go : (f : Found) → find geo image n ≡ f → find geo image n ≡ At b i
      go (At c j) e =
          let other = found-live n c j e in
          let same = once n c b j i other.block at.block other.slot_is at.slot_is other.live at.live in
          e ∙ ap₂ At same.0 same.1
      go Nothing e = absurd (found_nothing n e b i at.block at.slot_is at.live)

  -- the map by the slot that is found
  pub map_at : (n b i : ℕ) → find geo image n ≡ At b i → map_of geo image n ≡ some (contents geo image b i)
  map_at n b i e = rw e

  pub map-nothing : (n : ℕ) → find geo image n ≡ Nothing → map_of geo image n ≡ none
  map-nothing n e = rw e

-- two images whose slots are live for n at the same places find n alike: by R5 the second has no other slot that is live for n
pub find-same :
    (geo : Geometry) (image image' : Image) (n : ℕ) →
    Once geo (slot geo image') →
    ((b i : ℕ) → b < geo.blocks → i < d geo → slot geo image b i ≡ Live n → slot geo image' b i ≡ Live n) →
    ((b i : ℕ) → b < geo.blocks → i < d geo → slot geo image' b i ≡ Live n → slot geo image b i ≡ Live n) →
    find geo image' n ≡ find geo image n
find-same geo image image' n once there back = go (find geo image n) refl
  where
    go : (f : Found) → find geo image n ≡ f → find geo image' n ≡ find geo image n
    go (At b i) e =
        let at = found-live geo image n b i e in
        live-found geo image' once n b i
        (record { block = at.block; slot_is = at.slot_is; live = there b i at.block at.slot_is at.live })
        ∙ sym e
    go Nothing e = none_found geo image' n (λ b i l h q. found_nothing geo image n e b i l h (back b i l h q)) ∙ sym e

-- two images that find n alike, with the same contents where it is live, map n alike
pub map_same :
    (geo : Geometry) (image image' : Image) (n : ℕ) →
    find geo image' n ≡ find geo image n →
    ((b i : ℕ) → b < geo.blocks → i < d geo → slot geo image b i ≡ Live n → contents geo image' b i ≡ contents geo image b i) →
    map_of geo image' n ≡ map_of geo image n
map_same geo image image' n same kept = go (find geo image n) refl
  where
    go : (f : Found) → find geo image n ≡ f → map_of geo image' n ≡ map_of geo image n
    go (At b i) e =
        let at = found-live geo image n b i e in
        map_at geo image' n b i (same ∙ e)
        ∙ ap some (kept b i at.block at.slot_is at.live)
        ∙ sym (map_at geo image n b i e)
    go Nothing e = map-nothing geo image' n (same ∙ e) ∙ sym (map-nothing geo image n e)

-- ---- what settles the search: the slots before

module _ (geo : Geometry) (image : Image) (n : ℕ) where
  -- n is found nowhere where it is live in no block
  pub find_none : ((b : ℕ) → b < geo.blocks → live_in geo image b n ≡ false) → find geo image n ≡ Nothing
  unfolding find
  find_none nowhere = rw (none_of geo.blocks nowhere)

  -- n is found at the slot that is live for it where no slot before it is, in its block and in the blocks before
  pub find_at :
      (b i : ℕ) →
      b < geo.blocks →
      i < d geo →
      ((c : ℕ) → c < b → live_in geo image c n ≡ false) →
      ((j : ℕ) → j < i → is_live_for n (slot geo image b j) ≡ false) →
      is_live_for n (slot geo image b i) ≡ true →
      find geo image n ≡ At b i
  unfolding find
  find_at b i l h before earlier here =
      let some : live_in geo image b n ≡ true = any_of (d geo) (λ j. is_live_for n (slot geo image b j)) h here in
      rw (
        any_of geo.blocks (λ c. live_in geo image c n) l some,
        first-is geo.blocks (λ c. live_in geo image c n) b (omega arith) before (λ k. some),
        first-is (d geo) (λ j. is_live_for n (slot geo image b j)) i (omega arith) earlier (λ k. here),
      )
