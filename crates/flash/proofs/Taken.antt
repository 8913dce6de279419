-- The slots of an image on the way through a placing, whichever step was the last: one was taken, none was freed, and no number is live twice. With the
-- readings that stay the same, this gives the rules of maps, contents and bounds, and where the numbers are found. Assumes nothing.
use mathlib.Core.Path.{◌≡◌, refl, sym, ap, ap₂, ◌∙◌}
use mathlib.Core.Logic.{◌≢◌, ⊎_elim}
use mathlib.Core.Bool.{true, false, true≢false}
use mathlib.Core.List.{List}
use Prim.Native.Nat.{ℕ, ◌*◌, ◌<◌, ◌≤◌}
use native.Mathlib.Omega.{arith}
use lib.ListN.{get_or}
use Rattle.bits.specs.Word.{ones}
use Rattle.geometry.specs.declared.Geometry.{Geometry}
use Rattle.geometry.specs.Geometry.{Limits, d, k, sector_words}
use Rattle.geometry.proofs.Laws.{map-covers}
use Rattle.image.specs.declared.Slot.{Slot}
use Rattle.image.specs.declared.Slot.TheVariants.{Free, Live}
use Rattle.image.specs.Found.{At}
use Rattle.image.specs.Words.{Image, erase_count, least_mapped, greatest_mapped, map_bit, contents}
use Rattle.image.specs.Slots.{slot, is_free, is_live, is_faulty, find, map_of}
use Rattle.image.specs.Blocks.{blank, full}
use Rattle.image.proofs.Own.{Once}
use Rattle.image.proofs.Alike.{blank-alike, full-alike}
use Rattle.image.proofs.Facts.{Sound, free-is}
use Rattle.image.proofs.Finding.{live-found, find-same, map_same}
use Rattle.flash.proofs.Changed.{Renewed, not_live, free-not-live, same_number, at_slot, which, old-was, here-is, live-before, gone-as, once-kept}

-- the kinds of the slots: slot i of block b is taken, the others are free as they were, and live only as they were
pub record Taken (geo : Geometry) (image : Image) (kind : ℕ → ℕ → Slot) (b i : ℕ) : Type 0 where
  pub in_use : is_free (kind b i) ≡ false
  pub free-same : (c j : ℕ) → c < geo.blocks → j < d geo → (c ≡ b → j ≡ i → ⊥) → is_free (kind c j) ≡ is_free (slot geo image c j)
  pub proper : (c j : ℕ) → c < geo.blocks → j < d geo → is_faulty (kind c j) ≡ false
  pub once : Once geo kind
  pub live-was : (m c j : ℕ) → c < geo.blocks → j < d geo → (c ≡ b → j ≡ i → ⊥) → kind c j ≡ Live m → slot geo image c j ≡ Live m

-- so once n is live in the slot that was taken
pub renewed-taken :
    (geo : Geometry) (image : Image) (kind : ℕ → ℕ → Slot) (n b i : ℕ) →
    Sound geo image →
    Renewed geo image kind n b i →
    Taken geo image kind b i
renewed-taken geo image kind n b i s p =
    let cases = which geo image kind n b i s p in
    record {
      in_use = ap is_free p.here;
      free-same = λ c j l h other.
          ⊎_elim
          (λ x. absurd (other x.0 x.1))
          (λ w.
          ⊎_elim
          (λ o. gone-as is_free false refl refl (p.old-gone c j o) ∙ sym (ap is_free (old-was geo image kind n b i s p o)))
          (λ x. ap is_free x.slots)
          w)
          (cases c j l h);
      proper = λ c j l h.
          ⊎_elim
          (λ x. ap is_faulty (here-is geo image kind n b i s p x))
          (λ w. ⊎_elim (λ o. gone-as is_faulty false refl refl (p.old-gone c j o)) (λ x. ap is_faulty x.slots ∙ s.proper c j l h) w)
          (cases c j l h);
      once = once-kept geo image kind n b i s p;
      live-was = λ m c j l h other e.
          ⊎_elim
          (λ x. absurd (other x.0 x.1))
          (λ w. ⊎_elim (λ o. absurd (not_live (gone-as is_live false refl refl (p.old-gone c j o)) e)) (λ x. sym x.slots ∙ e) w)
          (cases c j l h);
    }

-- the contents of every slot but one as they were
abbrev pub SameContents : Geometry → Image → Image → ℕ → ℕ → Type 0
SameContents geo image now b i =
    (c j : ℕ) → c < geo.blocks → j < d geo → (c ≡ b → j ≡ i → ⊥) → contents geo now c j ≡ contents geo image c j

-- what is read as before: the counts, the maps but for the slot that was taken, and the contents of every other slot
pub record Readings (geo : Geometry) (image now : Image) (b i : ℕ) : Type 0 where
  pub counts : (c : ℕ) → c < geo.blocks → erase_count geo now c ≡ erase_count geo image c
  pub map-here : map_bit geo now b i ≡ false
  pub map_other : (c j : ℕ) → c < geo.blocks → j < 32 * k geo → (c ≡ b → j ≡ i → ⊥) → map_bit geo now c j ≡ map_bit geo image c j
  pub contents-other : SameContents geo image now b i

-- what the blocks are by their free slots
module _ (geo : Geometry) (image now : Image) (b i : ℕ) (kinds : Taken geo image (slot geo now) b i) where
  pub full-as-before : (c : ℕ) → c < geo.blocks → c ≢ b → full geo now c ≡ full geo image c
  full-as-before c l other = full-alike geo image now c (λ j h. kinds.free-same c j l h (λ x y. other x))

  pub blank-as-before : (c : ℕ) → c < geo.blocks → c ≢ b → blank geo now c ≡ blank geo image c
  blank-as-before c l other = blank-alike geo image now c (λ j h. kinds.free-same c j l h (λ x y. other x))

-- the rules
module _
    (geo : Geometry) (image now : Image) (b i : ℕ)
    (within : Limits geo)
    (slot_is : i < d geo)
    (s : Sound geo image)
    (same : Readings geo image now b i)
    (kinds : Taken geo image (slot geo now) b i)
  where
    pub map-kept : (c j : ℕ) → c < geo.blocks → j < d geo → map_bit geo now c j ≡ is_free (slot geo now c j)
    map-kept c j l h =
        at_slot c j b i
        (λ x y. ap₂ (map_bit geo now) x y ∙ same.map-here ∙ sym (ap₂ (λ (v w : ℕ). is_free (slot geo now v w)) x y ∙ kinds.in_use))
        (λ other. same.map_other c j l (omega (arith, map-covers geo within)) other ∙ s.map c j l h ∙ sym (kinds.free-same c j l h other))

    pub rest-kept : (c j : ℕ) → c < geo.blocks → d geo ≤ j → j < 32 * k geo → map_bit geo now c j ≡ true
    rest-kept c j l h m = same.map_other c j l m (λ x y. omega arith) ∙ s.rest c j l h m

    pub clean-kept :
        (c j : ℕ) → c < geo.blocks → j < d geo → slot geo now c j ≡ Free → (m : ℕ) → m < sector_words → get_or (contents geo now c j) m 0 ≡ ones
    clean-kept c j l h e m q =
        at_slot c j b i
        (λ x y. absurd (true≢false (sym (ap is_free e) ∙ ap₂ (λ (v w : ℕ). is_free (slot geo now v w)) x y ∙ kinds.in_use)))
        (λ other.
        ap (λ (v : List ℕ). get_or v m 0) (same.contents-other c j l h other)
        ∙ s.clean c j l h (free-is _ (sym (kinds.free-same c j l h other) ∙ ap is_free e)) m q)

    -- the live numbers of another full block lie where they did
    pub bounded-elsewhere :
        (c j m : ℕ) →
        c < geo.blocks →
        j < d geo →
        c ≢ b →
        full geo now c ≡ true →
        slot geo now c j ≡ Live m →
        (least_mapped geo image c ≤ m) × (m ≤ greatest_mapped geo image c)
    bounded-elsewhere c j m l h other f e =
        s.bounded c j m l h (sym (full-as-before geo image now b i kinds c l other) ∙ f) (kinds.live-was m c j l h (λ x y. other x) e)

-- where the numbers are found once n is live in the slot that was taken, which was free
module _
    (geo : Geometry) (image now : Image) (n b i : ℕ)
    (s : Sound geo image)
    (free : slot geo image b i ≡ Free)
    (p : Renewed geo image (slot geo now) n b i)
  where
    -- a slot that was live for another number is so now
    pub live-still :
        (m c j : ℕ) →
        c < geo.blocks →
        j < d geo →
        m ≢ n →
        slot geo image c j ≡ Live m →
        (slot geo now c j ≡ Live m) × (c ≡ b → j ≡ i → ⊥)
    live-still m c j l h other e =
        ⊎_elim
        (λ x. absurd (free-not-live (ap₂ (slot geo image) x.0 x.1 ∙ free) e))
        (λ w. ⊎_elim (λ o. absurd (other (same_number e (old-was geo image (slot geo now) n b i s p o)))) (λ x. (x.slots ∙ e, x.not-here)) w)
        (which geo image (slot geo now) n b i s p c j l h)

    -- n is found in the slot that was taken, and every other number where it was
    pub renewed-found : b < geo.blocks → i < d geo → find geo now n ≡ At b i
    renewed-found block slot_is =
        live-found geo now (once-kept geo image (slot geo now) n b i s p) n b i (record { block = block; slot_is = slot_is; live = p.here })

    pub others-found : (m : ℕ) → m ≢ n → find geo now m ≡ find geo image m
    others-found m x =
        find-same geo image now m (once-kept geo image (slot geo now) n b i s p)
        (λ c j l h e. (live-still m c j l h x e).0)
        (λ c j l h e. live-before geo image (slot geo now) n b i s p m c j l h x e)

    -- so the map of the other numbers is the old one
    pub others-mapped : SameContents geo image now b i → (m : ℕ) → m ≢ n → map_of geo now m ≡ map_of geo image m
    others-mapped same m x = map_same geo image now m (others-found m x) (λ c j l h e. same c j l h (live-still m c j l h x e).1)
