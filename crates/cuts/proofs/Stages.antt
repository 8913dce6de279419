-- K4: the stages of a placing that may be cut short, and what they say of the map and of the slots of each block. Assumes nothing.
use mathlib.Core.Path.{◌≡◌, refl, sym, ap, ap₂, ◌∙◌}
use mathlib.Core.Logic.{◌≢◌, ◌⊎◌, inl, inr, ⊎_elim}
use mathlib.Core.Bool.{true, false}
use mathlib.Core.List.{List}
use mathlib.Core.Option.{some}
use Prim.Native.Nat.{ℕ, ◌+◌, ◌<◌}
use native.Mathlib.Decide.{ℕ_discrete}
use native.Mathlib.Omega.{arith}
use Rattle.ranges.specs.Range.{one_if}
use Rattle.ranges.proofs.Tests.{any_of}
use Rattle.ranges.proofs.Sums.{sum-update}
use Rattle.geometry.specs.declared.Geometry.{Geometry}
use Rattle.geometry.specs.Geometry.{d}
use Rattle.image.specs.declared.Slot.{Slot}
use Rattle.image.specs.declared.Slot.TheVariants.{Free, Live, Dead}
use Rattle.image.specs.Found.{At}
use Rattle.image.specs.Words.{Image, Shaped, Words32, erase_count, contents}
use Rattle.image.specs.Slots.{slot, is_free, is_faulty, is_live, find, map_of}
use Rattle.image.specs.Blocks.{blank, full, free_slots, live_slots}
use Rattle.image.specs.WellFormed.{R6}
use Rattle.image.proofs.Own.{Once}
use Rattle.image.proofs.Alike.{live-slots-alike}
use Rattle.image.proofs.Facts.{Sound}
use Rattle.image.proofs.Finding.{found-live, find-same, map_at, map_same}
use Rattle.image.proofs.Mending.{Mendable}
use Rattle.flash.proofs.Changed.{Renewed, not_live, free-not-live, gone-as, at_slot, other_place}
use Rattle.flash.proofs.Filling.{Ready, Target}
use Rattle.flash.proofs.Taken.{Taken, SameContents, renewed-taken, full-as-before, blank-as-before, renewed-found, others-mapped}

-- ---- the kinds of the slots

-- from (a) until (e): the slot is taken, and dead as its entry is not finished; every other one is as it was
pub record Begun (geo : Geometry) (image : Image) (kind : ℕ → ℕ → Slot) (b i : ℕ) : Type 0 where
  pub here : kind b i ≡ Dead
  pub other : (c j : ℕ) → c < geo.blocks → j < d geo → (c ≡ b → j ≡ i → ⊥) → kind c j ≡ slot geo image c j

module _ (geo : Geometry) (image : Image) (kind : ℕ → ℕ → Slot) (b i : ℕ) (p : Begun geo image kind b i) where
  pub begun-live : (m c j : ℕ) → c < geo.blocks → j < d geo → kind c j ≡ Live m → slot geo image c j ≡ Live m
  begun-live m c j l h e =
      at_slot c j b i
      (λ x y. absurd (not_live (ap is_live (ap₂ kind x y ∙ p.here)) e))
      (λ other. sym (p.other c j l h other) ∙ e)

  pub begun-once : Sound geo image → Once geo kind
  begun-once s n c c' j j' l l' h h' e e' = s.once n c c' j j' l l' h h' (begun-live n c j l h e) (begun-live n c' j' l' h' e')

  pub begun-taken : Sound geo image → Taken geo image kind b i
  begun-taken s =
      record {
        in_use = ap is_free p.here;
        free-same = λ c j l h other. ap is_free (p.other c j l h other);
        proper = λ c j l h.
            at_slot c j b i
            (λ x y. ap is_faulty (ap₂ kind x y ∙ p.here))
            (λ other. ap is_faulty (p.other c j l h other) ∙ s.proper c j l h);
        once = begun-once s;
        live-was = λ m c j l h other e. begun-live m c j l h e;
      }

-- from (e) on: n is live in the slot with its contents, and its old slot is superseded, or dead from (f) on
pub record Done (geo : Geometry) (image now : Image) (n : ℕ) (ws : List ℕ) (b i : ℕ) : Type 0 where
  pub kinds : Renewed geo image (slot geo now) n b i
  pub contents-here : contents geo now b i ≡ ws

-- an image on the way through the placing of n, with the contents ws, in slot i of block b
pub record During (geo : Geometry) (image now : Image) (n : ℕ) (ws : List ℕ) (b i : ℕ) : Type 0 where
  pub shaped : Shaped geo now
  pub words : Words32 now
  pub mendable : Mendable geo now
  pub counts : (c : ℕ) → c < geo.blocks → erase_count geo now c ≡ erase_count geo image c
  pub contents-other : SameContents geo image now b i
  pub stage : (now ≡ image) ⊎ (Begun geo image (slot geo now) b i ⊎ Done geo image now n ws b i)

-- ---- the map

-- a slot that is live was not the free one that is taken
not_taken : (geo : Geometry) (image : Image) {b i c j m : ℕ} → slot geo image b i ≡ Free → slot geo image c j ≡ Live m → c ≡ b → j ≡ i → ⊥
not_taken geo image free e x y = free-not-live (ap₂ (slot geo image) x y ∙ free) e

module _ (geo : Geometry) (image now : Image) (b i : ℕ) (s : Sound geo image) (free : slot geo image b i ≡ Free) (same : SameContents geo image now b i) where
  -- begun: as before
  pub begun-map : Begun geo image (slot geo now) b i → (m : ℕ) → map_of geo now m ≡ map_of geo image m
  begun-map p m =
      map_same geo image now m
      (find-same geo image now m (begun-once geo image (slot geo now) b i p s)
      (λ c j l h e. p.other c j l h (not_taken geo image free e) ∙ e)
      (λ c j l h e. begun-live geo image (slot geo now) b i p m c j l h e))
      (λ c j l h e. same c j l h (not_taken geo image free e))

  -- done: n has its contents, and every other number what it had
  pub done-here : {n : ℕ} {ws : List ℕ} → b < geo.blocks → i < d geo → Done geo image now n ws b i → map_of geo now n ≡ some ws
  done-here {n} block slot_is p =
      map_at geo now n b i (renewed-found geo image now n b i s free p.kinds block slot_is) ∙ ap some p.contents-here

  pub done-other : {n : ℕ} {ws : List ℕ} → Done geo image now n ws b i → (m : ℕ) → m ≢ n → map_of geo now m ≡ map_of geo image m
  done-other {n} p = others-mapped geo image now n b i s free p.kinds same

-- ---- the slots of each block

module _ (geo : Geometry) (image now : Image) (b i : ℕ) (kinds : Taken geo image (slot geo now) b i) where
  -- one fewer is free in the block of the slot that was taken
  pub one-taken : b < geo.blocks → i < d geo → slot geo image b i ≡ Free → free_slots geo now b + 1 ≡ free_slots geo image b
  one-taken block slot_is free =
      let change =
      sum-update (d geo) {f = λ j. one_if (is_free (slot geo image b j))} {f' = λ j. one_if (is_free (slot geo now b j))} slot_is
      (λ j h x. ap one_if (kinds.free-same b j block h (λ y z. x z))) in
      omega (arith, ap (λ (x : Slot). one_if (is_free x)) free, ap one_if kinds.in_use)

-- begun: as many are live in every block as before
pub begun-lives :
    (geo : Geometry) (image now : Image) (b i : ℕ) →
    slot geo image b i ≡ Free →
    Begun geo image (slot geo now) b i →
    (c : ℕ) →
    c < geo.blocks →
    live_slots geo now c ≡ live_slots geo image c
begun-lives geo image now b i free p c l =
    live-slots-alike geo image now c
    (λ j h.
    at_slot c j b i
    (λ x y. ap is_live (ap₂ (slot geo now) x y ∙ p.here) ∙ sym (ap is_live (ap₂ (slot geo image) x y ∙ free)))
    (λ other. ap is_live (p.other c j l h other)))

-- done, where n was live in another block: one more in the block of the slot that was taken, one fewer in that other one
module _
    (geo : Geometry) (image now : Image) (n b i v r : ℕ)
    (free : slot geo image b i ≡ Free)
    (p : Renewed geo image (slot geo now) n b i)
    (was : find geo image n ≡ At v r)
    (apart : v ≢ b)
  where
    not-old : (c j : ℕ) → (c ≡ v → j ≡ r → ⊥) → find geo image n ≡ At c j → ⊥
    not-old c j other e = other_place (λ x y. other (sym x) (sym y)) (sym was ∙ e)

    pub one_more : b < geo.blocks → i < d geo → live_slots geo now b ≡ live_slots geo image b + 1
    one_more block slot_is =
        let change =
        sum-update (d geo) {f = λ j. one_if (is_live (slot geo image b j))} {f' = λ j. one_if (is_live (slot geo now b j))} slot_is
        (λ j h x. ap (λ (k : Slot). one_if (is_live k)) (p.other b j block h (λ y z. x z) (not-old b j (λ y z. apart (sym y))))) in
        omega (arith, ap (λ (x : Slot). one_if (is_live x)) free, ap (λ (x : Slot). one_if (is_live x)) p.here)

    pub one_fewer : live_slots geo now v + 1 ≡ live_slots geo image v
    one_fewer =
        let live = found-live geo image n v r was in
        let change =
        sum-update (d geo) {f = λ j. one_if (is_live (slot geo image v j))} {f' = λ j. one_if (is_live (slot geo now v j))} live.slot_is
        (λ j h x. ap (λ (k : Slot). one_if (is_live k)) (p.other v j live.block h (λ y z. apart y) (not-old v j (λ y z. x z)))) in
        omega (arith, ap (λ (x : Slot). one_if (is_live x)) live.live, ap one_if (gone-as is_live false refl refl (p.old-gone v r was)))

    pub lives-elsewhere : (c : ℕ) → c < geo.blocks → c ≢ b → c ≢ v → live_slots geo now c ≡ live_slots geo image c
    lives-elsewhere c l x y =
        live-slots-alike geo image now c (λ j h. ap is_live (p.other c j l h (λ z w. x z) (not-old c j (λ z w. y z))))

-- ---- wherever the placing is cut short

module _
    (geo : Geometry) (image now : Image) (n : ℕ) (ws : List ℕ) (b i : ℕ)
    (ready : Ready geo image)
    (target : Target geo image n ws b i)
    (at : During geo image now n ws b i)
  where
    -- nothing was done, or one slot was taken
    pub during-kinds : (now ≡ image) ⊎ Taken geo image (slot geo now) b i
    during-kinds = go at.stage
      where
        go : (now ≡ image) ⊎ (Begun geo image (slot geo now) b i ⊎ Done geo image now n ws b i) → (now ≡ image) ⊎ Taken geo image (slot geo now) b i
        go (inl e) = inl e
        go (inr (inl p)) = inr (begun-taken geo image (slot geo now) b i p ready.sound)
        go (inr (inr p)) = inr (renewed-taken geo image (slot geo now) n b i ready.sound p.kinds)

    -- the map is the one before, or that with n set
    pub during-map :
        ((m : ℕ) → map_of geo now m ≡ map_of geo image m)
        ⊎ ((map_of geo now n ≡ some ws) × ((m : ℕ) → m ≢ n → map_of geo now m ≡ map_of geo image m))
    during-map = go at.stage
      where
        go :
            (now ≡ image) ⊎ (Begun geo image (slot geo now) b i ⊎ Done geo image now n ws b i) →
            ((m : ℕ) → map_of geo now m ≡ map_of geo image m)
            ⊎ ((map_of geo now n ≡ some ws) × ((m : ℕ) → m ≢ n → map_of geo now m ≡ map_of geo image m))
        go (inl e) = inl (λ m. ap (λ (x : Image). map_of geo x m) e)
        go (inr (inl p)) = inl (begun-map geo image now b i ready.sound target.free at.contents-other p)
        go (inr (inr p)) =
            inr (
              done-here geo image now b i ready.sound target.free at.contents-other target.block target.slot_is p,
              done-other geo image now b i ready.sound target.free at.contents-other p,
            )

    -- so the map of a copy, which has the contents that n had, is the one before throughout
    pub copy-map : {c j : ℕ} → find geo image n ≡ At c j → contents geo image c j ≡ ws → (m : ℕ) → map_of geo now m ≡ map_of geo image m
    copy-map {c} {j} found same m = go during-map (ℕ_discrete m n)
      where
        go :
            ((m : ℕ) → map_of geo now m ≡ map_of geo image m)
            ⊎ ((map_of geo now n ≡ some ws) × ((m : ℕ) → m ≢ n → map_of geo now m ≡ map_of geo image m)) →
            Dec (m ≡ n) →
            map_of geo now m ≡ map_of geo image m
        go (inl all) x = all m
        go (inr both) (yes x) = rw x (both.0 ∙ sym (map_at geo image n c j found ∙ ap some same))
        go (inr both) (no x) = both.1 m x

    -- every other block is full or blank as it was
    pub during-full : (c : ℕ) → c < geo.blocks → c ≢ b → full geo now c ≡ full geo image c
    during-full c l x = ⊎_elim (λ e. ap (λ (y : Image). full geo y c) e) (λ kinds. full-as-before geo image now b i kinds c l x) during-kinds

    pub during-blank : (c : ℕ) → c < geo.blocks → c ≢ b → blank geo now c ≡ blank geo image c
    during-blank c l x = ⊎_elim (λ e. ap (λ (y : Image). blank geo y c) e) (λ kinds. blank-as-before geo image now b i kinds c l x) during-kinds

    -- R6 holds throughout where another block is blank
    pub during-spare : (c : ℕ) → c < geo.blocks → c ≢ b → blank geo image c ≡ true → R6 geo now ≡ true
    unfolding R6
    during-spare c l x t = any_of geo.blocks (blank geo now) l (during-blank c l x ∙ t)
