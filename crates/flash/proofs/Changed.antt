-- What (a) to (f) of a placing do to the kinds of the slots, be they the slots themselves or what their own entries say: the number is live in the slot
-- that was taken and in no other, and no number is live twice. Assumes nothing.
use mathlib.Core.Path.{◌≡◌, refl, sym, ap, ap₂, ◌∙◌}
use mathlib.Core.Logic.{◌≢◌, ◌⊎◌, inl, inr, ⊎_elim, dite}
use mathlib.Core.Bool.{Bool, false, true≢false}
use Prim.Native.Nat.{ℕ, ◌<◌}
use native.Mathlib.Decide.{ℕ_discrete}
use native.Mathlib.Omega.{arith}
use Rattle.geometry.specs.declared.Geometry.{Geometry}
use Rattle.geometry.specs.Geometry.{d}
use Rattle.image.specs.declared.Slot.{Slot}
use Rattle.image.specs.declared.Slot.TheVariants.{Free, Live, Dead, Superseded}
use Rattle.image.proofs.SlotKinds.{same_place}
use Rattle.image.specs.Found.{Found}
use Rattle.image.specs.Found.{At, Nothing}
use Rattle.image.specs.Words.{Image}
use Rattle.image.specs.Slots.{slot, is_live, find}
use Rattle.image.proofs.Own.{Once}
use Rattle.image.proofs.Facts.{Sound}
use Rattle.image.proofs.Finding.{found-live, live-found}

-- two kinds of slot are never one
pub not_live : {n : ℕ} {s : Slot} → is_live s ≡ false → s ≡ Live n → ⊥
not_live f e = true≢false (sym (ap is_live e) ∙ f)

pub free-not-live : {n : ℕ} {s : Slot} → s ≡ Free → s ≡ Live n → ⊥
free-not-live p = not_live (ap is_live p)

pub dead-not-free : {s : Slot} → s ≡ Dead → s ≡ Free → ⊥
dead-not-free p q = let z : ◌≡◌ {A = ℕ} 0 1 = cc in omega arith

pub same_number : {m n : ℕ} {s : Slot} → s ≡ Live m → s ≡ Live n → m ≡ n
same_number p q = cc

-- two places of slots are the same, or differ in block or slot
pub at_slot : {A : Type 0} (c j b i : ℕ) → (c ≡ b → j ≡ i → A) → ((c ≡ b → j ≡ i → ⊥) → A) → A
at_slot c j b i here other =
    dite (ℕ_discrete c b)
    (λ x. dite (ℕ_discrete j i) (here x) (λ y. other (λ p q. y q)))
    (λ x. other (λ p q. x p))

pub other_place : {b c i j : ℕ} → (b ≡ c → i ≡ j → ⊥) → At b i ≡ At c j → ⊥
other_place {b} {c} {i} {j} n e =
    let p : b ≡ c = (same_place e).0 in
    let q : i ≡ j = (same_place e).1 in
    n p q

pub found_at : (f : Found) (c j : ℕ) → Dec (f ≡ At c j)
found_at (At x y) c j = at_slot x y c j (λ p q. yes (ap₂ At p q)) (λ n. no (other_place n))
found_at Nothing c j = no (λ e. let z : ◌≡◌ {A = ℕ} 0 1 = cc in omega arith)

-- the kinds after n was placed in slot i of block b: it is live there, its old slot is dead, and every other slot is as it was
pub record Changed (geo : Geometry) (image : Image) (kind : ℕ → ℕ → Slot) (n b i : ℕ) : Type 0 where
  pub here : kind b i ≡ Live n
  pub old-dead : (c j : ℕ) → find geo image n ≡ At c j → kind c j ≡ Dead
  pub other : (c j : ℕ) → c < geo.blocks → j < d geo → (c ≡ b → j ≡ i → ⊥) → (find geo image n ≡ At c j → ⊥) → kind c j ≡ slot geo image c j

-- K4: the same from (e) on, before and after (f): the old slot is dead or superseded
pub record Renewed (geo : Geometry) (image : Image) (kind : ℕ → ℕ → Slot) (n b i : ℕ) : Type 0 where
  pub here : kind b i ≡ Live n
  pub old-gone : (c j : ℕ) → find geo image n ≡ At c j → (kind c j ≡ Dead) ⊎ (kind c j ≡ Superseded)
  pub other : (c j : ℕ) → c < geo.blocks → j < d geo → (c ≡ b → j ≡ i → ⊥) → (find geo image n ≡ At c j → ⊥) → kind c j ≡ slot geo image c j

pub renewed : {geo : Geometry} {image : Image} {kind : ℕ → ℕ → Slot} {n b i : ℕ} → Changed geo image kind n b i → Renewed geo image kind n b i
renewed p = record { here = p.here; old-gone = λ c j e. inl (p.old-dead c j e); other = p.other }

-- what a test says of both
pub gone-as : (f : Slot → Bool) (t : Bool) → f Dead ≡ t → f Superseded ≡ t → {s : Slot} → (s ≡ Dead) ⊎ (s ≡ Superseded) → f s ≡ t
gone-as f t dead superseded (inl e) = ap f e ∙ dead
gone-as f t dead superseded (inr e) = ap f e ∙ superseded

module _ (geo : Geometry) (image : Image) (kind : ℕ → ℕ → Slot) (n b i : ℕ) (s : Sound geo image) (p : Renewed geo image kind n b i) where
  old-not-live : {m c j : ℕ} → find geo image n ≡ At c j → kind c j ≡ Live m → ⊥
  old-not-live {c = c} {j = j} o = not_live (gone-as is_live false refl refl (p.old-gone c j o))

  -- any slot is the one that was taken, or the old one, or as it was
  pub record Same (c j : ℕ) : Type 0 where
    pub slots : kind c j ≡ slot geo image c j
    pub not-here : c ≡ b → j ≡ i → ⊥
    pub not-old : find geo image n ≡ At c j → ⊥

  pub which : (c j : ℕ) → c < geo.blocks → j < d geo → ((c ≡ b) × (j ≡ i)) ⊎ ((find geo image n ≡ At c j) ⊎ Same c j)
  which c j l h = at_slot c j b i (λ x y. inl (x, y)) (λ other. inr (go other (found_at (find geo image n) c j)))
    where
      go : (c ≡ b → j ≡ i → ⊥) → Dec (find geo image n ≡ At c j) → (find geo image n ≡ At c j) ⊎ Same c j
      go other (yes o) = inl o
      go other (no o) = inr (record { slots = p.other c j l h other o; not-here = other; not-old = o })

  pub old-was : {c j : ℕ} → find geo image n ≡ At c j → slot geo image c j ≡ Live n
  old-was {c} {j} o = (found-live geo image n c j o).live

  pub here-is : {c j : ℕ} → (c ≡ b) × (j ≡ i) → kind c j ≡ Live n
  here-is e = ap₂ kind e.0 e.1 ∙ p.here

  -- a slot that is live for another number was so before
  pub live-before : (m c j : ℕ) → c < geo.blocks → j < d geo → m ≢ n → kind c j ≡ Live m → slot geo image c j ≡ Live m
  live-before m c j l h other e =
      ⊎_elim
      (λ x. absurd (other (same_number e (here-is x))))
      (λ w. ⊎_elim (λ o. absurd (old-not-live o e)) (λ x. sym x.slots ∙ e) w)
      (which c j l h)

  -- n is live in the slot that was taken, and in no other
  pub only_here : (c j : ℕ) → c < geo.blocks → j < d geo → kind c j ≡ Live n → (c ≡ b) × (j ≡ i)
  only_here c j l h e =
      ⊎_elim
      (λ x. x)
      (λ w.
      ⊎_elim
      (λ o. absurd (old-not-live o e))
      (λ x. absurd (x.not-old (live-found geo image s.once n c j (record { block = l; slot_is = h; live = sym x.slots ∙ e }))))
      w)
      (which c j l h)

  pub once-kept : Once geo kind
  once-kept m c c' j j' l l' h h' e e' = go (ℕ_discrete m n)
    where
      go : Dec (m ≡ n) → (c ≡ c') × (j ≡ j')
      go (yes x) =
          let one = only_here c j l h (e ∙ ap Live x) in
          let two = only_here c' j' l' h' (e' ∙ ap Live x) in
          (one.0 ∙ sym two.0, one.1 ∙ sym two.1)
      go (no x) = s.once m c c' j j' l l' h h' (live-before m c j l h x e) (live-before m c' j' l' h' x e')
