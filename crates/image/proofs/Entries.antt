-- What an entry says of its slot: `slot_of`, from the word to the kind and back. Assumes nothing.
use mathlib.Core.Path.{◌≡◌, refl, sym, ap, ◌∙◌}
use mathlib.Core.Logic.{◌⊎◌, inl, inr, ⊎_elim}
use mathlib.Core.Bool.{Bool, true, false, not, cond, beq, ◌&&◌, ◌||◌, true≢false, false≢true}
use Prim.Native.Nat.{ℕ, ◌+◌, ◌/◌, ◌%◌, ◌^◌, ◌<◌, ◌≤◌}
use native.Mathlib.Omega.{arith}
use lib.Dec.{eqb, ltb}
use borrow.Author.Tests.{eq-eqb, ne_eqb, eqb-true, eqb-false, lt-ltb, ltb-true}
use Rattle.ranges.specs.Range.{all_below}
use Rattle.ranges.proofs.Tests.{all-at}
use Rattle.bits.specs.Word.{ones, bit, is_set, cleared}
use Rattle.bits.proofs.Bit.{bit-cases, bit_le}
use Rattle.bits.proofs.Clearing.{cleared-set, cleared-clear}
use Rattle.image.specs.declared.Slot.{Slot}
use Rattle.image.specs.declared.Slot.TheVariants.{Free, Live, Dead, Faulty, Superseded}
use Rattle.image.specs.Slots.{valid_bit, current_bit, is_free_entry, is_complete, is_passing, slot_of, is_free, is_live_for}

-- ---- the upper three bits, as one number

-- two tests that are found to be the same
pub beq-true : (x y : Bool) → beq x y ≡ true → x ≡ y
beq-true true true e = refl
beq-true true false e = sym e
beq-true false true e = e
beq-true false false e = refl

-- a test of the three bits is one of the number that they are, if it is so for each of the eight
three-bits :
    (f : ℕ → ℕ → ℕ → Bool) (v e : ℕ) →
    e < 2 ^ 32 →
    all_below 8 (λ u. beq (f (u / 4 % 2) (u / 2 % 2) (u % 2)) (eqb u v)) ≡ true →
    f (bit e 31) (bit e 30) (bit e 29) ≡ eqb (e / 2 ^ 29) v
unfolding bit
three-bits f v e l each =
    let half : e / 2 ^ 29 / 2 ≡ e / 2 ^ 30 = omega arith in
    let quarter : e / 2 ^ 29 / 4 ≡ e / 2 ^ 31 = omega arith in
    rw (← half, ← quarter)
    (beq-true _ _ (all-at 8 (λ u. beq (f (u / 4 % 2) (u / 2 % 2) (u % 2)) (eqb u v)) each (e / 2 ^ 29) (omega arith)))

-- complete: 6; in passing: 4
pub complete-is-6 : (e : ℕ) → e < 2 ^ 32 → is_complete e ≡ eqb (e / 2 ^ 29) 6
unfolding is_complete all_below
complete-is-6 e l = three-bits (λ x y z. eqb x 1 && eqb y 1 && not (eqb z 1)) 6 e l refl

pub passing-is-4 : (e : ℕ) → e < 2 ^ 32 → is_passing e ≡ eqb (e / 2 ^ 29) 4
unfolding is_passing all_below
passing-is-4 e l = three-bits (λ x y z. eqb x 1 && not (eqb y 1) && not (eqb z 1)) 4 e l refl

-- no entry is two of free, complete and in passing
pub complete-in-use : (e : ℕ) → is_complete e ≡ true → is_free_entry e ≡ false
unfolding is_complete bit
complete-in-use e c = ne_eqb e ones (λ same. true≢false (sym (rw same at c)))

pub passing-in-use : (e : ℕ) → is_passing e ≡ true → is_free_entry e ≡ false
unfolding is_passing bit
passing-in-use e p = ne_eqb e ones (λ same. true≢false (sym (rw same at p)))

pub passing-not-complete : (e : ℕ) → is_passing e ≡ true → is_complete e ≡ false
unfolding is_passing is_complete
passing-not-complete e = go (is_set e 31) (is_set e 30) (is_set e 29)
  where
    go : (x y z : Bool) → (x && not y && not z) ≡ true → (x && y && not z) ≡ false
    go true true z t = absurd (false≢true t)
    go true false z t = refl
    go false y z t = refl

-- ---- the kinds of slot from the word

module _ (l : ℕ) (set : Bool) (e : ℕ) where
  pub free-slot : e ≡ ones → slot_of l set e ≡ cond set Free Dead
  unfolding slot_of
  free-slot q = rw (eq-eqb e ones q)

  pub complete-slot : is_complete e ≡ true → slot_of l set e ≡ cond (ltb (e % 2 ^ 29) l) (Live (e % 2 ^ 29)) Faulty
  unfolding slot_of
  complete-slot c = rw (complete-in-use e c, c)

  pub passing-slot : is_passing e ≡ true → slot_of l set e ≡ cond (ltb (e % 2 ^ 29) l) (Live (e % 2 ^ 29)) Dead
  unfolding slot_of
  passing-slot p = rw (passing-in-use e p, passing-not-complete e p, p)

  pub other-slot : is_complete e ≡ false → is_passing e ≡ false → slot_of l set e ≡ cond (is_free_entry e) (cond set Free Dead) Dead
  unfolding slot_of
  other-slot c p = rw (c, p)

-- a complete entry of one of the numbers, as step (e) leaves it
pub complete-for : (l : ℕ) (set : Bool) (n : ℕ) → n < l → l ≤ 2 ^ 29 → slot_of l set (0xC0000000 + n) ≡ Live n
complete-for l set n h k =
    let low : (0xC0000000 + n) % 2 ^ 29 ≡ n = omega arith in
    complete-slot l set (0xC0000000 + n) (complete-is-6 (0xC0000000 + n) (omega arith) ∙ eq-eqb ((0xC0000000 + n) / 2 ^ 29) 6 (omega arith))
    ∙ rw (low, lt-ltb n l h)

-- one in passing, as step (b) leaves it
pub passing-for : (l : ℕ) (set : Bool) (n : ℕ) → n < l → l ≤ 2 ^ 29 → slot_of l set (0x80000000 + n) ≡ Live n
passing-for l set n h k =
    let low : (0x80000000 + n) % 2 ^ 29 ≡ n = omega arith in
    passing-slot l set (0x80000000 + n) (passing-is-4 (0x80000000 + n) (omega arith) ∙ eq-eqb ((0x80000000 + n) / 2 ^ 29) 4 (omega arith))
    ∙ rw (low, lt-ltb n l h)

-- an entry that is neither valid and finished nor in passing is dead once its map bit is clear: as steps (a) and (d) leave it
pub unfinished-dead : (l : ℕ) (e : ℕ) → e < 2 ^ 32 → e / 2 ^ 29 ≡ 7 → slot_of l false e ≡ Dead
unfinished-dead l e w seven =
    other-slot l false e
    (complete-is-6 e w ∙ ne_eqb (e / 2 ^ 29) 6 (λ same. omega arith))
    (passing-is-4 e w ∙ ne_eqb (e / 2 ^ 29) 4 (λ same. omega arith))
    ∙ go (is_free_entry e)
  where
    go : (f : Bool) → cond f Dead Dead ≡ Dead
    go true = refl
    go false = refl

-- all of them in the order in which the code asks
pub slot-tests :
    (l : ℕ) (set : Bool) (e : ℕ) →
    slot_of l set e
    ≡ cond (is_complete e || is_passing e)
    (cond (ltb (e % 2 ^ 29) l) (Live (e % 2 ^ 29)) (cond (is_complete e) Faulty Dead))
    (cond (eqb e ones) (cond set Free Dead) Dead)
slot-tests l set e = go (is_complete e) (is_passing e) refl refl
  where
    go :
        (c p : Bool) →
        is_complete e ≡ c →
        is_passing e ≡ p →
        slot_of l set e
        ≡ cond (c || p) (cond (ltb (e % 2 ^ 29) l) (Live (e % 2 ^ 29)) (cond c Faulty Dead)) (cond (eqb e ones) (cond set Free Dead) Dead)
    go true p c q = complete-slot l set e c
    go false true c q = passing-slot l set e q
    go false false c q = other-slot l set e c q

pub slot-word :
    (l : ℕ) (set : Bool) (e : ℕ) →
    e < 2 ^ 32 →
    slot_of l set e
    ≡ cond (eqb (e / 2 ^ 29) 6 || eqb (e / 2 ^ 29) 4)
    (cond (ltb (e % 2 ^ 29) l) (Live (e % 2 ^ 29)) (cond (eqb (e / 2 ^ 29) 6) Faulty Dead))
    (cond (eqb e ones) (cond set Free Dead) Dead)
slot-word l set e w = rw (← complete-is-6 e w, ← passing-is-4 e w) (slot-tests l set e)

-- an entry that is not valid is dead, whatever else it says: as step (f) and a release leave it
pub invalid-dead : (l : ℕ) (set : Bool) (e : ℕ) → is_set e valid_bit ≡ false → slot_of l set e ≡ Dead
unfolding is_complete is_passing bit
invalid-dead l set e q = other-slot l set e (rw q) (rw q) ∙ rw (ne_eqb e ones (λ same. true≢false (rw same at q)))

-- ---- and back

pub live-parts : (l : ℕ) (set : Bool) (e n : ℕ) → slot_of l set e ≡ Live n → ((is_complete e ≡ true) ⊎ (is_passing e ≡ true)) × (e % 2 ^ 29 ≡ n) × (n < l)
unfolding slot_of
live-parts l set e n q = go (eqb e ones) set (is_complete e) (is_passing e) (ltb (e % 2 ^ 29) l) refl refl refl q
  where
    go :
        (f s c p t : Bool) →
        is_complete e ≡ c →
        is_passing e ≡ p →
        ltb (e % 2 ^ 29) l ≡ t →
        cond f (cond s Free Dead) (cond c (cond t (Live (e % 2 ^ 29)) Faulty) (cond (p && t) (Live (e % 2 ^ 29)) Dead)) ≡ Live n →
        ((is_complete e ≡ true) ⊎ (is_passing e ≡ true)) × (e % 2 ^ 29 ≡ n) × (n < l)
    go true true c p t r r' h z = let x : ◌≡◌ {A = ℕ} 0 1 = cc in absurd (omega arith)
    go true false c p t r r' h z = let x : ◌≡◌ {A = ℕ} 0 1 = cc in absurd (omega arith)
    go false s true p true r r' h z = let same : e % 2 ^ 29 ≡ n = cc in (inl r, same, omega (arith, ltb-true (e % 2 ^ 29) l h))
    go false s true p false r r' h z = let x : ◌≡◌ {A = ℕ} 0 1 = cc in absurd (omega arith)
    go false s false true true r r' h z = let same : e % 2 ^ 29 ≡ n = cc in (inr r', same, omega (arith, ltb-true (e % 2 ^ 29) l h))
    go false s false true false r r' h z = let x : ◌≡◌ {A = ℕ} 0 1 = cc in absurd (omega arith)
    go false s false false t r r' h z = let x : ◌≡◌ {A = ℕ} 0 1 = cc in absurd (omega arith)

-- the tests of a slot as tests of its word
pub free-test : (l : ℕ) (set : Bool) (e : ℕ) → is_free (slot_of l set e) ≡ (is_free_entry e && set)
unfolding slot_of
free-test l set e = go (eqb e ones) set (is_complete e) (is_passing e) (ltb (e % 2 ^ 29) l)
  where
    go :
        (f s c p t : Bool) →
        is_free (cond f (cond s Free Dead) (cond c (cond t (Live (e % 2 ^ 29)) Faulty) (cond (p && t) (Live (e % 2 ^ 29)) Dead))) ≡ (f && s)
    go true true c p t = refl
    go true false c p t = refl
    go false s true p true = refl
    go false s true p false = refl
    go false s false true true = refl
    go false s false true false = refl
    go false s false false t = refl

-- a test that does not tell a free slot from a dead one does not look at the map bit
pub any-bit : {A : Type 0} (f : Slot → A) → f Free ≡ f Dead → (l : ℕ) (set set' : Bool) (e : ℕ) → f (slot_of l set e) ≡ f (slot_of l set' e)
unfolding slot_of
any-bit f same l set set' e = go (eqb e ones) set set'
  where
    go :
        (x s s' : Bool) →
        let rest = cond (is_complete e) (cond (ltb (e % 2 ^ 29) l) (Live (e % 2 ^ 29)) Faulty) (cond (is_passing e && ltb (e % 2 ^ 29) l) (Live (e % 2 ^ 29)) Dead) in
        f (cond x (cond s Free Dead) rest) ≡ f (cond x (cond s' Free Dead) rest)
    go true true true = refl
    go true true false = same
    go true false true = sym same
    go true false false = refl
    go false s s' = refl

-- a live entry with bit 30 cleared is this word, be it complete or in passing
pub live-cleared : (l : ℕ) (set : Bool) (e n : ℕ) → e < 2 ^ 32 → slot_of l set e ≡ Live n → cleared e current_bit ≡ 0x80000000 + n
unfolding bit
live-cleared l set e n w q =
    let parts = live-parts l set e n q in
    ⊎_elim
    (λ c.
    let six = eqb-true (e / 2 ^ 29) 6 (sym (complete-is-6 e w) ∙ c) in
    cleared-set e current_bit (omega arith) ∙ omega (arith, parts.1))
    (λ p.
    let four = eqb-true (e / 2 ^ 29) 4 (sym (passing-is-4 e w) ∙ p) in
    cleared-clear e current_bit (omega arith) ∙ omega (arith, parts.1))
    parts.0

-- superseded it is by other entries alone
pub never-superseded : (l : ℕ) (set : Bool) (e : ℕ) → slot_of l set e ≡ Superseded → ⊥
unfolding slot_of
never-superseded l set e q = go (eqb e ones) set (is_complete e) (is_passing e) (ltb (e % 2 ^ 29) l) q
  where
    go :
        (f s c p t : Bool) →
        cond f (cond s Free Dead) (cond c (cond t (Live (e % 2 ^ 29)) Faulty) (cond (p && t) (Live (e % 2 ^ 29)) Dead)) ≡ Superseded →
        ⊥
    go true true c p t z = let x : ◌≡◌ {A = ℕ} 0 1 = cc in omega arith
    go true false c p t z = let x : ◌≡◌ {A = ℕ} 0 1 = cc in omega arith
    go false s true p true z = let x : ◌≡◌ {A = ℕ} 0 1 = cc in omega arith
    go false s true p false z = let x : ◌≡◌ {A = ℕ} 0 1 = cc in omega arith
    go false s false true true z = let x : ◌≡◌ {A = ℕ} 0 1 = cc in omega arith
    go false s false true false z = let x : ◌≡◌ {A = ℕ} 0 1 = cc in omega arith
    go false s false false t z = let x : ◌≡◌ {A = ℕ} 0 1 = cc in omega arith

-- so an entry is live for n, one of the numbers, exactly when it is that word then
pub live_test : (l : ℕ) (set : Bool) (e n : ℕ) → e < 2 ^ 32 → n < l → l ≤ 2 ^ 29 → is_live_for n (slot_of l set e) ≡ eqb (cleared e current_bit) (0x80000000 + n)
live_test l set e n w h k = go (eqb (cleared e current_bit) (0x80000000 + n)) refl
  where
    other : (s : Slot) → slot_of l set e ≡ s → (cleared e current_bit ≡ 0x80000000 + n → ⊥) → is_live_for n s ≡ false
    other Free p q = refl
    other (Live m) p q = ne_eqb m n (λ same. q (live-cleared l set e m w p ∙ ap (0x80000000 +◌) same))
    other Dead p q = refl
    other Faulty p q = refl
    other Superseded p q = refl

    is_live : (w : ℕ) → e ≡ w → slot_of l set w ≡ Live n → is_live_for n (slot_of l set e) ≡ true
    is_live w same s = rw (same, s) (eq-eqb n n refl)

    go : (b : Bool) → eqb (cleared e current_bit) (0x80000000 + n) ≡ b → is_live_for n (slot_of l set e) ≡ b
    go true p =
        let q = eqb-true (cleared e current_bit) (0x80000000 + n) p in
        ⊎_elim
        (λ c. is_live (0x80000000 + n) (sym (cleared-clear e current_bit c) ∙ q) (passing-for l set n h k))
        (λ c. is_live (0xC0000000 + n) (omega (arith, sym (cleared-set e current_bit c) ∙ q, bit_le e current_bit c)) (complete-for l set n h k))
        (bit-cases e current_bit)
    go false p = other (slot_of l set e) refl (eqb-false (cleared e current_bit) (0x80000000 + n) p)
