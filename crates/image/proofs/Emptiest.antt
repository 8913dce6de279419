-- The block that a repair empties (K4 (iv)), by the live slots of the full blocks: when it is the victim, when a block is it, and what leaves it be.
-- Assumes nothing.
use mathlib.Core.Path.{◌≡◌, refl, sym, ap₂, ◌∙◌}
use mathlib.Core.Logic.{◌⊎◌, inl, inr, ⊎_elim, dite, ◌≢◌}
use mathlib.Core.Bool.{Bool, true, false, ◌&&◌, ◌||◌, true≢false}
use Prim.Native.Nat.{ℕ, ◌+◌, ◌<◌, ◌≤◌}
use native.Mathlib.Nat.{le_refl}
use native.Mathlib.Decide.{ℕ_discrete}
use native.Mathlib.Omega.{arith}
use lib.Dec.{ltb, eqb}
use borrow.Author.Tests.{eq-eqb, ne_eqb, eqb-true, eqb-false, lt-ltb, le-ltb, ltb-true, ltb-false}
use Rattle.ranges.proofs.Tests.{unless, both-pass, either-passes}
use Rattle.ranges.proofs.Searches.{best-passes, best-alike, best-ext, Foremost, best-is, best-foremost}
use Rattle.geometry.specs.declared.Geometry.{Geometry}
use Rattle.geometry.specs.Geometry.{d}
use Rattle.image.specs.Words.{Image, erase_count}
use Rattle.image.specs.Slots.{slot, is_faulty}
use Rattle.image.specs.Blocks.{full, free_slots, live_slots, dead_slots, victim}
use Rattle.image.specs.WellFormed.{NoneSuperseded}
use Rattle.image.specs.Mending.{emptier, emptiest}
use Rattle.image.proofs.Reading.{full-count}
use Rattle.image.proofs.Capacity.{all-parts}

-- ---- less of one number, or as much of it and less of another: as a fact, and as the test that `emptier` and `preferred` are

not-below : {x y : ℕ} → (x < y → ⊥) → y ≤ x
not-below n = omega arith

abbrev Less : ℕ → ℕ → ℕ → ℕ → Type 0
Less x y p q = (x < y) ⊎ ((x ≡ y) × (p < q))

abbrev less : ℕ → ℕ → ℕ → ℕ → Bool
less x y p q = ltb x y || eqb x y && ltb p q

less-is : (x y p q : ℕ) → less x y p q ≡ true → Less x y p q
less-is x y p q t =
    ⊎_elim
    (λ e. inl (ltb-true x y e))
    (λ e. let both = both-pass (eqb x y) (ltb p q) e in inr (eqb-true x y both.0, ltb-true p q both.1))
    (either-passes (ltb x y) (eqb x y && ltb p q) t)

less-tests : (x y p q : ℕ) → Less x y p q → less x y p q ≡ true
less-tests x y p q (inl l) = rw (lt-ltb x y l)
less-tests x y p q (inr (e, l)) = rw (le-ltb x y (omega arith), eq-eqb x y e, lt-ltb p q l)

less-fails : (x y p q : ℕ) → less x y p q ≡ false → Less x y p q → ⊥
less-fails x y p q f l = true≢false (sym (less-tests x y p q l) ∙ f)

-- it passes on: through one between, and over one that has no less
less-through : (x y z p q r : ℕ) → less x y p q ≡ true → less y z q r ≡ true → less x z p r ≡ true
less-through x y z p q r s t = less-tests x z p r (go (less-is x y p q s) (less-is y z q r t))
  where
    go : Less x y p q → Less y z q r → Less x z p r
    go (inl l) (inl k) = inl (omega arith)
    go (inl l) (inr k) = inl (omega arith)
    go (inr l) (inl k) = inl (omega arith)
    go (inr l) (inr k) = inr (omega arith, omega arith)

less-over : (x y z p q r : ℕ) → less x z p r ≡ true → less y z q r ≡ false → less x y p q ≡ true
less-over x y z p q r s f = less-tests x y p q (go (less-is x z p r s) (ℕ_discrete x y))
  where
    not-less : Less y z q r → ⊥
    not-less = less-fails y z q r f

    no-fewer : z ≤ y
    no-fewer = not-below (λ l. not-less (inl l))

    go : Less x z p r → Dec (x ≡ y) → Less x y p q
    go (inl l) e = inl (omega (arith, no-fewer))
    go (inr l) (no n) = inl (omega (arith, no-fewer))
    go (inr l) (yes e) = inr (e, omega (arith, not-below {x = q} {y = r} (λ k. not-less (inr (omega arith, k)))))

-- and it stays where the one has less than before, or the other more
less-wider : {x x' y y' p q : ℕ} → x' ≤ x → y ≤ y' → Less x y p q → Less x' y' p q
less-wider low high (inl l) = inl (omega arith)
less-wider {x' = x'} {y' = y'} low high (inr l) = dite (ℕ_discrete x' y') (λ e. inr (e, omega arith)) (λ n. inl (omega arith))

-- so where the one falls, the test passes still; and where the other does, it fails still
less-lower : (x x' y p q : ℕ) → x' ≤ x → less x y p q ≡ true → less x' y p q ≡ true
less-lower x x' y p q low t = less-tests x' y p q (less-wider low (le_refl y) (less-is x y p q t))

less-not-lower : (x y y' p q : ℕ) → y' ≤ y → less x y p q ≡ false → less x y' p q ≡ false
less-not-lower x y y' p q low f =
    unless (less x y' p q) (λ t. less-fails x y p q f (less-wider (le_refl x) low (less-is x y' p q t)))

-- two numbers that fill up the same sum with two others are ordered the other way round
less-rest : (x x' y y' n p q : ℕ) → x + y ≡ n → x' + y' ≡ n → less y' y p q ≡ less x x' p q
less-rest x x' y y' n p q e e' = ap₂ (λ (s t : Bool). s || t && ltb p q) (below (ltb x x') refl) (same (eqb x x') refl)
  where
    below : (b : Bool) → ltb x x' ≡ b → ltb y' y ≡ b
    below true t = lt-ltb y' y (omega (arith, ltb-true x x' t))
    below false t = le-ltb y' y (omega (arith, ltb-false x x' t))

    same : (b : Bool) → eqb x x' ≡ b → eqb y' y ≡ b
    same true t = eq-eqb y' y (omega (arith, eqb-true x x' t))
    same false t = ne_eqb y' y (λ h. eqb-false x x' t (omega arith))

module _ (geo : Geometry) (image : Image) where
  -- ---- the victim

  -- in a full block without a superseded slot or a faulty one the slots that are not dead are live
  module _
      (current : NoneSuperseded geo image)
      (proper : (b i : ℕ) → b < geo.blocks → i < d geo → is_faulty (slot geo image b i) ≡ false) where
    full-parts : (b : ℕ) → b < geo.blocks → full geo image b ≡ true → live_slots geo image b + dead_slots geo image b ≡ d geo
    full-parts b l f =
        omega (
          arith,
          all-parts geo image b (λ i h. proper b i l h) (λ i h. current.none b i l h),
          eqb-true (free_slots geo image b) 0 (sym (full-count geo image b) ∙ f),
        )

    pub victim-emptiest : victim geo image ≡ emptiest geo image
    unfolding victim emptiest
    victim-emptiest =
        best-alike geo.blocks (λ b l. refl)
        (λ b r l m f f'.
        less-rest (live_slots geo image b) (live_slots geo image r) (dead_slots geo image b) (dead_slots geo image r) (d geo) (erase_count geo image b)
        (erase_count geo image r) (full-parts b l f) (full-parts r m f'))

  -- ---- which block it is

  pub emptiest-is :
      (v : ℕ) →
      v < geo.blocks →
      full geo image v ≡ true →
      Foremost (emptier geo image) geo.blocks (full geo image) v →
      emptiest geo image ≡ v
  unfolding emptiest
  emptiest-is v l f foremost = best-is (emptier geo image) geo.blocks (full geo image) v l f foremost

  pub emptiest-full : (v : ℕ) → emptiest geo image ≡ v → v < geo.blocks → full geo image v ≡ true
  unfolding emptiest
  emptiest-full v e l = rw e at (best-passes (emptier geo image) geo.blocks (full geo image) (rw e l))

  pub emptiest-foremost :
      (v : ℕ) → emptiest geo image ≡ v → v < geo.blocks → Foremost (emptier geo image) geo.blocks (full geo image) v
  unfolding emptiest
  emptiest-foremost v e l =
      rw e at
      (best-foremost (emptier geo image)
      (λ i j k. less-through (lives i) (lives j) (lives k) (counts i) (counts j) (counts k))
      (λ i j k. less-over (lives i) (lives j) (lives k) (counts i) (counts j) (counts k))
      geo.blocks (full geo image) (rw e l))
    where
      lives : ℕ → ℕ
      lives = live_slots geo image

      counts : ℕ → ℕ
      counts = erase_count geo image

-- ---- in two images

module _
    (geo : Geometry)
    (image after : Image)
    (fulls : (b : ℕ) → b < geo.blocks → full geo after b ≡ full geo image b)
    (counts : (b : ℕ) → b < geo.blocks → erase_count geo after b ≡ erase_count geo image b) where
  -- as many live slots in each block
  pub emptiest-alike :
      ((b : ℕ) → b < geo.blocks → live_slots geo after b ≡ live_slots geo image b) → emptiest geo after ≡ emptiest geo image
  unfolding emptiest
  emptiest-alike lives =
      best-ext geo.blocks fulls (λ b r l m. rw (lives b l, lives r m, counts b l, counts r m))

  -- no more in the emptiest block, and as many in the other full ones
  pub emptiest-lower :
      (v : ℕ) →
      emptiest geo image ≡ v →
      v < geo.blocks →
      ((b : ℕ) → b < geo.blocks → b ≢ v → full geo image b ≡ true → live_slots geo after b ≡ live_slots geo image b) →
      live_slots geo after v ≤ live_slots geo image v →
      emptiest geo after ≡ v
  emptiest-lower v e l others fewer =
      emptiest-is geo after v l (fulls v l ∙ emptiest-full geo image v e l) (beats-before, beaten-by-none)
    where
      foremost : Foremost (emptier geo image) geo.blocks (full geo image) v
      foremost = emptiest-foremost geo image v e l

      kept : (c : ℕ) → c < geo.blocks → c ≢ v → full geo after c ≡ true → live_slots geo after c ≡ live_slots geo image c
      kept c m n f = others c m n (sym (fulls c m) ∙ f)

      beats-before : (c : ℕ) → c < v → full geo after c ≡ true → emptier geo after v c ≡ true
      beats-before c h f =
          let m : c < geo.blocks = omega arith in
          rw (kept c m (omega arith) f, counts c m, counts v l)
          (less-lower (live_slots geo image v) (live_slots geo after v) (live_slots geo image c) (erase_count geo image v) (erase_count geo image c) fewer
          (foremost.0 c h (sym (fulls c m) ∙ f)))

      beaten-by-none : (c : ℕ) → v < c → c < geo.blocks → full geo after c ≡ true → emptier geo after c v ≡ false
      beaten-by-none c h m f =
          rw (kept c m (omega arith) f, counts c m, counts v l)
          (less-not-lower (live_slots geo image c) (live_slots geo image v) (live_slots geo after v) (erase_count geo image c) (erase_count geo image v) fewer
          (foremost.1 c h m (sym (fulls c m) ∙ f)))
