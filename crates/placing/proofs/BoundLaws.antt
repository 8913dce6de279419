-- The first and the last index at which a test passes, when it passes at one index more; and of the numbers live in the slots that a loop has
-- passed. Assumes nothing.
use mathlib.Core.Path.{◌≡◌, refl, sym, ap, ap₂, ◌∙◌}
use mathlib.Core.Bool.{Bool, true, false, ◌||◌, or-true, or-false, true≢false}
use Prim.Native.Nat.{ℕ, ◌+◌, ◌<◌, ◌≤◌, min, max}
use native.Mathlib.Decide.{dec_lt}
use native.Mathlib.Omega.{arith}
use native.Mathlib.Numerals.{add-one}
use borrow.Author.Tests.{eq-eqb, ne_eqb, lt-ltb, le-ltb}
use Rattle.std.specs.Prelude.{Option, Some, None, is_some, unwrap_or}
use Rattle.ranges.specs.Range.{or_at, any_below, first_below, last_below}
use Rattle.ranges.proofs.Searches.{best-passes, best-some, best_none, best-le, best-ext, first-before, first-is, last-after, last-is}
use Rattle.ranges.proofs.Tests.{any-ext}
use Rattle.geometry.specs.declared.Geometry.{Geometry}
use Rattle.geometry.specs.Geometry.{d}
use Rattle.image.specs.declared.Slot.{Slot}
use Rattle.image.specs.declared.Slot.TheVariants.{Free, Live, Dead, Faulty, Superseded}
use Rattle.image.specs.Live.{live_number}
use Rattle.image.specs.Words.{Image}
use Rattle.image.specs.Slots.{own_slot, is_live_for}
use Rattle.image.specs.WellFormed.{NoneSuperseded}
use Rattle.image.proofs.Own.{each-own}
use Rattle.flash.specs.declared.LiveBounds.{LiveBounds}
use Rattle.flash.specs.Placing.{least_live, greatest_live, live_bounds}
use Rattle.placing.specs.Bounds.{bounds_of, bounds_below, live_among, bounds_among}

module _ (m : ℕ) (f : ℕ → Bool) {n : ℕ} (l : n < m) where
  -- it passes at n, and where the test does
  passes-new : {x : ℕ} → x ≡ n → or_at f n x ≡ true
  passes-new {x} e = rw (eq-eqb n x (sym e)) (or-true (f x))

  passes-old : {x : ℕ} → f x ≡ true → or_at f n x ≡ true
  passes-old t = rw t

  -- and nowhere else
  fails : {x : ℕ} → f x ≡ false → (n ≡ x → ⊥) → or_at f n x ≡ false
  fails {x} t e = rw (t, ne_eqb n x e)

  -- the first is the smaller of the first and n
  pub first_more : first_below m (or_at f n) ≡ min (first_below m f) n
  first_more =
      first-is m (or_at f n) (min (first_below m f) n) (omega arith)
      (λ i k. fails (first-before m f (omega arith)) (omega arith))
      (λ k. go (dec_lt (first_below m f) n))
    where
      go : Dec (first_below m f < n) → or_at f n (min (first_below m f) n) ≡ true
      go (yes h) =
          let same : min (first_below m f) n ≡ first_below m f = omega arith in
          passes-old (ap f same ∙ best-passes (λ i r. false) m f (omega arith))
      go (no h) = passes-new (omega arith)

  -- the last is n where the test passes at none
  pub last_one : first_below m f ≡ m → last_below m (or_at f n) ≡ n
  last_one e =
      last-is m (or_at f n) n l (passes-new refl) (λ i k h. fails (first-before m f (omega arith)) (omega arith))

  -- and else the greater of the last and n
  pub last_more : first_below m f < m → last_below m (or_at f n) ≡ max (last_below m f) n
  last_more h =
      let found = best-some (λ i r. true) m f h (best-passes (λ i r. false) m f h) in
      last-is m (or_at f n) (max (last_below m f) n) (omega arith)
      (go found (dec_lt n (last_below m f)))
      (λ i k q. fails (last-after m f (omega arith) q) (omega arith))
    where
      go : last_below m f < m → Dec (n < last_below m f) → or_at f n (max (last_below m f) n) ≡ true
      go found (yes h) =
          let same : max (last_below m f) n ≡ last_below m f = omega arith in
          passes-old (ap f same ∙ best-passes (λ i r. true) m f found)
      go found (no h) = passes-new (omega arith)

-- both, of two tests that pass at the same numbers
pub bounds-ext : (m : ℕ) {f g : ℕ → Bool} → ((n : ℕ) → n < m → f n ≡ g n) → bounds_of m f ≡ bounds_of m g
bounds-ext m same =
    ap₂ (λ (x y : ℕ). record { least = x; greatest = y }) (best-ext m same (λ i r l k. refl)) (best-ext m same (λ i r l k. refl))

-- where the first is m, it passes at none
first_none : (m : ℕ) (f : ℕ → Bool) → m ≤ first_below m f → (i : ℕ) → i < m → f i ≡ false
first_none m f e i l = first-before m f (omega arith)

-- ---- bounds, if some number passes

module _ (m : ℕ) (bounds : LiveBounds) where
  pub bounds-found : {x : LiveBounds} → x ≡ bounds → bounds.least < m → Some x ≡ bounds_below m bounds
  bounds-found e l = rw (e, lt-ltb bounds.least m l)

  -- and back: what an answer says of them
  pub bounds-some : {x : LiveBounds} → Some x ≡ bounds_below m bounds → (x ≡ bounds) × (bounds.least < m)
  bounds-some {x} e = go (dec_lt bounds.least m)
    where
      value : Option LiveBounds → LiveBounds
      value (Some b) = b
      value None = bounds

      go : Dec (bounds.least < m) → (x ≡ bounds) × (bounds.least < m)
      go (yes l) = (ap value (rw (lt-ltb bounds.least m l) at e), l)
      go (no l) = absurd (true≢false (ap is_some (rw (le-ltb bounds.least m (omega arith)) at e)))

  pub bounds-none : None ≡ bounds_below m bounds → m ≤ bounds.least
  bounds-none e = go (dec_lt bounds.least m)
    where
      go : Dec (bounds.least < m) → m ≤ bounds.least
      go (yes l) = absurd (true≢false (sym (ap is_some (rw (lt-ltb bounds.least m l) at e))))
      go (no l) = omega arith

-- with m for both where none does, they are the bounds again
pub bounds-or : (m : ℕ) (f : ℕ → Bool) {live : Option LiveBounds} → live ≡ bounds_below m (bounds_of m f) → unwrap_or live (record { least = m; greatest = m }) ≡ bounds_of m f
bounds-or m f {live = Some x} e = (bounds-some m (bounds_of m f) e).0
bounds-or m f {live = None} e =
    let none = first_none m f (bounds-none m (bounds_of m f) e) in
    ap₂ (λ (x y : ℕ). record { least = x; greatest = y }) (sym (best_none _ m f none)) (sym (best_none _ m f none))

-- ---- of the numbers live in the slots that a loop has passed

-- a slot that has no live number is live for no number
pub live-not : (s : Slot) → ((n : ℕ) → Some n ≡ live_number s → ⊥) → (n : ℕ) → is_live_for n s ≡ false
live-not Free e n = refl
live-not (Live m) e n = absurd (e m refl)
live-not Dead e n = refl
live-not Faulty e n = refl
live-not Superseded e n = refl

-- what a loop over slots has of the numbers below m that pass: the first, or m; and the last, or 0
pub record Passed (m : ℕ) (f : ℕ → Bool) (least greatest : ℕ) : Type 0 where
  pub first : least ≡ first_below m f
  pub last : first_below m f < m → greatest ≡ last_below m f
  pub none : m ≤ first_below m f → greatest ≡ 0

-- before the first slot
pub none-live : (m : ℕ) (slots : ℕ → Slot) → Passed m (live_among slots 0) m 0
unfolding any_below
none-live m slots =
    let no : first_below m (live_among slots 0) ≡ m = best_none (λ i r. false) m (live_among slots 0) (λ i l. refl) in
    record { first = sym no; last = λ h. absurd (omega (arith, no, h)); none = λ h. refl }

module _ (m : ℕ) (slots : ℕ → Slot) (i : ℕ) {least greatest : ℕ} (before : Passed m (live_among slots i) least greatest) where
  -- the slots passed and this one
  one_more : (n : ℕ) → live_among slots (i + 1) n ≡ (live_among slots i n || is_live_for n (slots i))
  unfolding any_below
  one_more n = rw add-one

  -- one slot more that is live
  pub with-live : {n : ℕ} → slots i ≡ Live n → n < m → Passed m (live_among slots (i + 1)) (min n least) (max n greatest)
  with-live {n} e l =
      let all = bounds-ext m (λ x l. sym (one_more x ∙ ap (λ (s : Slot). live_among slots i x || is_live_for x s) e)) in
      let first = ap (λ (b : LiveBounds). b.least) all in
      let last = ap (λ (b : LiveBounds). b.greatest) all in
      let lower = first_more m (live_among slots i) l in
      record {
        first = omega (arith, before.first, lower, first);
        last = λ h. omega (arith, last, go (dec_lt (first_below m (live_among slots i)) m));
        none = λ h. absurd (omega (arith, lower, first, l, h));
      }
    where
      go : Dec (first_below m (live_among slots i) < m) → max n greatest ≡ last_below m (or_at (live_among slots i) n)
      go (yes k) = omega (arith, before.last k, last_more m (live_among slots i) l k)
      go (no k) =
          let same : first_below m (live_among slots i) ≡ m = omega (arith, best-le (λ x r. false) m (live_among slots i)) in
          omega (arith, before.none (omega (arith, same)), last_one m (live_among slots i) l same)

  -- one slot more that is not
  pub without : {s : Slot} → slots i ≡ s → ((n : ℕ) → is_live_for n s ≡ false) → Passed m (live_among slots (i + 1)) least greatest
  without e none =
      let all = bounds-ext m (λ x l. sym (one_more x ∙ rw (e, none x) (or-false (live_among slots i x)))) in
      let first = ap (λ (b : LiveBounds). b.least) all in
      let last = ap (λ (b : LiveBounds). b.greatest) all in
      record {
        first = before.first ∙ first;
        last = λ h. before.last (omega (arith, first, h)) ∙ last;
        none = λ h. before.none (omega (arith, first, h));
      }

-- ---- of a block

-- where no slot is superseded, by the slots' own entries
pub own-bounds :
    (geo : Geometry) (image : Image) (b : ℕ) →
    NoneSuperseded geo image →
    b < geo.blocks →
    bounds_among geo (own_slot geo image b) ≡ bounds_below geo.logical (live_bounds geo image b)
unfolding least_live greatest_live
own-bounds geo image b none l =
    ap (bounds_below geo.logical) (bounds-ext geo.logical (λ n k. any-ext (d geo) (λ i h. ap (is_live_for n) (sym (each-own none l h)))))
