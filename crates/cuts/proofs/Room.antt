-- Why a repair has room for what is live in the block that it empties: cuts against free slots. Assumes nothing.
use mathlib.Core.Path.{◌≡◌, sym, ap, ◌∙◌}
use mathlib.Core.Logic.{◌≢◌, dite}
use mathlib.Core.Bool.{true, false, true≢false}
use Prim.Native.Nat.{ℕ, ◌+◌, ◌<◌, ◌≤◌}
use native.Mathlib.Decide.{ℕ_discrete}
use native.Mathlib.Omega.{arith}
use borrow.Author.Tests.{eqb-true, ne_eqb}
use Rattle.ranges.proofs.Tests.{none_of, any_of}
use Rattle.ranges.proofs.Searches.{first-is}
use Rattle.geometry.specs.declared.Geometry.{Geometry}
use Rattle.geometry.specs.Geometry.{Limits, d, g}
use Rattle.geometry.proofs.Laws.{d-positive}
use Rattle.image.specs.Words.{Image, erase_count}
use Rattle.image.specs.Blocks.{blank, full, is_open, free_slots, live_slots, lowest_open}
use Rattle.image.specs.WellFormed.{ceiling, R6}
use Rattle.image.specs.Mending.{emptiest}
use Rattle.image.proofs.Reading.{blank-count, full-count}
use Rattle.image.proofs.Emptiest.{emptiest-alike, emptiest-lower}
use Rattle.flash.specs.Writing.{any_open}
use Rattle.cuts.proofs.InCopy.{InCopy}

-- a block with a free slot is not full, and one without is
pub free_open : (geo : Geometry) (image : Image) (b : ℕ) → 1 ≤ free_slots geo image b → full geo image b ≡ false
free_open geo image b l = full-count geo image b ∙ ne_eqb (free_slots geo image b) 0 (λ e. omega arith)

-- with a slot in it, a full block is not blank
pub full-not-blank : (geo : Geometry) (image : Image) → Limits geo → (b : ℕ) → full geo image b ≡ true → blank geo image b ≡ false
full-not-blank geo image within b t =
    let none = eqb-true (free_slots geo image b) 0 (sym (full-count geo image b) ∙ t) in
    blank-count geo image b ∙ ne_eqb (free_slots geo image b) (d geo) (λ e. omega (arith, d-positive geo within, none))

-- No block is blank, block t alone is open, and v is the block that a repair empties. Of the slots of t at most c are neither free nor live, and as many
-- slots as are live in v and t together leave g over: so t has room for what is live in v while c is not above g.
pub record Room (geo : Geometry) (c : ℕ) (image : Image) (v t : ℕ) : Type 0 where
  pub victim_in : v < geo.blocks
  pub target_in : t < geo.blocks
  pub apart : v ≢ t
  pub not-blank : blank geo image t ≡ false
  pub not_full : full geo image t ≡ false
  pub others-full : (b : ℕ) → b < geo.blocks → b ≢ t → full geo image b ≡ true
  pub first : emptiest geo image ≡ v
  pub below : erase_count geo image v < ceiling
  pub few : live_slots geo image v + live_slots geo image t + g geo ≤ d geo
  pub wasted : d geo ≤ free_slots geo image t + live_slots geo image t + c

module _ (geo : Geometry) (within : Limits geo) {c : ℕ} {image : Image} {v t : ℕ} (r : Room geo c image v t) where
  -- there is room
  pub room-enough : c ≤ g geo → live_slots geo image v ≤ free_slots geo image t
  room-enough l = omega (arith, r.few, r.wasted)

  -- no block is blank
  pub room-none-blank : R6 geo image ≡ false
  unfolding R6
  room-none-blank =
      none_of geo.blocks
      (λ b l.
      dite (ℕ_discrete b t)
      (λ e. ap (blank geo image) e ∙ r.not-blank)
      (λ n. full-not-blank geo image within b (r.others-full b l n)))

  -- block t is the first open one
  pub room_open : is_open geo image t ≡ true
  room_open = rw (r.not-blank, r.not_full)

  shut : (b : ℕ) → b < geo.blocks → b ≢ t → is_open geo image b ≡ false
  shut b l n = rw (full-not-blank geo image within b (r.others-full b l n), r.others-full b l n)

  pub room-any-open : any_open geo image ≡ true
  room-any-open = any_of geo.blocks (is_open geo image) r.target_in room_open

  pub room-lowest : lowest_open geo image ≡ t
  unfolding lowest_open
  room-lowest =
      let inside = r.target_in in
      first-is geo.blocks (is_open geo image) t (omega arith) (λ b l. shut b (omega arith) (λ e. omega arith)) (λ l. room_open)

  -- an image with the same counts of every block has the same room
  pub room-same :
      (now : Image) →
      ((b : ℕ) → b < geo.blocks → full geo now b ≡ full geo image b) →
      ((b : ℕ) → b < geo.blocks → blank geo now b ≡ blank geo image b) →
      ((b : ℕ) → b < geo.blocks → free_slots geo now b ≡ free_slots geo image b) →
      ((b : ℕ) → b < geo.blocks → live_slots geo now b ≡ live_slots geo image b) →
      ((b : ℕ) → b < geo.blocks → erase_count geo now b ≡ erase_count geo image b) →
      Room geo c now v t
  room-same now fulls blanks frees lives counts =
      record {
        victim_in = r.victim_in;
        target_in = r.target_in;
        apart = r.apart;
        not-blank = blanks t r.target_in ∙ r.not-blank;
        not_full = fulls t r.target_in ∙ r.not_full;
        others-full = λ b l n. fulls b l ∙ r.others-full b l n;
        first = emptiest-alike geo image now fulls counts lives ∙ r.first;
        below = rw (counts v r.victim_in) r.below;
        few = omega (arith, lives v r.victim_in, lives t r.target_in, r.few);
        wasted = omega (arith, frees t r.target_in, lives t r.target_in, r.wasted);
      }

-- on the way through the copying of v into t: one slot more may be taken for nothing. Here t may have been blank at the start, if a slot of it is taken now
pub room-copy :
    (geo : Geometry) (image now : Image) (v t c : ℕ) →
    v < geo.blocks →
    t < geo.blocks →
    v ≢ t →
    ((b : ℕ) → b < geo.blocks → b ≢ t → full geo image b ≡ true) →
    full geo image t ≡ false →
    emptiest geo image ≡ v →
    erase_count geo image v < ceiling →
    live_slots geo image v + live_slots geo image t + g geo ≤ d geo →
    d geo ≤ free_slots geo image t + live_slots geo image t + c →
    c + 1 ≤ g geo →
    InCopy geo image v t now →
    blank geo now t ≡ false →
    Room geo (c + 1) now v t
room-copy geo image now v t c v-in t-in apart fulls was-open first below few wasted enough p taken =
    let left : 1 ≤ free_slots geo now t = omega (arith, p.left, few, wasted) in
    let not_full = free_open geo now t left in
    let same_full : (b : ℕ) → b < geo.blocks → full geo now b ≡ full geo image b =
    λ b l. dite (ℕ_discrete b t) (λ e. rw e (not_full ∙ sym was-open)) (λ n. p.fulls b l n) in
    record {
      victim_in = v-in;
      target_in = t-in;
      apart = apart;
      not-blank = taken;
      not_full = not_full;
      others-full = λ b l n. p.fulls b l n ∙ fulls b l n;
      first =
          emptiest-lower geo image now same_full p.counts v first v-in
          (λ b l n f. p.lives b l n (λ e. true≢false (sym (ap (full geo image) (sym e) ∙ f) ∙ was-open)))
          p.fewer;
      below = rw (p.counts v v-in) below;
      few = omega (arith, p.moved, few);
      wasted = omega (arith, p.wasted, wasted);
    }
