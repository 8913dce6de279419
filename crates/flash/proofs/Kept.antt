-- What a placing keeps: the image stays sound, the map is the old one with n set, a right table stays right, one slot fewer is free.
-- Assumes nothing.
use mathlib.Core.Path.{◌≡◌, sym, ap, ◌∙◌}
use mathlib.Core.Logic.{◌≢◌, ⊎_elim}
use mathlib.Core.Bool.{true, false, true≢false}
use mathlib.Core.List.{List}
use mathlib.Core.Option.{some}
use Prim.Native.Nat.{ℕ, ◌+◌, ◌*◌, ◌<◌, ◌≤◌}
use native.Mathlib.Decide.{ℕ_discrete}
use native.Mathlib.Omega.{arith}
use Rattle.ranges.specs.Range.{one_if, sum_below, first_below, last_below}
use Rattle.ranges.proofs.Tests.{any_of}
use Rattle.ranges.proofs.Sums.{sum-pairs-update}
use Rattle.ranges.proofs.Searches.{best-le, first-before, last-after}
use Rattle.bits.specs.Word.{ones}
use Rattle.geometry.specs.declared.Geometry.{Geometry}
use Rattle.geometry.specs.Geometry.{Limits, d, k}
use Rattle.geometry.proofs.Laws.{logical-small}
use Rattle.image.specs.declared.Slot.{Slot}
use Rattle.image.specs.declared.Slot.TheVariants.{Free, Live}
use Rattle.image.specs.Found.{At}
use Rattle.image.specs.Words.{Image, least_mapped, greatest_mapped, map_bit}
use Rattle.image.specs.Slots.{slot, is_free, is_live_for, live_in, find, map_of}
use Rattle.image.specs.Blocks.{full, free_slots}
use Rattle.image.proofs.Own.{live-number}
use Rattle.image.specs.WellFormed.{R2}
use Rattle.image.proofs.Facts.{Sound, live-is-for, map-agrees}
use Rattle.image.proofs.Finding.{map_at}
use Rattle.tables.specs.Tables.{right_table, noted}
use Rattle.tables.proofs.Laws.{right-noted}
use Rattle.flash.specs.Placing.{least_live, greatest_live}
use Rattle.flash.proofs.Filling.{Ready, Target}
use Rattle.flash.proofs.Changed.{Renewed, renewed}
use Rattle.flash.proofs.Changed as kinds
use Rattle.flash.proofs.Taken.{Taken, Readings, renewed-taken}
use Rattle.flash.proofs.Taken as rules
use Rattle.flash.proofs.Placed.{Placed, Bounds}

-- the numbers live in a block lie between the least and the greatest of them
pub live-between :
    (geo : Geometry) (image : Image) (b i n : ℕ) →
    i < d geo →
    slot geo image b i ≡ Live n →
    (least_live geo image b ≤ n) × (n ≤ greatest_live geo image b)
unfolding least_live greatest_live
live-between geo image b i n h e =
    let known = live-number geo image b i e in
    let lives = any_of (d geo) (λ i. is_live_for n (slot geo image b i)) h (live-is-for e) in (
      at_most (first_below geo.logical (live_in geo image b)) n (λ q. true≢false (sym lives ∙ first-before geo.logical (live_in geo image b) q)),
      at_most n (last_below geo.logical (live_in geo image b)) (λ q. true≢false (sym lives ∙ last-after geo.logical (live_in geo image b) q known)),
    )
  where
    at_most : (x y : ℕ) → (y < x → ⊥) → x ≤ y
    at_most x y f = omega arith

module _
    (geo : Geometry) (image after : Image) (n : ℕ) (ws : List ℕ) (b i : ℕ)
    (ready : Ready geo image)
    (target : Target geo image n ws b i)
    (p : Placed geo image after n ws b i)
  where
    s : Sound geo image
    s = ready.sound

    free : slot geo image b i ≡ Free
    free = target.free

    change : Renewed geo image (slot geo after) n b i
    change = renewed p.changed

    pub live-before : (m c j : ℕ) → c < geo.blocks → j < d geo → m ≢ n → slot geo after c j ≡ Live m → slot geo image c j ≡ Live m
    live-before = kinds.live-before geo image (slot geo after) n b i s change

    pub only_here : (c j : ℕ) → c < geo.blocks → j < d geo → slot geo after c j ≡ Live n → (c ≡ b) × (j ≡ i)
    only_here = kinds.only_here geo image (slot geo after) n b i s change

    taken-kinds : Taken geo image (slot geo after) b i
    taken-kinds = renewed-taken geo image (slot geo after) n b i s change

    same-readings : Readings geo image after b i
    same-readings = record { counts = p.counts; map-here = p.map-here; map_other = p.map_other; contents-other = p.contents-other }

    -- a slot is free as before, but for the one that was taken
    pub free-as-before : (c j : ℕ) → c < geo.blocks → j < d geo → (c ≡ b → j ≡ i → ⊥) → is_free (slot geo after c j) ≡ is_free (slot geo image c j)
    free-as-before = taken-kinds.free-same

    pub full-as-before : (c : ℕ) → c < geo.blocks → c ≢ b → full geo after c ≡ full geo image c
    full-as-before = rules.full-as-before geo image after b i taken-kinds

    -- ---- the rules

    within : Limits geo
    within = ready.shaped.limits

    map-kept : (c j : ℕ) → c < geo.blocks → j < d geo → map_bit geo after c j ≡ is_free (slot geo after c j)
    map-kept = rules.map-kept geo image after b i within target.slot_is s same-readings taken-kinds

    rest-kept : (c j : ℕ) → c < geo.blocks → d geo ≤ j → j < 32 * k geo → map_bit geo after c j ≡ true
    rest-kept = rules.rest-kept geo image after b i within target.slot_is s same-readings taken-kinds

    pub maps-kept : (c : ℕ) → c < geo.blocks → R2 geo after c ≡ true
    maps-kept c l = map-agrees geo after c (λ j h. map-kept c j l h) (λ j h m. rest-kept c j l h m)

    module _ (bounds : Bounds geo image after b) where
      unbounded-kept : (c : ℕ) → c < geo.blocks → full geo after c ≡ false → (least_mapped geo after c ≡ ones) × (greatest_mapped geo after c ≡ ones)
      unbounded-kept c l f = go (ℕ_discrete c b)
        where
          go : Dec (c ≡ b) → (least_mapped geo after c ≡ ones) × (greatest_mapped geo after c ≡ ones)
          go (yes x) =
              let both = bounds.open_block (ap (full geo after) (sym x) ∙ f) in
              (ap (least_mapped geo after) x ∙ both.0, ap (greatest_mapped geo after) x ∙ both.1)
          go (no x) =
              let same = bounds.elsewhere c x in
              let were = s.unbounded c l (sym (full-as-before c l x) ∙ f) in
              (same.0 ∙ were.0, same.1 ∙ were.1)

      bounded-kept :
          (c j m : ℕ) →
          c < geo.blocks →
          j < d geo →
          full geo after c ≡ true →
          slot geo after c j ≡ Live m →
          (least_mapped geo after c ≤ m) × (m ≤ greatest_mapped geo after c)
      bounded-kept c j m l h f e = go (ℕ_discrete c b)
        where
          go : Dec (c ≡ b) → (least_mapped geo after c ≤ m) × (m ≤ greatest_mapped geo after c)
          go (yes x) =
              let both = bounds.full_block (ap (full geo after) (sym x) ∙ f) in
              let inside = live-between geo after b j m h (ap (λ (y : ℕ). slot geo after y j) (sym x) ∙ e) in
              (omega (arith, ap (least_mapped geo after) x ∙ both.0, inside.0), omega (arith, ap (greatest_mapped geo after) x ∙ both.1, inside.1))
          go (no x) =
              let same = bounds.elsewhere c x in
              let were = rules.bounded-elsewhere geo image after b i within target.slot_is s same-readings taken-kinds c j m l h x f e in
              (omega (arith, same.0, were.0), omega (arith, same.1, were.1))

      -- a full block's words 1 and 2 are numbers, or L
      closed-kept : (c : ℕ) → c < geo.blocks → full geo after c ≡ true → (least_mapped geo after c ≢ ones) × (greatest_mapped geo after c ≢ ones)
      unfolding least_live greatest_live
      closed-kept c l f = go (ℕ_discrete c b)
        where
          small : geo.logical < ones
          small = omega (arith, logical-small geo within)

          go : Dec (c ≡ b) → (least_mapped geo after c ≢ ones) × (greatest_mapped geo after c ≢ ones)
          go (yes x) =
              let both = bounds.full_block (ap (full geo after) (sym x) ∙ f) in (
                λ e. omega (arith, small, best-le (λ i r. false) geo.logical (live_in geo after b), sym e ∙ ap (least_mapped geo after) x ∙ both.0),
                λ e. omega (arith, small, best-le (λ i r. true) geo.logical (live_in geo after b), sym e ∙ ap (greatest_mapped geo after) x ∙ both.1),
              )
          go (no x) =
              let same = bounds.elsewhere c x in
              let were = s.closed c l (sym (full-as-before c l x) ∙ f) in
              (λ e. were.0 (sym same.0 ∙ e), λ e. were.1 (sym same.1 ∙ e))

      -- so the image after a placing is sound if the one before is
      pub placed-sound : Sound geo after
      placed-sound =
          record {
            worn = λ c l. rw (p.counts c l) (s.worn c l);
            map = map-kept;
            rest = rest-kept;
            clean = rules.clean-kept geo image after b i within target.slot_is s same-readings taken-kinds;
            proper = taken-kinds.proper;
            once = taken-kinds.once;
            unbounded = unbounded-kept;
            bounded = bounded-kept;
            closed = closed-kept;
            current = p.current;
          }

      -- n is found in the slot that was taken, and every other number where it was
      pub placed-found : find geo after n ≡ At b i
      placed-found = rules.renewed-found geo image after n b i s free change target.block target.slot_is

      pub others-found : (m : ℕ) → m ≢ n → find geo after m ≡ find geo image m
      others-found = rules.others-found geo image after n b i s free change

      -- so a right table stays right when n is noted there
      pub placed-right : noted geo (right_table geo image) n (At b i) ≡ right_table geo after
      placed-right = right-noted geo image after n (At b i) placed-found others-found

      -- the map is the old one with n set
      pub placed-here : map_of geo after n ≡ some ws
      placed-here = map_at geo after n b i placed-found ∙ ap some p.contents-here

      pub placed-other : (m : ℕ) → m ≢ n → map_of geo after m ≡ map_of geo image m
      placed-other = rules.others-mapped geo image after n b i s free change p.contents-other

    -- one slot fewer is free
    pub placed-free : sum_below geo.blocks (free_slots geo after) + 1 ≡ sum_below geo.blocks (free_slots geo image)
    placed-free =
        let change =
        sum-pairs-update geo.blocks (d geo)
        {f = λ c j. one_if (is_free (slot geo image c j))}
        {f' = λ c j. one_if (is_free (slot geo after c j))}
        target.block target.slot_is
        (λ c j l h x. ap one_if (free-as-before c j l h (λ y z. ⊎_elim (λ q. q y) (λ q. q z) x))) in
        let was = ap (λ (x : Slot). one_if (is_free x)) free in
        let is = ap (λ (x : Slot). one_if (is_free x)) p.changed.here in
        omega arith
