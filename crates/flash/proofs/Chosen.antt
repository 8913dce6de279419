-- The slot that rules 1 and 2 choose is free, and leaves another block blank. Assumes nothing.
use mathlib.Core.Path.{◌≡◌, refl, sym, ap, ◌∙◌}
use mathlib.Core.Logic.{◌≢◌}
use mathlib.Core.Bool.{Bool, true, false, not, true≢false}
use Prim.Native.Nat.{ℕ, ◌<◌, ◌≤◌}
use native.Mathlib.Decide.{ℕ_discrete}
use native.Mathlib.Omega.{arith}
use lib.Dec.{eqb}
use borrow.Author.Tests.{not-true, not-false, eqb-true, eqb-false}
use Rattle.ranges.specs.Range.{count_below, any_below}
use Rattle.ranges.proofs.Tests.{both-pass, all-at, all_of, none-at}
use Rattle.ranges.proofs.Sums.{Two, count-two, count-fails}
use Rattle.ranges.proofs.Searches.{best-passes, best-some, best-any}
use Rattle.geometry.specs.declared.Geometry.{Geometry}
use Rattle.geometry.specs.Geometry.{Limits, d}
use Rattle.geometry.proofs.Laws.{d-positive}
use Rattle.image.specs.declared.Slot.TheVariants.{Free}
use Rattle.image.specs.Found.{At}
use Rattle.image.specs.Words.{Image}
use Rattle.image.specs.Slots.{slot, is_free}
use Rattle.image.specs.Blocks.{blank, full, is_open, lowest_free, lowest_open, less_worn, least_worn_blank}
use Rattle.image.proofs.Facts.{free-is}
use Rattle.flash.specs.Writing.{any_open, next_slot, must_reclaim}

-- slot i of block b is what rules 1 and 2 take: it is free, and another block is blank
pub record Chosen (geo : Geometry) (image : Image) (b i : ℕ) : Type 0 where
  pub at : next_slot geo image ≡ At b i
  pub block : b < geo.blocks
  pub slot_is : i < d geo
  pub free : slot geo image b i ≡ Free
  pub spare : ℕ
  pub spare-in : spare < geo.blocks
  pub spare-other : spare ≢ b
  pub spare-blank : blank geo image spare ≡ true

-- some slot is chosen
pub record Choice (geo : Geometry) (image : Image) : Type 0 where
  pub b : ℕ
  pub i : ℕ
  pub chosen : Chosen geo image b i

module _ (geo : Geometry) (image : Image) where
  pub blank-slot : (b : ℕ) → blank geo image b ≡ true → (j : ℕ) → j < d geo → slot geo image b j ≡ Free
  unfolding blank
  blank-slot b t j l = free-is _ (all-at (d geo) _ t j l)

  pub slots-blank : (b : ℕ) → ((j : ℕ) → j < d geo → slot geo image b j ≡ Free) → blank geo image b ≡ true
  unfolding blank
  slots-blank b free = all_of (d geo) (λ j l. ap is_free (free j l))

  -- an open block is not blank, and has a free slot
  open-not-blank : (b : ℕ) → is_open geo image b ≡ true → blank geo image b ≡ true → ⊥
  open-not-blank b o t = true≢false (sym t ∙ not-true (blank geo image b) (both-pass (not (blank geo image b)) (not (full geo image b)) o).0)

  pub open_free : (b : ℕ) → is_open geo image b ≡ true → any_below (d geo) (λ j. is_free (slot geo image b j)) ≡ true
  unfolding full
  open_free b o = not-false _ (not-true (full geo image b) (both-pass (not (blank geo image b)) (not (full geo image b)) o).1)

module _ (geo : Geometry) (image : Image) (within : Limits geo) where
  -- rule 1: a block is open
  rule-1 : any_open geo image ≡ true → {c : ℕ} → c < geo.blocks → blank geo image c ≡ true → Choice geo image
  unfolding lowest_open lowest_free
  rule-1 t {c} l empty =
      let block = best-any (λ i r. false) geo.blocks (is_open geo image) t in
      let open_found = best-passes (λ i r. false) geo.blocks (is_open geo image) block in
      let frees : ℕ → Bool = λ j. is_free (slot geo image (lowest_open geo image) j) in
      let inside = best-any (λ i r. false) (d geo) frees (open_free geo image (lowest_open geo image) open_found) in
      record {
        b = lowest_open geo image;
        i = lowest_free geo image (lowest_open geo image);
        chosen =
            record {
              at = rw t;
              block = block;
              slot_is = inside;
              free = free-is _ (best-passes (λ i r. false) (d geo) frees inside);
              spare = c;
              spare-in = l;
              spare-other = λ e. open-not-blank geo image (lowest_open geo image) open_found (ap (blank geo image) (sym e) ∙ empty);
              spare-blank = empty;
            };
      }

  -- rule 2: none is open, and two are blank
  rule-2 : any_open geo image ≡ false → Two geo.blocks (blank geo image) → Choice geo image
  unfolding least_worn_blank
  rule-2 t two =
      let block = best-some (less_worn geo image) geo.blocks (blank geo image) two.one_below two.one_passes in
      let empty = best-passes (less_worn geo image) geo.blocks (blank geo image) block in
      go block empty (ℕ_discrete two.one (least_worn_blank geo image))
    where
      chosen :
          (c : ℕ) →
          c < geo.blocks →
          c ≢ least_worn_blank geo image →
          blank geo image c ≡ true →
          least_worn_blank geo image < geo.blocks →
          blank geo image (least_worn_blank geo image) ≡ true →
          Choice geo image
      chosen c l n e block empty =
          record {
            b = least_worn_blank geo image;
            i = 0;
            chosen =
                record {
                  at = rw t;
                  block = block;
                  slot_is = d-positive geo within;
                  free = blank-slot geo image (least_worn_blank geo image) empty 0 (d-positive geo within);
                  spare = c;
                  spare-in = l;
                  spare-other = n;
                  spare-blank = e;
                };
          }

      go :
          least_worn_blank geo image < geo.blocks →
          blank geo image (least_worn_blank geo image) ≡ true →
          Dec (two.one ≡ least_worn_blank geo image) →
          Choice geo image
      go block empty (yes e) =
          chosen two.other (omega (arith, two.one_below, two.other-below)) (λ q. omega (arith, two.other-below)) two.other-passes block empty
      go block empty (no n) = chosen two.one two.one_below n two.one_passes block empty

  -- where a block is blank and no reclaim is needed, one of the two applies
  pub choice : {c : ℕ} → c < geo.blocks → blank geo image c ≡ true → must_reclaim geo image ≡ false → Choice geo image
  unfolding must_reclaim
  choice {c} l empty no-reclaim = go (any_open geo image) refl
    where
      go : (x : Bool) → any_open geo image ≡ x → Choice geo image
      go true t = rule-1 t l empty
      go false t =
          let not-one = eqb-false (count_below geo.blocks (blank geo image)) 1 (rw t at no-reclaim) in
          rule-2 t (count-two geo.blocks (blank geo image) (at-least-two (count_below geo.blocks (blank geo image)) not-one some))
        where
          some : count_below geo.blocks (blank geo image) ≡ 0 → ⊥
          some z = true≢false (sym empty ∙ count-fails geo.blocks (blank geo image) z c l)

          at-least-two : (x : ℕ) → (x ≡ 1 → ⊥) → (x ≡ 0 → ⊥) → 2 ≤ x
          at-least-two x p q = omega arith

  -- what rule 3 says of the image
  pub reclaim-says : must_reclaim geo image ≡ true → ((b : ℕ) → b < geo.blocks → is_open geo image b ≡ false) × (count_below geo.blocks (blank geo image) ≡ 1)
  unfolding must_reclaim
  reclaim-says t =
      let both = both-pass (not (any_open geo image)) (eqb (count_below geo.blocks (blank geo image)) 1) t in
      (none-at geo.blocks (is_open geo image) (not-true (any_open geo image) both.0), eqb-true (count_below geo.blocks (blank geo image)) 1 both.1)
