-- The marks of the complete entries' numbers, and what they say of a slot in passing. Assumes nothing.
use mathlib.Core.List.{List}
use mathlib.Core.Path.{◌≡◌, refl, sym, ◌∙◌}
use mathlib.Core.Bool.{Bool, true, false, cond, ◌&&◌, or-false}
use Prim.Native.Nat.{ℕ, ◌%◌, ◌^◌, ◌<◌}
use native.Mathlib.Omega.{arith}
use lib.Dec.{eqb, ltb}
use borrow.Author.Tests.{ne_eqb, ltb-false}
use Rattle.ranges.specs.Range.{any_below}
use Rattle.ranges.proofs.Tests.{any-ext}
use Rattle.geometry.specs.declared.Geometry.{Geometry}
use Rattle.geometry.specs.Geometry.{d}
use Rattle.image.specs.declared.Slot.TheVariants.{Live, Dead}
use Rattle.image.specs.Words.{Image, entry}
use Rattle.image.specs.Slots.{is_complete, is_complete_for, has_complete, is_live_for}
use Rattle.rules.specs.Marks.{Marks}
use Rattle.naming.specs.Completes.{complete_slot, Completes}

module _ (geo : Geometry) (image : Image) where
  -- the marks after the last block are those of the complete entries
  complete-for : (b i n : ℕ) → n < geo.logical → is_live_for n (complete_slot geo image b i) ≡ is_complete_for n (entry geo image b i)
  unfolding complete_slot
  complete-for b i n l = go (is_complete (entry geo image b i)) (ltb (entry geo image b i % 2 ^ 29) geo.logical) refl
    where
      m : ℕ
      m = entry geo image b i % 2 ^ 29

      go : (c t : Bool) → ltb m geo.logical ≡ t → is_live_for n (cond (c && t) (Live m) Dead) ≡ (c && eqb m n)
      go true true e = refl
      go true false e = sym (ne_eqb m n (λ same. omega (arith, ltb-false m geo.logical e)))
      go false t e = refl

  pub marks-complete : {marks : List ℕ} → Marks geo (complete_slot geo image) geo.blocks 0 marks → Completes geo image marks
  unfolding any_below has_complete
  marks-complete m =
      record {
        long = m.long;
        says = λ n l.
            m.says n l
            ∙ or-false _
            ∙ any-ext geo.blocks (λ b h. any-ext (d geo) (λ i k. complete-for b i n l));
      }
