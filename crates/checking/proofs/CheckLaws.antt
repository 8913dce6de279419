-- R2 to R5 of a block in one pass over its slots, by their own kinds. Assumes nothing.
use mathlib.Core.Path.{◌≡◌, refl, sym, ap, ap₂, ◌∙◌}
use mathlib.Core.Bool.{Bool, true, false, not, ◌&&◌, and-true, and-false}
use Prim.Native.Nat.{ℕ, zero, suc}
use Rattle.ranges.specs.Range.{all_below}
use Rattle.ranges.proofs.Tests.{both-pass}
use Rattle.geometry.specs.declared.Geometry.{Geometry}
use Rattle.geometry.specs.Geometry.{d}
use Rattle.image.specs.declared.Slot.{Slot}
use Rattle.image.specs.declared.Slot.TheVariants.{Free}
use Rattle.image.specs.Words.{Image, map_bit, entry, contents}
use Rattle.image.specs.Slots.{slot_of, own_slot, is_free, is_free_entry, is_faulty, is_live_with}
use Rattle.image.specs.WellFormed.{all_ones, map_agrees, rest_set, live_before, none_twice, R2, R3, R4}
use Rattle.image.proofs.Entries.{free-test}
use Rattle.rules.proofs.RuleLaws.{agrees, clean, proper, clean-kind, proper-kind}
use Rattle.checking.specs.OwnKinds.{four_by_own}

-- two tests of every index are one test of both
all_both : (m : ℕ) (f g : ℕ → Bool) → all_below m (λ i. f i && g i) ≡ (all_below m f && all_below m g)
unfolding all_below
all_both zero f g = refl
all_both (suc m) f g = rw (all_both m f g) (exchange (all_below m f) (all_below m g) (f m) (g m))
  where
    exchange : (a b x y : Bool) → (a && b && (x && y)) ≡ (a && x && (b && y))
    exchange true true x y = refl
    exchange true false x y = sym (and-false x)
    exchange false b x y = refl

module _ (geo : Geometry) (image : Image) where
  -- the four tests of slot i
  abbrev pub keeps : ℕ → ℕ → Bool
  keeps b i =
      agrees geo image b i
      && clean geo image b i
      && proper geo image b i
      && not (is_live_with (live_before geo (own_slot geo image) b i) (own_slot geo image b i))

  -- what is left of them for a slot whose bit is set: it is to be free, and clean
  module _ (b i : ℕ) (set : map_bit geo image b i ≡ true) where
    pub own-free : is_free_entry (entry geo image b i) ≡ true → own_slot geo image b i ≡ Free
    unfolding own_slot slot_of
    own-free free = rw (set, free)

    pub set_keeps : keeps b i ≡ (is_free_entry (entry geo image b i) && all_ones (contents geo image b i))
    set_keeps = go (is_free_entry (entry geo image b i)) refl
      where
        go : (f : Bool) → is_free_entry (entry geo image b i) ≡ f → keeps b i ≡ (f && all_ones (contents geo image b i))
        go true free =
            let kind = own-free free in
            rw (set, free, clean-kind geo image b i kind, proper-kind geo image b i kind, kind) (and-true _ ∙ and-true _)
        go false used = rw (set, used)

  -- and for one whose bit is clear, by its own kind, which is not free
  module _ (b i : ℕ) (clear : map_bit geo image b i ≡ false) where
    pub own-used : {e : ℕ} → entry geo image b i ≡ e → own_slot geo image b i ≡ slot_of geo.logical false e
    unfolding own_slot
    own-used at = ap₂ (slot_of geo.logical) clear at

    pub used-keeps :
        {s : Slot} →
        own_slot geo image b i ≡ s →
        keeps b i ≡ (not (is_faulty s) && not (is_live_with (live_before geo (own_slot geo image) b i) s))
    used-keeps {s} kind =
        let used : is_free s ≡ false = ap is_free (sym kind ∙ own-used refl) ∙ free-test _ false _ ∙ and-false (is_free_entry (entry geo image b i)) in
        rw (clear, clean-kind geo image b i kind, used, proper-kind geo image b i kind, kind)

  -- with the map's bits from d on they are the four rules
  pub keeps-rules : (b : ℕ) → rest_set geo image b ≡ true → all_below (d geo) (keeps b) ≡ four_by_own geo image b
  unfolding R2 R3 R4
  keeps-rules b rest =
      let agree : all_below (d geo) (agrees geo image b) ≡ R2 geo image b = rw rest (sym (and-true (map_agrees geo image b))) in
      all_both (d geo) _ _
      ∙ ap (◌&& none_twice geo (own_slot geo image) b)
      (all_both (d geo) _ _
      ∙ ap (◌&& R4 geo image b) (all_both (d geo) (agrees geo image b) (clean geo image b) ∙ ap (◌&& R3 geo image b) agree))

  -- and without those bits R2 is broken
  pub rest-breaks : (b : ℕ) → rest_set geo image b ≡ false → four_by_own geo image b ≡ false
  unfolding R2
  rest-breaks b rest = rw (rest, and-false (map_agrees geo image b))

  -- R2 of them
  pub four-agree : (b : ℕ) → four_by_own geo image b ≡ true → R2 geo image b ≡ true
  four-agree b kept =
      let to4 = both-pass (R2 geo image b && R3 geo image b && R4 geo image b) _ kept in
      let to3 = both-pass (R2 geo image b && R3 geo image b) (R4 geo image b) to4.0 in
      (both-pass (R2 geo image b) (R3 geo image b) to3.0).0
