-- (i) of a repair (K4): what every image on the way has in common with the one before: the slots that are free, live or faulty, and so the map, the blocks
-- that are blank or full, and that it can be mended. Assumes nothing.
use mathlib.Core.Path.{◌≡◌, refl, sym, ap, ap₂, ◌∙◌}
use mathlib.Core.Logic.{inl, inr, ⊎_elim}
use mathlib.Core.Bool.{Bool, ◌&&◌}
use mathlib.Core.List.{List}
use Prim.Native.Nat.{ℕ, ◌<◌}
use native.Mathlib.Omega.{arith}
use lib.Dec.{eqb}
use lib.ListN.{get_or}
use Rattle.bits.specs.Word.{ones}
use Rattle.geometry.specs.declared.Geometry.{Geometry}
use Rattle.geometry.specs.Geometry.{d}
use Rattle.geometry.proofs.Laws.{map-covers}
use Rattle.image.specs.declared.Slot.{Slot}
use Rattle.image.specs.declared.Slot.TheVariants.{Live, Dead, Superseded}
use Rattle.image.specs.Words.{Image}
use Rattle.image.specs.Slots.{slot, is_free, is_live, is_faulty, is_live_for, find, map_of}
use Rattle.image.specs.Blocks.{blank, full, free_slots, live_slots}
use Rattle.image.specs.WellFormed.{R6}
use Rattle.image.specs.Mending.{count_unset, least_bound}
use Rattle.image.proofs.Own.{Once}
use Rattle.image.proofs.Alike.{free-slots-alike, blank-alike, full-alike, live-slots-alike, R6-alike}
use Rattle.image.proofs.Facts.{live-for, live-is-for, free-is}
use Rattle.image.proofs.Finding.{find-same, map_same}
use Rattle.image.proofs.Mending.{Mendable}
use Rattle.retiring.proofs.Retired.{Retired}

module _ (geo : Geometry) (image now : Image) (r : Retired geo image now) where
  -- ---- slots

  -- a test that does not tell a superseded slot from a dead one
  pub kind-test : (f : Slot → Bool) → f Dead ≡ f Superseded → (c j : ℕ) → c < geo.blocks → j < d geo → f (slot geo now c j) ≡ f (slot geo image c j)
  kind-test f same c j l h = ⊎_elim (ap f) (λ e. ap f e.1 ∙ same ∙ sym (ap f e.0)) (r.kinds c j l h)

  free-same : (c j : ℕ) → c < geo.blocks → j < d geo → is_free (slot geo now c j) ≡ is_free (slot geo image c j)
  free-same = kind-test is_free refl

  -- the same slots are live, for the same numbers
  pub live-still : (n c j : ℕ) → c < geo.blocks → j < d geo → slot geo image c j ≡ Live n → slot geo now c j ≡ Live n
  live-still n c j l h e = live-for n (slot geo now c j) (kind-test (is_live_for n) refl c j l h ∙ live-is-for e)

  pub live-was : (n c j : ℕ) → c < geo.blocks → j < d geo → slot geo now c j ≡ Live n → slot geo image c j ≡ Live n
  live-was n c j l h e = live-for n (slot geo image c j) (sym (kind-test (is_live_for n) refl c j l h) ∙ live-is-for e)

  -- ---- blocks

  module _ (b : ℕ) (l : b < geo.blocks) where
    pub free-slots-same : free_slots geo now b ≡ free_slots geo image b
    free-slots-same = free-slots-alike geo image now b (λ i h. free-same b i l h)

    pub live-slots-same : live_slots geo now b ≡ live_slots geo image b
    live-slots-same = live-slots-alike geo image now b (λ i h. kind-test is_live refl b i l h)

    pub blank-same : blank geo now b ≡ blank geo image b
    blank-same = blank-alike geo image now b (λ i h. free-same b i l h)

    pub full-same : full geo now b ≡ full geo image b
    full-same = full-alike geo image now b (λ i h. free-same b i l h)

    unset-same : count_unset geo now b ≡ count_unset geo image b
    unfolding count_unset
    unset-same = ap₂ ◌&&◌ blank-same (ap (λ (w : ℕ). eqb w ones) (r.counts b l))

    least-same : least_bound geo now b ≡ least_bound geo image b
    least-same = rw (r.bounds b l).0

  pub R6-same : R6 geo now ≡ R6 geo image
  R6-same = R6-alike geo image now blank-same

  -- ---- of an image that can be mended: it still can, and its map is the same

  module _ (m : Mendable geo image) where
    pub still-once : Once geo (slot geo now)
    still-once n b c i j l l' h h' e e' = m.once n b c i j l l' h h' (live-was n b i l h e) (live-was n c j l' h' e')

    pub find-kept : (n : ℕ) → find geo now n ≡ find geo image n
    find-kept n = find-same geo image now n still-once (live-still n) (live-was n)

    pub map-kept : (n : ℕ) → map_of geo now n ≡ map_of geo image n
    map-kept n = map_same geo image now n (find-kept n) (λ b i l h e. r.contents-kept b i l h)

    pub still-mendable : Mendable geo now
    still-mendable =
        record {
          worn = λ b l. ⊎_elim (λ w. inl (rw (r.counts b l) w)) (λ u. inr (unset-same b l ∙ u)) (m.worn b l);
          single = λ b c l l' u v. m.single b c l l' (sym (unset-same b l) ∙ u) (sym (unset-same c l') ∙ v);
          map = λ b i l h. r.maps b i l (omega (arith, map-covers geo r.shaped.limits)) ∙ m.map b i l h ∙ sym (free-same b i l h);
          rest = λ b i l h q. r.maps b i l q ∙ m.rest b i l h q;
          clean = λ b i l h e j q.
              ap (λ (ws : List ℕ). get_or ws j 0) (r.contents-kept b i l h)
              ∙ m.clean b i l h (free-is (slot geo image b i) (sym (free-same b i l h) ∙ ap is_free e)) j q;
          proper = λ b i l h. kind-test is_faulty refl b i l h ∙ m.proper b i l h;
          once = still-once;
          unbounded = λ b l f.
              let were = m.unbounded b l (sym (full-same b l) ∙ f) in
              ((r.bounds b l).0 ∙ were.0, (r.bounds b l).1 ∙ were.1);
          bounded = λ b i n l h f e.
              let were = m.bounded b i n l h (sym (full-same b l) ∙ f) (live-was n b i l h e) in
              (rw (least-same b l) were.0, rw (r.bounds b l).1 were.1);
        }
