-- A repair after some cuts: it is not refused while there were at most g since the last erasure, and one cut more keeps that. Assumes nothing.
use mathlib.Core.Path.{◌≡◌, refl, sym, ◌∙◌}
use mathlib.Core.Logic.{◌⊎◌, inl, inr, ⊎_elim}
use mathlib.Core.Bool.{true, false, true≢false}
use mathlib.Core.List.{List}
use Prim.Native.Nat.{ℕ, ◌+◌, ◌<◌, ◌≤◌}
use native.Mathlib.Omega.{arith}
use borrow.Author.Tests.{lt-leb, le-ltb, ne_eqb}
use Rattle.geometry.specs.declared.Geometry.{Geometry}
use Rattle.geometry.specs.Geometry.{g}
use Rattle.image.specs.Words.{Image, Shaped, Words32, erase_count}
use Rattle.image.specs.Blocks.{free_slots, live_slots, lowest_open}
use Rattle.image.specs.WellFormed.{ceiling, R6}
use Rattle.image.specs.Mending.{emptiest}
use Rattle.image.proofs.Alike.{R6-alike, any-open-alike, lowest-open-alike}
use Rattle.image.proofs.Mending.{Mendable}
use Rattle.flash.specs.declared.Step.{Step}
use Rattle.flash.specs.Steps.{run, erasures_in}
use Rattle.flash.specs.Repairing.{settled, counted, lacks_room, victim_worn}
use Rattle.cuts.proofs.InCopy.{InCopy}
use Rattle.cuts.proofs.Room.{Room, room-enough, room-none-blank, room-any-open, room-lowest, room-same, room-copy}
use Rattle.repairing.proofs.Mended.{Settling, settled-settling, counted-settling}
use Rattle.repairing.proofs.Emptied.{RepairCut, victim-settled}

-- a block is blank, or there is room after c cuts
abbrev pub Roomy : Geometry → ℕ → Image → Type 0
Roomy geo c image = (R6 geo image ≡ true) ⊎ ((v t : ℕ) × Room geo c image v t)

-- one cut more leaves what there is to say of fewer
weaker : (geo : Geometry) {c : ℕ} {image : Image} {v t : ℕ} → Room geo c image v t → Room geo (c + 1) image v t
weaker geo r =
    record {
      victim_in = r.victim_in;
      target_in = r.target_in;
      apart = r.apart;
      not-blank = r.not-blank;
      not_full = r.not_full;
      others-full = r.others-full;
      first = r.first;
      below = r.below;
      few = r.few;
      wasted = omega (arith, r.wasted);
    }

module _ (geo : Geometry) (image : Image) (shaped : Shaped geo image) (words : Words32 image) (mend : Mendable geo image) (c : ℕ) where
  to-settled : Settling geo image (settled geo image)
  to-settled = settled-settling geo image shaped words mend

  same-blank : {now : Image} → Settling geo image now → R6 geo now ≡ R6 geo image
  same-blank {now} s = R6-alike geo image now s.blanks

  -- ---- it is not refused

  by-blank : R6 geo image ≡ true → (lacks_room geo image ≡ false) × (victim_worn geo image ≡ false)
  unfolding lacks_room victim_worn
  by-blank e = rw (same-blank to-settled ∙ e) (refl, refl)

  by-room : (v t : ℕ) → Room geo c image v t → c ≤ g geo → (lacks_room geo image ≡ false) × (victim_worn geo image ≡ false)
  unfolding lacks_room victim_worn
  by-room v t r l =
      let none = room-none-blank geo shaped.limits r in
      let is = victim-settled geo image shaped words mend none ∙ r.first in
      let opened = any-open-alike geo image (settled geo image) to-settled.blanks to-settled.fulls ∙ room-any-open geo shaped.limits r in
      let lowest = lowest-open-alike geo image (settled geo image) to-settled.blanks to-settled.fulls ∙ room-lowest geo shaped.limits r in
      let enough : live_slots geo (settled geo image) v ≤ free_slots geo (settled geo image) t =
      omega (arith, to-settled.lives v r.victim_in, to-settled.frees t r.target_in, room-enough geo shaped.limits r l) in
      let worn : erase_count geo (settled geo image) v < ceiling = rw (to-settled.wear none v r.victim_in) r.below in
      rw (
        same-blank to-settled ∙ none,
        is,
        opened,
        lowest,
        lt-leb _ _ r.victim_in,
        le-ltb _ _ enough,
        ne_eqb (erase_count geo (settled geo image) v) ceiling (λ e. omega (arith, worn)),
      )
      (refl, refl)

  pub not-refused : Roomy geo c image → c ≤ g geo → (lacks_room geo image ≡ false) × (victim_worn geo image ≡ false)
  not-refused (inl e) l = by-blank e
  not-refused (inr (v, t, r)) l = by-room v t r l

  -- ---- and one cut more leaves room

  settling-room : {now : Image} → Settling geo image now → Roomy geo c image → Roomy geo (c + 1) now
  settling-room s (inl e) = inl (same-blank s ∙ e)
  settling-room {now} s (inr (v, t, r)) =
      inr (
        v,
        t,
        weaker geo (room-same geo shaped.limits r now s.fulls s.blanks s.frees s.lives (s.wear (room-none-blank geo shaped.limits r))),
      )

  copying-room :
      {now : Image} →
      R6 geo image ≡ false →
      InCopy geo (counted geo image) (emptiest geo image) (lowest_open geo image) now →
      c + 1 ≤ g geo →
      Roomy geo c image →
      Roomy geo (c + 1) now
  copying-room none p l (inl e) = absurd (true≢false (sym e ∙ none))
  copying-room {now} none p l (inr (v, t, r)) =
      let s = counted-settling geo image shaped words mend in
      let there : Room geo c (counted geo image) v t =
      room-same geo shaped.limits r (counted geo image) s.fulls s.blanks s.frees s.lives (s.wear none) in
      let here : InCopy geo (counted geo image) v t now = rw (r.first, room-lowest geo shaped.limits r) at p in
      inr (
        v,
        t,
        ⊎_elim
            (λ e. rw e (weaker geo there))
            (λ taken.
            room-copy geo (counted geo image) now v t c there.victim_in there.target_in there.apart there.others-full there.not_full
            there.first there.below there.few there.wasted l here taken)
            here.begun,
      )

  pub cut-roomy :
      (done : List Step) →
      RepairCut geo image done →
      Roomy geo c image →
      (R6 geo (run geo image done) ≡ true) ⊎ ((erasures_in done ≡ 0) × (c + 1 ≤ g geo → Roomy geo (c + 1) (run geo image done)))
  cut-roomy done (inl (none-erased, inl s)) room = inr (none-erased, λ l. settling-room s room)
  cut-roomy done (inl (none-erased, inr (none, p))) room = inr (none-erased, λ l. copying-room none p l room)
  cut-roomy done (inr (m, spare)) room = inl spare
