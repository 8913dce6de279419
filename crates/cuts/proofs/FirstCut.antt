-- The cut of a write: a block is blank, or there is room after this one cut. Assumes nothing.
use mathlib.Core.Path.{◌≡◌, sym}
use mathlib.Core.Logic.{◌⊎◌, inl, inr, ⊎_elim}
use mathlib.Core.Bool.{true, false}
use mathlib.Core.List.{List}
use Prim.Native.Nat.{ℕ, ◌<◌}
use native.Mathlib.Omega.{arith}
use Rattle.ranges.proofs.Tests.{unless}
use Rattle.ranges.proofs.Sums.{count-one}
use Rattle.geometry.specs.declared.Geometry.{Geometry}
use Rattle.geometry.proofs.Laws.{g-positive}
use Rattle.image.specs.Words.{Image, erase_count}
use Rattle.image.specs.Blocks.{blank, full, least_worn_blank, victim}
use Rattle.image.specs.WellFormed.{ceiling, R6}
use Rattle.image.proofs.Capacity.{block-parts, blank-free, shut-full, blank-not-full}
use Rattle.image.proofs.Emptiest.{victim-emptiest}
use Rattle.flash.specs.Steps.{run}
use Rattle.flash.specs.declared.Step.{Step}
use Rattle.flash.specs.Writing.{must_reclaim}
use Rattle.flash.proofs.Filling.{Ready}
use Rattle.flash.proofs.Written.{Reclaimable, none_open, one-blank, blank-in, is-blank, apart, live-few, victim-reclaimable}
use Rattle.cuts.proofs.InCopy.{InCopy}
use Rattle.cuts.proofs.Room.{Room, room-copy}
use Rattle.cuts.proofs.Writes.{WriteCut}

module _
    (geo : Geometry) (image : Image) (start : Ready geo image) (spare : R6 geo image ≡ true)
    (below : must_reclaim geo image ≡ true → erase_count geo image (victim geo image) ≡ ceiling → ⊥)
  where
    copy-room :
        (now : Image) →
        must_reclaim geo image ≡ true →
        InCopy geo image (victim geo image) (least_worn_blank geo image) now →
        blank geo now (least_worn_blank geo image) ≡ false →
        Room geo 1 now (victim geo image) (least_worn_blank geo image)
    copy-room now must p taken =
        let v = victim geo image in
        let t = least_worn_blank geo image in
        let s = start.sound in
        let limits = start.shaped.limits in
        let is : Reclaimable geo image v = victim-reclaimable geo image start must (below must) in
        let t-in = blank-in geo image start must v is in
        let t-blank = is-blank geo image start must v is in
        let only : (b : ℕ) → b < geo.blocks → (b ≡ t → ⊥) → full geo image b ≡ true =
        λ b l n.
        shut-full geo image s b (none_open geo image start must v is b l)
        (unless (blank geo image b) (λ e. n (count-one geo.blocks (blank geo image) (one-blank geo image start must v is) l t-in e t-blank))) in
        let empty = blank-free geo image s t t-blank in
        let parts = block-parts geo image s t t-in in
        room-copy geo image now v t 0 is.block t-in (apart geo image start must v is) only
        (unless (full geo image t) (λ e. blank-not-full geo image s limits t t-blank e))
        (sym (victim-emptiest geo image s.current s.proper))
        is.wearable
        (omega (arith, live-few geo image start must v is, empty, parts))
        (omega (arith, empty))
        (omega (arith, g-positive geo limits))
        p taken

    pub first-cut :
        {n : ℕ} {ws : List ℕ} (done : List Step) →
        WriteCut geo image n ws done →
        (R6 geo (run geo image done) ≡ true) ⊎ ((v t : ℕ) × Room geo 1 (run geo image done) v t)
    first-cut done cut = ⊎_elim inl (λ p. ⊎_elim (λ e. inl (rw e spare)) (λ taken. inr (victim geo image, least_worn_blank geo image, copy-room (run geo image done) p.0 p.2 taken)) p.2.begun) cut.room
