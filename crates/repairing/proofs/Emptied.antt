-- (iv) of a repair, and a repair as a whole: which block is emptied, that there is room, where a cut can fall, and what is left at the end. Assumes
-- nothing.
use mathlib.Core.Path.{◌≡◌, refl, sym, ap, ◌∙◌}
use mathlib.Core.Logic.{◌≢◌, ◌⊎◌, inl, inr, ⊎_elim}
use mathlib.Core.Bool.{Bool, true, false, not, true≢false}
use mathlib.Core.List.{List, [], ◌++◌, append-nil}
use Prim.Native.Nat.{ℕ, suc, ◌+◌, ◌^◌, ◌<◌, ◌≤◌}
use native.Mathlib.Omega.{arith}
use lib.Dec.{leb, ltb}
use lib.ListN.{length}
use lib.Seq.{take_all}
use borrow.Author.Tests.{leb-false, ltb-false, eqb-false, not-true}
use Rattle.ranges.specs.Range.{any_below}
use Rattle.ranges.proofs.Tests.{both-pass, neither-passes, any_of}
use Rattle.ranges.proofs.Sums.{count_none, count-fails}
use Rattle.ranges.proofs.Searches.{best-passes, best-any}
use Rattle.geometry.specs.declared.Geometry.{Geometry}
use Rattle.geometry.specs.Geometry.{d}
use Rattle.image.specs.declared.Slot.TheVariants.{Live}
use Rattle.image.specs.Words.{Image, Shaped, Words32, erase_count}
use Rattle.image.specs.Slots.{slot, is_live}
use Rattle.image.specs.Blocks.{blank, full, is_open, free_slots, live_slots, lowest_open, victim}
use Rattle.image.specs.WellFormed.{ceiling, R6}
use Rattle.image.specs.Mending.{emptiest}
use Rattle.image.proofs.Alike.{R6-alike, any-open-alike, lowest-open-alike}
use Rattle.image.proofs.Emptiest.{victim-emptiest, emptiest-alike, emptiest-full}
use Rattle.image.proofs.Mending.{Mendable}
use Rattle.flash.specs.declared.Step.{Step}
use Rattle.flash.specs.Steps.{run, erasures_in, first_of}
use Rattle.flash.specs.Writing.{any_open, reclaiming}
use Rattle.flash.specs.Repairing.{emptying, settled, counted, repairing, room_in, lacks_room, victim_worn}
use Rattle.flash.proofs.Stores.{run-append, run_none, erasures-append}
use Rattle.flash.proofs.Parts.{erases-none-first}
use Rattle.flash.proofs.Changed.{not_live}
use Rattle.flash.proofs.Planned.{some-open}
use Rattle.flash.proofs.Filling.{Ready}
use Rattle.flash.proofs.Erased.{wiped-ready, wiped-blank}
use Rattle.flash.proofs.Chosen.{slots-blank}
use Rattle.flash.proofs.CopiesInto.{Emptiable}
use Rattle.flash.proofs.Reclaimed.{reclaimed}
use Rattle.cuts.proofs.Splits.{first-split}
use Rattle.cuts.proofs.InCopy.{Mends, InCopy}
use Rattle.cuts.proofs.Reclaims.{CopyOrBlank, reclaim-cut, erase-cut, nothing_copied}
use Rattle.repairing.specs.Planned.{mending}
use Rattle.repairing.proofs.Mended.{Settling, settled-settling, settled-clear, counted-settling, counted_ready, repairing-parts, mending-leaves, mending-erasures, mending-along}

-- ---- the block that is emptied, and where to

module _
    (geo : Geometry) (image : Image) (shaped : Shaped geo image) (words : Words32 image) (mend : Mendable geo image)
    (none : R6 geo image ≡ false)
  where
    abbrev v : ℕ
    v = emptiest geo image

    abbrev t : ℕ
    t = lowest_open geo image

    to-settled : Settling geo image (settled geo image)
    to-settled = settled-settling geo image shaped words mend

    to-counted : Settling geo image (counted geo image)
    to-counted = counted-settling geo image shaped words mend

    ready : Ready geo (counted geo image)
    ready = counted_ready geo image shaped words mend

    -- still none is blank, the same block is the first open one, and the emptiest is the victim
    still-none : {now : Image} → Settling geo image now → R6 geo now ≡ false
    still-none {now} s = R6-alike geo image now s.blanks ∙ none

    still-lowest : {now : Image} → Settling geo image now → lowest_open geo now ≡ t
    still-lowest {now} s = lowest-open-alike geo image now s.blanks s.fulls

    still-emptiest : {now : Image} → Settling geo image now → emptiest geo now ≡ v
    still-emptiest {now} s = emptiest-alike geo image now s.fulls (s.wear none) s.lives

    pub victim-settled : victim geo (settled geo image) ≡ v
    victim-settled =
        victim-emptiest geo (settled geo image) (settled-clear geo image shaped words mend) to-settled.mends.mendable.proper ∙ still-emptiest to-settled

    pub victim-counted : victim geo (counted geo image) ≡ v
    victim-counted = victim-emptiest geo (counted geo image) ready.sound.current ready.sound.proper ∙ still-emptiest to-counted

    pub lowest-counted : lowest_open geo (counted geo image) ≡ t
    lowest-counted = still-lowest to-counted

    pub emptying-is : emptying geo (counted geo image) ≡ reclaiming geo (counted geo image) v t
    unfolding emptying
    emptying-is = rw (still-none to-counted, victim-counted, lowest-counted)

    -- what refusal 10 leaves
    module _ (roomy : lacks_room geo image ≡ false) where
      decided : (leb geo.blocks v ≡ false) × (ltb (room_in geo (settled geo image)) (live_slots geo (settled geo image) v) ≡ false)
      unfolding lacks_room
      decided = neither-passes _ _ (rw (still-none to-settled, victim-settled) at roomy)

      pub emptied-in : v < geo.blocks
      emptied-in = leb-false geo.blocks v decided.0

      pub emptied-full : full geo (counted geo image) v ≡ true
      emptied-full = emptiest-full geo (counted geo image) v (still-emptiest to-counted) emptied-in

      few : live_slots geo (settled geo image) v ≤ room_in geo (settled geo image)
      few = ltb-false (room_in geo (settled geo image)) (live_slots geo (settled geo image) v) decided.1

      same-open : any_open geo (settled geo image) ≡ any_open geo image
      same-open = any-open-alike geo image (settled geo image) to-settled.blanks to-settled.fulls

      lives-counted : live_slots geo (counted geo image) v ≡ live_slots geo (settled geo image) v
      lives-counted = to-counted.lives v emptied-in ∙ sym (to-settled.lives v emptied-in)

      -- the block that is copied to: it is open, where there is one; so it is another than the one that is emptied
      pub target-open : t < geo.blocks → is_open geo image t ≡ true
      unfolding lowest_open
      target-open l = best-passes (λ i r. false) geo.blocks (is_open geo image) l

      target_in : any_open geo image ≡ true → t < geo.blocks
      unfolding lowest_open
      target_in e = best-any (λ i r. false) geo.blocks (is_open geo image) e

      target-apart : v ≢ t
      target-apart same =
          let open_found = target-open (omega (arith, same, emptied-in)) in
          let not_full = not-true (full geo image t) (both-pass (not (blank geo image t)) _ open_found).1 in
          let was-full = sym (to-counted.fulls v emptied-in) ∙ emptied-full in
          true≢false (sym was-full ∙ ap (full geo image) same ∙ not_full)

      -- there is a block to copy to, with room; or none is open, and nothing is to be copied
      abbrev pub TargetOrNone : Type 0
      TargetOrNone =
          ((t < geo.blocks) × (v ≢ t) × (live_slots geo (counted geo image) v ≤ free_slots geo (counted geo image) t))
          ⊎ ((geo.blocks ≤ t) × ((j : ℕ) → j < d geo → is_live (slot geo (counted geo image) v j) ≡ false))

      pub target-or-none : TargetOrNone
      target-or-none = go (any_open geo image) refl
        where
          go : (x : Bool) → any_open geo image ≡ x → TargetOrNone
          go true e =
              let inside = target_in e in
              let enough : live_slots geo (settled geo image) v ≤ free_slots geo (settled geo image) t = rw (same-open ∙ e, still-lowest to-settled) at few in
              inl (
                inside,
                target-apart,
                omega (arith, enough, lives-counted, to-counted.frees t inside, to-settled.frees t inside),
              )
          go false e =
              let zero_left : live_slots geo (settled geo image) v ≤ 0 = rw (same-open ∙ e) at few in
              let shut : (t < geo.blocks → ⊥) → geo.blocks ≤ t = λ n. omega arith in
              inr (
                shut (λ l. true≢false (sym (some-open geo image l) ∙ e)),
                count-fails (d geo) (λ j. is_live (slot geo (counted geo image) v j)) (omega (arith, zero_left, lives-counted)),
              )

      -- so the one can be reclaimed into the other
      pub emptied-able : Emptiable geo (counted geo image) v t
      emptied-able =
          record {
            ready = ready;
            victim_in = emptied-in;
            target_in = λ some. ⊎_elim (λ p. p.0) (λ nothing. absurd (omega (arith, none-live nothing.1))) target-or-none;
            apart = target-apart;
            room = ⊎_elim (λ p. p.2) (λ nothing. omega (arith, none-live nothing.1)) target-or-none;
          }
        where
          none-live : ((j : ℕ) → j < d geo → is_live (slot geo (counted geo image) v j) ≡ false) → live_slots geo (counted geo image) v ≡ 0
          none-live nothing = count_none (d geo) nothing

      -- what refusal 6 leaves
      module _ (wearable : victim_worn geo image ≡ false) where
        pub emptied-below : erase_count geo (counted geo image) v < ceiling
        unfolding victim_worn
        emptied-below =
            let other = eqb-false (erase_count geo (settled geo image) v) ceiling (rw (still-none to-settled, victim-settled) at wearable) in
            let same = to-counted.wear none v emptied-in ∙ sym (to-settled.wear none v emptied-in) in
            let most = ready.sound.worn v emptied-in in
            below same most other
          where
            below : {x y : ℕ} → x ≡ y → x ≤ ceiling → (y ≡ ceiling → ⊥) → x < ceiling
            below e l n = omega (arith, n)

        -- wherever (iv) is cut short
        emptying-cut :
            (j : ℕ) →
            CopyOrBlank geo (counted geo image) (λ now. (now ≡ counted geo image) ⊎ InCopy geo (counted geo image) v t now) (first_of j (emptying geo (counted geo image)))
        emptying-cut j = rw emptying-is (go target-or-none)
          where
            go :
                TargetOrNone →
                CopyOrBlank geo (counted geo image) (λ now. (now ≡ counted geo image) ⊎ InCopy geo (counted geo image) v t now)
                (first_of j (reclaiming geo (counted geo image) v t))
            go (inl (inside, apart, room)) =
                ⊎_elim (λ p. inl (p.0, inr p.1)) inr
                (reclaim-cut geo (counted geo image) v t ready emptied-in inside apart room emptied-below j)
            go (inr (shut, nothing)) =
                ⊎_elim (λ p. inl (p.0, inl p.1)) inr (erase-cut geo (counted geo image) v t nothing ready emptied-in emptied-below j)

        -- and at its end
        emptying-ends :
            let end : Image = run geo (counted geo image) (emptying geo (counted geo image)) in
            Ready geo end × (R6 geo end ≡ true)
        unfolding R6 reclaiming
        emptying-ends = rw emptying-is (go target-or-none)
          where
            go :
                TargetOrNone →
                let end : Image = run geo (counted geo image) (reclaiming geo (counted geo image) v t) in
                Ready geo end × (any_below geo.blocks (blank geo end) ≡ true)
            go (inl (inside, apart, room)) =
                let r = reclaimed geo (counted geo image) v t ready emptied-in inside apart room emptied-below in
                (r.ready, any_of geo.blocks (blank geo _) emptied-in (slots-blank geo _ v r.emptied))
            go (inr (shut, nothing)) =
                let small : erase_count geo (counted geo image) v + 1 < 2 ^ 32 = omega (arith, emptied-below) in
                let none-live : (j n : ℕ) → j < d geo → slot geo (counted geo image) v j ≡ Live n → ⊥ = λ j n l e. not_live (nothing j l) e in
                let after = wiped-ready geo (counted geo image) ready v (erase_count geo (counted geo image) v + 1) emptied-in small none-live (omega (arith, emptied-below)) in
                rw (nothing_copied geo (counted geo image) v t nothing (d geo) (omega arith))
                (after, any_of geo.blocks (blank geo _) emptied-in (wiped-blank geo (counted geo image) ready v (erase_count geo (counted geo image) v + 1) emptied-in small))

-- ---- a repair as a whole, of an image that is not refused

-- These steps of it were done: none erased, and the image is on the way through (i) to (iii) or through the copying; or it can be mended, with the same
-- map, and a block is blank.
abbrev pub RepairCut : Geometry → Image → List Step → Type 0
RepairCut geo image done =
    ((erasures_in done ≡ 0)
    × (Settling geo image (run geo image done)
    ⊎ ((R6 geo image ≡ false) × InCopy geo (counted geo image) (emptiest geo image) (lowest_open geo image) (run geo image done))))
    ⊎ (Mends geo image (run geo image done) × (R6 geo (run geo image done) ≡ true))

module _
    (geo : Geometry) (image : Image) (shaped : Shaped geo image) (words : Words32 image) (mend : Mendable geo image)
    (roomy : lacks_room geo image ≡ false) (wearable : victim_worn geo image ≡ false)
  where
    abbrev three : List Step
    three = mending geo image

    abbrev last : List Step
    last = emptying geo (counted geo image)

    to_end : Settling geo image (counted geo image)
    to_end = counted-settling geo image shaped words mend

    leaves : run geo image three ≡ counted geo image
    leaves = mending-leaves geo image shaped words mend

    -- the map of the image that (iv) starts from is the one before the repair
    from_start : {now : Image} → Mends geo (counted geo image) now → Mends geo image now
    from_start m =
        record { shaped = m.shaped; words = m.words; mendable = m.mendable; map = λ n. m.map n ∙ to_end.mends.map n }

    in-mending : (j : ℕ) → RepairCut geo image (first_of j three)
    in-mending j =
        inl (
          erases-none-first j three (mending-erasures geo image shaped words mend),
          inl (mending-along geo image shaped words mend j),
        )

    -- where a block is blank there is nothing behind (iii)
    pub none-emptied : R6 geo image ≡ true → last ≡ []
    unfolding emptying
    none-emptied e = rw (R6-alike geo image (counted geo image) to_end.blanks ∙ e)

    in-emptying : R6 geo image ≡ false → (i : ℕ) → RepairCut geo image (three ++ first_of i last)
    in-emptying none i =
        let parts = run-append geo image three (first_of i last) ∙ ap (λ (x : Image). run geo x (first_of i last)) leaves in
        let erased : erasures_in (three ++ first_of i last) ≡ erasures_in (first_of i last) =
        omega (arith, erasures-append three (first_of i last), mending-erasures geo image shaped words mend) in
        rw parts (go erased (emptying-cut geo image shaped words mend none roomy wearable i))
      where
        go :
            erasures_in (three ++ first_of i last) ≡ erasures_in (first_of i last) →
            CopyOrBlank geo (counted geo image)
            (λ now. (now ≡ counted geo image) ⊎ InCopy geo (counted geo image) (emptiest geo image) (lowest_open geo image) now) (first_of i last) →
            let now : Image = run geo (counted geo image) (first_of i last) in
            ((erasures_in (three ++ first_of i last) ≡ 0)
            × (Settling geo image now
            ⊎ ((R6 geo image ≡ false) × InCopy geo (counted geo image) (emptiest geo image) (lowest_open geo image) now)))
            ⊎ (Mends geo image now × (R6 geo now ≡ true))
        go erased (inl (none-erased, inl e)) = inl (erased ∙ none-erased, inl (rw e to_end))
        go erased (inl (none-erased, inr p)) = inl (erased ∙ none-erased, inr (none, p))
        go erased (inr (m, spare)) = inr (from_start m, spare)

    pub repair-cut : (j : ℕ) → RepairCut geo image (first_of j (repairing geo image))
    repair-cut j = rw (repairing-parts geo image shaped words mend) (go (first-split j three last))
      where
        behind : (x : Bool) → R6 geo image ≡ x → (i : ℕ) → RepairCut geo image (three ++ first_of (suc i) last)
        behind true e i = rw (none-emptied e, append-nil three) (rw (take_all (length three) three (omega arith)) at (in-mending (length three)))
        behind false e i = in-emptying e (suc i)

        go :
            (first_of j (three ++ last) ≡ first_of j three) ⊎ ((i : ℕ) × (first_of j (three ++ last) ≡ three ++ first_of (suc i) last)) →
            RepairCut geo image (first_of j (three ++ last))
        go (inl e) = rw e (in-mending j)
        go (inr (i, e)) = rw e (behind (R6 geo image) refl i)

    -- at the end every rule holds
    pub repair-ends : let end : Image = run geo image (repairing geo image) in Ready geo end × (R6 geo end ≡ true)
    repair-ends =
        rw (repairing-parts geo image shaped words mend, run-append geo image three last, leaves) (go (R6 geo image) refl)
      where
        go :
            (x : Bool) →
            R6 geo image ≡ x →
            let end : Image = run geo (counted geo image) last in
            Ready geo end × (R6 geo end ≡ true)
        go true e =
            rw (none-emptied e, run_none geo (counted geo image))
            (counted_ready geo image shaped words mend, R6-alike geo image (counted geo image) to_end.blanks ∙ e)
        go false e = emptying-ends geo image shaped words mend e roomy wearable

-- wherever it is cut short, the image can be mended, and has the same map
pub cut-mends : (geo : Geometry) (image : Image) (done : List Step) → Mends geo image (counted geo image) → RepairCut geo image done → Mends geo image (run geo image done)
cut-mends geo image done to-counted (inl (none-erased, inl s)) = s.mends
cut-mends geo image done to-counted (inl (none-erased, inr p)) =
    let m = p.1.mends in
    record { shaped = m.shaped; words = m.words; mendable = m.mendable; map = λ n. m.map n ∙ to-counted.map n }
cut-mends geo image done to-counted (inr (m, spare)) = m
