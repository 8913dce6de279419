-- The statements of specs/Cuts.antt: what a repair keeps and costs, and that it mends whatever cuts of a call and of repairs leave. Assumes nothing.
use mathlib.Core.Path.{◌≡◌, refl, sym, ap, ◌∙◌}
use mathlib.Core.Logic.{◌≢◌, ◌⊎◌, inl, inr, ⊎_elim}
use mathlib.Core.Bool.{Bool, true, false, cond}
use mathlib.Core.List.{List, [], ◌∷◌}
use mathlib.Core.Option.{some}
use Prim.Native.Nat.{ℕ, zero, suc, ◌+◌, ◌≤◌}
use native.Mathlib.Decide.{ℕ_discrete}
use native.Mathlib.Omega.{arith}
use lib.Dec.{eqb}
use lib.ListN.{length}
use lib.Seq.{take_all, take-nil}
use borrow.Author.Tests.{eq-eqb}
use Rattle.geometry.specs.declared.Geometry.{Geometry}
use Rattle.geometry.specs.Geometry.{g}
use Rattle.image.specs.Words.{Image, Shaped, Words32}
use Rattle.image.specs.Slots.{map_of}
use Rattle.image.specs.WellFormed.{R6, well_formed}
use Rattle.image.specs.Mending.{mendable}
use Rattle.image.proofs.Facts.{sound-facts, formed-sound, formed-blank, facts-formed}
use Rattle.image.proofs.Mending.{Mendable, mendable-facts, facts-mendable, sound-mendable, formed-mendable}
use Rattle.flash.specs.declared.Step.{Step}
use Rattle.flash.specs.Steps.{run, erasures_in, first_of}
use Rattle.flash.specs.Placing.{releasing}
use Rattle.flash.specs.Writing.{writing}
use Rattle.flash.specs.Repairing.{repairing, lacks_room, victim_worn}
use Rattle.flash.proofs.Filling.{Ready}
use Rattle.flash.proofs.Parts.{steps-counted}
use Rattle.flash.proofs.Stores.{run_none}
use Rattle.cuts.proofs.InCopy.{Mends}
use Rattle.cuts.proofs.Writes.{Changes, WriteCut, write-cut}
use Rattle.cuts.proofs.FirstCut.{first-cut}
use Rattle.repairing.proofs.Nothing.{nothing-repaired, nothing-lacks}
use Rattle.repairing.proofs.Mended.{counted-settling}
use Rattle.repairing.proofs.Emptied.{RepairCut, repair-cut, repair-ends, cut-mends}
use Rattle.repairing.proofs.Costs.{repair-erasures, repair-words, repair-most}
use Rattle.repairing.proofs.Within.{Roomy, not-refused, cut-roomy}
use Rattle.answers.specs.Answers.{Accepted}
use Rattle.answers.proofs.Acceptance.{accepted?, if-accepted, if-refused}
use Rattle.calls.specs.Refusals.{check_answer, write_answer, release_answer, repair_answer}
use Rattle.calls.specs.Calls.{write_steps, release_steps, repair_steps, repaired}
use Rattle.calls.proofs.CallLaws.{formed-ready}
use Rattle.calls.proofs.AcceptedCalls.{check-accepted, write-start, write-sector, below-ceiling, write-wrote, release-released, repair-accepted, repair-accepts, repair-steps}
use Rattle.promises.specs.Cuts.{Changing, Write, Release, OfWords, Cut, changing, cut_after, repairs_cut, changed, SameMap, CutsAreMended, RepairKeepsTheMap, NothingToRepair, RepairCosts}

-- ---- an accepted repair

module _ (geo : Geometry) (image : Image) (words : Words32 image) (accepted : repair_answer geo image ≡ Accepted) where
  said : Shaped geo image × (mendable geo image ≡ true) × (lacks_room geo image ≡ false) × (victim_worn geo image ≡ false)
  said = repair-accepted geo image accepted

  mend : Mendable geo image
  mend = mendable-facts geo image said.1

  cut : (j : ℕ) → RepairCut geo image (first_of j (repair_steps geo image))
  cut j = rw (repair-steps geo image accepted) (repair-cut geo image said.0 words mend said.2 said.3 j)

  cut_keeps : (j : ℕ) → Mends geo image (run geo image (first_of j (repair_steps geo image)))
  cut_keeps j = cut-mends geo image (first_of j (repair_steps geo image)) (counted-settling geo image said.0 words mend).mends (cut j)

  whole-keeps : SameMap geo (repaired geo image) image
  whole-keeps m =
      ap (λ (ss : List Step). map_of geo (run geo image ss) m) (sym (take_all (length (repair_steps geo image)) (repair_steps geo image) (omega arith)))
      ∙ (cut_keeps (length (repair_steps geo image))).map m

  whole-formed : well_formed geo (repaired geo image) ≡ true
  whole-formed =
      let end = repair-ends geo image said.0 words mend said.2 said.3 in
      rw (repair-steps geo image accepted) (facts-formed geo (run geo image (repairing geo image)) end.0.sound end.1)

pub repair-keeps-the-map : RepairKeepsTheMap
repair-keeps-the-map geo image words accepted = (whole-formed geo image words accepted, λ j m. (cut_keeps geo image words accepted j).map m)

pub repair-costs : RepairCosts
repair-costs geo image words accepted =
    let (shaped, mends, room, worn) = repair-accepted geo image accepted in
    let facts = mendable-facts geo image mends in
    rw (repair-steps geo image accepted) (
      repair-erasures geo image shaped words facts room worn,
      repair-words geo image shaped words facts room worn,
      repair-most geo image shaped words facts room worn,
    )

pub nothing-to-repair : NothingToRepair
nothing-to-repair geo image checked =
    let (shaped, formed) = check-accepted geo image checked in
    let s = sound-facts geo image (formed-sound geo image formed) in
    let spare = formed-blank geo image formed in
    let lacks = nothing-lacks geo image s spare in
    let accepted = repair-accepts geo image shaped (formed-mendable geo image formed) lacks.0 lacks.1 in
    (accepted, repair-steps geo image accepted ∙ nothing-repaired geo image s spare)

-- ---- cuts

-- how it stands after c cuts since the last erasure: the image can be mended, its map is one of two, and a repair has room
record Within (geo : Geometry) (Maps : Image → Type 0) (c : ℕ) (image : Image) : Type 0 where
  shaped : Shaped geo image
  words : Words32 image
  mendable-still : Mendable geo image
  maps : Maps image
  room : Roomy geo c image

module _ (geo : Geometry) (Maps : Image → Type 0) (maps-same : (x y : Image) → SameMap geo y x → Maps x → Maps y) where
  -- a repair is accepted
  within-accepted : (c : ℕ) (image : Image) → Within geo Maps c image → c ≤ g geo → repair_answer geo image ≡ Accepted
  within-accepted c image w l =
      let free = not-refused geo image w.shaped w.words w.mendable-still c w.room l in
      repair-accepts geo image w.shaped (facts-mendable geo image w.mendable-still) free.0 free.1

  -- and cut after j steps it leaves the like, with one cut more, or with the first one since an erasure
  within-cut :
      (s : Cut) (j : ℕ) →
      Within geo Maps s.since s.image →
      s.since ≤ g geo →
      let next : Cut = cut_after geo s j (repair_steps geo s.image) in
      next.since ≤ g geo →
      Within geo Maps next.since next.image
  unfolding cut_after
  within-cut s j w l l' =
      let accepted = within-accepted s.since s.image w l in
      let kept = cut_keeps geo s.image w.words accepted j in
      record {
        shaped = kept.shaped;
        words = kept.words;
        mendable-still = kept.mendable;
        maps = maps-same s.image _ kept.map w.maps;
        room =
            go (cut-roomy geo s.image w.shaped w.words w.mendable-still s.since _ (cut geo s.image w.words accepted j) w.room) l';
      }
    where
      go :
          let done : List Step = first_of j (repair_steps geo s.image) in
          let now : Image = run geo s.image done in
          (R6 geo now ≡ true) ⊎ ((erasures_in done ≡ 0) × (s.since + 1 ≤ g geo → Roomy geo (s.since + 1) now)) →
          cond (eqb (erasures_in done) 0) (s.since + 1) 1 ≤ g geo →
          Roomy geo (cond (eqb (erasures_in done) 0) (s.since + 1) 1) now
      go (inl spare) few = inl spare
      go (inr (none, roomy)) few =
          let is = eq-eqb (erasures_in (first_of j (repair_steps geo s.image))) 0 none in
          rw is (roomy (rw is at few))

  -- one cut more: the most that there ever were covers those before it, and this one
  cut-counted :
      (s : Cut) (j : ℕ) (steps : List Step) →
      ((cut_after geo s j steps).since ≤ (cut_after geo s j steps).most) × (s.most ≤ (cut_after geo s j steps).most)
  unfolding cut_after
  cut-counted s j steps = (omega arith, omega arith)

  most-grows : (s : Cut) (js : List ℕ) → s.most ≤ (repairs_cut geo s js).most
  unfolding repairs_cut
  most-grows s [] = omega arith
  most-grows s (j ∷ js) =
      omega (arith, most-grows (cut_after geo s j (repair_steps geo s.image)) js, (cut-counted s j (repair_steps geo s.image)).1)

  within-cuts :
      (s : Cut) (js : List ℕ) →
      Within geo Maps s.since s.image →
      s.since ≤ s.most →
      (repairs_cut geo s js).most ≤ g geo →
      Within geo Maps (repairs_cut geo s js).since (repairs_cut geo s js).image × ((repairs_cut geo s js).since ≤ (repairs_cut geo s js).most)
  unfolding repairs_cut
  within-cuts s [] w l few = (w, l)
  within-cuts s (j ∷ js) w l few =
      let next = cut_after geo s j (repair_steps geo s.image) in
      let grows = most-grows next js in
      let counts = cut-counted s j (repair_steps geo s.image) in
      within-cuts next js (within-cut s j w (omega (arith, counts.1)) (omega (arith, counts.0))) counts.0 few

-- ---- the call that is cut first

-- the map before the call, or the one after it
abbrev Either : (geo : Geometry) (before after now : Image) → Type 0
Either geo before after now = SameMap geo now before ⊎ SameMap geo now after

either_same : (geo : Geometry) (before after x y : Image) → SameMap geo y x → Either geo before after x → Either geo before after y
either_same geo before after x y same (inl e) = inl (λ m. same m ∙ e m)
either_same geo before after x y same (inr e) = inr (λ m. same m ∙ e m)

module _ (geo : Geometry) (image : Image) (words : Words32 image) (checked : check_answer geo image ≡ Accepted) where
  start : Ready geo image × (R6 geo image ≡ true)
  start = let said = check-accepted geo image checked in formed-ready geo image said.0 words said.1

  -- nothing was done
  untouched : (after : Image) (c : ℕ) → Within geo (Either geo image after) c image
  untouched after c =
      record {
        shaped = start.0.shaped;
        words = words;
        mendable-still = sound-mendable geo image start.0.sound;
        maps = inl (λ m. refl);
        room = inl start.1;
      }

  -- an accepted write
  module _ (n : ℕ) (buffer : List ℕ) (handed : Words32 buffer) (accepted : write_answer geo image n buffer ≡ Accepted) where
    abbrev written-image : Image
    written-image = run geo image (writing geo image n buffer)

    write-here : (j : ℕ) → WriteCut geo image n buffer (first_of j (writing geo image n buffer))
    write-here j =
        let from = write-start geo image n buffer words accepted in
        write-cut geo image n buffer from.0 from.1 (write-sector geo image n buffer words handed accepted)
        (below-ceiling geo image n buffer accepted) j

    maps-of : {now : Image} → Changes geo image n (some buffer) now → Either geo image written-image now
    maps-of {now} c = ⊎_elim inl (λ set. inr (λ m. go m set (ℕ_discrete m n))) c.map
      where
        go :
            (m : ℕ) →
            (map_of geo now n ≡ some buffer) × ((m : ℕ) → m ≢ n → map_of geo now m ≡ map_of geo image m) →
            Dec (m ≡ n) →
            map_of geo now m ≡ map_of geo written-image m
        go m set (yes e) = let w = write-wrote geo image n buffer words handed accepted in rw e (set.0 ∙ sym w.here)
        go m set (no e) = let w = write-wrote geo image n buffer words handed accepted in set.1 m e ∙ sym (w.other m e)

    write-within : (j : ℕ) → Within geo (Either geo image written-image) 1 (run geo image (first_of j (writing geo image n buffer)))
    write-within j =
        let cut-here = write-here j in
        let c = cut-here.changes in
        let from = write-start geo image n buffer words accepted in
        record {
          shaped = c.shaped;
          words = c.words;
          mendable-still = c.mendable;
          maps = maps-of c;
          room = first-cut geo image from.0 from.1 (below-ceiling geo image n buffer accepted) (first_of j (writing geo image n buffer)) cut-here;
        }

  -- an accepted release, which is one step
  module _ (n : ℕ) (accepted : release_answer geo image n ≡ Accepted) where
    abbrev released-image : Image
    released-image = run geo image (releasing geo image n)

    release-within : (j : ℕ) → Within geo (Either geo image released-image) 1 (run geo image (first_of j (releasing geo image n)))
    release-within zero = rw (run_none geo image) (untouched released-image 1)
    release-within (suc j) =
        let r = release-released geo image n words accepted in
        rw (take_all (suc j) (releasing geo image n) (omega (arith, steps-counted (releasing geo image n), r.words, r.erasures)))
        (record {
          shaped = r.ready.shaped;
          words = r.ready.words;
          mendable-still = sound-mendable geo released-image r.ready.sound;
          maps = inr (λ m. refl);
          room = inl (r.still-blank ∙ start.1);
        })

  -- either of them, accepted or not
  changing-within :
      (call : Changing) → OfWords call → (j : ℕ) → Within geo (Either geo image (changed geo image call)) 1 (run geo image (first_of j (changing geo image call)))
  unfolding changing write_steps release_steps
  changing-within (Write n buffer) handed j = go (accepted? (write_answer geo image n buffer))
    where
      go :
          Dec (write_answer geo image n buffer ≡ Accepted) →
          Within geo (Either geo image (changed geo image (Write n buffer))) 1 (run geo image (first_of j (changing geo image (Write n buffer))))
      go (yes a) = rw (if-accepted (writing geo image n buffer) [] a) (write-within n buffer handed a j)
      go (no a) =
          rw (if-refused (write_answer geo image n buffer) (writing geo image n buffer) [] a, take-nil {A = Step} j, run_none geo image) (untouched image 1)
  changing-within (Release n) handed j = go (accepted? (release_answer geo image n))
    where
      go :
          Dec (release_answer geo image n ≡ Accepted) →
          Within geo (Either geo image (changed geo image (Release n))) 1 (run geo image (first_of j (changing geo image (Release n))))
      go (yes a) = rw (if-accepted (releasing geo image n) [] a) (release-within n a j)
      go (no a) =
          rw (if-refused (release_answer geo image n) (releasing geo image n) [] a, take-nil {A = Step} j, run_none geo image) (untouched image 1)

-- ---- the claim

-- the first cut is the first, whether a block was erased before it or not
one-since : (erased-none : Bool) → cond erased-none (0 + 1) 1 ≡ 1
one-since true = refl
one-since false = refl

pub cuts-are-mended : CutsAreMended
unfolding cut_after
cuts-are-mended geo image call j js words handed checked few =
    let Maps = Either geo image (changed geo image call) in
    let first = cut_after geo (record { image = image; since = 0; most = 0 }) j (changing geo image call) in
    let at : Within geo Maps first.since first.image = first-within (changing-within geo image words checked call handed j) in
    let counted-in = cut-counted geo Maps (either_same geo image (changed geo image call)) (record { image = image; since = 0; most = 0 }) j (changing geo image call) in
    let end = within-cuts geo Maps (either_same geo image (changed geo image call)) first js at counted-in.0 few in
    let accepted = within-accepted geo Maps (either_same geo image (changed geo image call)) _ _ end.0 (omega (arith, end.1, few)) in
    let ended = (repairs_cut geo first js).image in (
      accepted,
      whole-formed geo ended end.0.words accepted,
      either_same geo image (changed geo image call) ended (repaired geo ended) (whole-keeps geo ended end.0.words accepted) end.0.maps,
    )
  where
    first-within :
        Within geo (Either geo image (changed geo image call)) 1 (run geo image (first_of j (changing geo image call))) →
        let first : Cut = cut_after geo (record { image = image; since = 0; most = 0 }) j (changing geo image call) in
        Within geo (Either geo image (changed geo image call)) first.since first.image
    first-within w = rw (one-since (eqb (erasures_in (first_of j (changing geo image call))) 0)) w
