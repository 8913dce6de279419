-- The further promises hold: each statement of specs/Properties.antt. Assumes nothing.
use mathlib.Core.Path.{◌≡◌, refl, sym, ◌∙◌}
use mathlib.Core.Bool.{true, false}
use mathlib.Core.List.{List, []}
use mathlib.Core.Option.{some, none}
use Prim.Native.Nat.{ℕ}
use native.Mathlib.Omega.{arith}
use lib.ListN.{length}
use borrow.Author.Tests.{eq-eqb}
use Rattle.geometry.specs.declared.Geometry.{Geometry}
use Rattle.geometry.specs.Places.{place}
use Rattle.geometry.proofs.Laws.{limits-pass}
use Rattle.image.specs.Found.{Found}
use Rattle.image.specs.Found.{At, Nothing}
use Rattle.image.specs.Words.{Image, contents}
use Rattle.image.specs.Slots.{find, map_of}
use Rattle.image.specs.WellFormed.{well_formed}
use Rattle.image.proofs.Capacity.{image-parts, live-at-most}
use Rattle.image.proofs.Own.{each-own}
use Rattle.image.proofs.Facts.{sound-facts, formed-sound, facts-formed}
use Rattle.image.proofs.Finding.{live-found, map_at, map-nothing}
use Rattle.image.proofs.Mending.{mendable-facts}
use Rattle.flash.specs.declared.Step.{Step}
use Rattle.flash.specs.Steps.{run, programs_word}
use Rattle.flash.specs.Placing.{releasing}
use Rattle.flash.specs.Writing.{writing}
use Rattle.flash.specs.Repairing.{repairing}
use Rattle.flash.proofs.Counts.{placing-words}
use Rattle.flash.proofs.Unused.{spares-none, releasing-spares}
use Rattle.repairing.proofs.Careful.{repair-careful}
use Rattle.answers.specs.Answers.{Answer, Accepted, if_accepted}
use Rattle.answers.proofs.Acceptance.{if-accepted, if-refused, accepted?}
use Rattle.calls.specs.Refusals.{check_answer, read_answer, write_answer, release_answer, repair_answer}
use Rattle.calls.specs.Calls.{fresh, formatted, totals_of, no_totals, reported, read_buffer, write_steps, release_steps, repair_steps}
use Rattle.promises.specs.Runs.{ran, started}
use Rattle.promises.specs.Properties.{TheOneSlot, EachSlotByItself, FormatMakesAFreshImage, RunsStayWellFormed, ReportAddsUp, OthersReadAsBefore, UnusedWordsAreNotProgrammed, PlacingCosts, WearAndFreeSlots}
use Rattle.calls.proofs.AcceptedCalls.{check-accepted, format-accepted, write-accepted, write-steps, write-wrote, release-accepted, release-steps, release-blank, release-released, repair-accepted}
use Rattle.promises.proofs.Fresh.{fresh-ready, fresh-blank, fresh-formed, fresh-map, fresh-frees, fresh-worn}
use Rattle.promises.proofs.Running.{Good, runs}
use Rattle.calls.proofs.CallLaws.{formed-ready}

pub the-one-slot : TheOneSlot
the-one-slot geo image n b c i j checked l l' h h' e =
    let s = sound-facts geo image (formed-sound geo image (check-accepted geo image checked).1) in
    (map_at geo image n b i (live-found geo image s.once n b i (record { block = l; slot_is = h; live = e })), s.once n b c i j l l' h h' e)

pub each-slot-by-itself : EachSlotByItself
each-slot-by-itself geo image b i checked l h =
    let none = (sound-facts geo image (formed-sound geo image (check-accepted geo image checked).1)).current in
    (none.none b i l h, each-own none l h)

pub format-makes-a-fresh-image : FormatMakesAFreshImage
unfolding formatted
format-makes-a-fresh-image geo image accepted =
    let within = (format-accepted geo image accepted).limits in
    rw (if-accepted (fresh geo) image accepted)
    (fresh-formed geo within, fresh-map geo within, fresh-frees geo within, fresh-worn geo within)

-- a good image is checked
good-checked : (geo : Geometry) (image : Image) → Good geo image → check_answer geo image ≡ Accepted
unfolding check_answer
good-checked geo image good =
    let shaped = good.ready.shaped in
    rw (limits-pass geo shaped.limits, eq-eqb _ _ shaped.long, facts-formed geo image good.ready.sound good.spare)

pub runs-stay-well-formed : RunsStayWellFormed
unfolding formatted
runs-stay-well-formed geo image calls = (
  λ accepted whole.
      let within = (format-accepted geo image accepted).limits in
      let made = if-accepted (fresh geo) image accepted in
      let good = (runs geo calls (started (fresh geo)) (record { ready = fresh-ready geo within; spare = fresh-blank geo within }) (rw made at whole)).good in
      rw made (good-checked geo (ran geo (started (fresh geo)) calls).image good),
  λ checked words whole.
      let start = check-accepted geo image checked in
      let formed = formed-ready geo image start.0 words start.1 in
      let good = (runs geo calls (started image) (record { ready = formed.0; spare = formed.1 }) whole).good in
      good-checked geo (ran geo (started image) calls).image good,
)

pub report-adds-up : ReportAddsUp
unfolding reported
report-adds-up geo image accepted =
    let facts = sound-facts geo image (formed-sound geo image (check-accepted geo image accepted).1) in
    rw (if-accepted (totals_of geo image) (no_totals (check_answer geo image)) accepted)
    (image-parts geo image facts, live-at-most geo image facts)

-- two images of one length, both well formed, that map m alike read m alike
read_same :
    (geo : Geometry) (image after : Image) (m : ℕ) (handed : List ℕ) →
    length after ≡ length image →
    well_formed geo image ≡ true →
    well_formed geo after ≡ true →
    map_of geo after m ≡ map_of geo image m →
    (read_answer geo after m handed ≡ read_answer geo image m handed) × (read_buffer geo after m handed ≡ read_buffer geo image m handed)
unfolding read_answer read_buffer
read_same geo image after m handed long formed formed' same = go (find geo after m) refl (find geo image m) refl
  where
    go :
        (f : Found) →
        find geo after m ≡ f →
        (f' : Found) →
        find geo image m ≡ f' →
        (read_answer geo after m handed ≡ read_answer geo image m handed) × (read_buffer geo after m handed ≡ read_buffer geo image m handed)
    go (At b i) e (At c j) e' =
        let alike : contents geo after b i ≡ contents geo image c j =
        inner (sym (map_at geo after m b i e) ∙ same ∙ map_at geo image m c j e') in
        rw (long, formed, formed', e, e', alike) (refl, refl)
      where
        inner : {x y : List ℕ} → some x ≡ some y → x ≡ y
        inner p = cc
    go (At b i) e Nothing e' =
        absurd
        (let clash : some (contents geo after b i) ≡ none = sym (map_at geo after m b i e) ∙ same ∙ map-nothing geo image m e' in
        let z : ◌≡◌ {A = ℕ} 0 1 = cc in
        omega arith)
    go Nothing e (At c j) e' =
        absurd
        (let clash : some (contents geo image c j) ≡ none = sym (map_at geo image m c j e') ∙ sym same ∙ map-nothing geo after m e in
        let z : ◌≡◌ {A = ℕ} 0 1 = cc in
        omega arith)
    go Nothing e Nothing e' = rw (long, formed, formed', e, e') (refl, refl)

pub others-read-as-before : OthersReadAsBefore
others-read-as-before geo image n m buffer handed words given x = (
  λ accepted.
      let same = write-steps geo image n buffer words given accepted in
      let w = write-wrote geo image n buffer words given accepted in
      let rows = write-accepted geo image n buffer accepted in
      rw same
      (read_same geo image (run geo image (writing geo image n buffer)) m handed
      (w.ready.shaped.long ∙ sym rows.0.long) rows.1
      (facts-formed geo (run geo image (writing geo image n buffer)) w.ready.sound w.still-blank) (w.other m x)),
  λ accepted.
      let same = release-steps geo image n words accepted in
      let r = release-released geo image n words accepted in
      let rows = release-accepted geo image n accepted in
      rw same
      (read_same geo image (run geo image (releasing geo image n)) m handed
      (r.ready.shaped.long ∙ sym rows.0.long) rows.1
      (facts-formed geo (run geo image (releasing geo image n)) r.ready.sound (r.still-blank ∙ release-blank geo image n words accepted)) (r.other m x)),
)

pub unused-words-are-not-programmed : UnusedWordsAreNotProgrammed
unfolding write_steps release_steps repair_steps
unused-words-are-not-programmed geo image n b j buffer words given unused = (
  spared (write_answer geo image n buffer) (writing geo image n buffer) (λ accepted. (write-wrote geo image n buffer words given accepted).spares b j unused),
  spared (release_answer geo image n) (releasing geo image n)
      (λ accepted. releasing-spares geo (release-accepted geo image n accepted).0.limits image n b j unused),
  spared (repair_answer geo image) (repairing geo image)
      (λ accepted.
      let (shaped, mends, room, worn) = repair-accepted geo image accepted in
      (repair-careful geo image shaped words (mendable-facts geo image mends) room worn).spares b j unused),
)
  where
    -- so where the call is refused: it has no step
    spared :
        (answer : Answer) (steps : List Step) →
        (answer ≡ Accepted → programs_word steps (place geo b j) ≡ false) →
        programs_word (if_accepted answer steps []) (place geo b j) ≡ false
    spared answer steps if-done = go (accepted? answer)
      where
        go : Dec (answer ≡ Accepted) → programs_word (if_accepted answer steps []) (place geo b j) ≡ false
        go (yes accepted) = rw (if-accepted steps [] accepted) (if-done accepted)
        go (no refused) = rw (if-refused answer steps [] refused) (spares-none geo b j unused)

pub placing-costs : PlacingCosts
placing-costs geo image n ws b i = placing-words geo image n ws b i

pub wear-and-free-slots : WearAndFreeSlots
wear-and-free-slots geo image n buffer words given = (
  λ accepted.
      let w = write-wrote geo image n buffer words given accepted in
      rw (write-steps geo image n buffer words given accepted) (w.worn, w.free, λ once. (w.gain once, w.low once)),
  λ accepted.
      let r = release-released geo image n words accepted in
      rw (release-steps geo image n words accepted) (r.words, r.erasures, r.free, r.worn),
)
