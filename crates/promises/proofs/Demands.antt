-- The demands hold: each statement of specs/Demands.antt, from the laws below it. Assumes nothing.
use mathlib.Core.Path.{◌≡◌, refl, sym, ap, ◌∙◌}
use mathlib.Core.Bool.{Bool, true, false, cond, true≢false}
use mathlib.Core.List.{List, []}
use mathlib.Core.Logic.{◌≢◌, inl, inr}
use mathlib.Core.Option.{some, none}
use Prim.Native.Nat.{ℕ, ◌+◌, ◌-◌, ◌*◌, ◌/◌}
use native.Mathlib.Omega.{arith}
use Rattle.std.specs.Prelude.{Err}
use Rattle.geometry.specs.declared.Geometry.{Geometry}
use Rattle.geometry.specs.Geometry.{d, block_length}
use Rattle.image.specs.Found.{Found}
use Rattle.image.specs.Found.{At, Nothing}
use Rattle.image.specs.Words.{Image}
use Rattle.image.specs.Slots.{find, map_of}
use Rattle.image.specs.Blocks.{victim}
use Rattle.image.specs.WellFormed.{R6}
use Rattle.image.specs.Mending.{emptiest}
use Rattle.image.specs.Faults.{first_fault}
use Rattle.image.proofs.Facts.{facts-formed}
use Rattle.image.proofs.Finding.{map_at, map-nothing}
use Rattle.image.proofs.Mending.{mendable-facts}
use Rattle.flash.specs.declared.Step.{Step}
use Rattle.flash.specs.Steps.{run, erasures_in, erases_block}
use Rattle.flash.specs.Placing.{releasing}
use Rattle.flash.specs.Writing.{must_reclaim, writing}
use Rattle.flash.specs.Repairing.{repairing}
use Rattle.flash.proofs.Stores.{run_none}
use Rattle.flash.proofs.Counts.{releasing-erasures, filling-erases-nothing}
use Rattle.flash.proofs.Clearing.{program-clears, run-clears, erases-none}
use Rattle.flash.proofs.Planned.{writing-fills}
use Rattle.repairing.proofs.Careful.{repair-careful, repair-erases}
use Rattle.answers.specs.declared.Refusal.TheVariants.{BadGeometry, BadBuffer, BadNumber, Malformed, Unmapped}
use Rattle.answers.specs.Answers.{Answer, Accepted, number_of, if_accepted}
use Rattle.answers.proofs.Acceptance.{if-accepted, if-refused, accepted?}
use Rattle.calls.specs.Refusals.{one_sector, format_rows, check_rows, read_rows, write_rows, release_rows, repair_rows, format_answer, check_answer, read_answer, write_answer, release_answer, repair_answer, row1, row2, row3, row4}
use Rattle.calls.specs.Calls.{fresh, formatted, totals_of, no_totals, reported, copied_from, read_buffer, write_steps, release_steps, repair_steps, outcome}
use Rattle.promises.specs.Runs.{ran, started}
use Rattle.promises.specs.Demands.{Refusals, EveryAnswerNamesThePair, RefusedChangesNothing, ReadReturnsTheMap, WriteSetsOneSector, ReleaseRemovesOneSector, AStepOnlyClears, ProgrammingOnlyClears, OnlyTheVictimIsErased, OnlyTheEmptiestIsErased, StepsLeaveTheAskedWord, WriteBound, RunBound, RunBoundFromAny}
use Rattle.calls.proofs.CallLaws.{formed-ready}
use Rattle.promises.proofs.Given.{given-exactly, names-the-pair, if-either}
use Rattle.calls.proofs.AcceptedCalls.{check-accepted, format-accepted, read-accepted, write-steps, write-wrote, release-steps, release-blank, release-released, repair-accepted, repair-steps}
use Rattle.promises.proofs.Fresh.{fresh-ready, fresh-blank, fresh-frees, fresh-worn}
use Rattle.promises.proofs.Running.{runs}

-- ---- Demand 1

-- a report carries the answer of a check, accepted or not
report-answer : (geo : Geometry) (image : Image) → (reported geo image).answer ≡ check_answer geo image
unfolding reported
report-answer geo image = go (accepted? (check_answer geo image))
  where
    go : Dec (check_answer geo image ≡ Accepted) → (reported geo image).answer ≡ check_answer geo image
    go (yes e) = ap (λ t. t.answer) (if-accepted (totals_of geo image) (no_totals (check_answer geo image)) e) ∙ sym e
    go (no n) = ap (λ t. t.answer) (if-refused (check_answer geo image) (totals_of geo image) (no_totals (check_answer geo image)) n)

pub refusals : Refusals
unfolding format_answer check_answer read_answer write_answer release_answer repair_answer
refusals geo image n buffer = (
  given-exactly (format_rows geo image) refl,
  given-exactly (check_rows geo image) refl,
  report-answer geo image,
  given-exactly (read_rows geo image n buffer) refl,
  given-exactly (write_rows geo image n buffer) refl,
  given-exactly (release_rows geo image n) refl,
  given-exactly (repair_rows geo image) refl,
)

pub every-answer-names-the-pair : EveryAnswerNamesThePair
unfolding format_answer check_answer read_answer write_answer release_answer repair_answer
every-answer-names-the-pair geo image n buffer =
    let checks = names-the-pair geo image (check_rows geo image) (inl refl, (inr refl, tt)) in (
      names-the-pair geo image (format_rows geo image) (inl refl, tt),
      checks,
      rw (report-answer geo image) checks,
      names-the-pair geo image (read_rows geo image n buffer) (inl refl, (inl refl, (inl refl, (inr refl, (inl refl, tt))))),
      names-the-pair geo image (write_rows geo image n buffer) (inl refl, (inl refl, (inl refl, (inr refl, (inl refl, tt))))),
      names-the-pair geo image (release_rows geo image n) (inl refl, (inl refl, (inr refl, (inl refl, tt)))),
      names-the-pair geo image (repair_rows geo image) (inl refl, (inr refl, (inl refl, (inl refl, tt)))),
    )

pub refused-changes-nothing : RefusedChangesNothing
unfolding formatted reported read_buffer write_steps release_steps repair_steps
refused-changes-nothing geo image n buffer = (
  λ no. if-refused (format_answer geo image) (fresh geo) image no,
  λ no. if-refused (check_answer geo image) (totals_of geo image) (no_totals (check_answer geo image)) no,
  λ no. if-refused (read_answer geo image n buffer) (copied_from geo image (find geo image n) buffer) buffer no,
  λ no.
      let none_done = if-refused (write_answer geo image n buffer) (writing geo image n buffer) [] no in
      (ap (run geo image) none_done ∙ run_none geo image, ap (outcome (write_answer geo image n buffer)) none_done),
  λ no.
      let none_done = if-refused (release_answer geo image n) (releasing geo image n) [] no in
      (ap (run geo image) none_done ∙ run_none geo image, ap (outcome (release_answer geo image n)) none_done),
  λ no.
      let none_done = if-refused (repair_answer geo image) (repairing geo image) [] no in
      (ap (run geo image) none_done ∙ run_none geo image, ap (outcome (repair_answer geo image)) none_done),
)

-- ---- Demand 2

pub read-returns-the-map : ReadReturnsTheMap
unfolding read_buffer read_answer
read-returns-the-map geo image n buffer = (
  λ yes-read.
      let found = read-accepted geo image n buffer yes-read in
      map_at geo image n found.0 found.1 found.2
      ∙ ap some
      (sym
      (if-accepted (copied_from geo image (find geo image n) buffer) buffer yes-read
      ∙ ap (λ (f : Found). copied_from geo image f buffer) found.2)),
  λ answer. unmapped (find geo image n) refl answer,
)
  where
    -- where row 5 does not apply, Unmapped is not given
    not-given :
        (a b c e : Bool) (block rule : ℕ) →
        cond a (Err BadGeometry) (cond b (Err BadBuffer) (cond c (Err BadNumber) (cond e (Err (Malformed block rule)) Accepted))) ≡ Err Unmapped →
        ⊥
    not-given true b c e block rule q = omega (arith, ap number_of q)
    not-given false true c e block rule q = omega (arith, ap number_of q)
    not-given false false true e block rule q = omega (arith, ap number_of q)
    not-given false false false true block rule q = omega (arith, ap number_of q)
    not-given false false false false block rule q = omega (arith, ap number_of q)

    unmapped : (f : Found) → find geo image n ≡ f → read_answer geo image n buffer ≡ Err Unmapped → map_of geo image n ≡ none
    unmapped (At b i) e answer =
        absurd
        (not-given (row1 geo image).applies (row2 geo image (one_sector buffer)).applies (row3 geo image n).applies (row4 geo image).applies
        (first_fault geo image).block (first_fault geo image).rule
        (rw e at answer))
    unmapped Nothing e answer = map-nothing geo image n e

pub a-step-only-clears : AStepOnlyClears
a-step-only-clears = program-clears

pub programming-only-clears : ProgrammingOnlyClears
unfolding release_steps erasures_in
programming-only-clears geo image n buffer p j inside = (
  λ t.
      run-clears geo image (release_steps geo image n) p j inside
      (erases-none (release_steps geo image n) (if-either erasures_in (release_answer geo image n) (releasing-erasures geo image n) refl) (p / block_length geo)) t,
  λ kept t. run-clears geo image (write_steps geo image n buffer) p j inside kept t,
  λ kept t. run-clears geo image (repair_steps geo image) p j inside kept t,
)

-- a refused call erases no block
none-erased : (answer : Answer) (steps : List Step) (b : ℕ) → answer ≢ Accepted → erases_block (if_accepted answer steps []) b ≡ true → ⊥
unfolding erases_block
none-erased answer steps b refused erased =
    true≢false (sym erased ∙ ap (λ (ss : List Step). erases_block ss b) (if-refused answer steps [] refused))

pub only-the-victim-is-erased : OnlyTheVictimIsErased
unfolding write_steps
only-the-victim-is-erased geo image n b buffer words handed erased = go (accepted? (write_answer geo image n buffer))
  where
    go :
        Dec (write_answer geo image n buffer ≡ Accepted) →
        (must_reclaim geo image ≡ true) × (b ≡ victim geo image) × (erasures_in (write_steps geo image n buffer) ≡ 1)
    go (no refused) = absurd (none-erased (write_answer geo image n buffer) (writing geo image n buffer) b refused erased)
    go (yes accepted) =
        let same = write-steps geo image n buffer words handed accepted in
        let is = (write-wrote geo image n buffer words handed accepted).which b (rw same at erased) in
        (reclaims (must_reclaim geo image) refl is.0, is.1, ap erasures_in same ∙ is.0)
      where
        reclaims : (x : Bool) → must_reclaim geo image ≡ x → erasures_in (writing geo image n buffer) ≡ 1 → must_reclaim geo image ≡ true
        reclaims true e once = e
        reclaims false e once =
            absurd (omega (arith, sym once ∙ ap erasures_in (writing-fills geo image e n buffer) ∙ filling-erases-nothing geo image n buffer))

pub only-the-emptiest-is-erased : OnlyTheEmptiestIsErased
unfolding repair_steps
only-the-emptiest-is-erased geo image b words erased = go (accepted? (repair_answer geo image))
  where
    go :
        Dec (repair_answer geo image ≡ Accepted) →
        (R6 geo image ≡ false) × (b ≡ emptiest geo image) × (erasures_in (repair_steps geo image) ≡ 1)
    go (no refused) = absurd (none-erased (repair_answer geo image) (repairing geo image) b refused erased)
    go (yes accepted) =
        let same = repair-steps geo image accepted in
        let (shaped, mends, room, worn) = repair-accepted geo image accepted in
        let is = repair-erases geo image shaped words (mendable-facts geo image mends) room worn b (rw same at erased) in
        (is.0, is.1, ap erasures_in same ∙ is.2)

pub write-sets-one-sector : WriteSetsOneSector
write-sets-one-sector geo image n buffer words handed accepted =
    let same = write-steps geo image n buffer words handed accepted in
    let w = write-wrote geo image n buffer words handed accepted in (
      ap (run geo image) same,
      rw same (facts-formed geo (run geo image (writing geo image n buffer)) w.ready.sound w.still-blank),
      rw same w.here,
      λ m x. rw same (w.other m x),
    )

pub release-removes-one-sector : ReleaseRemovesOneSector
release-removes-one-sector geo image n words accepted =
    let same = release-steps geo image n words accepted in
    let r = release-released geo image n words accepted in (
      ap (run geo image) same,
      rw same (facts-formed geo (run geo image (releasing geo image n)) r.ready.sound (r.still-blank ∙ release-blank geo image n words accepted)),
      rw same r.here,
      λ m x. rw same (r.other m x),
    )

pub steps-leave-the-asked-word : StepsLeaveTheAskedWord
steps-leave-the-asked-word geo image n buffer words handed = (
  λ accepted. (write-wrote geo image n buffer words handed accepted).asked,
  λ accepted. (release-released geo image n words accepted).asked,
  λ accepted.
      let (shaped, mends, room, worn) = repair-accepted geo image accepted in
      (repair-careful geo image shaped words (mendable-facts geo image mends) room worn).asked,
)

-- ---- Demand 3

pub write-bound : WriteBound
write-bound geo image n buffer words handed accepted =
    let same = write-steps geo image n buffer words handed accepted in
    let w = write-wrote geo image n buffer words handed accepted in
    (rw same w.erases, rw same (omega (arith, w.words)), rw same w.plain)

pub run-bound-from-any : RunBoundFromAny
run-bound-from-any geo image calls checked words whole =
    let start = check-accepted geo image checked in
    let formed = formed-ready geo image start.0 words start.1 in
    let r = runs geo calls (started image) (record { ready = formed.0; spare = formed.1 }) whole in
    (λ l. omega (arith, r.bound ((ran geo (started image) calls).erasures - 1) (omega arith)), omega (arith, r.worn))

pub run-bound : RunBound
unfolding formatted
run-bound geo before calls accepted whole =
    let within = (format-accepted geo before accepted).limits in
    let made : formatted geo before ≡ fresh geo = if-accepted (fresh geo) before accepted in
    let r = runs geo calls (started (fresh geo)) (record { ready = fresh-ready geo within; spare = fresh-blank geo within }) (rw made at whole) in
    let end = ran geo (started (fresh geo)) calls in
    let one_more : (geo.blocks - 1 + 1) * d geo ≡ geo.blocks * d geo = ap (◌* d geo) (omega (arith, within.blocks_low)) in
    rw made
    (λ l. omega (arith, r.bound (end.erasures - 1) (omega arith), fresh-frees geo within, one_more), omega (arith, r.worn, fresh-worn geo within))
