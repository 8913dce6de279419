-- A run: what each call pays in free slots, and so how many erasures a run can make. Assumes nothing.
use mathlib.Core.Path.{◌≡◌, refl, sym, ap, ◌∙◌}
use mathlib.Core.Bool.{true, false, not, true≢false}
use mathlib.Core.List.{List, [], ◌∷◌}
use Prim.Native.Nat.{ℕ, zero, suc, ◌+◌, ◌-◌, ◌*◌, ◌≤◌}
use native.Mathlib.Omega.{arith}
use lib.Seq.{take-nil}
use Rattle.ranges.proofs.Tests.{both-pass}
use Rattle.geometry.specs.declared.Geometry.{Geometry}
use Rattle.geometry.specs.Geometry.{d, g}
use Rattle.image.specs.Words.{Image}
use Rattle.image.specs.WellFormed.{R6}
use Rattle.flash.specs.declared.Step.{Step}
use Rattle.flash.specs.Steps.{run, erasures_in, first_of}
use Rattle.flash.specs.Placing.{releasing}
use Rattle.flash.specs.Writing.{writing}
use Rattle.flash.specs.Repairing.{repairing}
use Rattle.flash.proofs.Filling.{Ready}
use Rattle.flash.proofs.Stores.{run_none}
use Rattle.flash.proofs.Written.{free_in, worn_in, Wrote}
use Rattle.flash.proofs.Alike.{low_bits, low-bits-length, low-bits-words, writing-alike}
use Rattle.answers.specs.Answers.{Answer, Accepted, if_accepted}
use Rattle.answers.proofs.Acceptance.{if-accepted, if-refused, accepted?}
use Rattle.calls.specs.Refusals.{write_answer, release_answer, repair_answer}
use Rattle.calls.specs.Calls.{write_steps_after, write_steps, release_steps_after, release_steps, repair_steps}
use Rattle.tabled.specs.Refusals.{write_answer_with, release_answer_with}
use Rattle.tabled.specs.Calls.{write_steps_with, release_steps_with}
use Rattle.promises.specs.Runs.{Call, Check, Report, Read, Write, Release, WriteStep, ReleaseStep, Repair, RepairStep, WriteFirst, ReleaseFirst, RepairFirst, Build, ReadWith, WriteWith, ReleaseWith, State, called, ran, is_cut, uncut}
use Rattle.calls.proofs.AcceptedCalls.{write-by-length, write-wrote, release-released}
use Rattle.repairing.proofs.Nothing.{nothing-repaired}
use Rattle.promises.proofs.Accepted.{write-too, release-too}
use Rattle.promises.proofs.Given.{if-either}

-- an image that is well formed, of the right shape and of 32-bit words
pub record Good (geo : Geometry) (image : Image) : Type 0 where
  pub ready : Ready geo image
  pub spare : R6 geo image ≡ true

-- What one call does to the free slots: F before it, F' after it, w accepted writes (0 or 1), e erasures. A write takes one slot, and
-- an erasure is made only at F ≡ d, and gives back g.
record Paid (g d F F' w e : ℕ) : Type 0 where
  balance : F + g * e ≤ F' + w
  one : w ≤ 1
  erases : e ≤ w
  low : e ≡ 1 → F ≡ d

-- one call before a run of which the law holds: E erasures and W writes from F' on
paid-before :
    {g d F F' w e k : ℕ} (W E : ℕ) →
    Paid g d F F' w e →
    ((k : ℕ) → E ≡ suc k → F' + g * k + 1 ≤ W + d) →
    e + E ≡ suc k →
    F + g * k + 1 ≤ w + W + d
paid-before {k = k} W zero p law h =
    let none : k ≡ 0 = omega arith in
    rw none (omega (arith, p.low (omega arith)))
paid-before {e = e} {k = k} W (suc E) p law h =
    let more : k ≡ e + E = omega arith in
    rw more (omega (arith, law E refl))

module _ (geo : Geometry) where
  -- what a call leaves of a good state
  record Step-of (s t : State) : Type 0 where
    good : Good geo t.image
    w : ℕ
    e : ℕ
    writes : t.writes ≡ s.writes + w
    erasures : t.erasures ≡ s.erasures + e
    worn : worn_in geo t.image ≡ worn_in geo s.image + e
    paid : Paid (g geo) (d geo) (free_in geo s.image) (free_in geo t.image) w e

  -- a call that leaves the image
  idle : (s t : State) → Good geo s.image → t.image ≡ s.image → t.writes ≡ s.writes → t.erasures ≡ s.erasures → Step-of s t
  idle s t good i w e =
      record {
        good = rw i good;
        w = 0;
        e = 0;
        writes = omega arith;
        erasures = omega arith;
        worn = rw i (omega arith);
        paid = rw i (record { balance = omega arith; one = omega arith; erases = omega arith; low = omega arith });
      }

  -- of an accepted write: the equation of its free slots, with at least g for an erasure
  write-balance :
      {image : Image} {n v : ℕ} {ws : List ℕ} {steps : List Step} →
      Wrote geo image n ws v steps →
      free_in geo image + g geo * erasures_in steps ≤ free_in geo (run geo image steps) + 1
  write-balance {image} {v = v} {steps = steps} w = go (erasures_in steps) refl w.erases
    where
      go : (e : ℕ) → erasures_in steps ≡ e → e ≤ 1 → free_in geo image + g geo * erasures_in steps ≤ free_in geo (run geo image steps) + 1
      go zero q l = rw q (omega (arith, rw q at w.free))
      go (suc zero) q l = rw q (omega (arith, rw q at w.free, w.gain q))
      go (suc (suc e)) q l = absurd (omega arith)

  -- a write of n that is answered so; one is accepted only where the call without a table is
  module _ (s : State) (n : ℕ) (buffer : List ℕ) (answer : Answer) (too : answer ≡ Accepted → write_answer geo s.image n buffer ≡ Accepted) where
    abbrev write-steps-of : List Step
    write-steps-of = write_steps_after geo s.image answer n buffer

    abbrev wrote : State
    wrote =
        record {
          image = run geo s.image write-steps-of;
          writes = s.writes + if_accepted answer 1 0;
          erasures = s.erasures + erasures_in write-steps-of;
        }

    -- it goes by the 32 lowest bits of each word of the buffer
    write_step : Good geo s.image → Step-of s wrote
    unfolding erasures_in
    write_step good = go (accepted? answer)
      where
        go : Dec (answer ≡ Accepted) → Step-of s wrote
        go (yes a) =
            let same = if-accepted (writing geo s.image n buffer) [] a in
            let alike = writing-alike geo n buffer s.image in
            let left = alike.same-run s.image in
            let low-accepted = write-by-length geo s.image n (low_bits buffer) buffer (low-bits-length buffer) ∙ too a in
            let r = write-wrote geo s.image n (low_bits buffer) good.ready.words (low-bits-words buffer) low-accepted in
            record {
              good = rw (same, left) (record { ready = r.ready; spare = r.still-blank });
              w = 1;
              e = erasures_in (writing geo s.image n (low_bits buffer));
              writes = ap (s.writes +◌) (if-accepted 1 0 a);
              erasures = ap (λ (ss : List Step). s.erasures + erasures_in ss) same ∙ ap (s.erasures +◌) alike.same-erasures;
              worn = rw (same, left) r.worn;
              paid = rw (same, left) (record { balance = write-balance r; one = omega arith; erases = r.erases; low = r.low });
            }
        go (no a) =
            let none = if-refused answer (writing geo s.image n buffer) [] a in
            idle s wrote good
            (ap (run geo s.image) none ∙ run_none geo s.image)
            (ap (s.writes +◌) (if-refused answer 1 0 a) ∙ omega arith)
            (ap (λ (ss : List Step). s.erasures + erasures_in ss) none ∙ omega arith)

  -- a release likewise
  module _ (s : State) (n : ℕ) (answer : Answer) (too : answer ≡ Accepted → release_answer geo s.image n ≡ Accepted) where
    abbrev release-steps-of : List Step
    release-steps-of = release_steps_after geo s.image answer n

    abbrev freed : State
    freed =
        record {
          image = run geo s.image release-steps-of;
          writes = s.writes;
          erasures = s.erasures + erasures_in release-steps-of;
        }

    release_step : Good geo s.image → Step-of s freed
    unfolding erasures_in
    release_step good = go (accepted? answer)
      where
        go : Dec (answer ≡ Accepted) → Step-of s freed
        go (yes a) =
            let same = if-accepted (releasing geo s.image n) [] a in
            let r = release-released geo s.image n good.ready.words (too a) in
            record {
              good = rw same (record { ready = r.ready; spare = r.still-blank ∙ good.spare });
              w = 0;
              e = 0;
              writes = omega arith;
              erasures = ap (λ (ss : List Step). s.erasures + erasures_in ss) same ∙ omega (arith, r.erasures);
              worn = rw same (r.worn ∙ omega arith);
              paid = rw same (record { balance = omega (arith, r.free); one = omega arith; erases = omega arith; low = omega arith });
            }
        go (no a) =
            let none = if-refused answer (releasing geo s.image n) [] a in
            idle s freed good
            (ap (run geo s.image) none ∙ run_none geo s.image)
            refl
            (ap (λ (ss : List Step). s.erasures + erasures_in ss) none ∙ omega arith)

  -- how a run from s to t stands: k + 1 erasures, the wear, that nothing is taken back, and that the image is still good
  pub record Ran (s t : State) : Type 0 where
    pub good : Good geo t.image
    pub bound : (k : ℕ) → t.erasures ≡ s.erasures + suc k → s.writes + free_in geo s.image + g geo * k + 1 ≤ t.writes + d geo
    pub worn : worn_in geo t.image + s.erasures ≡ worn_in geo s.image + t.erasures
    pub more-erasures : s.erasures ≤ t.erasures
    pub more-writes : s.writes ≤ t.writes

  -- one call before a run
  joined : (s m t : State) → Step-of s m → Ran m t → Ran s t
  joined s m t st r =
      record {
        good = r.good;
        bound = λ k e.
            let law = paid-before {k = k} (t.writes - m.writes) (t.erasures - m.erasures) st.paid
            (λ j q. omega (arith, r.bound j (omega (arith, r.more-erasures)), r.more-writes))
            (omega (arith, st.erasures, r.more-erasures)) in
            omega (arith, law, st.writes, r.more-writes);
        worn = omega (arith, st.worn, st.erasures, r.worn);
        more-erasures = omega (arith, st.erasures, r.more-erasures);
        more-writes = omega (arith, st.writes, r.more-writes);
      }

  -- a call of no steps, or one for the first steps that is refused, leaves the state as it was
  still : (s : State) (steps : List Step) → Good geo s.image → steps ≡ [] →
      Step-of s (record { image = run geo s.image steps; writes = s.writes; erasures = s.erasures + erasures_in steps })
  unfolding erasures_in
  still s steps good none =
      idle s (record { image = run geo s.image steps; writes = s.writes; erasures = s.erasures + erasures_in steps }) good
      (ap (run geo s.image) none ∙ run_none geo s.image)
      refl
      (ap (λ (ss : List Step). s.erasures + erasures_in ss) none ∙ omega arith)

  -- a repair has nothing to do
  nothing-to-do : (image : Image) → Good geo image → repair_steps geo image ≡ []
  unfolding repair_steps
  nothing-to-do image good =
      if-either (λ (ss : List Step). ss) (repair_answer geo image) (nothing-repaired geo image good.ready.sound good.spare) refl

  -- a call that is no cut is refused, and has no steps
  refused-first : (answer : Answer) (j : ℕ) (steps : List Step) → not (if_accepted answer true false) ≡ true → first_of j (if_accepted answer steps []) ≡ []
  refused-first answer j steps uncut-call = go (accepted? answer)
    where
      go : Dec (answer ≡ Accepted) → first_of j (if_accepted answer steps []) ≡ []
      go (yes a) = absurd (true≢false (sym uncut-call ∙ ap not (if-accepted true false a)))
      go (no a) = ap (first_of j) (if-refused answer steps [] a) ∙ take-nil j

  pub runs :
      (calls : List Call) (s : State) →
      Good geo s.image →
      uncut geo s calls ≡ true →
      Ran s (ran geo s calls)
  unfolding ran called uncut is_cut write_steps release_steps repair_steps write_steps_with release_steps_with
  runs [] s good whole =
      record { good = good; bound = λ k e. absurd (omega arith); worn = refl; more-erasures = omega arith; more-writes = omega arith }
  runs (Check ∷ cs) s good whole = runs cs s good whole
  runs (Report ∷ cs) s good whole = runs cs s good whole
  runs (Read n buffer ∷ cs) s good whole = runs cs s good whole
  runs (Write n buffer ∷ cs) s good whole =
      let call : Call = Write n buffer in
      let st = write_step s n buffer (write_answer geo s.image n buffer) (λ a. a) good in
      joined s (called geo s call) (ran geo (called geo s call) cs) st (runs cs (called geo s call) st.good whole)
  runs (Release n ∷ cs) s good whole =
      let call : Call = Release n in
      let st = release_step s n (release_answer geo s.image n) (λ a. a) good in
      joined s (called geo s call) (ran geo (called geo s call) cs) st (runs cs (called geo s call) st.good whole)
  runs (WriteStep n buffer i ∷ cs) s good whole = runs cs s good whole
  runs (ReleaseStep n i ∷ cs) s good whole = runs cs s good whole
  runs (Repair ∷ cs) s good whole =
      let st = still s (repair_steps geo s.image) good (nothing-to-do s.image good) in
      joined s (called geo s Repair) (ran geo (called geo s Repair) cs) st (runs cs (called geo s Repair) st.good whole)
  runs (RepairStep i ∷ cs) s good whole = runs cs s good whole
  runs (WriteFirst n buffer j ∷ cs) s good whole =
      let call : Call = WriteFirst n buffer j in
      let parts = both-pass (not (is_cut geo s.image call)) (uncut geo (called geo s call) cs) whole in
      let st = still s (first_of j (write_steps geo s.image n buffer)) good (refused-first (write_answer geo s.image n buffer) j (writing geo s.image n buffer) parts.0) in
      joined s (called geo s call) (ran geo (called geo s call) cs) st (runs cs (called geo s call) st.good parts.1)
  runs (ReleaseFirst n j ∷ cs) s good whole =
      let call : Call = ReleaseFirst n j in
      let parts = both-pass (not (is_cut geo s.image call)) (uncut geo (called geo s call) cs) whole in
      let st = still s (first_of j (release_steps geo s.image n)) good (refused-first (release_answer geo s.image n) j (releasing geo s.image n) parts.0) in
      joined s (called geo s call) (ran geo (called geo s call) cs) st (runs cs (called geo s call) st.good parts.1)
  runs (RepairFirst j ∷ cs) s good whole =
      let call : Call = RepairFirst j in
      let parts = both-pass (not (is_cut geo s.image call)) (uncut geo (called geo s call) cs) whole in
      let st = still s (first_of j (repair_steps geo s.image)) good (refused-first (repair_answer geo s.image) j (repairing geo s.image) parts.0) in
      joined s (called geo s call) (ran geo (called geo s call) cs) st (runs cs (called geo s call) st.good parts.1)
  runs (Build table ∷ cs) s good whole = runs cs s good whole
  runs (ReadWith n buffer table ∷ cs) s good whole = runs cs s good whole
  runs (WriteWith n buffer table ∷ cs) s good whole =
      let call : Call = WriteWith n buffer table in
      let st = write_step s n buffer (write_answer_with geo s.image n buffer table) (write-too geo s.image n buffer table) good in
      joined s (called geo s call) (ran geo (called geo s call) cs) st (runs cs (called geo s call) st.good whole)
  runs (ReleaseWith n table ∷ cs) s good whole =
      let call : Call = ReleaseWith n table in
      let st = release_step s n (release_answer_with geo s.image n table) (release-too geo s.image n table) good in
      joined s (called geo s call) (ran geo (called geo s call) cs) st (runs cs (called geo s call) st.good whole)
