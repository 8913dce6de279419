-- A number of blocks or sectors that 16 bits do not hold breaks its limit, and so does the one that stands for it: no call tells them
-- apart. Assumes nothing.
use mathlib.Core.Path.{◌≡◌, refl, sym, ap, ◌∙◌}
use mathlib.Core.Bool.{Bool, true, false}
use mathlib.Core.List.{List, []}
use mathlib.Core.Logic.{◌≢◌}
use Prim.Native.Nat.{ℕ, ◌<◌}
use native.Mathlib.Decide.{dec_lt}
use native.Mathlib.Omega.{arith}
use lib.Seq.{take-nil}
use Rattle.std.specs.Prelude.{Result, Ok, Err}
use Rattle.geometry.specs.declared.Geometry.{Geometry}
use Rattle.geometry.specs.Geometry.{shape, within_limits, Limits}
use Rattle.geometry.proofs.Laws.{limits-hold}
use Rattle.image.specs.Words.{Image}
use Rattle.tables.specs.Tables.{Table}
use Rattle.flash.specs.declared.Step.{Step}
use Rattle.flash.specs.declared.NextStep.{NextStep}
use Rattle.flash.specs.declared.NextStep.TheVariants.{Done}
use Rattle.flash.specs.Steps.{words_in, erasures_in, step_at}
use Rattle.flash.proofs.Stores.{run_none}
use Rattle.answers.specs.declared.Refusal.{Refusal}
use Rattle.answers.specs.declared.Refusal.TheVariants.{BadGeometry}
use Rattle.answers.specs.Answers.{Answer, Accepted, answer_of, number_of, block_of, rule_of}
use Rattle.answers.proofs.Acceptance.{if-refused, of-answered, not-accepted}
use Rattle.calls.specs.Outcomes.{Outcome}
use Rattle.calls.specs.Refusals.{format_answer, check_answer, read_answer, write_answer, release_answer, repair_answer}
use Rattle.calls.specs.Calls.{
  format_outcome,
  formatted,
  no_totals,
  reported,
  read_buffer,
  outcome,
  write_steps,
  write_outcome,
  written,
  write_first_outcome,
  written_first,
  release_steps,
  release_outcome,
  released,
  release_first_outcome,
  released_first,
  repair_steps,
  repair_outcome,
  repaired,
  repair_first_outcome,
  repaired_first,
}
use Rattle.stepwise.specs.Calls.{Stepped, step_of, write_step, release_step, repair_step}
use Rattle.tabled.specs.Refusals.{build_answer, read_answer_with, write_answer_with, release_answer_with}
use Rattle.tabled.specs.Calls.{table_built, read_buffer_with, write_steps_with, write_outcome_with, written_with, write_table, release_steps_with, release_outcome_with, released_with, release_table}
use Rattle.shellwaltz_c.specs.Plain.{narrowed}
use Rattle.shellwaltz_c.specs.Told.{next_of}

-- where one limit is broken, the test of all fails
outside : (geo : Geometry) → (Limits geo → ⊥) → within_limits geo ≡ false
outside geo broken = go (within_limits geo) refl
  where
    go : (w : Bool) → within_limits geo ≡ w → w ≡ false
    go false e = refl
    go true e = absurd (broken (limits-hold geo e))

-- what is the same for all geometries outside the limits is the same for a geometry and the narrowed one
narrowing {ℓ} :
    {A : Type ℓ} (gives : Geometry → A) (refused : A) →
    ((geo : Geometry) → within_limits geo ≡ false → gives geo ≡ refused) →
    {geo : Geometry} (b s l : ℕ) →
    geo ≡ shape (narrowed b) (narrowed s) l →
    gives geo ≡ gives (shape b s l)
narrowing gives refused out b s l e = ap gives e ∙ go (dec_lt b 65536) (dec_lt s 65536)
  where
    go : Dec (b < 65536) → Dec (s < 65536) → gives (shape (narrowed b) (narrowed s) l) ≡ gives (shape b s l)
    go (yes p) (yes q) =
        let same-b : narrowed b ≡ b = omega arith in
        let same_s : narrowed s ≡ s = omega arith in
        rw (same-b, same_s)
    go (no p) y =
        out (shape (narrowed b) (narrowed s) l) (outside _ (λ lim. omega (arith, lim.blocks_high)))
        ∙ sym (out (shape b s l) (outside _ (λ lim. omega (arith, lim.blocks_high))))
    go (yes p) (no q) =
        out (shape (narrowed b) (narrowed s) l) (outside _ (λ lim. omega (arith, lim.sectors_high)))
        ∙ sym (out (shape b s l) (outside _ (λ lim. omega (arith, lim.sectors_high))))

-- ---- so what each call answers and leaves is what it answers and leaves for the numbers that were handed in
module _ {geo : Geometry} (b s l : ℕ) (e : geo ≡ shape (narrowed b) (narrowed s) l) (image : Image) where
  pub format-same : (format_outcome geo image ≡ format_outcome (shape b s l) image) × (formatted geo image ≡ formatted (shape b s l) image)
  unfolding format_answer formatted words_in erasures_in
  format-same = (
    narrowing (λ x. format_outcome x image) (outcome (Err BadGeometry) []) (λ x out. rw out) b s l e,
    narrowing (λ x. formatted x image) image (λ x out. rw out) b s l e,
  )

  pub check-same : check_answer geo image ≡ check_answer (shape b s l) image
  unfolding check_answer
  check-same = narrowing (λ x. check_answer x image) (Err BadGeometry) (λ x out. rw out) b s l e

  pub report-same : reported geo image ≡ reported (shape b s l) image
  unfolding check_answer reported
  report-same = narrowing (λ x. reported x image) (no_totals (Err BadGeometry)) (λ x out. rw out) b s l e

  pub read_same :
      (n : ℕ) (buffer : List ℕ) →
      (read_answer geo image n buffer ≡ read_answer (shape b s l) image n buffer)
      × (read_buffer geo image n buffer ≡ read_buffer (shape b s l) image n buffer)
  unfolding read_answer read_buffer
  read_same n buffer = (
    narrowing (λ x. read_answer x image n buffer) (Err BadGeometry) (λ x out. rw out) b s l e,
    narrowing (λ x. read_buffer x image n buffer) buffer (λ x out. rw out) b s l e,
  )

  pub write_same :
      (n : ℕ) (buffer : List ℕ) →
      (write_outcome geo image n buffer ≡ write_outcome (shape b s l) image n buffer)
      × (written geo image n buffer ≡ written (shape b s l) image n buffer)
  unfolding write_answer write_steps
  write_same n buffer = (
    narrowing (λ x. write_outcome x image n buffer) (outcome (Err BadGeometry) []) (λ x out. rw out) b s l e,
    narrowing (λ x. written x image n buffer) image (λ x out. rw out (run_none x image)) b s l e,
  )

  pub release-same :
      (n : ℕ) →
      (release_outcome geo image n ≡ release_outcome (shape b s l) image n) × (released geo image n ≡ released (shape b s l) image n)
  unfolding release_answer release_steps
  release-same n = (
    narrowing (λ x. release_outcome x image n) (outcome (Err BadGeometry) []) (λ x out. rw out) b s l e,
    narrowing (λ x. released x image n) image (λ x out. rw out (run_none x image)) b s l e,
  )

  pub repair-same : (repair_outcome geo image ≡ repair_outcome (shape b s l) image) × (repaired geo image ≡ repaired (shape b s l) image)
  unfolding repair_answer repair_steps
  repair-same = (
    narrowing (λ x. repair_outcome x image) (outcome (Err BadGeometry) []) (λ x out. rw out) b s l e,
    narrowing (λ x. repaired x image) image (λ x out. rw out (run_none x image)) b s l e,
  )

-- ---- the same with a lookup table (K2)
module _ {geo : Geometry} (b s l : ℕ) (e : geo ≡ shape (narrowed b) (narrowed s) l) (image : Image) where
  pub build-same :
      (table : Table) →
      (build_answer geo image table ≡ build_answer (shape b s l) image table) × (table_built geo image table ≡ table_built (shape b s l) image table)
  unfolding build_answer table_built
  build-same table = (
    narrowing (λ x. build_answer x image table) (Err BadGeometry) (λ x out. rw out) b s l e,
    narrowing (λ x. table_built x image table) table (λ x out. rw out) b s l e,
  )

  pub read-with-same :
      (n : ℕ) (buffer : List ℕ) (table : Table) →
      (read_answer_with geo image n buffer table ≡ read_answer_with (shape b s l) image n buffer table)
      × (read_buffer_with geo image n buffer table ≡ read_buffer_with (shape b s l) image n buffer table)
  unfolding read_answer_with read_buffer_with
  read-with-same n buffer table = (
    narrowing (λ x. read_answer_with x image n buffer table) (Err BadGeometry) (λ x out. rw out) b s l e,
    narrowing (λ x. read_buffer_with x image n buffer table) buffer (λ x out. rw out) b s l e,
  )

  pub write-with-same :
      (n : ℕ) (buffer : List ℕ) (table : Table) →
      (write_outcome_with geo image n buffer table ≡ write_outcome_with (shape b s l) image n buffer table)
      × ((written_with geo image n buffer table ≡ written_with (shape b s l) image n buffer table)
      × (write_table geo image n buffer table ≡ write_table (shape b s l) image n buffer table))
  unfolding write_answer_with write_steps_with write_table
  write-with-same n buffer table = (
    narrowing (λ x. write_outcome_with x image n buffer table) (outcome (Err BadGeometry) []) (λ x out. rw out) b s l e,
    (
      narrowing (λ x. written_with x image n buffer table) image (λ x out. rw out (run_none x image)) b s l e,
      narrowing (λ x. write_table x image n buffer table) table (λ x out. rw out) b s l e,
    ),
  )

  pub release-with-same :
      (n : ℕ) (table : Table) →
      (release_outcome_with geo image n table ≡ release_outcome_with (shape b s l) image n table)
      × ((released_with geo image n table ≡ released_with (shape b s l) image n table)
      × (release_table geo image n table ≡ release_table (shape b s l) image n table))
  unfolding release_answer_with release_steps_with release_table
  release-with-same n table = (
    narrowing (λ x. release_outcome_with x image n table) (outcome (Err BadGeometry) []) (λ x out. rw out) b s l e,
    (
      narrowing (λ x. released_with x image n table) image (λ x out. rw out (run_none x image)) b s l e,
      narrowing (λ x. release_table x image n table) table (λ x out. rw out) b s l e,
    ),
  )

-- ---- the same step by step (K4): outside the limits there is no step
module _ {geo : Geometry} (b s l : ℕ) (e : geo ≡ shape (narrowed b) (narrowed s) l) (image : Image) where
  pub write-step-same : (n : ℕ) (buffer : List ℕ) (i : ℕ) → write_step geo image n buffer i ≡ write_step (shape b s l) image n buffer i
  unfolding write_answer write_steps step_at
  write-step-same n buffer i = narrowing (λ x. write_step x image n buffer i) (record { answer = Err BadGeometry; next = Done }) (λ x out. rw out) b s l e

  pub release-step-same : (n i : ℕ) → release_step geo image n i ≡ release_step (shape b s l) image n i
  unfolding release_answer release_steps step_at
  release-step-same n i = narrowing (λ x. release_step x image n i) (record { answer = Err BadGeometry; next = Done }) (λ x out. rw out) b s l e

  pub repair-step-same : (i : ℕ) → repair_step geo image i ≡ repair_step (shape b s l) image i
  unfolding repair_answer repair_steps step_at
  repair-step-same i = narrowing (λ x. repair_step x image i) (record { answer = Err BadGeometry; next = Done }) (λ x out. rw out) b s l e

  pub write-first-same :
      (n : ℕ) (buffer : List ℕ) (j : ℕ) →
      (write_first_outcome geo image n buffer j ≡ write_first_outcome (shape b s l) image n buffer j)
      × (written_first geo image n buffer j ≡ written_first (shape b s l) image n buffer j)
  unfolding write_answer write_steps
  write-first-same n buffer j = (
    narrowing (λ x. write_first_outcome x image n buffer j) (outcome (Err BadGeometry) []) (λ x out. rw (out, take-nil {A = Step} j)) b s l e,
    narrowing (λ x. written_first x image n buffer j) image (λ x out. rw (out, take-nil {A = Step} j) (run_none x image)) b s l e,
  )

  pub release-first-same :
      (n j : ℕ) →
      (release_first_outcome geo image n j ≡ release_first_outcome (shape b s l) image n j)
      × (released_first geo image n j ≡ released_first (shape b s l) image n j)
  unfolding release_answer release_steps
  release-first-same n j = (
    narrowing (λ x. release_first_outcome x image n j) (outcome (Err BadGeometry) []) (λ x out. rw (out, take-nil {A = Step} j)) b s l e,
    narrowing (λ x. released_first x image n j) image (λ x out. rw (out, take-nil {A = Step} j) (run_none x image)) b s l e,
  )

  pub repair-first-same :
      (j : ℕ) →
      (repair_first_outcome geo image j ≡ repair_first_outcome (shape b s l) image j) × (repaired_first geo image j ≡ repaired_first (shape b s l) image j)
  unfolding repair_answer repair_steps
  repair-first-same j = (
    narrowing (λ x. repair_first_outcome x image j) (outcome (Err BadGeometry) []) (λ x out. rw (out, take-nil {A = Step} j)) b s l e,
    narrowing (λ x. repaired_first x image j) image (λ x out. rw (out, take-nil {A = Step} j) (run_none x image)) b s l e,
  )

-- what a call gave, and what it gives for the numbers handed in: the answer by its number, the image, and the two counts
pub parts :
    {number : ℕ} {gave passed says : Outcome} {left passes leaves : Image} →
    number ≡ number_of gave.answer →
    (gave ≡ passed) × (left ≡ passes) →
    (passed ≡ says) × (passes ≡ leaves) →
    (number ≡ number_of says.answer) × ((left ≡ leaves) × ((gave.words ≡ says.words) × (gave.erasures ≡ says.erasures)))
parts is_number (gives, leaves-it) (same, same-image) = (
  is_number ∙ ap (λ o. number_of o.answer) (gives ∙ same),
  (leaves-it ∙ same-image, (ap (λ o. o.words) (gives ∙ same), ap (λ o. o.erasures) (gives ∙ same))),
)

-- the pair that an answer names, and the one that it names for the numbers handed in
pub names : {block rule : ℕ} {gave says : Answer} → block ≡ block_of gave → rule ≡ rule_of gave → gave ≡ says → (block ≡ block_of says) × (rule ≡ rule_of says)
names is_Block is-rule same = (is_Block ∙ ap block_of same, is-rule ∙ ap rule_of same)

-- the parts of a write, a release or a repair, and the pair
pub parts-and-pair :
    {number block rule : ℕ} {gave passed says : Outcome} {left passes leaves : Image} →
    number ≡ number_of gave.answer →
    block ≡ block_of gave.answer →
    rule ≡ rule_of gave.answer →
    (gave ≡ passed) × (left ≡ passes) →
    (passed ≡ says) × (passes ≡ leaves) →
    (number ≡ number_of says.answer)
    × ((left ≡ leaves)
    × ((gave.words ≡ says.words)
    × ((gave.erasures ≡ says.erasures) × ((block ≡ block_of says.answer) × (rule ≡ rule_of says.answer)))))
parts-and-pair is_number is_Block is-rule gives same =
    let (number, (left, (words, erasures))) = parts is_number gives same in
    (number, (left, (words, (erasures, names is_Block is-rule (ap (λ o. o.answer) (gives.0 ∙ same.0))))))

-- ---- a refused call does no step
module _ (geo : Geometry) (image : Image) where
  pub refused-write-with : (n : ℕ) (buffer : List ℕ) (table : Table) → write_answer_with geo image n buffer table ≢ Accepted → write_steps_with geo image n buffer table ≡ []
  unfolding write_steps_with
  refused-write-with n buffer table refused = if-refused _ _ _ refused

  pub refused-release-with : (n : ℕ) (table : Table) → release_answer_with geo image n table ≢ Accepted → release_steps_with geo image n table ≡ []
  unfolding release_steps_with
  refused-release-with n table refused = if-refused _ _ _ refused

pub no-step : {answer : Answer} {steps : List Step} (i : ℕ) → (answer ≢ Accepted → steps ≡ []) → answer ≢ Accepted → step_at steps i ≡ Done
unfolding step_at
no-step i none refused = rw (none refused)

-- so what a call for one step gives says its answer and its step
pub step-told : (says : Stepped) {told : Result NextStep Refusal} → told ≡ step_of says → (says.answer ≢ Accepted → says.next ≡ Done) → (answer_of told ≡ says.answer) × (next_of told ≡ says.next)
step-told says e none = (ap answer_of e ∙ of-answered says.answer says.next, ap next_of e ∙ go says.answer none)
  where
    go : (a : Answer) → (a ≢ Accepted → says.next ≡ Done) → next_of (step_of (record { answer = a; next = says.next })) ≡ says.next
    go (Ok u) h = refl
    go (Err why) h = sym (h (not-accepted refl))
