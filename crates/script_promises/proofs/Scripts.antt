-- The statements of specs/Scripts.antt: the records since the last accepted operation 4 are a run of calls after a format, of which demand 3 holds.
-- Assumes nothing.
use mathlib.Core.Path.{◌≡◌, refl, sym, ap, ◌∙◌}
use mathlib.Core.Bool.{Bool, true, false, not, cond}
use mathlib.Core.Logic.{◌≢◌, ◌↔◌}
use mathlib.Core.List.{List, [], ◌∷◌, ◌++◌}
use Prim.Native.Nat.{ℕ, ◌+◌, ◌≤◌}
use native.Mathlib.Omega.{arith}
use borrow.Author.Tests.{eq-eqb, ne_eqb}
use lib.Dec.{eqb}
use lib.ListN.{length}
use Rattle.std.specs.Prelude.{Err}
use Rattle.ranges.specs.Range.{one_if}
use Rattle.ranges.proofs.Tests.{both-pass}
use Rattle.geometry.specs.declared.Geometry.{Geometry}
use Rattle.geometry.specs.Geometry.{filled, image_length, Limits}
use Rattle.geometry.proofs.Laws.{limits-pass}
use Rattle.image.specs.Words.{Image}
use Rattle.answers.specs.declared.Refusal.TheVariants.{BadGeometry}
use Rattle.answers.specs.Answers.{Answer, Accepted, number_of, if_accepted}
use Rattle.answers.proofs.Acceptance.{accepted-number, if-accepted, if-refused, accepted?}
use Rattle.calls.specs.Refusals.{row1, format_answer, check_answer, write_answer}
use Rattle.calls.specs.Calls.{fresh, formatted, written, released, totals_of, no_totals, reported}
use Rattle.promises.specs.Runs.{Call, Check, Write, Release, State, called, ran, is_cut, uncut, started}
use Rattle.calls.proofs.AcceptedCalls.{format-accepted}
use Rattle.promises.proofs.Demands.{refused-changes-nothing, run-bound}
use Rattle.promises.proofs.Properties.{runs-stay-well-formed}
use Rattle.records.specs.declared.Line.{Line}
use Rattle.records.specs.declared.Record.{Record}
use Rattle.records.specs.Records.{script_geometry, default_logical, write_line, read_line, release_line, format_line, other_line, line_of, image_after, logical_formatted, logical_after}
use Rattle.script_promises.specs.Scripts.{Script, start_of, after, after_all, lines_of, starts_anew, since_last_format, accepted_write, writes_told, erasures_told, ScriptRunBound, OperationFour}

-- ---- one more at the end: of a run, and of what lines count

ran_on : (geo : Geometry) (s : State) (cs : List Call) (c : Call) → ran geo s (cs ++ (c ∷ [])) ≡ called geo (ran geo s cs) c
unfolding ran
ran_on geo s [] c = refl
ran_on geo s (x ∷ cs) c = ran_on geo (called geo s x) cs c

uncut-on : (geo : Geometry) (s : State) (cs : List Call) (c : Call) → uncut geo s cs ≡ true → is_cut geo (ran geo s cs).image c ≡ false → uncut geo s (cs ++ (c ∷ [])) ≡ true
unfolding ran uncut
uncut-on geo s [] c whole no_cut = rw no_cut
uncut-on geo s (x ∷ cs) c whole no_cut =
    let parts = both-pass (not (is_cut geo s.image x)) (uncut geo (called geo s x) cs) whole in
    rw parts.0 (uncut-on geo (called geo s x) cs c parts.1 no_cut)

writes-on : (ls : List Line) (l : Line) → writes_told (ls ++ (l ∷ [])) ≡ writes_told ls + one_if (accepted_write l)
unfolding writes_told
writes-on [] l = omega arith
writes-on (x ∷ ls) l = ap (one_if (accepted_write x) +◌) (writes-on ls l) ∙ omega arith

erasures-on : (ls : List Line) (l : Line) → erasures_told (ls ++ (l ∷ [])) ≡ erasures_told ls + l.erasures
unfolding erasures_told
erasures-on [] l = omega arith
erasures-on (x ∷ ls) l = ap (x.erasures +◌) (erasures-on ls l) ∙ omega arith

-- an accepted call counts for one
counted : (a : Answer) → one_if (eqb (number_of a) 0) ≡ if_accepted a 1 0
counted a = go (accepted? a)
  where
    go : Dec (a ≡ Accepted) → one_if (eqb (number_of a) 0) ≡ if_accepted a 1 0
    go (yes e) = rw e
    go (no n) = rw (ne_eqb (number_of a) 0 (λ z. n ((accepted-number a).1 z)), if-refused {A = ℕ} a 1 0 n)

-- a run's state, by its parts
abbrev state : Image → ℕ → ℕ → State
state image w e = record { image = image; writes = w; erasures = e }

same-counts : {image : Image} {w w' e e' : ℕ} → w ≡ w' → e ≡ e' → state image w e ≡ state image w' e'
same-counts p q = rw (p, q)

-- of an image of a script's length, a format is accepted exactly for an L from 1 to 104
accepted-from-1-to-104 :
    (image : Image) (n : ℕ) →
    length image ≡ image_length (script_geometry n) →
    (format_answer (script_geometry n) image ≡ Accepted) ↔ ((1 ≤ n) × (n ≤ 104))
unfolding format_answer
accepted-from-1-to-104 image n long = (
  λ accepted.
      let limits = (format-accepted (script_geometry n) image accepted).limits in
      (limits.logical_low, omega (arith, limits.logical_high)),
  λ within.
      let limits : Limits (script_geometry n) = record {
        blocks_low = omega arith;
        blocks_high = omega arith;
        sectors_low = omega arith;
        sectors_high = omega arith;
        logical_low = within.0;
        logical_high = omega (arith, within.1);
      } in
      rw (limits-pass (script_geometry n) limits, eq-eqb _ _ long),
)

-- ---- how a script stands, with the lines since the last accepted operation 4: as a run of calls after a format does

record Standing (s : Script) (kept : List Line) : Type 0 where
  before : Image
  accepted : format_answer (script_geometry s.logical) before ≡ Accepted
  calls : List Call
  stands :
      ran (script_geometry s.logical) (started (formatted (script_geometry s.logical) before)) calls
      ≡ state s.image (writes_told kept) (erasures_told kept)
  whole : uncut (script_geometry s.logical) (started (formatted (script_geometry s.logical) before)) calls ≡ true

-- after an accepted format, with no line since
just-formatted :
    (before : Image) (n : ℕ) →
    format_answer (script_geometry n) before ≡ Accepted →
    Standing (record { image = formatted (script_geometry n) before; logical = n }) []
unfolding ran uncut writes_told erasures_told
just-formatted before n accepted = record { before = before; accepted = accepted; calls = []; stands = refl; whole = refl }

-- a line, and the image and the L after it: which lines count from there on
abbrev Next : List Line → Line → Image → ℕ → Type 0
Next kept l image logical =
    (kept' : List Line)
    × ((ls : List Line) → since_last_format kept (l ∷ ls) ≡ since_last_format kept' ls)
    × Standing (record { image = image; logical = logical }) kept'

module _ (s : Script) (kept : List Line) (st : Standing s kept) where
  abbrev geo : Geometry
  geo = script_geometry s.logical

  -- a call more
  call-more :
      (l : Line) (c : Call) (image : Image) →
      starts_anew l ≡ false →
      ((x : Image) → is_cut geo x c ≡ false) →
      called geo (state s.image (writes_told kept) (erasures_told kept)) c
      ≡ state image (writes_told kept + one_if (accepted_write l)) (erasures_told kept + l.erasures) →
      Next kept l image s.logical
  unfolding since_last_format
  call-more l c image goes_on no_cut does = (
    kept ++ (l ∷ []),
    λ ls. rw goes_on,
    record {
      before = st.before;
      accepted = st.accepted;
      calls = st.calls ++ (c ∷ []);
      stands =
          rw (writes-on kept l, erasures-on kept l)
          (ran_on geo _ st.calls c ∙ ap (λ (t : State). called geo t c) st.stands ∙ does);
      whole = uncut-on geo _ st.calls c st.whole (no_cut _);
    },
  )

  -- a record that leaves image and L, and whose line counts for nothing: as a check
  idle : (l : Line) → starts_anew l ≡ false → accepted_write l ≡ false → l.erasures ≡ 0 → Next kept l s.image s.logical
  unfolding called is_cut
  idle l goes_on no_write none =
      call-more l Check s.image goes_on (λ x. refl) (rw (no_write, none) (same-counts (omega arith) (omega arith)))

  writes :
      (n fill : ℕ) →
      Next kept (write_line s.image s.logical n fill) (written geo s.image n (filled fill)) s.logical
  unfolding called is_cut
  writes n fill =
      call-more (write_line s.image s.logical n fill) (Write n (filled fill)) _ refl (λ x. refl)
      (same-counts (ap (writes_told kept +◌) (sym (counted (write_answer geo s.image n (filled fill))))) refl)

  releases : (n : ℕ) → Next kept (release_line s.image s.logical n) (released geo s.image n) s.logical
  unfolding called is_cut
  releases n = call-more (release_line s.image s.logical n) (Release n) _ refl (λ x. refl) (same-counts (omega arith) refl)

  formats : (n : ℕ) → Next kept (format_line s.image n) (formatted (script_geometry n) s.image) (logical_formatted s.image s.logical n)
  unfolding since_last_format
  formats n = go (accepted? (format_answer (script_geometry n) s.image))
    where
      go :
          Dec (format_answer (script_geometry n) s.image ≡ Accepted) →
          Next kept (format_line s.image n) (formatted (script_geometry n) s.image) (logical_formatted s.image s.logical n)
      go (yes e) = rw e ([], λ ls. refl, just-formatted s.image n e)
      go (no e) =
          let answer = format_answer (script_geometry n) s.image in
          rw ((refused-changes-nothing (script_geometry n) s.image 0 []).0 e, if-refused answer n s.logical e)
          (idle (format_line s.image n) (ne_eqb (number_of answer) 0 (λ z. e ((accepted-number answer).1 z))) refl refl)

  -- any record
  abbrev After : Record → Type 0
  After r = Next kept (line_of s.image s.logical r) (image_after s.image s.logical r) (logical_after s.image s.logical r)

  next : (r : Record) → After r
  unfolding line_of image_after logical_after
  next r = go (eqb r.operation 1) refl (eqb r.operation 2) refl (eqb r.operation 3) refl (eqb r.operation 4) refl
    where
      go :
          (a : Bool) →
          eqb r.operation 1 ≡ a →
          (b : Bool) →
          eqb r.operation 2 ≡ b →
          (c : Bool) →
          eqb r.operation 3 ≡ c →
          (e : Bool) →
          eqb r.operation 4 ≡ e →
          After r
      go true p b q c u e v = rw p (writes r.number r.fill)
      go false p true q c u e v = rw (p, q) (idle (read_line s.image s.logical r.number) refl refl refl)
      go false p false q true u e v = rw (p, q, u) (releases r.number)
      go false p false q false u true v = rw (p, q, u, v) (formats r.number)
      go false p false q false u false v = rw (p, q, u, v) (idle (other_line r.number 7) refl refl refl)

-- ---- any records

all-next :
    (rs : List Record) (s : Script) (kept : List Line) →
    Standing s kept →
    Standing (after_all s rs) (since_last_format kept (lines_of s rs))
unfolding after_all lines_of since_last_format
all-next [] s kept st = st
all-next (r ∷ rs) s kept st =
    let n = next s kept st r in
    rw (n.1 (lines_of (after s r) rs)) (all-next rs (after s r) n.0 n.2)

pub script-run-bound : ScriptRunBound
unfolding reported
script-run-bound before records long =
    let end = after_all (start_of before) records in
    let accepted = (accepted-from-1-to-104 before default_logical long).1 (omega arith, omega arith) in
    let st = all-next records (start_of before) [] (just-formatted before default_logical accepted) in
    let geo = script_geometry end.logical in
    let checked = rw st.stands at ((runs-stay-well-formed geo st.before st.calls).0 st.accepted st.whole) in
    let bound = rw st.stands at (run-bound geo st.before st.calls st.accepted st.whole) in
    let totals = if-accepted (totals_of geo end.image) (no_totals (check_answer geo end.image)) checked in
    (checked, bound.0, ap (λ t. t.erase_sum) totals ∙ bound.1)

-- ---- operation 4

-- a format is refused with 1 or not at all
refused-with-1 : (geo : Geometry) (image : Image) → number_of (format_answer geo image) ≢ 0 → number_of (format_answer geo image) ≡ 1
unfolding format_answer
refused-with-1 geo image = go (row1 geo image).applies
  where
    go : (b : Bool) → number_of (cond b (Err BadGeometry) Accepted) ≢ 0 → number_of (cond b (Err BadGeometry) Accepted) ≡ 1
    go true n = refl
    go false n = absurd (n refl)

pub operation-four : OperationFour
unfolding line_of image_after logical_after formatted
operation-four image logical r is =
    let geo = script_geometry r.number in
    let answer = format_answer geo image in
    rw is (
      refl,
      λ z.
          let yes-it-is = (accepted-number answer).1 z in
          (if-accepted (fresh geo) image yes-it-is, if-accepted r.number logical yes-it-is),
      λ n.
          let no-it-is : answer ≢ Accepted = λ a. n ((accepted-number answer).0 a) in
          (refused-with-1 geo image n, if-refused answer (fresh geo) image no-it-is, if-refused answer r.number logical no-it-is),
      λ long.
          let exactly = accepted-from-1-to-104 image r.number long in
          (λ z. exactly.0 ((accepted-number answer).1 z), λ l. (accepted-number answer).0 (exactly.1 l)),
    )
