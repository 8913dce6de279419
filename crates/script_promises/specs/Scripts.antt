-- A script from its start on (FORMAT.md, The script program): how it stands after any records, their lines, and demand 3 of the lines since the last
-- accepted operation 4 (K3).
-- proofs/Scripts.antt proves each statement under the name in small letters.
use Rattle.std.specs.Prelude.{◌≡◌, ◌≢◌, ◌↔◌, Bool, cond, ◌&&◌, List, [], ◌∷◌, ◌++◌, ℕ, ◌+◌, ◌-◌, ◌*◌, ◌≤◌, eqb, length}
use Rattle.ranges.specs.Range.{one_if}
use Rattle.geometry.specs.declared.Geometry.{Geometry}
use Rattle.geometry.specs.Geometry.{d, g, image_length}
use Rattle.image.specs.Words.{Image}
use Rattle.answers.specs.Answers.{Accepted}
use Rattle.calls.specs.Refusals.{check_answer}
use Rattle.calls.specs.Calls.{fresh}
use Rattle.records.specs.declared.Line.{Line}
use Rattle.records.specs.declared.Record.{Record}
use Rattle.records.specs.Records.{script_geometry, default_logical, started_image, end_totals, line_of, image_after, logical_after}

-- how a script stands: its image and its L
pub record Script : Type 0 where
  pub image : Image
  pub logical : ℕ

-- at its start, whatever the image was
abbrev pub start_of : Image → Script
start_of before = record { image = started_image before; logical = default_logical }

-- after a record, and after any records
abbrev pub after : Script → Record → Script
after s r = record { image = image_after s.image s.logical r; logical = logical_after s.image s.logical r }

unfoldable pub after_all : Script → List Record → Script
after_all s [] = s
after_all s (r ∷ rs) = after_all (after s r) rs

-- the lines of records
unfoldable pub lines_of : Script → List Record → List Line
lines_of s [] = []
lines_of s (r ∷ rs) = line_of s.image s.logical r ∷ lines_of (after s r) rs

-- K3: an accepted operation 4 begins a run: its line has the letter L (76) and the answer 0
abbrev pub starts_anew : Line → Bool
starts_anew line = eqb line.letter 76 && eqb line.answer 0

-- the lines after the last one that begins a run, or all where none does; `kept` are those so far
unfoldable pub since_last_format : List Line → List Line → List Line
since_last_format kept [] = kept
since_last_format kept (l ∷ ls) = cond (starts_anew l) (since_last_format [] ls) (since_last_format (kept ++ (l ∷ [])) ls)

-- the line of an accepted write has the letter W (87) and the answer 0
abbrev pub accepted_write : Line → Bool
accepted_write line = eqb line.letter 87 && eqb line.answer 0

-- w and E as lines tell them: how many are of accepted writes, and the erasures of them all
unfoldable pub writes_told : List Line → ℕ
writes_told [] = 0
writes_told (l ∷ ls) = one_if (accepted_write l) + writes_told ls

unfoldable pub erasures_told : List Line → ℕ
erasures_told [] = 0
erasures_told (l ∷ ls) = l.erasures + erasures_told ls

-- Demand 3 of a script. After any records, with w accepted writes and E erasures in the lines since the last accepted operation 4, or since the
-- start: E erasures, if there is one, need (B − 1)·d + g·(E − 1) + 1 writes or more, with the g of the present L; and the sum of the erase counts,
-- as the last line shows it, is E. The image is one that a check accepts, so that the last line is that of an accepted report.
abbrev pub ScriptRunBound : Type 0
ScriptRunBound =
    (before : Image) (records : List Record) →
    length before ≡ image_length (script_geometry default_logical) →
    let end : Script = after_all (start_of before) records in
    let lines : List Line = since_last_format [] (lines_of (start_of before) records) in
    let geo : Geometry = script_geometry end.logical in
    (check_answer geo end.image ≡ Accepted)
    × (1 ≤ erasures_told lines → (geo.blocks - 1) * d geo + g geo * (erasures_told lines - 1) + 1 ≤ writes_told lines)
    × ((end_totals end.image end.logical).erase_sum ≡ erasures_told lines)

-- K3: operation 4. Its line has the letter L, the record's number and three zeros after the answer. Where the answer is 0, the image is fresh and
-- the number is the L from then on; otherwise the answer is 1, and image and L are as they were. Of an image of a script's length it is 0 exactly for
-- the numbers from 1 to 104.
abbrev pub OperationFour : Type 0
OperationFour =
    (image : Image) (logical : ℕ) (r : Record) →
    r.operation ≡ 4 →
    let line : Line = line_of image logical r in
    (line ≡ record { letter = 76; number = r.number; answer = line.answer; words = 0; erasures = 0; first = 0 })
    × (line.answer ≡ 0 → (image_after image logical r ≡ fresh (script_geometry r.number)) × (logical_after image logical r ≡ r.number))
    × (line.answer ≢ 0 → (line.answer ≡ 1) × (image_after image logical r ≡ image) × (logical_after image logical r ≡ logical))
    × (length image ≡ image_length (script_geometry logical) → (line.answer ≡ 0) ↔ ((1 ≤ r.number) × (r.number ≤ 104)))
