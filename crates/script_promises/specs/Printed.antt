-- What a script prints, from the bytes of its input to those of its output (FORMAT.md, The script program). proofs/Printed.antt proves the statement
-- under the name in small letters.
use Rattle.std.specs.Prelude.{◌≡◌, cond, List, [], ◌∷◌, ◌++◌, ℕ, zero, suc, ◌*◌, ◌/◌, ◌%◌, ◌≤◌, eqb, length, take, drop}
use Rattle.ranges.specs.Range.{list_below}
use Rattle.image.specs.Words.{Image}
use Rattle.records.specs.declared.Line.{Line}
use Rattle.records.specs.declared.Record.{Record}
use Rattle.records.specs.Records.{record_of, short_line}
use Rattle.text.specs.Lines.{line_text}
use Rattle.text.specs.Replies.{reply_text, image_replied, logical_replied, last_text}
use Rattle.script_promises.specs.Scripts.{Script, start_of, after_all, lines_of}

-- the records of an input: record i is in the 12 bytes from 12·i on; fewer than 12 at the end are none
unfoldable pub records_in : List ℕ → List Record
records_in input = list_below (length input / 12) (λ i. record_of (drop (12 * i) input))

-- lines, one after the other
unfoldable pub texts : List Line → List ℕ
texts [] = []
texts (l ∷ ls) = line_text l ++ texts ls

-- what is printed from s on: the line of each record, that of a record which is cut short, and the totals of the end
unfoldable pub printed_from : Script → List ℕ → List ℕ
printed_from s input =
    let records = records_in input in
    let end = after_all s records in
    let cut = cond (eqb (length input % 12) 0) [] (line_text short_line) in
    texts (lines_of s records) ++ (cut ++ last_text end.image end.logical)

-- What comes out where the input is handed on as in script/src/main.rt, in so many turns at most: 12 bytes at a time go to `text::reply`, until fewer
-- came; then `text::last` is asked.
unfoldable pub handed_on : ℕ → Script → List ℕ → List ℕ
handed_on zero s input = last_text s.image s.logical
handed_on (suc turns) s input =
    let bytes = take 12 input in
    let came = length bytes in
    let next : Script = record {
      image = image_replied s.image s.logical bytes came;
      logical = logical_replied s.image s.logical bytes came;
    } in
    reply_text s.image s.logical bytes came
    ++ cond (eqb came 12) (handed_on turns next (drop 12 input)) (last_text next.image next.logical)

-- Handed on so, with turns enough, any input gives what a script prints.
abbrev pub ScriptPrints : Type 0
ScriptPrints =
    (before : Image) (input : List ℕ) (turns : ℕ) →
    length input ≤ 12 * turns →
    handed_on turns (start_of before) input ≡ printed_from (start_of before) input
