-- The statement of specs/Printed.antt: an input is its first record and the rest, as long as it has 12 bytes. Assumes nothing.
use mathlib.Core.Path.{◌≡◌, sym, ap, ◌∙◌}
use mathlib.Core.Logic.{◌≢◌}
use mathlib.Core.List.{List, [], ◌∷◌, ◌++◌, append_assoc}
use Prim.Native.Nat.{ℕ, zero, suc, ◌+◌, ◌*◌, ◌/◌, ◌%◌, ◌≤◌, ◌<◌}
use native.Mathlib.Decide.{dec_lt, ℕ_discrete}
use native.Mathlib.Omega.{arith}
use borrow.Author.Tests.{eq-eqb, ne_eqb, lt-ltb}
use lib.ListN.{length, take, drop, length-drop}
use lib.Seq.{take_all, length-take-le, get_or-take, drop-drop}
use Rattle.ranges.specs.Range.{list_below}
use Rattle.ranges.proofs.Lists.{list-first, list_same}
use Rattle.records.specs.Records.{number_at, record_of, line_of}
use Rattle.text.specs.Lines.{line_text}
use Rattle.text.specs.Replies.{reply_text, image_replied, logical_replied}
use Rattle.script_promises.specs.Scripts.{Script, start_of, after, after_all, lines_of}
use Rattle.script_promises.specs.Printed.{records_in, texts, printed_from, handed_on, ScriptPrints}

module _ (input : List ℕ) where
  -- the records, where there is none, and the first of them
  no_record : length input < 12 → records_in input ≡ []
  unfolding records_in list_below
  no_record few =
      let none : length input / 12 ≡ 0 = omega arith in
      ap (λ (m : ℕ). list_below m (λ i. record_of (drop (12 * i) input))) none

  first-record : 12 ≤ length input → records_in input ≡ record_of input ∷ records_in (drop 12 input)
  unfolding records_in
  first-record enough =
      let rest = length (drop 12 input) / 12 in
      let one_more : length input / 12 ≡ suc rest = omega (arith, length-drop 12 input) in
      ap (λ (m : ℕ). list_below m (λ i. record_of (drop (12 * i) input))) one_more
      ∙ list-first rest (λ i. record_of (drop (12 * i) input))
      ∙ ap (record_of input ∷◌)
      (list_same rest _ _
      (λ i.
      let on : 12 * suc i ≡ 12 + 12 * i = omega arith in
      ap (λ (k : ℕ). record_of (drop k input)) on ∙ ap record_of (sym (drop-drop (12 * i) 12 input))))

  -- it is in the first 12 bytes
  number-taken : (at : ℕ) → at + 4 ≤ 12 → number_at (take 12 input) at ≡ number_at input at
  number-taken at l =
      rw (
        get_or-take 12 input at 0 (omega arith),
        get_or-take 12 input (at + 1) 0 (omega arith),
        get_or-take 12 input (at + 2) 0 (omega arith),
        get_or-take 12 input (at + 3) 0 (omega arith),
      )

  record-taken : record_of (take 12 input) ≡ record_of input
  record-taken = rw (number-taken 0 (omega arith), number-taken 4 (omega arith), number-taken 8 (omega arith))

prints : (turns : ℕ) (s : Script) (input : List ℕ) → length input ≤ 12 * turns → handed_on turns s input ≡ printed_from s input
unfolding handed_on printed_from reply_text image_replied logical_replied lines_of after_all texts
prints zero s input l = rw (no_record input (omega arith), eq-eqb (length input % 12) 0 (omega arith))
prints (suc turns) s input l =
    go (dec_lt (length input) 12) (ℕ_discrete (length input) 0)
    (λ next enough. prints turns next (drop 12 input) (omega (arith, length-drop 12 input)))
  where
    go :
        Dec (length input < 12) →
        Dec (length input ≡ 0) →
        ((next : Script) → 12 ≤ length input → handed_on turns next (drop 12 input) ≡ printed_from next (drop 12 input)) →
        handed_on (suc turns) s input ≡ printed_from s input
    go (yes few) (yes none) rest =
        let left : length input % 12 ≡ 0 = omega arith in
        rw (
          take_all 12 input (omega arith),
          no_record input few,
          eq-eqb (length input) 0 none,
          ne_eqb (length input) 12 (omega arith),
          eq-eqb (length input % 12) 0 left,
        )
    go (yes few) (no some) rest =
        let left : length input % 12 ≢ 0 = λ e. some (omega arith) in
        rw (
          take_all 12 input (omega arith),
          no_record input few,
          ne_eqb (length input) 0 some,
          lt-ltb (length input) 12 few,
          ne_eqb (length input) 12 (omega arith),
          ne_eqb (length input % 12) 0 left,
        )
    go (no enough) some rest =
        let left : length input % 12 ≡ length (drop 12 input) % 12 = omega (arith, length-drop 12 input) in
        let line = line_text (line_of s.image s.logical (record_of input)) in
        let next = after s (record_of input) in
        rw (length-take-le 12 input (omega arith), record-taken input, first-record input (omega arith), left)
        (ap (line ++◌) (rest next (omega arith)) ∙ sym (append_assoc line (texts (lines_of next (records_in (drop 12 input)))) _))

pub script-prints : ScriptPrints
script-prints before input turns l = prints turns (start_of before) input l
