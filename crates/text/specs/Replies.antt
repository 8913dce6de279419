-- FORMAT.md, The script program: from the bytes that are read to those that are printed.
use Rattle.std.specs.Prelude.{cond, List, [], ℕ, eqb, ltb}
use Rattle.image.specs.Words.{Image}
use Rattle.records.specs.Records.{record_of, short_line, line_of, image_after, logical_after, end_totals}
use Rattle.text.specs.Lines.{line_text, totals_text}

-- Of the 12 bytes of the next record `came` are there: none at the input's end, fewer than 12 where the record is cut short, or all (12 or more).
abbrev by_came {ℓ} : {A : Type ℓ} → ℕ → A → A → A → A
by_came came at-end cut_short whole = cond (eqb came 0) at-end (cond (ltb came 12) cut_short whole)

module _ (image : Image) (logical : ℕ) (bytes : List ℕ) (came : ℕ) where
  -- what is printed, and the image and the L after it: a record gives its line, one that is cut short its own, and the input's end none
  unfoldable pub reply_text : List ℕ
  reply_text = by_came came [] (line_text short_line) (line_text (line_of image logical (record_of bytes)))

  unfoldable pub image_replied : Image
  image_replied = by_came came image image (image_after image logical (record_of bytes))

  unfoldable pub logical_replied : ℕ
  logical_replied = by_came came logical logical (logical_after image logical (record_of bytes))

-- the last line shows the totals of the image and the L that the script ends with
abbrev pub last_text : Image → ℕ → List ℕ
last_text image logical = totals_text (end_totals image logical)
