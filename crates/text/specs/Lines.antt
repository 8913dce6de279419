-- FORMAT.md, The script program: the bytes of a record's line and of the last line. proofs/Lines.antt proves each statement under the name in
-- small letters.
use Rattle.std.specs.Prelude.{◌≡◌, List, [], ◌∷◌, ◌++◌, ℕ, length, drop}
use Rattle.calls.specs.Outcomes.{Totals}
use Rattle.records.specs.declared.Line.{Line}
use Rattle.records.specs.Records.{short_line}
use Rattle.text.specs.Decimal.{decimal}

-- numbers in decimal, each after one space, which is 32
unfoldable pub spaced : List ℕ → List ℕ
spaced [] = []
spaced (n ∷ ns) = 32 ∷ decimal n ++ spaced ns

-- a letter, such numbers, and a newline, which is 10
unfoldable pub row : ℕ → List ℕ → List ℕ
row letter ns = letter ∷ spaced ns ++ (10 ∷ [])

-- the line of a record: letter, number, answer, words, erasures, first word read
abbrev pub line_text : Line → List ℕ
line_text line = row line.letter (line.number ∷ line.answer ∷ line.words ∷ line.erasures ∷ line.first ∷ [])

-- the last line: the letter T, which is 84, mapped, free and dead slots, and the sum of the erase counts
abbrev pub totals_text : Totals → List ℕ
totals_text totals = row 84 (totals.mapped ∷ totals.free ∷ totals.dead ∷ totals.erase_sum ∷ [])

-- a buffer after a text was put at its start: its other bytes are as they were
abbrev pub put_first : List ℕ → List ℕ → List ℕ
put_first text buffer = text ++ drop (length text) buffer

-- The line of a record that is cut short is `X 0 8 0 0 0` and a newline.
abbrev pub ShortRecordsLine : Type 0
ShortRecordsLine = line_text short_line ≡ 88 ∷ 32 ∷ 48 ∷ 32 ∷ 56 ∷ 32 ∷ 48 ∷ 32 ∷ 48 ∷ 32 ∷ 48 ∷ 10 ∷ []
