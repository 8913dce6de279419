-- FORMAT.md, The script program: how a script starts, what a record says, the line that it gives, and the image and the L that it leaves.
use Rattle.std.specs.Prelude.{cond, List, ℕ, ◌+◌, ◌*◌, eqb, get_or, Result, Ok, Err}
use Rattle.geometry.specs.declared.Geometry.{Geometry}
use Rattle.geometry.specs.Geometry.{shape, filled}
use Rattle.image.specs.Words.{Image}
use Rattle.answers.specs.Answers.{number_of, if_accepted}
use Rattle.calls.specs.Refusals.{format_answer, read_answer}
use Rattle.calls.specs.Calls.{format_outcome, formatted, read_buffer, write_outcome, written, release_outcome, released, reported}
use Rattle.calls.specs.Outcomes.{Outcome, Totals}
use Rattle.records.specs.declared.Line.{Line}
use Rattle.records.specs.declared.Operation.{Operation}
use Rattle.records.specs.declared.Operation.TheVariants.{Write, Read, Release, Format}
use Rattle.records.specs.declared.Record.{Record}

-- FORMAT.md, The script program: the image of a script has 8 blocks of 16 sectors. How many logical sectors it has, L, is part of how the
-- script stands, beside the image.
abbrev pub script_geometry : ℕ → Geometry
script_geometry logical = shape 8 16 logical

-- K3: L is 70 until an operation 4 sets another
abbrev pub default_logical : ℕ
default_logical = 70

-- the image that a script starts from, whatever its words were
abbrev pub started_image : Image → Image
started_image before = formatted (script_geometry default_logical) before

-- what the last line shows, of the image and the L that the script ends with
abbrev pub end_totals : Image → ℕ → Totals
end_totals image logical = reported (script_geometry logical) image

-- the number of four bytes, the least significant first
abbrev pub little_endian : ℕ → ℕ → ℕ → ℕ → ℕ
little_endian a b c d = a + b * 256 + c * 65536 + d * 16777216

-- that of the four bytes from `at` on
abbrev pub number_at : List ℕ → ℕ → ℕ
number_at bytes at = little_endian (get_or bytes at 0) (get_or bytes (at + 1) 0) (get_or bytes (at + 2) 0) (get_or bytes (at + 3) 0)

-- FORMAT.md, The script program: the 12 bytes of a record are three such numbers, the operation, the logical number and the fill word
abbrev pub record_of : List ℕ → Record
record_of bytes = record { operation = number_at bytes 0; number = number_at bytes 4; fill = number_at bytes 8 }

-- FORMAT.md, The script program: what a record's line shows. The letters are in ASCII: W is 87, R 82, D 68, L 76 and X 88.
-- The line of a write, a release or a format: it shows no word read.
abbrev pub outcome_line : ℕ → ℕ → Outcome → Line
outcome_line letter number done =
    record {
      letter = letter;
      number = number;
      answer = number_of done.answer;
      words = done.words;
      erasures = done.erasures;
      first = 0;
    }

module _ (image : Image) (logical : ℕ) (number : ℕ) where
  -- the buffer of a write holds the fill word over and over
  abbrev pub write_line : ℕ → Line
  write_line fill = outcome_line 87 number (write_outcome (script_geometry logical) image number (filled fill))

  -- a read is given a buffer of zeros, so that a refused one shows 0
  abbrev pub read_line : Line
  read_line =
      record {
        letter = 82;
        number = number;
        answer = number_of (read_answer (script_geometry logical) image number (filled 0));
        words = 0;
        erasures = 0;
        first = get_or (read_buffer (script_geometry logical) image number (filled 0)) 0 0;
      }

  abbrev pub release_line : Line
  release_line = outcome_line 68 number (release_outcome (script_geometry logical) image number)

-- K3: operation 4 is a format with the record's number as L. The L of before plays no part in its line.
abbrev pub format_line : Image → ℕ → Line
format_line image number = outcome_line 76 number (format_outcome (script_geometry number) image)

-- FORMAT.md, The script program: the line of an operation that is none of the four, with its record's logical number and the answer 7; and of a
-- last record that is cut short, with the number 0 and the answer 8
abbrev pub other_line : ℕ → ℕ → Line
other_line number answer = record { letter = 88; number = number; answer = answer; words = 0; erasures = 0; first = 0 }

abbrev pub short_line : Line
short_line = other_line 0 8

-- what an operation is, of five: 1 is a write, 2 a read, 3 a release, 4 a format
abbrev pub by_operation {ℓ} : {A : Type ℓ} → ℕ → A → A → A → A → A → A
by_operation operation write read release format other =
    cond (eqb operation 1) write (cond (eqb operation 2) read (cond (eqb operation 3) release (cond (eqb operation 4) format other)))

-- what the code makes of its number
abbrev pub operation_of : ℕ → Result Operation ℕ
operation_of operation = by_operation operation (Ok Write) (Ok Read) (Ok Release) (Ok Format) (Err operation)

-- the line of a record, and the image and the L after it: a refused format keeps both
unfoldable pub line_of : Image → ℕ → Record → Line
line_of image logical r =
    by_operation r.operation
    (write_line image logical r.number r.fill)
    (read_line image logical r.number)
    (release_line image logical r.number)
    (format_line image r.number)
    (other_line r.number 7)

unfoldable pub image_after : Image → ℕ → Record → Image
image_after image logical r =
    by_operation r.operation
    (written (script_geometry logical) image r.number (filled r.fill))
    image
    (released (script_geometry logical) image r.number)
    (formatted (script_geometry r.number) image)
    image

-- K3: the L that a format leaves
abbrev pub logical_formatted : Image → ℕ → ℕ → ℕ
logical_formatted image logical number = if_accepted (format_answer (script_geometry number) image) number logical

unfoldable pub logical_after : Image → ℕ → Record → ℕ
logical_after image logical r =
    by_operation r.operation logical logical logical (logical_formatted image logical r.number) logical
