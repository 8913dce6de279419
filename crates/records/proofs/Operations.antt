-- What an operation is, of five, is told by what the code makes of its number. Assumes nothing.
use mathlib.Core.Path.{◌≡◌, refl, ap, ◌∙◌}
use mathlib.Core.Bool.{Bool, true, false, cond}
use Prim.Native.Nat.{ℕ}
use lib.Dec.{eqb}
use Rattle.std.specs.Prelude.{Result, Ok, Err}
use Rattle.geometry.specs.Geometry.{filled}
use Rattle.image.specs.Words.{Image}
use Rattle.calls.specs.Calls.{formatted, written, released}
use Rattle.records.specs.declared.Record.{Record}
use Rattle.records.specs.declared.Operation.{Operation}
use Rattle.records.specs.declared.Operation.TheVariants.{Write, Read, Release, Format}
use Rattle.records.specs.Records.{script_geometry, by_operation, operation_of, write_line, read_line, release_line, format_line, other_line, line_of, image_after, logical_formatted, logical_after}

module _ {ℓ} {A : Type ℓ} (write read release format other : A) where
  abbrev pub chosen : Result Operation ℕ → A
  chosen (Ok Write) = write
  chosen (Ok Read) = read
  chosen (Ok Release) = release
  chosen (Ok Format) = format
  chosen (Err n) = other

  by-chosen : (operation : ℕ) → by_operation operation write read release format other ≡ chosen (operation_of operation)
  by-chosen operation = go (eqb operation 1) (eqb operation 2) (eqb operation 3) (eqb operation 4)
    where
      go :
          (is1 is2 is3 is4 : Bool) →
          cond is1 write (cond is2 read (cond is3 release (cond is4 format other)))
          ≡ chosen (cond is1 (Ok Write) (cond is2 (Ok Read) (cond is3 (Ok Release) (cond is4 (Ok Format) (Err operation)))))
      go true is2 is3 is4 = refl
      go false true is3 is4 = refl
      go false false true is4 = refl
      go false false false true = refl
      go false false false false = refl

  by-told : (operation : ℕ) {told : Result Operation ℕ} → operation_of operation ≡ told → by_operation operation write read release format other ≡ chosen told
  by-told operation e = by-chosen operation ∙ ap chosen e

-- so the line of a record, and the image and the L after it, are those of the operation that was told
module _ (image : Image) (logical : ℕ) (r : Record) {told : Result Operation ℕ} (e : operation_of r.operation ≡ told) where
  pub line-told :
      line_of image logical r
      ≡ chosen (write_line image logical r.number r.fill) (read_line image logical r.number) (release_line image logical r.number)
      (format_line image r.number) (other_line r.number 7) told
  unfolding line_of
  line-told = by-told _ _ _ _ _ r.operation e

  pub image-told :
      image_after image logical r
      ≡ chosen (written (script_geometry logical) image r.number (filled r.fill)) image (released (script_geometry logical) image r.number)
      (formatted (script_geometry r.number) image) image told
  unfolding image_after
  image-told = by-told _ _ _ _ _ r.operation e

  pub logical-told : logical_after image logical r ≡ chosen logical logical logical (logical_formatted image logical r.number) logical told
  unfolding logical_after
  logical-told = by-told _ _ _ _ _ r.operation e
