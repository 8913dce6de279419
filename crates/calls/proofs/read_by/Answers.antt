-- `calls::read_by` meets its contract: its tests are rows 1 to 5, asked in that order, and a sector that was found is copied.
use mathlib.Core.Path.{◌≡◌, sym, ◌∙◌}
use native.Mathlib.Omega.{arith}
use Rattle.std.specs.Prelude.{Err}
use Rattle.image.specs.Found.{At, Nothing}
use Rattle.image.specs.Slots.{find}
use Rattle.image.proofs.Facts.{formed-sound}
use Rattle.image.proofs.Finding.{LiveAt, found-live}
use Rattle.calls.specs.Refusals.{read_answer}
use Rattle.calls.specs.Calls.{read_buffer}
use Rattle.calls.proofs.CallLaws.{read-refused, read-passed, sector-formed, nowhere}
use Rattle.calls.proofs.read_by.Goals.{In-Err, In_default, In-Some}
use Rattle.calls.proofs.read_by.Goals as goal

-- refused by one of the first four rows
refused : (c : In-Err) → read_answer c.args.geo c.args.image.now c.args.n c.args.buffer.now ≡ Err c.in-Err.why
refused c = read-refused _ _ _ _ (sym c.in-Err.ensures.answer)

-- not found, and found
missed : (c : In_default) → find c.args.geo c.args.image.now c.args.n ≡ Nothing
missed c = sym (rw (c.in-Ok.ensures.image.0, c.in-Ok.ensures.image.1) at c.look_up.ensures) ∙ nowhere _ c.in_default.not-Some

found : (c : In-Some) → find c.args.geo c.args.image.now c.args.n ≡ At c.in-Some.b c.in-Some.i
found c = sym (rw (c.in-Ok.ensures.image.0, c.in-Ok.ensures.image.1) at c.look_up.ensures) ∙ c.in-Some.is

live : (c : In-Some) → let image = c.in-Ok.image in LiveAt image.geo image.words.now c.args.n c.in-Some.b c.in-Some.i
live c = found-live _ _ _ _ _ (sym c.look_up.ensures ∙ c.in-Some.is)

pub returns-in-Err-clause-value : goal.returns-in-Err-clause-value
returns-in-Err-clause-value c =
    sym (refused (goal.at.returns-in-Err-clause-value c).In-Err)

pub returns-in-Err-clause-buffer_after : goal.returns-in-Err-clause-buffer_after
unfolding read_buffer
returns-in-Err-clause-buffer_after c = rw (refused (goal.at.returns-in-Err-clause-buffer_after c).In-Err)

pub look_up-requires-clause-image_value : goal.look_up-requires-clause-image_value
look_up-requires-clause-image_value c =
    rw (c.in-Ok.ensures.image.0, c.in-Ok.ensures.image.1) (formed-sound _ _ (sector-formed _ _ _ _ (sym c.in-Ok.ensures.answer)).1)

pub returns-in_default-clause-value : goal.returns-in_default-clause-value
returns-in_default-clause-value c =
    rw (read-passed _ _ _ _ (sym c.in-Ok.ensures.answer), missed (goal.at.returns-in_default-clause-value c).In_default)

pub returns-in_default-clause-buffer_after : goal.returns-in_default-clause-buffer_after
unfolding read_buffer
returns-in_default-clause-buffer_after c =
    rw (read-passed _ _ _ _ (sym c.in-Ok.ensures.answer), missed (goal.at.returns-in_default-clause-buffer_after c).In_default)

pub block-requires : goal.block-requires
block-requires c = omega (arith, (live (goal.at.block-requires c).In-Some).block)

pub copy_contents-requires-clause-i_bound : goal.copy_contents-requires-clause-i_bound
copy_contents-requires-clause-i_bound c =
    rw c.block.ensures.image (omega (arith, (live (goal.at.copy_contents-requires-clause-i_bound c).In-Some).slot_is))

pub returns-clause-value : goal.returns-clause-value
returns-clause-value c =
    rw (read-passed _ _ _ _ (sym c.in-Ok.ensures.answer), found (goal.at.returns-clause-value c).In-Some)

pub returns-clause-buffer_after : goal.returns-clause-buffer_after
unfolding read_buffer
returns-clause-buffer_after c =
    rw (read-passed _ _ _ _ (sym c.in-Ok.ensures.answer), found (goal.at.returns-clause-buffer_after c).In-Some)
    (rw (c.block.ensures.image, c.block.ensures.index, c.in-Ok.ensures.image.0, c.in-Ok.ensures.image.1) at c.copy_contents.ensures)
