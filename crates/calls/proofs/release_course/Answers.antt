-- `calls::release_course` meets its contract: its first tests are rows 1 and 3, asked in that order, and past them the others are asked of the image.
use mathlib.Core.Bool.{false, not}
use mathlib.Core.Path.{◌≡◌, sym, ap}
use borrow.Author.Tests.{le-leb}
use Rattle.calls.specs.Refusals.{row1, release_answer}
use Rattle.calls.proofs.Courses.{no-release}
use Rattle.calls.proofs.release_course.Goals.{In-Some}
use Rattle.calls.proofs.release_course.Goals as goal

-- past the first test
left1 : (c : In-Some) → (row1 c.args.geo c.args.image.now).applies ≡ false
left1 c = ap not (sym c.in-Some.ensures.fits)

pub returns-in_default : goal.returns-in_default
unfolding release_answer
returns-in_default c = no-release _ _ _ (rw (ap not (sym c.in_default.ensures.fits)))

pub returns-then-n-geo : goal.returns-then-n-geo
unfolding release_answer
returns-then-n-geo c = no-release _ _ _ (rw (left1 (goal.at.returns-then-n-geo c).In-Some, le-leb _ _ c.if-n-geo.true))

pub mapped_entry-requires : goal.mapped_entry-requires
mapped_entry-requires c = rw c.in-Some.ensures.image.1 c.if-n-geo.false

pub returns : goal.returns
returns c = rw (c.in-Some.ensures.image.0, c.in-Some.ensures.image.1) at c.mapped_entry.ensures
