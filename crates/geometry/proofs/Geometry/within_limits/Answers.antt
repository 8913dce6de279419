-- `within_limits` is what the definition says: each early return leaves where a limit fails, and past them all the last test decides.
use Rattle.std.proofs.Common.{◌≡◌, true, ◌&&◌, ◌≤◌, ℕ, sym, ◌∙◌, arith}
use mathlib.Core.Bool.{true≢false}
use lib.Dec.{leb}
use borrow.Author.Tests.{le-leb}
use Rattle.geometry.specs.Geometry.{within_limits}
use Rattle.geometry.proofs.Laws.{limits-fail}
use Rattle.geometry.proofs.Geometry.within_limits.Goals as goal

-- within its limits the test of a side passes
side : (n : ℕ) → 2 ≤ n → n ≤ 64 → (leb 2 n && leb n 64) ≡ true
side n low high = rw (le-leb 2 n low, le-leb n 64 high)

pub returns-then-logical-lt1 : goal.returns-then-logical-lt1
returns-then-logical-lt1 c = sym (limits-fail _ (λ limits. omega arith))

pub returns-then-not-is_side : goal.returns-then-not-is_side
returns-then-not-is_side c =
    sym (limits-fail _ (λ limits. true≢false (sym (side _ limits.blocks_low limits.blocks_high) ∙ sym c.is_side.ensures ∙ c.if-not-is_side.true)))

pub returns-then-not-is_side-2 : goal.returns-then-not-is_side-2
returns-then-not-is_side-2 c =
    sym (limits-fail _ (λ limits. true≢false (sym (side _ limits.sectors_low limits.sectors_high) ∙ sym c.is_side-2.ensures ∙ c.if-not-is_side-2.true)))

pub returns : goal.returns
unfolding within_limits
returns c =
    rw (
      sym c.is_side.ensures ∙ c.if-not-is_side.false,
      sym c.is_side-2.ensures ∙ c.if-not-is_side-2.false,
      le-leb 1 c.args.self.logical (omega arith),
      c.all_but_one.ensures,
      c.d.ensures,
    )
