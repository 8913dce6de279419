-- `writing::filling::must_reclaim` meets its contract: where a block is open none is reclaimed, and else the blank ones count.
use Rattle.std.proofs.Common.{ℕ, sym, ap, ◌∙◌, eqb, arith}
use Rattle.ranges.proofs.Searches.{index-some, index-none}
use Rattle.flash.proofs.Planned.{no-reclaim, reclaim-by-count}
use Rattle.writing.proofs.filling.must_reclaim.Goals as goal

pub returns-in-Some : goal.returns-in-Some
returns-in-Some c =
    let (is, l) = index-some (sym c.lowest_open.ensures ∙ c.in-Some.is) in
    sym (no-reclaim _ _ (omega (arith, is, l)))

pub returns-in-None : goal.returns-in-None
returns-in-None c =
    ap (λ (x : ℕ). eqb x 1) c.count_blank.ensures ∙ sym (reclaim-by-count _ _ (index-none (sym c.lowest_open.ensures ∙ c.in-None.is)))
