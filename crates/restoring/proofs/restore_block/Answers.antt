-- `restoring::restore_block` meets its contract: in a full block, the step for each of the two words that were read as all ones. Assumes nothing.
use Rattle.std.proofs.Common.{Bool, cond, [], ◌∷◌, ◌≡◌, ◌∙◌, ℕ, sym, ap, arith}
use Rattle.bits.specs.Word.{ones}
use Rattle.image.specs.Words.{word, least_mapped, greatest_mapped}
use Rattle.image.specs.Blocks.{full}
use lib.Dec.{eqb}
use Rattle.flash.specs.declared.LiveBounds.{LiveBounds}
use Rattle.flash.specs.declared.Step.TheVariants.{Program}
use Rattle.flash.specs.declared.run.Run.{Run}
use Rattle.flash.specs.Runs.{Does, of_run}
use Rattle.flash.proofs.RunLaws.{nothing, both}
use Rattle.placing.proofs.BoundLaws.{own-bounds}
use Rattle.restoring.proofs.Bounded.{asked-bounds}
use Rattle.restoring.proofs.restore_block.Goals.{After-is_full}
use Rattle.restoring.proofs.restore_block.Goals as goal

-- one word programmed where that is asked for; the test, the place and the asked word may be known by equations alone
where-told :
    {before after : Run} (s : Bool) {t : Bool} {p q w v : ℕ} →
    Does before after (cond s (Program p w ∷ []) []) →
    s ≡ t →
    p ≡ q →
    w ≡ v →
    Does before after (cond t (Program q v ∷ []) [])
where-told s does e p w = rw (← e, ← p, ← w) does

-- whether the block is full
full-here : (c : After-is_full) → c.is_full.result ≡ of_run full c.args.run.now c.args.b
full-here c = rw (c.block-block.ensures.image, c.block-block.ensures.index, c.view.ensures.words, c.view.ensures.geo) at c.is_full.ensures

pub returns-then-not-is_full : goal.returns-then-not-is_full
returns-then-not-is_full c = rw (sym (full-here (goal.at.returns-then-not-is_full c).After-is_full) ∙ c.if-not-is_full.true) (nothing _)

pub returns : goal.returns
unfolding least_mapped greatest_mapped
returns c =
    let r = c.args.run.now in
    let unset : ℕ → Bool = λ p. eqb (word r.words.now p) ones in
    let live = rw (c.block-block.ensures.image, c.block-block.ensures.index, c.view.ensures.words, c.view.ensures.geo) at c.live_bounds.ensures in
    let asked = asked-bounds r.geo r.words.now c.args.b (live ∙ own-bounds r.geo r.words.now c.args.b c.requires.none_superseded c.requires.b_lt_blocks) in
    rw (sym (full-here (goal.at.returns c).After-is_full) ∙ c.if-not-is_full.false)
    (both (where-told _ c.program_where.ensures (ap unset (omega arith)) (omega arith) (ap (λ (x : LiveBounds). x.least) c.or_zero-asked.ensures ∙ asked.0))
    (where-told _ c.program_where-2.ensures (ap unset (omega arith)) (omega arith) (ap (λ (x : LiveBounds). x.greatest) c.or_zero-asked.ensures ∙ asked.1)))
