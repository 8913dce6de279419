-- `blocks::victim` meets its contract: of the full blocks the one with fewest live slots, the least worn among equals, and the first of those; in a
-- sound image that one is the victim.
use Rattle.std.proofs.Common.{rules, ap, ◌≡◌, ◌∙◌, sym, true}
use Rattle.ranges.specs.Range.{index_below}
use Rattle.image.specs.Words.{erase_count}
use Rattle.image.specs.Blocks.{full, live_slots}
use Rattle.image.specs.Mending.{emptiest}
use Rattle.image.specs.WellFormed.{R2, NoneSuperseded}
use Rattle.image.proofs.Facts.{sound-facts, sound-maps}
use Rattle.image.proofs.Emptiest.{victim-emptiest}
use Rattle.blocks.proofs.victim.Goals as goal

pub least-requires-clause-test : goal.least-requires-clause-test
least-requires-clause-test c = λ x l.
    let geo = c.args.image.now.geo in
    let image = c.args.image.now.words.now in
    let agrees : R2 geo image x ≡ true = (sound-maps geo image (sound-facts geo image c.requires)).agrees x l in
    search rules

pub least-requires-clause-key : goal.least-requires-clause-key
least-requires-clause-key c = λ x l.
    let current : NoneSuperseded c.args.image.now.geo c.args.image.now.words.now = (sound-facts c.args.image.now.geo c.args.image.now.words.now c.requires).current in
    search rules

pub returns : goal.returns
unfolding emptiest
returns c =
    let geo = c.args.image.now.geo in
    let image = c.args.image.now.words.now in
    let sound = sound-facts geo image c.requires in
    c.least.ensures (full geo image) (λ b. (live_slots geo image b, erase_count geo image b)) (search rules) (search rules)
    ∙ ap (index_below geo.blocks) (sym (victim-emptiest geo image sound.current sound.proper))
