-- `rules::rule4` meets its contract: a slot is faulty by its own kind or not at all.
use Rattle.std.proofs.Common.{not, ◌≡◌, ap, ◌∙◌, rules}
use Rattle.ranges.specs.Range.{all_below}
use Rattle.image.specs.Slots.{own_slot, is_faulty}
use Rattle.image.specs.WellFormed.{R4}
use Rattle.rules.proofs.RuleLaws.{proper, proper-test}
use Rattle.rules.proofs.rule4.Goals as goal

pub returns : goal.returns
unfolding R4
returns c =
    let geo = c.args.block.now.image.geo in
    let image = c.args.block.now.image.words.now in
    let b = c.args.block.now.index in
    c.all.ensures (proper geo image b) (λ i t l k.
    let own : t ≡ not (is_faulty (own_slot geo image b i)) = search rules in
    own ∙ proper-test geo image b i)
    ∙ ap (λ m. all_below m (proper geo image b)) c.d.ensures
