-- `rules::rule3` meets its contract: whether a slot is free its own kind says.
use Rattle.std.proofs.Common.{not, ◌||◌, ◌≡◌, ap, ◌∙◌, rules}
use Rattle.ranges.specs.Range.{all_below}
use Rattle.image.specs.Words.{contents}
use Rattle.image.specs.Slots.{own_slot, is_free}
use Rattle.image.specs.WellFormed.{all_ones, R3}
use Rattle.rules.proofs.RuleLaws.{clean, clean-test}
use Rattle.rules.proofs.rule3.Goals as goal

pub returns : goal.returns
unfolding R3
returns c =
    let geo = c.args.block.now.image.geo in
    let image = c.args.block.now.image.words.now in
    let b = c.args.block.now.index in
    c.all.ensures (clean geo image b) (λ i t l k.
    let own : t ≡ (not (is_free (own_slot geo image b i)) || all_ones (contents geo image b i)) = search rules in
    own ∙ clean-test geo image b i)
    ∙ ap (λ m. all_below m (clean geo image b)) c.d.ensures
