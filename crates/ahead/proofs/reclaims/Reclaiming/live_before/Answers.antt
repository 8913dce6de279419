-- `ahead::reclaims::Reclaiming::live_before` meets its contract: where no slot is superseded, a slot's own kind says whether it is live.
use Rattle.std.proofs.Common.{rules, ◌∙◌}
use Rattle.image.specs.Slots.{own_slot, is_live}
use Rattle.ahead.proofs.NthLaws.{live_some, own_before}
use Rattle.ahead.proofs.ReclaimLaws.{planned_so}
use Rattle.ahead.proofs.reclaims.Reclaiming.live_before.Goals as goal

pub returns : goal.returns
returns c =
    let v = c.args.self.now.victim in
    c.count.ensures (λ i. is_live (own_slot v.image.geo v.image.words.now v.index i)) (λ i r l k. search (rules, live_some))
    ∙ own_before v.image.geo v.image.words.now (planned_so c.args.self.now).ready.sound.current v.in_image c.requires
