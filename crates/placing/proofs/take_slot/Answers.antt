-- `placing::take_slot` meets its contract: it programs the map word of the slot, with the slot's bit cleared.
use mathlib.Core.Path.{◌≡◌, ap, ◌∙◌}
use Prim.Native.Nat.{ℕ, ◌+◌, ◌/◌, ◌%◌}
use native.Mathlib.Omega.{arith}
use Rattle.bits.specs.Word.{cleared}
use Rattle.geometry.specs.Places.{place, map_word}
use Rattle.image.specs.Words.{word, free_map}
use Rattle.flash.proofs.RunLaws.{at-place}
use Rattle.placing.proofs.take_slot.Goals as goal

pub returns : goal.returns
unfolding free_map
returns c =
    let r = c.args.run.now in
    let at : c.map_start.result + c.args.i / 32 ≡ place r.geo c.args.b (map_word c.args.i) = omega arith in
    at-place c.program.ensures at (c.clear_bit.ensures ∙ ap (λ (p : ℕ). cleared (word r.words.now p) (c.args.i % 32)) at)
