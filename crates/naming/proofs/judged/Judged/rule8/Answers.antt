-- `naming::judged::Judged::rule8` meets its contract: no slot is superseded where each is not.
use Rattle.std.proofs.Common.{Bool, true, false, not, ◌&&◌, ◌||◌, ◌≡◌, ℕ, refl, ap, ◌∙◌, rules}
use Prim.Native.Nat.{zero, suc}
use Rattle.ranges.specs.Range.{all_below, any_below}
use Rattle.image.specs.Slots.{superseded}
use Rattle.image.specs.WellFormed.{R8}
use Rattle.naming.proofs.judged.Judged.rule8.Goals as goal

neither : (a b : Bool) → (not a && not b) ≡ not (a || b)
neither true b = refl
neither false b = refl

none-any : (m : ℕ) (f : ℕ → Bool) → all_below m (λ i. not (f i)) ≡ not (any_below m f)
unfolding all_below any_below
none-any zero f = refl
none-any (suc m) f = ap (◌&& not (f m)) (none-any m f) ∙ neither (any_below m f) (f m)

pub returns : goal.returns
unfolding R8
returns c =
    let block = c.args.self.now.block in
    let over = superseded block.image.geo block.image.words.now block.index in
    c.all.ensures (λ i. not (over i)) (λ i t l k. search rules) ∙ ap (λ m. all_below m (λ i. not (over i))) c.d.ensures ∙ none-any _ over
