-- `flash::steps::erase_block` meets its contract: the part that is lent on is the block, and it comes back as ones.
use mathlib.Core.List.{List, ◌++◌}
use mathlib.Core.Path.{◌≡◌, ◌∙◌}
use Prim.Native.Nat.{ℕ, ◌+◌, ◌*◌, ◌-◌, ◌≤◌}
use native.Mathlib.Omega.{arith}
use lib.ListN.{length, take, drop, replicate}
use borrow.Rule.Slice.PartMut.{put_mid, mid_of, Post-is, mid_len}
use Rattle.geometry.specs.Geometry.{block_length}
use Rattle.geometry.specs.Places.{place}
use Rattle.image.proofs.Reading.{block_room}
use Rattle.flash.specs.Steps.{erased_block}
use Rattle.flash.proofs.steps.erase_block.Goals.{Start}
use Rattle.flash.proofs.steps.erase_block.Goals as goal

-- n words of a list were lent, those from a₀ to e₀, and came back as so many v; a and e are the code's numbers for a₀ and e₀
lent_back :
    (a e a₀ e₀ n : ℕ) (xs ys : List ℕ) (v : ℕ) →
    a ≡ a₀ →
    e ≡ e₀ →
    e₀ ≡ a₀ + n →
    e ≤ length xs →
    ys ≡ replicate (length (mid_of a (e - a) xs)) v →
    put_mid a (e - a) xs ys ≡ take a₀ xs ++ (replicate n v ++ drop e₀ xs)
lent_back a e a₀ e₀ n xs ys v p q r h f =
    let long : length (mid_of a (e - a) xs) ≡ n = mid_len a e xs h ∙ omega arith in
    rw (f, long, Post-is a e xs (omega arith), p, q)

-- the block ends within the image
room : (c : Start) → c.args.b * block_length c.args.geo + block_length c.args.geo ≤ length c.args.image.now
room c = block_room _ _ c.requires.shaped c.args.b c.requires.b_lt_blocks

pub returns : goal.returns
unfolding erased_block
returns c =
    let from = c.start-from.result in
    let geo = c.args.geo in
    let b = c.args.b in
    lent_back from (from + c.block_length.result) (place geo b 0) (place geo b (block_length geo)) (block_length geo) _ _ _
    (omega arith)
    (omega arith)
    (omega arith)
    (omega (arith, room (goal.at.returns c).Start))
    c.erase.ensures
