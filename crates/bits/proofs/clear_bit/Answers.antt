-- `bits::clear_bit` meets its contract: no word has a bit from 32 on, and below that the mask clears it.
use mathlib.Core.Path.{sym, ap, ◌∙◌}
use lib.Bits.{bit_and}
use lib.Dec.{lit<}
use lib.Pow.{shl_exact}
use native.Mathlib.Nat.{one-mul}
use borrow.Author.Rules.{rules}
use Prim.Native.Nat.{ℕ, ◌-◌, ◌^◌}
use Rattle.bits.specs.Word.{ones}
use Rattle.bits.proofs.Bit.{bit-beyond}
use Rattle.bits.proofs.Clearing.{cleared-clear}
use Rattle.bits.proofs.Programming.{mask-clears}
use Rattle.bits.proofs.clear_bit.Goals as goal

pub returns-then-j-ge32 : goal.returns-then-j-ge32
returns-then-j-ge32 c =
    let w = c.args.w in
    let j = c.args.j in
    sym (cleared-clear w j (bit-beyond 32 w j (search rules) (search rules)))

pub returns : goal.returns
returns c =
    let w = c.args.w in
    let j = c.args.j in
    ap (λ (x : ℕ). bit_and w (ones - x)) (shl_exact 1 j 32 (lit< tt) (search rules) ∙ one-mul (2 ^ j)) ∙ mask-clears w j (search rules) (search rules)
