-- `bits::is_set` meets its contract: no word has a bit from 32 on, and below that the bit is read off the shifted word.
use mathlib.Core.Path.{refl, sym}
use borrow.Author.Rules.{rules}
use Rattle.bits.specs.Word.{bit}
use Rattle.bits.proofs.Bit.{bit-beyond, clear-bit}
use Rattle.bits.proofs.is_set.Goals as goal

pub returns-then-j-ge32 : goal.returns-then-j-ge32
returns-then-j-ge32 c =
    let w = c.args.w in
    let j = c.args.j in
    sym (clear-bit w j (bit-beyond 32 w j (search rules) (search rules)))

pub returns : goal.returns
unfolding bit
returns c = refl
