-- The proof of the cycle of calls {put_decimal}. The measure is the number: a call of itself takes a tenth. Assumes nothing.
use mathlib.Core.Path.{ap, ◌∙◌}
use Prim.Native.Nat.{◌≤◌, ◌<◌}
use native.Mathlib.Nat.{mod-lt}
use native.Mathlib.Omega.{arith}
use lib.ListN.{length}
use Rattle.text.proofs.Decimal.{tenth-less, one-digit, one_more}
use Rattle.text.proofs.Stores.{one-more-put}
use Rattle.text.proofs.+put_decimal.Goals as goal

pub put_digit-requires : goal.put_digit-requires
put_digit-requires t c =
    let few : c.args.n < 10 = omega (arith, c.if-n-lt10.true) in
    (few, omega (arith, c.requires, ap length (one-digit c.args.n few)))

pub returns-then-n-lt10-clause-value : goal.returns-then-n-lt10-clause-value
returns-then-n-lt10-clause-value t c = c.put_digit.ensures.value ∙ rw (one-digit c.args.n (omega (arith, c.if-n-lt10.true)))

pub returns-then-n-lt10-clause-out_after : goal.returns-then-n-lt10-clause-out_after
returns-then-n-lt10-clause-out_after t c = c.put_digit.ensures.out_after ∙ rw (one-digit c.args.n (omega (arith, c.if-n-lt10.true)))

pub put_decimal-last-requires : goal.put_decimal-last-requires
put_decimal-last-requires t c =
    let ten : 10 ≤ c.args.n = omega (arith, c.if-n-lt10.false) in
    (omega (arith, c.decreases, tenth-less c.args.n ten), omega (arith, c.requires, one_more c.args.n ten))

pub put_digit-requires-2 : goal.put_digit-requires-2
put_digit-requires-2 t c =
    let more = one_more c.args.n (omega (arith, c.if-n-lt10.false)) in
    (mod-lt c.args.n (omega arith), omega (arith, c.requires, c.put_decimal-last.ensures.value, c.put_decimal-last.auto.out, more))

pub returns-clause-value : goal.returns-clause-value
returns-clause-value t c =
    let ten : 10 ≤ c.args.n = omega (arith, c.if-n-lt10.false) in
    omega (arith, c.put_digit-2.ensures.value, c.put_decimal-last.ensures.value, one_more c.args.n ten)

pub returns-clause-out_after : goal.returns-clause-out_after
returns-clause-out_after t c =
    let ten : 10 ≤ c.args.n = omega (arith, c.if-n-lt10.false) in
    let done = c.put_decimal-last.ensures in
    c.put_digit-2.ensures.out_after ∙ one-more-put _ _ c.args.n ten done.out_after done.value
