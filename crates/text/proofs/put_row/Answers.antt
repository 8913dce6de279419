-- `text::put_row` meets its contract. The loop's invariant: the numbers before this one stand after the letter, each after a space, and there is room for a
-- space and ten digits of each that is left, and for a newline.
use mathlib.Core.Path.{◌≡◌, refl, ap, ◌∙◌}
use Prim.Native.Nat.{◌+◌}
use native.Mathlib.Omega.{arith}
use lib.ListN.{length, take, length-set}
use lib.Seq.{take_all}
use Rattle.text.specs.Lines.{spaced}
use Rattle.text.proofs.Decimal.{few-digits}
use Rattle.text.proofs.Rows.{none-spaced, next-length, next-put, row-length, whole-put}
use Rattle.text.proofs.put_row.Goals as goal

pub loop-n-init : goal.loop-n-init
loop-n-init c =
    let same = length-set c.args.out.now 0 c.args.letter in
    rw none-spaced (omega (arith, c.requires, same), refl, refl)

pub put_decimal-at-requires : goal.put_decimal-at-requires
put_decimal-at-requires c =
    let loop = c.loop-n in
    let few = few-digits.1 _ c.type_inv.n.fits in
    simp length-set (omega (arith, loop.invariant.0, few, c.loop-n-test.true))

pub loop-n-preserved : goal.loop-n-preserved
loop-n-preserved c =
    let loop = c.loop-n in
    let numbers = c.args.numbers.now in
    let more = c.loop-n-test.true in
    let same : length c.put_decimal-at.new.out ≡ length loop.out = c.put_decimal-at.auto.out ∙ simp length-set in
    let few = few-digits.1 _ (c.type_inv.numbers loop.n-index).fits in (
      omega (arith, c.put_decimal-at.ensures.value, loop.invariant.0, few, same, more),
      omega (arith, c.put_decimal-at.ensures.value, loop.invariant.1, next-length numbers loop.n-index more),
      c.put_decimal-at.ensures.out_after ∙ next-put numbers loop.n-index more _ loop.invariant.2 loop.invariant.1,
    )

pub returns-clause-out_after : goal.returns-clause-out_after
returns-clause-out_after c =
    let loop = c.loop-n in
    let numbers = c.args.numbers.now in
    let all : take loop.n-index numbers ≡ numbers = take_all loop.n-index numbers c.loop-n-test.false in
    let ends = loop.invariant.1 ∙ ap (λ ns. 1 + length (spaced ns)) all in
    let long = row-length c.args.letter numbers in
    let same = length-set c.args.out.now 0 c.args.letter in
    let put = rw all at loop.invariant.2 in
    whole-put c.args.letter numbers _ (omega (arith, ends, long, loop.auto.out, loop.invariant.0, same)) put ends

pub returns-clause-value : goal.returns-clause-value
returns-clause-value c =
    let loop = c.loop-n in
    let numbers = c.args.numbers.now in
    let all : take loop.n-index numbers ≡ numbers = take_all loop.n-index numbers c.loop-n-test.false in
    let ends = loop.invariant.1 ∙ ap (λ ns. 1 + length (spaced ns)) all in
    omega (arith, ends, row-length c.args.letter numbers)
