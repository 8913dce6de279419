-- The cycle of calls {put_decimal}. The measure is the number: a call of itself takes a tenth. Assumes nothing.
use Rattle.text.proofs.+put_decimal.Given as goal

abbrev pub decreases-put_decimal : goal.decreases-put_decimal
decreases-put_decimal l = l.n
