-- The number of a rule that is broken, as the code hands it on: none in place of 0, which is no rule's. Internal to the check.
use Rattle.std.specs.Prelude.{cond, Option, Some, None, ℕ, eqb}

abbrev pub rule_if_any : ℕ → Option ℕ
rule_if_any r = cond (eqb r 0) None (Some r)
