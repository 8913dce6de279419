-- `shellwaltz::report` meets its contract: it refuses as a check does, and past that it adds up.
use mathlib.Core.Path.{sym, ◌∙◌}
use Rattle.calls.specs.Calls.{reported}
use Rattle.calls.proofs.AcceptedCalls.{check-accepted}
use Rattle.shellwaltz.proofs.report.Goals as goal

pub returns-in-Err : goal.returns-in-Err
unfolding reported
returns-in-Err c = rw (sym c.check.ensures ∙ c.in-Err.is)

pub invariant_of-add_up-clause-shaped : goal.invariant_of-add_up-clause-shaped
invariant_of-add_up-clause-shaped c = (check-accepted _ _ (sym c.check.ensures ∙ c.in_default.is)).0

pub add_up-requires : goal.add_up-requires
add_up-requires c = (check-accepted _ _ (sym c.check.ensures ∙ c.in_default.is)).1

pub returns : goal.returns
unfolding reported
returns c = rw (sym c.check.ensures ∙ c.in_default.is) c.add_up.ensures
