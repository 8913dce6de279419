-- What `determined` takes of this crate, to show that there is an environment that has the code of the public functions: the table of the crate's
-- functions; what those that are told here call in the crates below, `Below`; and of each of them, that a look-up that has both has its code, with the code
-- of all that it calls. The toolchain makes the tables and the parts, in modules that only this crate can name. Written by tools/links.py.
-- Assumes nothing.
use mathlib.Core.Bool.{true}
use prog.Wired.{Code}
use prog.Linked.{World, Tree, Holds, in_world}
use prog.LinkedThreads.{HasT}
use Rattle.stepwise.proofs.TheLink as made
use Rattle.stepwise.proofs.TheLinks as parts

abbrev pub table : Tree
table = made.table

abbrev pub Below : World → Type 0
Below W =
    HasT (in_world W) true Rattle.calls.proofs.release_within.Symbol.code ×
    (HasT (in_world W) true Rattle.ahead.proofs.plain.release_step.Symbol.code ×
    (HasT (in_world W) true Rattle.calls.proofs.release_course.Symbol.code ×
    (HasT (in_world W) true Rattle.calls.proofs.repair_within.Symbol.code ×
    (HasT (in_world W) true Rattle.calls.proofs.repair_course.Symbol.code ×
    (HasT (in_world W) true Rattle.repair_ahead.proofs.repairs.repair_step.Symbol.code ×
    (HasT (in_world W) true Rattle.calls.proofs.write_within.Symbol.code ×
    (HasT (in_world W) true Rattle.ahead.proofs.plain.fill_step.Symbol.code ×
    (HasT (in_world W) true Rattle.ahead.proofs.reclaims.reclaim_step.Symbol.code ×
    (HasT (in_world W) true Rattle.calls.proofs.write_course.Symbol.code ×
    (Unit {0}))))))))))

abbrev pub Linked : Code → Type 0
Linked c = (W : World) → Holds W "stepwise" table → Below W → HasT (in_world W) true c

pub release_first : Linked parts.stepwise-release_first.code
release_first W h b =
    parts.stepwise-release_first.has (in_world W) true (made.found-stepwise::release_first W h) b.0

pub release_step : Linked parts.stepwise-release_step.code
release_step W h b =
    parts.stepwise-release_step.has (in_world W) true (made.found-stepwise::release_step W h) b.1.0 b.1.1.0

pub repair_first : Linked parts.stepwise-repair_first.code
repair_first W h b =
    parts.stepwise-repair_first.has (in_world W) true (made.found-stepwise::repair_first W h) b.1.1.1.0

pub repair_step : Linked parts.stepwise-repair_step.code
repair_step W h b =
    parts.stepwise-repair_step.has (in_world W) true (made.found-stepwise::repair_step W h) b.1.1.1.1.0 b.1.1.1.1.1.0

pub write_first : Linked parts.stepwise-write_first.code
write_first W h b =
    parts.stepwise-write_first.has (in_world W) true (made.found-stepwise::write_first W h) b.1.1.1.1.1.1.0

pub write_step : Linked parts.stepwise-write_step.code
write_step W h b =
    parts.stepwise-write_step.has (in_world W) true (made.found-stepwise::write_step W h) b.1.1.1.1.1.1.1.0 b.1.1.1.1.1.1.1.1.0 b.1.1.1.1.1.1.1.1.1.0
