-- What `determined` takes of this crate, to show that there is an environment that has the code of the public functions: the table of the crate's
-- functions; what those that are told here call in the crates below, `Below`; and of each of them, that a look-up that has both has its code, with the code
-- of all that it calls. The toolchain makes the tables and the parts, in modules that only this crate can name. Written by tools/links.py.
-- Assumes nothing.
use mathlib.Core.Bool.{true}
use prog.Wired.{Code}
use prog.Linked.{World, Tree, Holds, in_world}
use prog.LinkedThreads.{HasT}
use Rattle.shellwaltz_c.proofs.TheLink as made
use Rattle.shellwaltz_c.proofs.TheLinks as parts

abbrev pub table : Tree
table = made.table

abbrev pub Below : World → Type 0
Below W =
    HasT (in_world W) true Rattle.answers.proofs.bad_block.Symbol.code ×
    (HasT (in_world W) true Rattle.answers.proofs.bad_rule.Symbol.code ×
    (HasT (in_world W) true Rattle.answers.proofs.number.Symbol.code ×
    (HasT (in_world W) true Rattle.shellwaltz.proofs.check.Symbol.code ×
    (HasT (in_world W) true Rattle.shellwaltz.proofs.read.Symbol.code ×
    (HasT (in_world W) true Rattle.shellwaltz.proofs.format.Symbol.code ×
    (HasT (in_world W) true Rattle.shellwaltz.proofs.release.Symbol.code ×
    (HasT (in_world W) true Rattle.shellwaltz.proofs.repair.Symbol.code ×
    (HasT (in_world W) true Rattle.shellwaltz.proofs.write.Symbol.code ×
    (HasT (in_world W) true Rattle.shellwaltz.proofs.report.Symbol.code ×
    (HasT (in_world W) true Rattle.stepwise.proofs.release_first.Symbol.code ×
    (HasT (in_world W) true Rattle.stepwise.proofs.release_step.Symbol.code ×
    (HasT (in_world W) true Rattle.stepwise.proofs.repair_first.Symbol.code ×
    (HasT (in_world W) true Rattle.stepwise.proofs.repair_step.Symbol.code ×
    (HasT (in_world W) true Rattle.stepwise.proofs.write_first.Symbol.code ×
    (HasT (in_world W) true Rattle.stepwise.proofs.write_step.Symbol.code ×
    (HasT (in_world W) true Rattle.tabled.proofs.build.Symbol.code ×
    (HasT (in_world W) true Rattle.tabled.proofs.read.Symbol.code ×
    (HasT (in_world W) true Rattle.tabled.proofs.release.Symbol.code ×
    (HasT (in_world W) true Rattle.tabled.proofs.write.Symbol.code ×
    (Unit {0}))))))))))))))))))))

abbrev pub Linked : Code → Type 0
Linked c = (W : World) → Holds W "shellwaltz_c" table → Below W → HasT (in_world W) true c

Destruct++none-drop : Linked parts.shellwaltz_c-Destruct++none-drop.code
Destruct++none-drop W h b =
    parts.shellwaltz_c-Destruct++none-drop.has (in_world W) true (made.found-shellwaltz_c::Destruct++none::drop W h)

answer_of : Linked parts.shellwaltz_c-answer_of.code
answer_of W h b =
    parts.shellwaltz_c-answer_of.has (in_world W) true (made.found-shellwaltz_c::answer_of W h)

narrow : Linked parts.shellwaltz_c-narrow.code
narrow W h b =
    parts.shellwaltz_c-narrow.has (in_world W) true (made.found-shellwaltz_c::narrow W h)

geometry : Linked parts.shellwaltz_c-geometry.code
geometry W h b =
    parts.shellwaltz_c-geometry.has (in_world W) true (made.found-shellwaltz_c::geometry W h) (narrow W h b)

tell : Linked parts.shellwaltz_c-tell.code
tell W h b =
    parts.shellwaltz_c-tell.has (in_world W) true (made.found-shellwaltz_c::tell W h) b.0 b.1.0 b.1.1.0

by_steps-tell_step : Linked parts.shellwaltz_c-by_steps-tell_step.code
by_steps-tell_step W h b =
    parts.shellwaltz_c-by_steps-tell_step.has (in_world W) true (made.found-shellwaltz_c::by_steps::tell_step W h) (Destruct++none-drop W h b) (answer_of W h b) (tell W h b)

pub shellwaltz_check : Linked parts.shellwaltz_c-shellwaltz_check.code
shellwaltz_check W h b =
    parts.shellwaltz_c-shellwaltz_check.has (in_world W) true (made.found-shellwaltz_c::shellwaltz_check W h) b.1.1.1.0 (geometry W h b) (tell W h b)

pub shellwaltz_read : Linked parts.shellwaltz_c-shellwaltz_read.code
shellwaltz_read W h b =
    parts.shellwaltz_c-shellwaltz_read.has (in_world W) true (made.found-shellwaltz_c::shellwaltz_read W h) b.1.1.1.1.0 (geometry W h b) (tell W h b)

tell_counts : Linked parts.shellwaltz_c-tell_counts.code
tell_counts W h b =
    parts.shellwaltz_c-tell_counts.has (in_world W) true (made.found-shellwaltz_c::tell_counts W h) (Destruct++none-drop W h b) (answer_of W h b) (tell W h b)

pub shellwaltz_format : Linked parts.shellwaltz_c-shellwaltz_format.code
shellwaltz_format W h b =
    parts.shellwaltz_c-shellwaltz_format.has (in_world W) true (made.found-shellwaltz_c::shellwaltz_format W h) b.1.1.1.1.1.0 (geometry W h b) (tell_counts W h b)

pub shellwaltz_release : Linked parts.shellwaltz_c-shellwaltz_release.code
shellwaltz_release W h b =
    parts.shellwaltz_c-shellwaltz_release.has (in_world W) true (made.found-shellwaltz_c::shellwaltz_release W h) b.1.1.1.1.1.1.0 (geometry W h b) (tell_counts W h b)

pub shellwaltz_repair : Linked parts.shellwaltz_c-shellwaltz_repair.code
shellwaltz_repair W h b =
    parts.shellwaltz_c-shellwaltz_repair.has (in_world W) true (made.found-shellwaltz_c::shellwaltz_repair W h) b.1.1.1.1.1.1.1.0 (geometry W h b) (tell_counts W h b)

pub shellwaltz_write : Linked parts.shellwaltz_c-shellwaltz_write.code
shellwaltz_write W h b =
    parts.shellwaltz_c-shellwaltz_write.has (in_world W) true (made.found-shellwaltz_c::shellwaltz_write W h) b.1.1.1.1.1.1.1.1.0 (geometry W h b) (tell_counts W h b)

tell_totals : Linked parts.shellwaltz_c-tell_totals.code
tell_totals W h b =
    parts.shellwaltz_c-tell_totals.has (in_world W) true (made.found-shellwaltz_c::tell_totals W h) (Destruct++none-drop W h b) (answer_of W h b) (tell W h b)

pub shellwaltz_report : Linked parts.shellwaltz_c-shellwaltz_report.code
shellwaltz_report W h b =
    parts.shellwaltz_c-shellwaltz_report.has (in_world W) true (made.found-shellwaltz_c::shellwaltz_report W h) b.1.1.1.1.1.1.1.1.1.0 (geometry W h b) (tell_totals W h b)

pub by_steps-shellwaltz_release_first : Linked parts.shellwaltz_c-by_steps-shellwaltz_release_first.code
by_steps-shellwaltz_release_first W h b =
    parts.shellwaltz_c-by_steps-shellwaltz_release_first.has (in_world W) true (made.found-shellwaltz_c::by_steps::shellwaltz_release_first W h) (geometry W h b) (tell_counts W h b) b.1.1.1.1.1.1.1.1.1.1.0

pub by_steps-shellwaltz_release_step : Linked parts.shellwaltz_c-by_steps-shellwaltz_release_step.code
by_steps-shellwaltz_release_step W h b =
    parts.shellwaltz_c-by_steps-shellwaltz_release_step.has (in_world W) true (made.found-shellwaltz_c::by_steps::shellwaltz_release_step W h) (by_steps-tell_step W h b) (geometry W h b) b.1.1.1.1.1.1.1.1.1.1.1.0

pub by_steps-shellwaltz_repair_first : Linked parts.shellwaltz_c-by_steps-shellwaltz_repair_first.code
by_steps-shellwaltz_repair_first W h b =
    parts.shellwaltz_c-by_steps-shellwaltz_repair_first.has (in_world W) true (made.found-shellwaltz_c::by_steps::shellwaltz_repair_first W h) (geometry W h b) (tell_counts W h b) b.1.1.1.1.1.1.1.1.1.1.1.1.0

pub by_steps-shellwaltz_repair_step : Linked parts.shellwaltz_c-by_steps-shellwaltz_repair_step.code
by_steps-shellwaltz_repair_step W h b =
    parts.shellwaltz_c-by_steps-shellwaltz_repair_step.has (in_world W) true (made.found-shellwaltz_c::by_steps::shellwaltz_repair_step W h) (by_steps-tell_step W h b) (geometry W h b) b.1.1.1.1.1.1.1.1.1.1.1.1.1.0

pub by_steps-shellwaltz_write_first : Linked parts.shellwaltz_c-by_steps-shellwaltz_write_first.code
by_steps-shellwaltz_write_first W h b =
    parts.shellwaltz_c-by_steps-shellwaltz_write_first.has (in_world W) true (made.found-shellwaltz_c::by_steps::shellwaltz_write_first W h) (geometry W h b) (tell_counts W h b) b.1.1.1.1.1.1.1.1.1.1.1.1.1.1.0

pub by_steps-shellwaltz_write_step : Linked parts.shellwaltz_c-by_steps-shellwaltz_write_step.code
by_steps-shellwaltz_write_step W h b =
    parts.shellwaltz_c-by_steps-shellwaltz_write_step.has (in_world W) true (made.found-shellwaltz_c::by_steps::shellwaltz_write_step W h) (by_steps-tell_step W h b) (geometry W h b) b.1.1.1.1.1.1.1.1.1.1.1.1.1.1.1.0

pub with_table-shellwaltz_build_table : Linked parts.shellwaltz_c-with_table-shellwaltz_build_table.code
with_table-shellwaltz_build_table W h b =
    parts.shellwaltz_c-with_table-shellwaltz_build_table.has (in_world W) true (made.found-shellwaltz_c::with_table::shellwaltz_build_table W h) (geometry W h b) (tell W h b) b.1.1.1.1.1.1.1.1.1.1.1.1.1.1.1.1.0

pub with_table-shellwaltz_read_with_table : Linked parts.shellwaltz_c-with_table-shellwaltz_read_with_table.code
with_table-shellwaltz_read_with_table W h b =
    parts.shellwaltz_c-with_table-shellwaltz_read_with_table.has (in_world W) true (made.found-shellwaltz_c::with_table::shellwaltz_read_with_table W h) (geometry W h b) (tell W h b) b.1.1.1.1.1.1.1.1.1.1.1.1.1.1.1.1.1.0

pub with_table-shellwaltz_release_with_table : Linked parts.shellwaltz_c-with_table-shellwaltz_release_with_table.code
with_table-shellwaltz_release_with_table W h b =
    parts.shellwaltz_c-with_table-shellwaltz_release_with_table.has (in_world W) true (made.found-shellwaltz_c::with_table::shellwaltz_release_with_table W h) (geometry W h b) (tell_counts W h b) b.1.1.1.1.1.1.1.1.1.1.1.1.1.1.1.1.1.1.0

pub with_table-shellwaltz_write_with_table : Linked parts.shellwaltz_c-with_table-shellwaltz_write_with_table.code
with_table-shellwaltz_write_with_table W h b =
    parts.shellwaltz_c-with_table-shellwaltz_write_with_table.has (in_world W) true (made.found-shellwaltz_c::with_table::shellwaltz_write_with_table W h) (geometry W h b) (tell_counts W h b) b.1.1.1.1.1.1.1.1.1.1.1.1.1.1.1.1.1.1.1.0
