-- What `determined` takes of this crate, to show that there is an environment that has the code of the public functions: the table of the crate's
-- functions; what those that are told here call in the crates below, `Below`; and of each of them, that a look-up that has both has its code, with the code
-- of all that it calls. The toolchain makes the tables and the parts, in modules that only this crate can name. Written by tools/links.py.
-- Assumes nothing.
use mathlib.Core.Bool.{true}
use prog.Wired.{Code}
use prog.Linked.{World, Tree, Holds, in_world}
use prog.LinkedThreads.{HasT}
use Rattle.calls.proofs.TheLink as made
use Rattle.calls.proofs.TheLinks as parts

abbrev pub table : Tree
table = made.table

abbrev pub Below : World → Type 0
Below W =
    HasT (in_world W) true Rattle.answers.proofs.RefusalFromFault.from.Symbol.code ×
    (HasT (in_world W) true Rattle.checking.proofs.first_fault.Symbol.code ×
    (HasT (in_world W) true Rattle.image.proofs.view.View.new.Symbol.code ×
    (HasT (in_world W) true Rattle.mending.proofs.is_mendable.Symbol.code ×
    (HasT (in_world W) true Rattle.repairing.proofs.plan.Symbol.code ×
    (HasT (in_world W) true Rattle.repairing.proofs.repair_along.Symbol.code ×
    (HasT (in_world W) true Rattle.tables.proofs.look_up.Symbol.code ×
    (HasT (in_world W) true Rattle.image.proofs.view.Block.copy_contents.Symbol.code ×
    (HasT (in_world W) true Rattle.image.proofs.view.View.block.Symbol.code ×
    (HasT (in_world W) true Rattle.placing.proofs.release.Symbol.code ×
    (HasT (in_world W) true Rattle.tables.proofs.note.Symbol.code ×
    (HasT (in_world W) true Rattle.writing.proofs.filling.plan.Symbol.code ×
    (HasT (in_world W) true Rattle.writing.proofs.filling.write_along.Symbol.code ×
    (Unit {0})))))))))))))

abbrev pub Linked : Code → Type 0
Linked c = (W : World) → Holds W "calls" table → Below W → HasT (in_world W) true c

sector_image : Linked parts.calls-sector_image.code
sector_image W h b =
    parts.calls-sector_image.has (in_world W) true (made.found-calls::sector_image W h) b.0 b.1.0 b.1.1.0

pub repair_course : Linked parts.calls-repair_course.code
repair_course W h b =
    parts.calls-repair_course.has (in_world W) true (made.found-calls::repair_course W h) b.0 b.1.0 b.1.1.0 b.1.1.1.0 b.1.1.1.1.0

repair_along : Linked parts.calls-repair_along.code
repair_along W h b =
    parts.calls-repair_along.has (in_world W) true (made.found-calls::repair_along W h) b.1.1.1.1.1.0

pub repair_within : Linked parts.calls-repair_within.code
repair_within W h b =
    parts.calls-repair_within.has (in_world W) true (made.found-calls::repair_within W h) (repair_along W h b) (repair_course W h b)

pub repair_by : Linked parts.calls-repair_by.code
repair_by W h b =
    parts.calls-repair_by.has (in_world W) true (made.found-calls::repair_by W h) (repair_within W h b)

mapped_entry : Linked parts.calls-mapped_entry.code
mapped_entry W h b =
    parts.calls-mapped_entry.has (in_world W) true (made.found-calls::mapped_entry W h) b.0 b.1.0 b.1.1.1.1.1.1.0

pub read_by : Linked parts.calls-read_by.code
read_by W h b =
    parts.calls-read_by.has (in_world W) true (made.found-calls::read_by W h) (sector_image W h b) b.1.1.1.1.1.1.1.0 b.1.1.1.1.1.1.1.1.0 b.1.1.1.1.1.1.0

pub release_course : Linked parts.calls-release_course.code
release_course W h b =
    parts.calls-release_course.has (in_world W) true (made.found-calls::release_course W h) (mapped_entry W h b) b.1.1.0

pub release_within : Linked parts.calls-release_within.code
release_within W h b =
    parts.calls-release_within.has (in_world W) true (made.found-calls::release_within W h) (release_course W h b) b.1.1.1.1.1.1.1.1.1.0 b.1.1.1.1.1.1.1.1.1.1.0

pub release_by : Linked parts.calls-release_by.code
release_by W h b =
    parts.calls-release_by.has (in_world W) true (made.found-calls::release_by W h) (release_within W h b)

pub write_course : Linked parts.calls-write_course.code
write_course W h b =
    parts.calls-write_course.has (in_world W) true (made.found-calls::write_course W h) (sector_image W h b) b.1.1.1.1.1.1.1.1.1.1.1.0

write_along : Linked parts.calls-write_along.code
write_along W h b =
    parts.calls-write_along.has (in_world W) true (made.found-calls::write_along W h) b.1.1.1.1.1.1.1.1.1.1.1.1.0

pub write_within : Linked parts.calls-write_within.code
write_within W h b =
    parts.calls-write_within.has (in_world W) true (made.found-calls::write_within W h) (write_along W h b) (write_course W h b)

pub write_by : Linked parts.calls-write_by.code
write_by W h b =
    parts.calls-write_by.has (in_world W) true (made.found-calls::write_by W h) (write_within W h b)
