-- What `determined` takes of this crate, to show that there is an environment that has the code of the public functions: the table of the crate's
-- functions; what those that are told here call in the crates below, `Below`; and of each of them, that a look-up that has both has its code, with the code
-- of all that it calls. The toolchain makes the tables and the parts, in modules that only this crate can name. Written by tools/links.py.
-- Assumes nothing.
use mathlib.Core.Bool.{true}
use prog.Wired.{Code}
use prog.Linked.{World, Tree, Holds, in_world}
use prog.LinkedThreads.{HasT}
use Rattle.shellwaltz.proofs.TheLink as made
use Rattle.shellwaltz.proofs.TheLinks as parts

abbrev pub table : Tree
table = made.table

abbrev pub Below : World → Type 0
Below W =
    HasT (in_world W) true Rattle.blocks.proofs.tally.Symbol.code ×
    (HasT (in_world W) true Rattle.image.proofs.view.Block.erase_count.Symbol.code ×
    (HasT (in_world W) true Rattle.answers.proofs.RefusalFromFault.from.Symbol.code ×
    (HasT (in_world W) true Rattle.checking.proofs.first_fault.Symbol.code ×
    (HasT (in_world W) true Rattle.image.proofs.view.View.new.Symbol.code ×
    (HasT (in_world W) true Rattle.calls.proofs.read_by.Symbol.code ×
    (HasT (in_world W) true Rattle.calls.proofs.release_by.Symbol.code ×
    (HasT (in_world W) true Rattle.calls.proofs.repair_by.Symbol.code ×
    (HasT (in_world W) true Rattle.calls.proofs.write_by.Symbol.code ×
    (HasT (in_world W) true Rattle.geometry.proofs.Geometry.start.Symbol.code ×
    (HasT (in_world W) true Rattle.flash.proofs.steps.erase.Symbol.code ×
    (HasT (in_world W) true Rattle.image.proofs.slots.fits.Symbol.code ×
    (Unit {0}))))))))))))

abbrev pub Linked : Code → Type 0
Linked c = (W : World) → Holds W "shellwaltz" table → Below W → HasT (in_world W) true c

add_up : Linked parts.shellwaltz-add_up.code
add_up W h b =
    parts.shellwaltz-add_up.has (in_world W) true (made.found-shellwaltz::add_up W h) b.0 b.1.0

pub check : Linked parts.shellwaltz-check.code
check W h b =
    parts.shellwaltz-check.has (in_world W) true (made.found-shellwaltz::check W h) b.1.1.0 b.1.1.1.0 b.1.1.1.1.0

pub read : Linked parts.shellwaltz-read.code
read W h b =
    parts.shellwaltz-read.has (in_world W) true (made.found-shellwaltz::read W h) b.1.1.1.1.1.0

pub release : Linked parts.shellwaltz-release.code
release W h b =
    parts.shellwaltz-release.has (in_world W) true (made.found-shellwaltz::release W h) b.1.1.1.1.1.1.0

pub repair : Linked parts.shellwaltz-repair.code
repair W h b =
    parts.shellwaltz-repair.has (in_world W) true (made.found-shellwaltz::repair W h) b.1.1.1.1.1.1.1.0

pub report : Linked parts.shellwaltz-report.code
report W h b =
    parts.shellwaltz-report.has (in_world W) true (made.found-shellwaltz::report W h) (add_up W h b) (check W h b)

pub write : Linked parts.shellwaltz-write.code
write W h b =
    parts.shellwaltz-write.has (in_world W) true (made.found-shellwaltz::write W h) b.1.1.1.1.1.1.1.1.0

zero_counts : Linked parts.shellwaltz-zero_counts.code
zero_counts W h b =
    parts.shellwaltz-zero_counts.has (in_world W) true (made.found-shellwaltz::zero_counts W h) b.1.1.1.1.1.1.1.1.1.0

pub format : Linked parts.shellwaltz-format.code
format W h b =
    parts.shellwaltz-format.has (in_world W) true (made.found-shellwaltz::format W h) b.1.1.1.1.1.1.1.1.1.1.0 b.1.1.1.1.1.1.1.1.1.1.1.0 (zero_counts W h b)
