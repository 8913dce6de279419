-- What `determined` takes of this crate, to show that there is an environment that has the code of the public functions: the table of the crate's
-- functions; what those that are told here call in the crates below, `Below`; and of each of them, that a look-up that has both has its code, with the code
-- of all that it calls. The toolchain makes the tables and the parts, in modules that only this crate can name. Written by tools/links.py.
-- Assumes nothing.
use mathlib.Core.Bool.{true}
use prog.Wired.{Code}
use prog.Linked.{World, Tree, Holds, in_world}
use prog.LinkedThreads.{HasT}
use Rattle.tabled.proofs.TheLink as made
use Rattle.tabled.proofs.TheLinks as parts

abbrev pub table : Tree
table = made.table

abbrev pub Below : World → Type 0
Below W =
    HasT (in_world W) true Rattle.image.proofs.slots.fits.Symbol.code ×
    (HasT (in_world W) true Rattle.calls.proofs.read_by.Symbol.code ×
    (HasT (in_world W) true Rattle.calls.proofs.release_by.Symbol.code ×
    (HasT (in_world W) true Rattle.calls.proofs.write_by.Symbol.code ×
    (HasT (in_world W) true Rattle.shellwaltz.proofs.check.Symbol.code ×
    (HasT (in_world W) true Rattle.tables.proofs.build.Symbol.code ×
    (Unit {0}))))))

abbrev pub Linked : Code → Type 0
Linked c = (W : World) → Holds W "tabled" table → Below W → HasT (in_world W) true c

check_table : Linked parts.tabled-check_table.code
check_table W h b =
    parts.tabled-check_table.has (in_world W) true (made.found-tabled::check_table W h) b.0

pub read : Linked parts.tabled-read.code
read W h b =
    parts.tabled-read.has (in_world W) true (made.found-tabled::read W h) b.1.0 (check_table W h b)

pub release : Linked parts.tabled-release.code
release W h b =
    parts.tabled-release.has (in_world W) true (made.found-tabled::release W h) b.1.1.0 (check_table W h b)

pub write : Linked parts.tabled-write.code
write W h b =
    parts.tabled-write.has (in_world W) true (made.found-tabled::write W h) b.1.1.1.0 (check_table W h b)

pub build : Linked parts.tabled-build.code
build W h b =
    parts.tabled-build.has (in_world W) true (made.found-tabled::build W h) b.1.1.1.1.0 (check_table W h b) b.1.1.1.1.1.0
