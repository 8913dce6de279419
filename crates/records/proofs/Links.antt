-- What `determined` takes of this crate, to show that there is an environment that has the code of the public functions: the table of the crate's
-- functions; what those that are told here call in the crates below, `Below`; and of each of them, that a look-up that has both has its code, with the code
-- of all that it calls. The toolchain makes the tables and the parts, in modules that only this crate can name. Written by tools/links.py.
-- Assumes nothing.
use mathlib.Core.Bool.{true}
use prog.Wired.{Code}
use prog.Linked.{World, Tree, Holds, in_world}
use prog.LinkedThreads.{HasT}
use Rattle.records.proofs.TheLink as made
use Rattle.records.proofs.TheLinks as parts

abbrev pub table : Tree
table = made.table

abbrev pub Below : World → Type 0
Below W =
    HasT (in_world W) true Rattle.answers.proofs.number.Symbol.code ×
    (HasT (in_world W) true Rattle.shellwaltz.proofs.format.Symbol.code ×
    (HasT (in_world W) true Rattle.shellwaltz.proofs.read.Symbol.code ×
    (HasT (in_world W) true Rattle.shellwaltz.proofs.release.Symbol.code ×
    (HasT (in_world W) true Rattle.shellwaltz.proofs.report.Symbol.code ×
    (HasT (in_world W) true Rattle.shellwaltz.proofs.write.Symbol.code ×
    (Unit {0}))))))

abbrev pub Linked : Code → Type 0
Linked c = (W : World) → Holds W "records" table → Below W → HasT (in_world W) true c

OperationTryFromU32-try_from : Linked parts.records-OperationTryFromU32-try_from.code
OperationTryFromU32-try_from W h b =
    parts.records-OperationTryFromU32-try_from.has (in_world W) true (made.found-records::OperationTryFromU32::try_from W h)

number_at : Linked parts.records-number_at.code
number_at W h b =
    parts.records-number_at.has (in_world W) true (made.found-records::number_at W h)

other : Linked parts.records-other.code
other W h b =
    parts.records-other.has (in_world W) true (made.found-records::other W h)

outcome_line : Linked parts.records-outcome_line.code
outcome_line W h b =
    parts.records-outcome_line.has (in_world W) true (made.found-records::outcome_line W h) b.0

pub record_of : Linked parts.records-record_of.code
record_of W h b =
    parts.records-record_of.has (in_world W) true (made.found-records::record_of W h) (number_at W h b)

script_geometry : Linked parts.records-script_geometry.code
script_geometry W h b =
    parts.records-script_geometry.has (in_world W) true (made.found-records::script_geometry W h)

pub short : Linked parts.records-short.code
short W h b =
    parts.records-short.has (in_world W) true (made.found-records::short W h) (other W h b)

format : Linked parts.records-format.code
format W h b =
    parts.records-format.has (in_world W) true (made.found-records::format W h) (outcome_line W h b) (script_geometry W h b) b.1.0

pub start : Linked parts.records-start.code
start W h b =
    parts.records-start.has (in_world W) true (made.found-records::start W h) (script_geometry W h b) b.1.0

read : Linked parts.records-read.code
read W h b =
    parts.records-read.has (in_world W) true (made.found-records::read W h) b.0 (script_geometry W h b) b.1.1.0

release : Linked parts.records-release.code
release W h b =
    parts.records-release.has (in_world W) true (made.found-records::release W h) (outcome_line W h b) (script_geometry W h b) b.1.1.1.0

pub end : Linked parts.records-end.code
end W h b =
    parts.records-end.has (in_world W) true (made.found-records::end W h) (script_geometry W h b) b.1.1.1.1.0

write : Linked parts.records-write.code
write W h b =
    parts.records-write.has (in_world W) true (made.found-records::write W h) (outcome_line W h b) (script_geometry W h b) b.1.1.1.1.1.0

pub carry_out : Linked parts.records-carry_out.code
carry_out W h b =
    parts.records-carry_out.has (in_world W) true (made.found-records::carry_out W h) (OperationTryFromU32-try_from W h b) (format W h b) (other W h b) (read W h b) (release W h b) (write W h b)
