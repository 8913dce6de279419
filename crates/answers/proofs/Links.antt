-- What `determined` takes of this crate, to show that there is an environment that has the code of the public functions: the table of the crate's
-- functions; what those that are told here call in the crates below, `Below`; and of each of them, that a look-up that has both has its code, with the code
-- of all that it calls. The toolchain makes the tables and the parts, in modules that only this crate can name. Written by tools/links.py.
-- Assumes nothing.
use mathlib.Core.Bool.{true}
use prog.Wired.{Code}
use prog.Linked.{World, Tree, Holds, in_world}
use prog.LinkedThreads.{HasT}
use Rattle.answers.proofs.TheLink as made
use Rattle.answers.proofs.TheLinks as parts

abbrev pub table : Tree
table = made.table

abbrev pub Below : World → Type 0
Below W =
    Unit {0}

abbrev pub Linked : Code → Type 0
Linked c = (W : World) → Holds W "answers" table → Below W → HasT (in_world W) true c

pub RefusalFromFault-from : Linked parts.answers-RefusalFromFault-from.code
RefusalFromFault-from W h b =
    parts.answers-RefusalFromFault-from.has (in_world W) true (made.found-answers::RefusalFromFault::from W h)

pub bad_block : Linked parts.answers-bad_block.code
bad_block W h b =
    parts.answers-bad_block.has (in_world W) true (made.found-answers::bad_block W h)

pub bad_rule : Linked parts.answers-bad_rule.code
bad_rule W h b =
    parts.answers-bad_rule.has (in_world W) true (made.found-answers::bad_rule W h)

pub number : Linked parts.answers-number.code
number W h b =
    parts.answers-number.has (in_world W) true (made.found-answers::number W h)
