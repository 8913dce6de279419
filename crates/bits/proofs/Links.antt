-- What `determined` takes of this crate, to show that there is an environment that has the code of the public functions: the table of the crate's
-- functions; what those that are told here call in the crates below, `Below`; and of each of them, that a look-up that has both has its code, with the code
-- of all that it calls. The toolchain makes the tables and the parts, in modules that only this crate can name. Written by tools/links.py.
-- Assumes nothing.
use mathlib.Core.Bool.{true}
use prog.Wired.{Code}
use prog.Linked.{World, Tree, Holds, in_world}
use prog.LinkedThreads.{HasT}
use Rattle.bits.proofs.TheLink as made
use Rattle.bits.proofs.TheLinks as parts

abbrev pub table : Tree
table = made.table

abbrev pub Below : World → Type 0
Below W =
    Unit {0}

abbrev pub Linked : Code → Type 0
Linked c = (W : World) → Holds W "bits" table → Below W → HasT (in_world W) true c

pub clear_bit : Linked parts.bits-clear_bit.code
clear_bit W h b =
    parts.bits-clear_bit.has (in_world W) true (made.found-bits::clear_bit W h)

pub count_set : Linked parts.bits-count_set.code
count_set W h b =
    parts.bits-count_set.has (in_world W) true (made.found-bits::count_set W h)

pub greater : Linked parts.bits-greater.code
greater W h b =
    parts.bits-greater.has (in_world W) true (made.found-bits::greater W h)

pub is_set : Linked parts.bits-is_set.code
is_set W h b =
    parts.bits-is_set.has (in_world W) true (made.found-bits::is_set W h)

pub lesser : Linked parts.bits-lesser.code
lesser W h b =
    parts.bits-lesser.has (in_world W) true (made.found-bits::lesser W h)

pub lowest_set : Linked parts.bits-lowest_set.code
lowest_set W h b =
    parts.bits-lowest_set.has (in_world W) true (made.found-bits::lowest_set W h)

pub program : Linked parts.bits-program.code
program W h b =
    parts.bits-program.has (in_world W) true (made.found-bits::program W h)
