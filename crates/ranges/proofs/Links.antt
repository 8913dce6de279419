-- What `determined` takes of this crate, to show that there is an environment that has the code of the public functions: the table of the crate's
-- functions; what those that are told here call in the crates below, `Below`; and of each of them, that a look-up that has both has its code, with the code
-- of all that it calls. The toolchain makes the tables and the parts, in modules that only this crate can name. Written by tools/links.py.
-- Assumes nothing.
use mathlib.Core.Bool.{true}
use prog.Wired.{Code}
use prog.Linked.{World, Tree, Holds, in_world}
use prog.LinkedThreads.{HasT}
use Rattle.ranges.proofs.TheLink as made
use Rattle.ranges.proofs.TheLinks as parts

abbrev pub table : Tree
table = made.table

abbrev pub Below : World → Type 0
Below W =
    Unit {0}

abbrev pub Linked : Code → Type 0
Linked c = (W : World) → Holds W "ranges" table → Below W → HasT (in_world W) true c

pub all : Linked parts.ranges-all.code
all W h b =
    parts.ranges-all.has (in_world W) true (made.found-ranges::all W h)

pub count : Linked parts.ranges-count.code
count W h b =
    parts.ranges-count.has (in_world W) true (made.found-ranges::count W h)

pub find : Linked parts.ranges-find.code
find W h b =
    parts.ranges-find.has (in_world W) true (made.found-ranges::find W h)

is_below : Linked parts.ranges-is_below.code
is_below W h b =
    parts.ranges-is_below.has (in_world W) true (made.found-ranges::is_below W h)

pub largest : Linked parts.ranges-largest.code
largest W h b =
    parts.ranges-largest.has (in_world W) true (made.found-ranges::largest W h)

pub least : Linked parts.ranges-least.code
least W h b =
    parts.ranges-least.has (in_world W) true (made.found-ranges::least W h) (is_below W h b)

pub nth : Linked parts.ranges-nth.code
nth W h b =
    parts.ranges-nth.has (in_world W) true (made.found-ranges::nth W h)
