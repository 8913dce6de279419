-- What `determined` takes of this crate, to show that there is an environment that has the code of the public functions: the table of the crate's
-- functions; what those that are told here call in the crates below, `Below`; and of each of them, that a look-up that has both has its code, with the code
-- of all that it calls. The toolchain makes the tables and the parts, in modules that only this crate can name. Written by tools/links.py.
-- Assumes nothing.
use mathlib.Core.Bool.{true}
use prog.Wired.{Code}
use prog.Linked.{World, Tree, Holds, in_world}
use prog.LinkedThreads.{HasT}
use Rattle.geometry.proofs.TheLink as made
use Rattle.geometry.proofs.TheLinks as parts

abbrev pub table : Tree
table = made.table

abbrev pub Below : World → Type 0
Below W =
    Unit {0}

abbrev pub Linked : Code → Type 0
Linked c = (W : World) → Holds W "geometry" table → Below W → HasT (in_world W) true c

pub Geometry-block_length : Linked parts.geometry-Geometry-block_length.code
Geometry-block_length W h b =
    parts.geometry-Geometry-block_length.has (in_world W) true (made.found-geometry::Geometry::block_length W h)

pub Geometry-length : Linked parts.geometry-Geometry-length.code
Geometry-length W h b =
    parts.geometry-Geometry-length.has (in_world W) true (made.found-geometry::Geometry::length W h) (Geometry-block_length W h b)

pub Geometry-start : Linked parts.geometry-Geometry-start.code
Geometry-start W h b =
    parts.geometry-Geometry-start.has (in_world W) true (made.found-geometry::Geometry::start W h) (Geometry-block_length W h b)

pub Geometry-contents_start : Linked parts.geometry-Geometry-contents_start.code
Geometry-contents_start W h b =
    parts.geometry-Geometry-contents_start.has (in_world W) true (made.found-geometry::Geometry::contents_start W h) (Geometry-start W h b)

pub Geometry-map_start : Linked parts.geometry-Geometry-map_start.code
Geometry-map_start W h b =
    parts.geometry-Geometry-map_start.has (in_world W) true (made.found-geometry::Geometry::map_start W h) (Geometry-start W h b)

all_but_one : Linked parts.geometry-all_but_one.code
all_but_one W h b =
    parts.geometry-all_but_one.has (in_world W) true (made.found-geometry::all_but_one W h)

pub Geometry-d : Linked parts.geometry-Geometry-d.code
Geometry-d W h b =
    parts.geometry-Geometry-d.has (in_world W) true (made.found-geometry::Geometry::d W h) (all_but_one W h b)

pub Geometry-k : Linked parts.geometry-Geometry-k.code
Geometry-k W h b =
    parts.geometry-Geometry-k.has (in_world W) true (made.found-geometry::Geometry::k W h) (Geometry-d W h b)

pub Geometry-entries_start : Linked parts.geometry-Geometry-entries_start.code
Geometry-entries_start W h b =
    parts.geometry-Geometry-entries_start.has (in_world W) true (made.found-geometry::Geometry::entries_start W h) (Geometry-k W h b) (Geometry-map_start W h b)

is_side : Linked parts.geometry-is_side.code
is_side W h b =
    parts.geometry-is_side.has (in_world W) true (made.found-geometry::is_side W h)

pub Geometry-within_limits : Linked parts.geometry-Geometry-within_limits.code
Geometry-within_limits W h b =
    parts.geometry-Geometry-within_limits.has (in_world W) true (made.found-geometry::Geometry::within_limits W h) (Geometry-d W h b) (all_but_one W h b) (is_side W h b)
