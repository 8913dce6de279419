-- What `determined` takes of this crate, to show that there is an environment that has the code of the public functions: the table of the crate's
-- functions; what those that are told here call in the crates below, `Below`; and of each of them, that a look-up that has both has its code, with the code
-- of all that it calls. The toolchain makes the tables and the parts, in modules that only this crate can name. Written by tools/links.py.
-- Assumes nothing.
use mathlib.Core.Bool.{true}
use prog.Wired.{Code}
use prog.Linked.{World, Tree, Holds, in_world}
use prog.LinkedThreads.{HasT}
use Rattle.tables.proofs.TheLink as made
use Rattle.tables.proofs.TheLinks as parts

abbrev pub table : Tree
table = made.table

abbrev pub Below : World → Type 0
Below W =
    HasT (in_world W) true Rattle.image.proofs.Entry.is_live_for.Symbol.code ×
    (HasT (in_world W) true Rattle.image.proofs.view.Block.entries.Symbol.code ×
    (HasT (in_world W) true Rattle.image.proofs.view.View.block.Symbol.code ×
    (HasT (in_world W) true Rattle.geometry.proofs.Geometry.d.Symbol.code ×
    (HasT (in_world W) true Rattle.image.proofs.view.View.find.Symbol.code ×
    (HasT (in_world W) true Rattle.image.proofs.view.Block.own_slot.Symbol.code ×
    (Unit {0}))))))

abbrev pub Linked : Code → Type 0
Linked c = (W : World) → Holds W "tables" table → Below W → HasT (in_world W) true c

confirmed : Linked parts.tables-confirmed.code
confirmed W h b =
    parts.tables-confirmed.has (in_world W) true (made.found-tables::confirmed W h) b.0 b.1.0 b.1.1.0

forget : Linked parts.tables-forget.code
forget W h b =
    parts.tables-forget.has (in_world W) true (made.found-tables::forget W h)

pub look_up : Linked parts.tables-look_up.code
look_up W h b =
    parts.tables-look_up.has (in_world W) true (made.found-tables::look_up W h) b.1.1.1.0 b.1.1.1.1.0 (confirmed W h b)

pub note : Linked parts.tables-note.code
note W h b =
    parts.tables-note.has (in_world W) true (made.found-tables::note W h)

pub word_at : Linked parts.tables-word_at.code
word_at W h b =
    parts.tables-word_at.has (in_world W) true (made.found-tables::word_at W h) b.1.1.1.0

note_block : Linked parts.tables-note_block.code
note_block W h b =
    parts.tables-note_block.has (in_world W) true (made.found-tables::note_block W h) b.1.1.1.0 b.1.1.1.1.1.0 (note W h b) (word_at W h b)

pub build : Linked parts.tables-build.code
build W h b =
    parts.tables-build.has (in_world W) true (made.found-tables::build W h) b.1.1.0 (forget W h b) (note_block W h b)
