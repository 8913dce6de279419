-- What `determined` takes of this crate, to show that there is an environment that has the code of the public functions: the table of the crate's
-- functions; what those that are told here call in the crates below, `Below`; and of each of them, that a look-up that has both has its code, with the code
-- of all that it calls. The toolchain makes the tables and the parts, in modules that only this crate can name. Written by tools/links.py.
-- Assumes nothing.
use mathlib.Core.Bool.{true}
use prog.Wired.{Code}
use prog.Linked.{World, Tree, Holds, in_world}
use prog.LinkedThreads.{HasT}
use Rattle.writing.proofs.TheLink as made
use Rattle.writing.proofs.TheLinks as parts

abbrev pub table : Tree
table = made.table

abbrev pub Below : World → Type 0
Below W =
    HasT (in_world W) true Rattle.blocks.proofs.count_blank.Symbol.code ×
    (HasT (in_world W) true Rattle.blocks.proofs.lowest_open.Symbol.code ×
    (HasT (in_world W) true Rattle.blocks.proofs.least_worn_blank.Symbol.code ×
    (HasT (in_world W) true Rattle.blocks.proofs.lowest_free.Symbol.code ×
    (HasT (in_world W) true Rattle.image.proofs.view.View.block.Symbol.code ×
    (HasT (in_world W) true Rattle.flash.proofs.run.Run.view.Symbol.code ×
    (HasT (in_world W) true Rattle.placing.proofs.place.Symbol.code ×
    (HasT (in_world W) true Rattle.blocks.proofs.victim.Symbol.code ×
    (HasT (in_world W) true Rattle.image.proofs.view.Block.erase_count.Symbol.code ×
    (HasT (in_world W) true Rattle.geometry.proofs.Geometry.d.Symbol.code ×
    (HasT (in_world W) true Rattle.image.proofs.view.Block.copy_contents.Symbol.code ×
    (HasT (in_world W) true Rattle.image.proofs.view.Block.own_slot.Symbol.code ×
    (HasT (in_world W) true Rattle.placing.proofs.place_over.Symbol.code ×
    (HasT (in_world W) true Rattle.tables.proofs.note.Symbol.code ×
    (HasT (in_world W) true Rattle.tables.proofs.word_at.Symbol.code ×
    (HasT (in_world W) true Rattle.flash.proofs.run.Run.erase.Symbol.code ×
    (HasT (in_world W) true Rattle.flash.proofs.run.Run.program.Symbol.code ×
    (HasT (in_world W) true Rattle.geometry.proofs.Geometry.start.Symbol.code ×
    (Unit {0}))))))))))))))))))

abbrev pub Linked : Code → Type 0
Linked c = (W : World) → Holds W "writing" table → Below W → HasT (in_world W) true c

filling-must_reclaim : Linked parts.writing-filling-must_reclaim.code
filling-must_reclaim W h b =
    parts.writing-filling-must_reclaim.has (in_world W) true (made.found-writing::filling::must_reclaim W h) b.0 b.1.0

pub filling-next_slot : Linked parts.writing-filling-next_slot.code
filling-next_slot W h b =
    parts.writing-filling-next_slot.has (in_world W) true (made.found-writing::filling::next_slot W h) b.1.1.0 b.1.1.1.0 b.1.0 b.1.1.1.1.0

filling-fill : Linked parts.writing-filling-fill.code
filling-fill W h b =
    parts.writing-filling-fill.has (in_world W) true (made.found-writing::filling::fill W h) b.1.1.1.1.1.0 b.1.1.1.1.1.1.0 (filling-next_slot W h b)

pub filling-plan : Linked parts.writing-filling-plan.code
filling-plan W h b =
    parts.writing-filling-plan.has (in_world W) true (made.found-writing::filling::plan W h) b.1.1.1.1.1.1.1.0 b.1.1.1.1.1.1.1.1.0 b.1.1.1.1.0 (filling-must_reclaim W h b)

pub reclaiming-copy_live : Linked parts.writing-reclaiming-copy_live.code
reclaiming-copy_live W h b =
    parts.writing-reclaiming-copy_live.has (in_world W) true (made.found-writing::reclaiming::copy_live W h) b.1.1.1.0 b.1.1.1.1.1.0 b.1.1.1.1.1.1.1.1.1.0 b.1.1.1.1.1.1.1.1.1.1.0 b.1.1.1.1.1.1.1.1.1.1.1.0 b.1.1.1.1.0 b.1.1.1.1.1.1.1.1.1.1.1.1.0 b.1.1.1.1.1.1.1.1.1.1.1.1.1.0 b.1.1.1.1.1.1.1.1.1.1.1.1.1.1.0

pub reclaiming-erase_victim : Linked parts.writing-reclaiming-erase_victim.code
reclaiming-erase_victim W h b =
    parts.writing-reclaiming-erase_victim.has (in_world W) true (made.found-writing::reclaiming::erase_victim W h) b.1.1.1.1.1.1.1.1.1.1.1.1.1.1.1.0 b.1.1.1.1.1.1.1.1.1.1.1.1.1.1.1.1.0 b.1.1.1.1.1.1.1.1.1.1.1.1.1.1.1.1.1.0

filling-reclaim_and_fill : Linked parts.writing-filling-reclaim_and_fill.code
filling-reclaim_and_fill W h b =
    parts.writing-filling-reclaim_and_fill.has (in_world W) true (made.found-writing::filling::reclaim_and_fill W h) b.1.1.0 b.1.1.1.1.1.0 b.1.1.1.1.1.1.1.1.0 b.1.1.1.1.0 (filling-fill W h b) (reclaiming-copy_live W h b) (reclaiming-erase_victim W h b)

pub filling-write_along : Linked parts.writing-filling-write_along.code
filling-write_along W h b =
    parts.writing-filling-write_along.has (in_world W) true (made.found-writing::filling::write_along W h) (filling-fill W h b) (filling-reclaim_and_fill W h b)
