-- What `determined` takes of this crate, to show that there is an environment that has the code of the public functions: the table of the crate's
-- functions; what those that are told here call in the crates below, `Below`; and of each of them, that a look-up that has both has its code, with the code
-- of all that it calls. The toolchain makes the tables and the parts, in modules that only this crate can name. Written by tools/links.py.
-- Assumes nothing.
use mathlib.Core.Bool.{true}
use prog.Wired.{Code}
use prog.Linked.{World, Tree, Holds, in_world}
use prog.LinkedThreads.{HasT}
use Rattle.repairing.proofs.TheLink as made
use Rattle.repairing.proofs.TheLinks as parts

abbrev pub table : Tree
table = made.table

abbrev pub Below : World → Type 0
Below W =
    HasT (in_world W) true Rattle.blocks.proofs.free_slots.Symbol.code ×
    (HasT (in_world W) true Rattle.blocks.proofs.lowest_open.Symbol.code ×
    (HasT (in_world W) true Rattle.image.proofs.view.View.block.Symbol.code ×
    (HasT (in_world W) true Rattle.restoring.proofs.restore_bounds.Symbol.code ×
    (HasT (in_world W) true Rattle.restoring.proofs.restore_count.Symbol.code ×
    (HasT (in_world W) true Rattle.retiring.proofs.retire_superseded.Symbol.code ×
    (HasT (in_world W) true Rattle.blocks.proofs.count_blank.Symbol.code ×
    (HasT (in_world W) true Rattle.image.proofs.kinds.count_live.Symbol.code ×
    (HasT (in_world W) true Rattle.image.proofs.view.Block.erase_count.Symbol.code ×
    (HasT (in_world W) true Rattle.mending.proofs.emptiest.Symbol.code ×
    (HasT (in_world W) true Rattle.naming.proofs.judged.JudgedKinds.block.Symbol.code ×
    (HasT (in_world W) true Rattle.naming.proofs.judged.JudgedKinds.live_at.Symbol.code ×
    (HasT (in_world W) true Rattle.naming.proofs.judged.JudgedKinds.live_between.Symbol.code ×
    (HasT (in_world W) true Rattle.naming.proofs.mark_all_completes.Symbol.code ×
    (HasT (in_world W) true Rattle.rules.proofs.NumberSet.new.Symbol.code ×
    (HasT (in_world W) true Rattle.flash.proofs.run.Run.view.Symbol.code ×
    (HasT (in_world W) true Rattle.writing.proofs.reclaiming.copy_live.Symbol.code ×
    (HasT (in_world W) true Rattle.writing.proofs.reclaiming.erase_victim.Symbol.code ×
    (Unit {0}))))))))))))))))))

abbrev pub Linked : Code → Type 0
Linked c = (W : World) → Holds W "repairing" table → Below W → HasT (in_world W) true c

room : Linked parts.repairing-room.code
room W h b =
    parts.repairing-room.has (in_world W) true (made.found-repairing::room W h) b.0 b.1.0 b.1.1.0

mend : Linked parts.repairing-mend.code
mend W h b =
    parts.repairing-mend.has (in_world W) true (made.found-repairing::mend W h) b.1.1.1.0 b.1.1.1.1.0 b.1.1.1.1.1.0

pub plan : Linked parts.repairing-plan.code
plan W h b =
    parts.repairing-plan.has (in_world W) true (made.found-repairing::plan W h) b.1.1.1.1.1.1.0 b.1.1.1.1.1.1.1.0 b.1.1.1.1.1.1.1.1.0 b.1.1.0 b.1.1.1.1.1.1.1.1.1.0 b.1.1.1.1.1.1.1.1.1.1.0 b.1.1.1.1.1.1.1.1.1.1.1.0 b.1.1.1.1.1.1.1.1.1.1.1.1.0 b.1.1.1.1.1.1.1.1.1.1.1.1.1.0 (room W h b) b.1.1.1.1.1.1.1.1.1.1.1.1.1.1.0

copy_out : Linked parts.repairing-copy_out.code
copy_out W h b =
    parts.repairing-copy_out.has (in_world W) true (made.found-repairing::copy_out W h) b.1.0 b.1.1.1.1.1.1.1.1.1.1.1.1.1.1.1.0 b.1.1.1.1.1.1.1.1.1.1.1.1.1.1.1.1.0

empty : Linked parts.repairing-empty.code
empty W h b =
    parts.repairing-empty.has (in_world W) true (made.found-repairing::empty W h) b.1.1.1.1.1.1.1.1.1.1.1.1.1.1.1.0 b.1.1.1.1.1.1.1.1.0 b.1.1.0 (copy_out W h b) b.1.1.1.1.1.1.1.1.1.1.1.1.1.1.1.1.1.0

pub repair_along : Linked parts.repairing-repair_along.code
repair_along W h b =
    parts.repairing-repair_along.has (in_world W) true (made.found-repairing::repair_along W h) (empty W h b) (mend W h b)
