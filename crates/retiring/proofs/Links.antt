-- What `determined` takes of this crate, to show that there is an environment that has the code of the public functions: the table of the crate's
-- functions; what those that are told here call in the crates below, `Below`; and of each of them, that a look-up that has both has its code, with the code
-- of all that it calls. The toolchain makes the tables and the parts, in modules that only this crate can name. Written by tools/links.py.
-- Assumes nothing.
use mathlib.Core.Bool.{true}
use prog.Wired.{Code}
use prog.Linked.{World, Tree, Holds, in_world}
use prog.LinkedThreads.{HasT}
use Rattle.retiring.proofs.TheLink as made
use Rattle.retiring.proofs.TheLinks as parts

abbrev pub table : Tree
table = made.table

abbrev pub Below : World → Type 0
Below W =
    HasT (in_world W) true Rattle.bits.proofs.clear_bit.Symbol.code ×
    (HasT (in_world W) true Rattle.flash.proofs.run.Run.program.Symbol.code ×
    (HasT (in_world W) true Rattle.flash.proofs.run.Run.view.Symbol.code ×
    (HasT (in_world W) true Rattle.geometry.proofs.Geometry.entries_start.Symbol.code ×
    (HasT (in_world W) true Rattle.image.proofs.view.View.block.Symbol.code ×
    (HasT (in_world W) true Rattle.naming.proofs.judged.Judged.is_superseded.Symbol.code ×
    (HasT (in_world W) true Rattle.geometry.proofs.Geometry.d.Symbol.code ×
    (HasT (in_world W) true Rattle.naming.proofs.mark_all_completes.Symbol.code ×
    (HasT (in_world W) true Rattle.rules.proofs.NumberSet.new.Symbol.code ×
    (Unit {0})))))))))

abbrev pub Linked : Code → Type 0
Linked c = (W : World) → Holds W "retiring" table → Below W → HasT (in_world W) true c

retire_slot : Linked parts.retiring-retire_slot.code
retire_slot W h b =
    parts.retiring-retire_slot.has (in_world W) true (made.found-retiring::retire_slot W h) b.0 b.1.0 b.1.1.0 b.1.1.1.0 b.1.1.1.1.0 b.1.1.1.1.1.0

retire_in_block : Linked parts.retiring-retire_in_block.code
retire_in_block W h b =
    parts.retiring-retire_in_block.has (in_world W) true (made.found-retiring::retire_in_block W h) b.1.1.0 b.1.1.1.1.1.1.0 (retire_slot W h b)

pub retire_superseded : Linked parts.retiring-retire_superseded.code
retire_superseded W h b =
    parts.retiring-retire_superseded.has (in_world W) true (made.found-retiring::retire_superseded W h) b.1.1.0 b.1.1.1.1.1.1.1.0 (retire_in_block W h b) b.1.1.1.1.1.1.1.1.0
