-- What `determined` takes of this crate, to show that there is an environment that has the code of the public functions: the table of the crate's
-- functions; what those that are told here call in the crates below, `Below`; and of each of them, that a look-up that has both has its code, with the code
-- of all that it calls. The toolchain makes the tables and the parts, in modules that only this crate can name. Written by tools/links.py.
-- Assumes nothing.
use mathlib.Core.Bool.{true}
use prog.Wired.{Code}
use prog.Linked.{World, Tree, Holds, in_world}
use prog.LinkedThreads.{HasT}
use Rattle.placing.proofs.TheLink as made
use Rattle.placing.proofs.TheLinks as parts

abbrev pub table : Tree
table = made.table

abbrev pub Below : World → Type 0
Below W =
    HasT (in_world W) true Rattle.image.proofs.view.Block.entries.Symbol.code ×
    (HasT (in_world W) true Rattle.image.proofs.view.View.block.Symbol.code ×
    (HasT (in_world W) true Rattle.bits.proofs.greater.Symbol.code ×
    (HasT (in_world W) true Rattle.bits.proofs.lesser.Symbol.code ×
    (HasT (in_world W) true Rattle.geometry.proofs.Geometry.d.Symbol.code ×
    (HasT (in_world W) true Rattle.blocks.proofs.is_full.Symbol.code ×
    (HasT (in_world W) true Rattle.flash.proofs.run.Run.program.Symbol.code ×
    (HasT (in_world W) true Rattle.flash.proofs.run.Run.view.Symbol.code ×
    (HasT (in_world W) true Rattle.geometry.proofs.Geometry.start.Symbol.code ×
    (HasT (in_world W) true Rattle.image.proofs.kinds.BlockKinds.block.Symbol.code ×
    (HasT (in_world W) true Rattle.image.proofs.kinds.BlockKinds.live_at.Symbol.code ×
    (HasT (in_world W) true Rattle.image.proofs.kinds.BlockKinds.live_between.Symbol.code ×
    (HasT (in_world W) true Rattle.geometry.proofs.Geometry.entries_start.Symbol.code ×
    (HasT (in_world W) true Rattle.bits.proofs.clear_bit.Symbol.code ×
    (HasT (in_world W) true Rattle.flash.proofs.steps.program.Symbol.code ×
    (HasT (in_world W) true Rattle.geometry.proofs.Geometry.contents_start.Symbol.code ×
    (HasT (in_world W) true Rattle.geometry.proofs.Geometry.map_start.Symbol.code ×
    (HasT (in_world W) true Rattle.image.proofs.Entry.begun.Symbol.code ×
    (HasT (in_world W) true Rattle.image.proofs.Entry.complete.Symbol.code ×
    (HasT (in_world W) true Rattle.tables.proofs.look_up.Symbol.code ×
    (HasT (in_world W) true Rattle.tables.proofs.note.Symbol.code ×
    (HasT (in_world W) true Rattle.tables.proofs.word_at.Symbol.code ×
    (Unit {0}))))))))))))))))))))))

abbrev pub Linked : Code → Type 0
Linked c = (W : World) → Holds W "placing" table → Below W → HasT (in_world W) true c

pub entry_at : Linked parts.placing-entry_at.code
entry_at W h b =
    parts.placing-entry_at.has (in_world W) true (made.found-placing::entry_at W h) b.0 b.1.0

pub live_bounds : Linked parts.placing-live_bounds.code
live_bounds W h b =
    parts.placing-live_bounds.has (in_world W) true (made.found-placing::live_bounds W h) b.1.1.0 b.1.1.1.0 b.1.1.1.1.0

pub or_logical : Linked parts.placing-or_logical.code
or_logical W h b =
    parts.placing-or_logical.has (in_world W) true (made.found-placing::or_logical W h)

close_block : Linked parts.placing-close_block.code
close_block W h b =
    parts.placing-close_block.has (in_world W) true (made.found-placing::close_block W h) b.1.1.1.1.1.0 b.1.1.1.1.1.1.0 b.1.1.1.1.1.1.1.0 b.1.1.1.1.1.1.1.1.0 b.1.1.1.1.1.1.1.1.1.0 b.1.1.1.1.1.1.1.1.1.1.0 b.1.1.1.1.1.1.1.1.1.1.1.0 b.1.0 (live_bounds W h b) (or_logical W h b)

program_entry : Linked parts.placing-program_entry.code
program_entry W h b =
    parts.placing-program_entry.has (in_world W) true (made.found-placing::program_entry W h) b.1.1.1.1.1.1.0 b.1.1.1.1.1.1.1.1.1.1.1.1.0

pub release : Linked parts.placing-release.code
release W h b =
    parts.placing-release.has (in_world W) true (made.found-placing::release W h) b.1.1.1.1.1.1.1.1.1.1.1.1.1.0 b.1.1.1.1.1.1.1.0 (entry_at W h b) (program_entry W h b)

store_contents : Linked parts.placing-store_contents.code
store_contents W h b =
    parts.placing-store_contents.has (in_world W) true (made.found-placing::store_contents W h) b.1.1.1.0 b.1.1.1.1.1.1.1.1.1.1.1.1.1.1.0 b.1.1.1.1.1.1.1.1.1.1.1.1.1.1.1.0

take_slot : Linked parts.placing-take_slot.code
take_slot W h b =
    parts.placing-take_slot.has (in_world W) true (made.found-placing::take_slot W h) b.1.1.1.1.1.1.1.1.1.1.1.1.1.0 b.1.1.1.1.1.1.0 b.1.1.1.1.1.1.1.1.1.1.1.1.1.1.1.1.0

pub place_over : Linked parts.placing-place_over.code
place_over W h b =
    parts.placing-place_over.has (in_world W) true (made.found-placing::place_over W h) b.1.1.1.1.1.1.1.1.1.1.1.1.1.0 b.1.1.1.1.1.1.0 b.1.1.1.1.1.1.1.0 b.1.1.1.1.1.1.1.1.1.1.1.1.0 b.1.1.1.1.1.1.1.1.1.1.1.1.1.1.1.1.1.0 b.1.1.1.1.1.1.1.1.1.1.1.1.1.1.1.1.1.1.0 (close_block W h b) (entry_at W h b) (program_entry W h b) (store_contents W h b) (take_slot W h b)

pub widened : Linked parts.placing-widened.code
widened W h b =
    parts.placing-widened.has (in_world W) true (made.found-placing::widened W h) b.1.1.0 b.1.1.1.0

pub bounds_with : Linked parts.placing-bounds_with.code
bounds_with W h b =
    parts.placing-bounds_with.has (in_world W) true (made.found-placing::bounds_with W h) b.1.1.1.1.1.1.1.1.1.0 b.1.1.1.1.1.1.1.1.1.1.0 b.1.1.1.1.1.1.1.1.1.1.1.0 (live_bounds W h b) (widened W h b)

pub place : Linked parts.placing-place.code
place W h b =
    parts.placing-place.has (in_world W) true (made.found-placing::place W h) b.1.1.1.1.1.1.1.0 (place_over W h b) b.1.1.1.1.1.1.1.1.1.1.1.1.1.1.1.1.1.1.1.0 b.1.1.1.1.1.1.1.1.1.1.1.1.1.1.1.1.1.1.1.1.0 b.1.1.1.1.1.1.1.1.1.1.1.1.1.1.1.1.1.1.1.1.1.0
