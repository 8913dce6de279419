-- What `determined` takes of this crate, to show that there is an environment that has the code of the public functions: the table of the crate's
-- functions; what those that are told here call in the crates below, `Below`; and of each of them, that a look-up that has both has its code, with the code
-- of all that it calls. The toolchain makes the tables and the parts, in modules that only this crate can name. Written by tools/links.py.
-- Assumes nothing.
use mathlib.Core.Bool.{true}
use prog.Wired.{Code}
use prog.Linked.{World, Tree, Holds, in_world}
use prog.LinkedThreads.{HasT}
use Rattle.restoring.proofs.TheLink as made
use Rattle.restoring.proofs.TheLinks as parts

abbrev pub table : Tree
table = made.table

abbrev pub Below : World → Type 0
Below W =
    HasT (in_world W) true Rattle.image.proofs.view.Block.erase_count.Symbol.code ×
    (HasT (in_world W) true Rattle.image.proofs.view.View.block.Symbol.code ×
    (HasT (in_world W) true Rattle.blocks.proofs.count_unset.Symbol.code ×
    (HasT (in_world W) true Rattle.ranges.proofs.largest.Symbol.code ×
    (HasT (in_world W) true Rattle.flash.proofs.run.Run.program.Symbol.code ×
    (HasT (in_world W) true Rattle.blocks.proofs.is_full.Symbol.code ×
    (HasT (in_world W) true Rattle.flash.proofs.run.Run.view.Symbol.code ×
    (HasT (in_world W) true Rattle.geometry.proofs.Geometry.start.Symbol.code ×
    (HasT (in_world W) true Rattle.image.proofs.kinds.BlockKinds.block.Symbol.code ×
    (HasT (in_world W) true Rattle.image.proofs.kinds.BlockKinds.live_at.Symbol.code ×
    (HasT (in_world W) true Rattle.image.proofs.kinds.BlockKinds.live_between.Symbol.code ×
    (HasT (in_world W) true Rattle.placing.proofs.live_bounds.Symbol.code ×
    (HasT (in_world W) true Rattle.ranges.proofs.find.Symbol.code ×
    (Unit {0})))))))))))))

abbrev pub Linked : Code → Type 0
Linked c = (W : World) → Holds W "restoring" table → Below W → HasT (in_world W) true c

Destruct++none-drop : Linked parts.restoring-Destruct++none-drop.code
Destruct++none-drop W h b =
    parts.restoring-Destruct++none-drop.has (in_world W) true (made.found-restoring::Destruct++none::drop W h)

fn-largest_other-largest : Linked parts.restoring-fn-largest_other-largest.code
fn-largest_other-largest W h b =
    parts.restoring-fn-largest_other-largest.has (in_world W) true (made.found-restoring::fn::largest_other::largest W h) b.0 b.1.0

fn-largest_other-largest+Fn-call : Linked parts.restoring-fn-largest_other-largest+Fn-call.code
fn-largest_other-largest+Fn-call W h b =
    parts.restoring-fn-largest_other-largest+Fn-call.has (in_world W) true (made.found-restoring::fn::largest_other::largest+Fn::call W h) (fn-largest_other-largest W h b)

fn-largest_other-largest+FnMut-call_mut : Linked parts.restoring-fn-largest_other-largest+FnMut-call_mut.code
fn-largest_other-largest+FnMut-call_mut W h b =
    parts.restoring-fn-largest_other-largest+FnMut-call_mut.has (in_world W) true (made.found-restoring::fn::largest_other::largest+FnMut::call_mut W h) (fn-largest_other-largest W h b)

fn-largest_other-largest+FnOnce-call_once : Linked parts.restoring-fn-largest_other-largest+FnOnce-call_once.code
fn-largest_other-largest+FnOnce-call_once W h b =
    parts.restoring-fn-largest_other-largest+FnOnce-call_once.has (in_world W) true (made.found-restoring::fn::largest_other::largest+FnOnce::call_once W h) (fn-largest_other-largest W h b)

fn-restore_count-find : Linked parts.restoring-fn-restore_count-find.code
fn-restore_count-find W h b =
    parts.restoring-fn-restore_count-find.has (in_world W) true (made.found-restoring::fn::restore_count::find W h) b.1.1.0 b.1.0

fn-restore_count-find+Fn-call : Linked parts.restoring-fn-restore_count-find+Fn-call.code
fn-restore_count-find+Fn-call W h b =
    parts.restoring-fn-restore_count-find+Fn-call.has (in_world W) true (made.found-restoring::fn::restore_count::find+Fn::call W h) (fn-restore_count-find W h b)

fn-restore_count-find+FnMut-call_mut : Linked parts.restoring-fn-restore_count-find+FnMut-call_mut.code
fn-restore_count-find+FnMut-call_mut W h b =
    parts.restoring-fn-restore_count-find+FnMut-call_mut.has (in_world W) true (made.found-restoring::fn::restore_count::find+FnMut::call_mut W h) (fn-restore_count-find W h b)

fn-restore_count-find+FnOnce-call_once : Linked parts.restoring-fn-restore_count-find+FnOnce-call_once.code
fn-restore_count-find+FnOnce-call_once W h b =
    parts.restoring-fn-restore_count-find+FnOnce-call_once.has (in_world W) true (made.found-restoring::fn::restore_count::find+FnOnce::call_once W h) (fn-restore_count-find W h b)

pub largest_other : Linked parts.restoring-largest_other.code
largest_other W h b =
    parts.restoring-largest_other.has (in_world W) true (made.found-restoring::largest_other W h) b.1.1.1.0 (Destruct++none-drop W h b) (fn-largest_other-largest+Fn-call W h b) (fn-largest_other-largest+FnMut-call_mut W h b) (fn-largest_other-largest+FnOnce-call_once W h b)

pub or_zero : Linked parts.restoring-or_zero.code
or_zero W h b =
    parts.restoring-or_zero.has (in_world W) true (made.found-restoring::or_zero W h)

program_where : Linked parts.restoring-program_where.code
program_where W h b =
    parts.restoring-program_where.has (in_world W) true (made.found-restoring::program_where W h) b.1.1.1.1.0

restore_block : Linked parts.restoring-restore_block.code
restore_block W h b =
    parts.restoring-restore_block.has (in_world W) true (made.found-restoring::restore_block W h) b.1.1.1.1.1.0 b.1.1.1.1.1.1.0 b.1.1.1.1.1.1.1.0 b.1.1.1.1.1.1.1.1.0 b.1.1.1.1.1.1.1.1.1.0 b.1.1.1.1.1.1.1.1.1.1.0 b.1.0 b.1.1.1.1.1.1.1.1.1.1.1.0 (or_zero W h b) (program_where W h b)

pub restore_bounds : Linked parts.restoring-restore_bounds.code
restore_bounds W h b =
    parts.restoring-restore_bounds.has (in_world W) true (made.found-restoring::restore_bounds W h) (restore_block W h b)

pub restore_count : Linked parts.restoring-restore_count.code
restore_count W h b =
    parts.restoring-restore_count.has (in_world W) true (made.found-restoring::restore_count W h) b.1.1.1.1.0 b.1.1.1.1.1.1.0 b.1.1.1.1.1.1.1.0 b.1.1.1.1.1.1.1.1.1.1.1.1.0 (Destruct++none-drop W h b) (fn-restore_count-find+Fn-call W h b) (fn-restore_count-find+FnMut-call_mut W h b) (fn-restore_count-find+FnOnce-call_once W h b) (largest_other W h b)
