-- What `determined` takes of this crate, to show that there is an environment that has the code of the public functions: the table of the crate's
-- functions; what those that are told here call in the crates below, `Below`; and of each of them, that a look-up that has both has its code, with the code
-- of all that it calls. The toolchain makes the tables and the parts, in modules that only this crate can name. Written by tools/links.py.
-- Assumes nothing.
use mathlib.Core.Bool.{true}
use prog.Wired.{Code}
use prog.Linked.{World, Tree, Holds, in_world}
use prog.LinkedThreads.{HasT}
use Rattle.repair_ahead.proofs.TheLink as made
use Rattle.repair_ahead.proofs.TheLinks as parts

abbrev pub table : Tree
table = made.table

abbrev pub Below : World → Type 0
Below W =
    HasT (in_world W) true Rattle.blocks.proofs.free_slots.Symbol.code ×
    (HasT (in_world W) true Rattle.image.proofs.kinds.count_live.Symbol.code ×
    (HasT (in_world W) true Rattle.naming.proofs.judged.JudgedKinds.block.Symbol.code ×
    (HasT (in_world W) true Rattle.naming.proofs.judged.JudgedKinds.live_at.Symbol.code ×
    (HasT (in_world W) true Rattle.naming.proofs.judged.JudgedKinds.live_between.Symbol.code ×
    (HasT (in_world W) true Rattle.placing.proofs.live_bounds.Symbol.code ×
    (HasT (in_world W) true Rattle.placing.proofs.or_logical.Symbol.code ×
    (HasT (in_world W) true Rattle.placing.proofs.widened.Symbol.code ×
    (HasT (in_world W) true Rattle.naming.proofs.judged.Judged.slot.Symbol.code ×
    (HasT (in_world W) true Rattle.geometry.proofs.Geometry.d.Symbol.code ×
    (HasT (in_world W) true Rattle.ranges.proofs.nth.Symbol.code ×
    (HasT (in_world W) true Rattle.bits.proofs.clear_bit.Symbol.code ×
    (HasT (in_world W) true Rattle.image.proofs.Entry.number.Symbol.code ×
    (HasT (in_world W) true Rattle.image.proofs.view.Block.map_words.Symbol.code ×
    (HasT (in_world W) true Rattle.placing.proofs.entry_at.Symbol.code ×
    (HasT (in_world W) true Rattle.ahead.proofs.nth.nth_live.Symbol.code ×
    (HasT (in_world W) true Rattle.ahead.proofs.placements.placement_step.Symbol.code ×
    (HasT (in_world W) true Rattle.bits.proofs.lesser.Symbol.code ×
    (HasT (in_world W) true Rattle.image.proofs.view.Block.contents.Symbol.code ×
    (HasT (in_world W) true Rattle.blocks.proofs.lowest_open.Symbol.code ×
    (HasT (in_world W) true Rattle.geometry.proofs.Geometry.start.Symbol.code ×
    (HasT (in_world W) true Rattle.image.proofs.view.Block.erase_count.Symbol.code ×
    (HasT (in_world W) true Rattle.geometry.proofs.Geometry.entries_start.Symbol.code ×
    (HasT (in_world W) true Rattle.image.proofs.view.Block.entries.Symbol.code ×
    (HasT (in_world W) true Rattle.naming.proofs.judged.Judged.is_superseded.Symbol.code ×
    (HasT (in_world W) true Rattle.blocks.proofs.count_unset.Symbol.code ×
    (HasT (in_world W) true Rattle.restoring.proofs.largest_other.Symbol.code ×
    (HasT (in_world W) true Rattle.image.proofs.view.View.block.Symbol.code ×
    (HasT (in_world W) true Rattle.blocks.proofs.is_full.Symbol.code ×
    (HasT (in_world W) true Rattle.restoring.proofs.or_zero.Symbol.code ×
    (HasT (in_world W) true Rattle.rules.proofs.greatest_mapped.Symbol.code ×
    (HasT (in_world W) true Rattle.rules.proofs.least_mapped.Symbol.code ×
    (HasT (in_world W) true Rattle.naming.proofs.mark_all_completes.Symbol.code ×
    (HasT (in_world W) true Rattle.rules.proofs.NumberSet.new.Symbol.code ×
    (Unit {0}))))))))))))))))))))))))))))))))))

abbrev pub Linked : Code → Type 0
Linked c = (W : World) → Holds W "repair_ahead" table → Below W → HasT (in_world W) true c

Destruct++none-drop : Linked parts.repair_ahead-Destruct++none-drop.code
Destruct++none-drop W h b =
    parts.repair_ahead-Destruct++none-drop.has (in_world W) true (made.found-repair_ahead::Destruct++none::drop W h)

among-step_among : Linked parts.repair_ahead-among-step_among.code
among-step_among W h b =
    parts.repair_ahead-among-step_among.has (in_world W) true (made.found-repair_ahead::among::step_among W h)

emptying-Emptying-copy_steps : Linked parts.repair_ahead-emptying-Emptying-copy_steps.code
emptying-Emptying-copy_steps W h b =
    parts.repair_ahead-emptying-Emptying-copy_steps.has (in_world W) true (made.found-repair_ahead::emptying::Emptying::copy_steps W h) b.0 b.1.0 b.1.1.0 b.1.1.1.0 b.1.1.1.1.0

emptying-bounds_of_both : Linked parts.repair_ahead-emptying-bounds_of_both.code
emptying-bounds_of_both W h b =
    parts.repair_ahead-emptying-bounds_of_both.has (in_world W) true (made.found-repair_ahead::emptying::bounds_of_both W h) b.1.1.0 b.1.1.1.0 b.1.1.1.1.0 b.1.1.1.1.1.0 b.1.1.1.1.1.1.0 b.1.1.1.1.1.1.1.0

emptying-fn-nth_free-nth : Linked parts.repair_ahead-emptying-fn-nth_free-nth.code
emptying-fn-nth_free-nth W h b =
    parts.repair_ahead-emptying-fn-nth_free-nth.has (in_world W) true (made.found-repair_ahead::emptying::fn::nth_free::nth W h) b.1.1.1.1.1.1.1.1.0

emptying-fn-nth_free-nth+Fn-call : Linked parts.repair_ahead-emptying-fn-nth_free-nth+Fn-call.code
emptying-fn-nth_free-nth+Fn-call W h b =
    parts.repair_ahead-emptying-fn-nth_free-nth+Fn-call.has (in_world W) true (made.found-repair_ahead::emptying::fn::nth_free::nth+Fn::call W h) (emptying-fn-nth_free-nth W h b)

emptying-fn-nth_free-nth+FnMut-call_mut : Linked parts.repair_ahead-emptying-fn-nth_free-nth+FnMut-call_mut.code
emptying-fn-nth_free-nth+FnMut-call_mut W h b =
    parts.repair_ahead-emptying-fn-nth_free-nth+FnMut-call_mut.has (in_world W) true (made.found-repair_ahead::emptying::fn::nth_free::nth+FnMut::call_mut W h) (emptying-fn-nth_free-nth W h b)

emptying-fn-nth_free-nth+FnOnce-call_once : Linked parts.repair_ahead-emptying-fn-nth_free-nth+FnOnce-call_once.code
emptying-fn-nth_free-nth+FnOnce-call_once W h b =
    parts.repair_ahead-emptying-fn-nth_free-nth+FnOnce-call_once.has (in_world W) true (made.found-repair_ahead::emptying::fn::nth_free::nth+FnOnce::call_once W h) (emptying-fn-nth_free-nth W h b)

emptying-nth_free : Linked parts.repair_ahead-emptying-nth_free.code
emptying-nth_free W h b =
    parts.repair_ahead-emptying-nth_free.has (in_world W) true (made.found-repair_ahead::emptying::nth_free W h) b.1.1.1.1.1.1.1.1.1.0 b.1.1.1.1.1.1.1.1.1.1.0 (Destruct++none-drop W h b) (emptying-fn-nth_free-nth+Fn-call W h b) (emptying-fn-nth_free-nth+FnMut-call_mut W h b) (emptying-fn-nth_free-nth+FnOnce-call_once W h b)

emptying-taken_with : Linked parts.repair_ahead-emptying-taken_with.code
emptying-taken_with W h b =
    parts.repair_ahead-emptying-taken_with.has (in_world W) true (made.found-repair_ahead::emptying::taken_with W h) b.1.1.1.1.1.1.1.1.1.1.1.0

emptying-Emptying-copy_into : Linked parts.repair_ahead-emptying-Emptying-copy_into.code
emptying-Emptying-copy_into W h b =
    parts.repair_ahead-emptying-Emptying-copy_into.has (in_world W) true (made.found-repair_ahead::emptying::Emptying::copy_into W h) b.0 b.1.1.1.1.1.1.1.1.1.1.1.1.0 b.1.1.1.1.1.1.1.1.1.1.1.1.1.0 b.1.1.1.1.1.1.1.1.1.1.1.1.1.1.0 (emptying-bounds_of_both W h b) (emptying-taken_with W h b)

emptying-Emptying-copy_step : Linked parts.repair_ahead-emptying-Emptying-copy_step.code
emptying-Emptying-copy_step W h b =
    parts.repair_ahead-emptying-Emptying-copy_step.has (in_world W) true (made.found-repair_ahead::emptying::Emptying::copy_step W h) b.1.1.1.1.1.1.1.1.1.1.1.1.1.1.1.0 b.1.1.1.1.1.1.1.1.1.1.1.1.1.1.1.1.0 b.1.1.1.1.1.1.1.1.1.1.1.1.1.1.1.1.1.0 b.1.0 b.1.1.1.1.1.1.1.1.1.1.1.1.1.1.1.1.1.1.0 b.1.1.0 b.1.1.1.0 b.1.1.1.1.0 (emptying-Emptying-copy_into W h b) (emptying-nth_free W h b)

emptying-empty_step : Linked parts.repair_ahead-emptying-empty_step.code
emptying-empty_step W h b =
    parts.repair_ahead-emptying-empty_step.has (in_world W) true (made.found-repair_ahead::emptying::empty_step W h) b.1.1.1.1.1.1.1.1.1.1.1.1.1.1.1.1.1.1.1.0 b.1.1.1.1.1.1.1.1.1.1.1.1.1.1.1.1.1.1.1.1.0 b.1.1.1.1.1.1.1.1.1.1.1.1.1.1.1.1.1.1.1.1.1.0 (emptying-Emptying-copy_step W h b) (emptying-Emptying-copy_steps W h b)

parts-judged : Linked parts.repair_ahead-parts-judged.code
parts-judged W h b =
    parts.repair_ahead-parts-judged.has (in_world W) true (made.found-repair_ahead::parts::judged W h)

single-single_step : Linked parts.repair_ahead-single-single_step.code
single-single_step W h b =
    parts.repair_ahead-single-single_step.has (in_world W) true (made.found-repair_ahead::single::single_step W h)

retires-retire_slot : Linked parts.repair_ahead-retires-retire_slot.code
retires-retire_slot W h b =
    parts.repair_ahead-retires-retire_slot.has (in_world W) true (made.found-repair_ahead::retires::retire_slot W h) b.1.1.1.1.1.1.1.1.1.1.1.0 b.1.1.1.1.1.1.1.1.1.1.1.1.1.1.1.1.1.1.1.1.1.1.0 b.1.1.1.1.1.1.1.1.1.1.1.1.1.1.1.1.1.1.1.1.1.1.1.0 b.1.1.1.1.1.1.1.1.1.1.1.1.1.1.1.1.1.1.1.1.1.1.1.1.0 (single-single_step W h b)

retires-fn-retire_in_block-step_among : Linked parts.repair_ahead-retires-fn-retire_in_block-step_among.code
retires-fn-retire_in_block-step_among W h b =
    parts.repair_ahead-retires-fn-retire_in_block-step_among.has (in_world W) true (made.found-repair_ahead::retires::fn::retire_in_block::step_among W h) (retires-retire_slot W h b)

retires-fn-retire_in_block-step_among+Fn-call : Linked parts.repair_ahead-retires-fn-retire_in_block-step_among+Fn-call.code
retires-fn-retire_in_block-step_among+Fn-call W h b =
    parts.repair_ahead-retires-fn-retire_in_block-step_among+Fn-call.has (in_world W) true (made.found-repair_ahead::retires::fn::retire_in_block::step_among+Fn::call W h) (retires-fn-retire_in_block-step_among W h b)

retires-fn-retire_in_block-step_among+FnMut-call_mut : Linked parts.fn-2a9db47d0836cdf29b8de15c692d38d3a1978248c2fcf215d7946ef506ff94e5.code
retires-fn-retire_in_block-step_among+FnMut-call_mut W h b =
    parts.fn-2a9db47d0836cdf29b8de15c692d38d3a1978248c2fcf215d7946ef506ff94e5.has (in_world W) true (made.found-repair_ahead::retires::fn::retire_in_block::step_among+FnMut::call_mut W h) (retires-fn-retire_in_block-step_among W h b)

retires-fn-retire_in_block-step_among+FnOnce-call_once : Linked parts.fn-57b1edc2f1f316fcdf481966a4335f88e246a053b8ddb8948805b191bf7d618c.code
retires-fn-retire_in_block-step_among+FnOnce-call_once W h b =
    parts.fn-57b1edc2f1f316fcdf481966a4335f88e246a053b8ddb8948805b191bf7d618c.has (in_world W) true (made.found-repair_ahead::retires::fn::retire_in_block::step_among+FnOnce::call_once W h) (retires-fn-retire_in_block-step_among W h b)

retires-retire_in_block : Linked parts.repair_ahead-retires-retire_in_block.code
retires-retire_in_block W h b =
    parts.repair_ahead-retires-retire_in_block.has (in_world W) true (made.found-repair_ahead::retires::retire_in_block W h) b.1.1.1.1.1.1.1.1.1.0 (Destruct++none-drop W h b) (among-step_among W h b) (retires-fn-retire_in_block-step_among+Fn-call W h b) (retires-fn-retire_in_block-step_among+FnMut-call_mut W h b) (retires-fn-retire_in_block-step_among+FnOnce-call_once W h b)

parts-fn-mended_step-step_among : Linked parts.repair_ahead-parts-fn-mended_step-step_among.code
parts-fn-mended_step-step_among W h b =
    parts.repair_ahead-parts-fn-mended_step-step_among.has (in_world W) true (made.found-repair_ahead::parts::fn::mended_step::step_among W h) (parts-judged W h b) (retires-retire_in_block W h b)

parts-fn-mended_step-step_among+Fn-call : Linked parts.repair_ahead-parts-fn-mended_step-step_among+Fn-call.code
parts-fn-mended_step-step_among+Fn-call W h b =
    parts.repair_ahead-parts-fn-mended_step-step_among+Fn-call.has (in_world W) true (made.found-repair_ahead::parts::fn::mended_step::step_among+Fn::call W h) (parts-fn-mended_step-step_among W h b)

parts-fn-mended_step-step_among+FnMut-call_mut : Linked parts.repair_ahead-parts-fn-mended_step-step_among+FnMut-call_mut.code
parts-fn-mended_step-step_among+FnMut-call_mut W h b =
    parts.repair_ahead-parts-fn-mended_step-step_among+FnMut-call_mut.has (in_world W) true (made.found-repair_ahead::parts::fn::mended_step::step_among+FnMut::call_mut W h) (parts-fn-mended_step-step_among W h b)

parts-fn-mended_step-step_among+FnOnce-call_once : Linked parts.repair_ahead-parts-fn-mended_step-step_among+FnOnce-call_once.code
parts-fn-mended_step-step_among+FnOnce-call_once W h b =
    parts.repair_ahead-parts-fn-mended_step-step_among+FnOnce-call_once.has (in_world W) true (made.found-repair_ahead::parts::fn::mended_step::step_among+FnOnce::call_once W h) (parts-fn-mended_step-step_among W h b)

counts-count_in_block : Linked parts.repair_ahead-counts-count_in_block.code
counts-count_in_block W h b =
    parts.repair_ahead-counts-count_in_block.has (in_world W) true (made.found-repair_ahead::counts::count_in_block W h) b.1.1.1.1.1.1.1.1.1.1.1.1.1.1.1.1.1.1.1.1.1.1.1.1.1.0 b.1.1.1.1.1.1.1.1.1.1.1.1.1.1.1.1.1.1.1.1.0 (single-single_step W h b) b.1.1.1.1.1.1.1.1.1.1.1.1.1.1.1.1.1.1.1.1.1.1.1.1.1.1.0

parts-fn-mended_step-step_among+3 : Linked parts.repair_ahead-parts-fn-mended_step-step_among+3.code
parts-fn-mended_step-step_among+3 W h b =
    parts.repair_ahead-parts-fn-mended_step-step_among+3.has (in_world W) true (made.found-repair_ahead::parts::fn::mended_step::step_among+3 W h) b.1.1.1.1.1.1.1.1.1.1.1.1.1.1.1.1.1.1.1.1.1.1.1.1.1.1.1.0 (counts-count_in_block W h b)

parts-fn-mended_step-step_among+3+Fn-call : Linked parts.repair_ahead-parts-fn-mended_step-step_among+3+Fn-call.code
parts-fn-mended_step-step_among+3+Fn-call W h b =
    parts.repair_ahead-parts-fn-mended_step-step_among+3+Fn-call.has (in_world W) true (made.found-repair_ahead::parts::fn::mended_step::step_among+3+Fn::call W h) (parts-fn-mended_step-step_among+3 W h b)

parts-fn-mended_step-step_among+3+FnMut-call_mut : Linked parts.repair_ahead-parts-fn-mended_step-step_among+3+FnMut-call_mut.code
parts-fn-mended_step-step_among+3+FnMut-call_mut W h b =
    parts.repair_ahead-parts-fn-mended_step-step_among+3+FnMut-call_mut.has (in_world W) true (made.found-repair_ahead::parts::fn::mended_step::step_among+3+FnMut::call_mut W h) (parts-fn-mended_step-step_among+3 W h b)

parts-fn-mended_step-step_among+3+FnOnce-call_once : Linked parts.repair_ahead-parts-fn-mended_step-step_among+3+FnOnce-call_once.code
parts-fn-mended_step-step_among+3+FnOnce-call_once W h b =
    parts.repair_ahead-parts-fn-mended_step-step_among+3+FnOnce-call_once.has (in_world W) true (made.found-repair_ahead::parts::fn::mended_step::step_among+3+FnOnce::call_once W h) (parts-fn-mended_step-step_among+3 W h b)

bounds-bound_in_block : Linked parts.repair_ahead-bounds-bound_in_block.code
bounds-bound_in_block W h b =
    parts.repair_ahead-bounds-bound_in_block.has (in_world W) true (made.found-repair_ahead::bounds::bound_in_block W h) b.1.1.1.1.1.1.1.1.1.1.1.1.1.1.1.1.1.1.1.1.1.1.1.1.1.1.1.1.0 b.1.1.1.1.1.1.1.1.1.1.1.1.1.1.1.1.1.1.1.1.0 b.1.1.0 b.1.1.1.0 b.1.1.1.1.0 b.1.1.1.1.1.0 (single-single_step W h b) b.1.1.1.1.1.1.1.1.1.1.1.1.1.1.1.1.1.1.1.1.1.1.1.1.1.1.1.1.1.0 b.1.1.1.1.1.1.1.1.1.1.1.1.1.1.1.1.1.1.1.1.1.1.1.1.1.1.1.1.1.1.0 b.1.1.1.1.1.1.1.1.1.1.1.1.1.1.1.1.1.1.1.1.1.1.1.1.1.1.1.1.1.1.1.0

parts-fn-mended_step-step_among+2 : Linked parts.repair_ahead-parts-fn-mended_step-step_among+2.code
parts-fn-mended_step-step_among+2 W h b =
    parts.repair_ahead-parts-fn-mended_step-step_among+2.has (in_world W) true (made.found-repair_ahead::parts::fn::mended_step::step_among+2 W h) (bounds-bound_in_block W h b) (parts-judged W h b)

parts-fn-mended_step-step_among+2+Fn-call : Linked parts.repair_ahead-parts-fn-mended_step-step_among+2+Fn-call.code
parts-fn-mended_step-step_among+2+Fn-call W h b =
    parts.repair_ahead-parts-fn-mended_step-step_among+2+Fn-call.has (in_world W) true (made.found-repair_ahead::parts::fn::mended_step::step_among+2+Fn::call W h) (parts-fn-mended_step-step_among+2 W h b)

parts-fn-mended_step-step_among+2+FnMut-call_mut : Linked parts.repair_ahead-parts-fn-mended_step-step_among+2+FnMut-call_mut.code
parts-fn-mended_step-step_among+2+FnMut-call_mut W h b =
    parts.repair_ahead-parts-fn-mended_step-step_among+2+FnMut-call_mut.has (in_world W) true (made.found-repair_ahead::parts::fn::mended_step::step_among+2+FnMut::call_mut W h) (parts-fn-mended_step-step_among+2 W h b)

parts-fn-mended_step-step_among+2+FnOnce-call_once : Linked parts.repair_ahead-parts-fn-mended_step-step_among+2+FnOnce-call_once.code
parts-fn-mended_step-step_among+2+FnOnce-call_once W h b =
    parts.repair_ahead-parts-fn-mended_step-step_among+2+FnOnce-call_once.has (in_world W) true (made.found-repair_ahead::parts::fn::mended_step::step_among+2+FnOnce::call_once W h) (parts-fn-mended_step-step_among+2 W h b)

parts-mended_step : Linked parts.repair_ahead-parts-mended_step.code
parts-mended_step W h b =
    parts.repair_ahead-parts-mended_step.has (in_world W) true (made.found-repair_ahead::parts::mended_step W h) (Destruct++none-drop W h b) (among-step_among W h b) (parts-fn-mended_step-step_among+2+Fn-call W h b) (parts-fn-mended_step-step_among+2+FnMut-call_mut W h b) (parts-fn-mended_step-step_among+2+FnOnce-call_once W h b) (parts-fn-mended_step-step_among+3+Fn-call W h b) (parts-fn-mended_step-step_among+3+FnMut-call_mut W h b) (parts-fn-mended_step-step_among+3+FnOnce-call_once W h b) (parts-fn-mended_step-step_among+Fn-call W h b) (parts-fn-mended_step-step_among+FnMut-call_mut W h b) (parts-fn-mended_step-step_among+FnOnce-call_once W h b)

pub repairs-repair_step : Linked parts.repair_ahead-repairs-repair_step.code
repairs-repair_step W h b =
    parts.repair_ahead-repairs-repair_step.has (in_world W) true (made.found-repair_ahead::repairs::repair_step W h) b.1.1.1.1.1.1.1.1.1.1.1.1.1.1.1.1.1.1.1.1.1.1.1.1.1.1.1.1.1.1.1.1.0 (emptying-empty_step W h b) (parts-mended_step W h b) b.1.1.1.1.1.1.1.1.1.1.1.1.1.1.1.1.1.1.1.1.1.1.1.1.1.1.1.1.1.1.1.1.1.0
