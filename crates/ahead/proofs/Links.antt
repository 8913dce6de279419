-- What `determined` takes of this crate, to show that there is an environment that has the code of the public functions: the table of the crate's
-- functions; what those that are told here call in the crates below, `Below`; and of each of them, that a look-up that has both has its code, with the code
-- of all that it calls. The toolchain makes the tables and the parts, in modules that only this crate can name. Written by tools/links.py.
-- Assumes nothing.
use mathlib.Core.Bool.{true}
use prog.Wired.{Code}
use prog.Linked.{World, Tree, Holds, in_world}
use prog.LinkedThreads.{HasT}
use Rattle.ahead.proofs.TheLink as made
use Rattle.ahead.proofs.TheLinks as parts

abbrev pub table : Tree
table = made.table

abbrev pub Below : World → Type 0
Below W =
    HasT (in_world W) true Rattle.bits.proofs.clear_bit.Symbol.code ×
    (HasT (in_world W) true Rattle.geometry.proofs.Geometry.start.Symbol.code ×
    (HasT (in_world W) true Rattle.geometry.proofs.Geometry.entries_start.Symbol.code ×
    (HasT (in_world W) true Rattle.image.proofs.Entry.begun.Symbol.code ×
    (HasT (in_world W) true Rattle.image.proofs.Entry.complete.Symbol.code ×
    (HasT (in_world W) true Rattle.geometry.proofs.Geometry.contents_start.Symbol.code ×
    (HasT (in_world W) true Rattle.geometry.proofs.Geometry.map_start.Symbol.code ×
    (HasT (in_world W) true Rattle.image.proofs.kinds.BlockKinds.live_at.Symbol.code ×
    (HasT (in_world W) true Rattle.blocks.proofs.live_slots.Symbol.code ×
    (HasT (in_world W) true Rattle.image.proofs.view.Block.erase_count.Symbol.code ×
    (HasT (in_world W) true Rattle.blocks.proofs.free_slots.Symbol.code ×
    (HasT (in_world W) true Rattle.image.proofs.view.Block.map_words.Symbol.code ×
    (HasT (in_world W) true Rattle.image.proofs.view.View.find.Symbol.code ×
    (HasT (in_world W) true Rattle.placing.proofs.bounds_with.Symbol.code ×
    (HasT (in_world W) true Rattle.placing.proofs.entry_at.Symbol.code ×
    (HasT (in_world W) true Rattle.ranges.proofs.count.Symbol.code ×
    (HasT (in_world W) true Rattle.image.proofs.Entry.number.Symbol.code ×
    (HasT (in_world W) true Rattle.geometry.proofs.Geometry.d.Symbol.code ×
    (HasT (in_world W) true Rattle.ranges.proofs.nth.Symbol.code ×
    (HasT (in_world W) true Rattle.image.proofs.kinds.BlockKinds.block.Symbol.code ×
    (HasT (in_world W) true Rattle.image.proofs.kinds.BlockKinds.live_between.Symbol.code ×
    (HasT (in_world W) true Rattle.image.proofs.view.Block.contents.Symbol.code ×
    (HasT (in_world W) true Rattle.blocks.proofs.least_worn_blank.Symbol.code ×
    (HasT (in_world W) true Rattle.image.proofs.view.View.block.Symbol.code ×
    (HasT (in_world W) true Rattle.writing.proofs.filling.next_slot.Symbol.code ×
    (Unit {0})))))))))))))))))))))))))

abbrev pub Linked : Code → Type 0
Linked c = (W : World) → Holds W "ahead" table → Below W → HasT (in_world W) true c

Destruct++none-drop : Linked parts.ahead-Destruct++none-drop.code
Destruct++none-drop W h b =
    parts.ahead-Destruct++none-drop.has (in_world W) true (made.found-ahead::Destruct++none::drop W h)

nth-fn-nth_live-nth : Linked parts.ahead-nth-fn-nth_live-nth.code
nth-fn-nth_live-nth W h b =
    parts.ahead-nth-fn-nth_live-nth.has (in_world W) true (made.found-ahead::nth::fn::nth_live::nth W h)

nth-fn-nth_live-nth+Fn-call : Linked parts.ahead-nth-fn-nth_live-nth+Fn-call.code
nth-fn-nth_live-nth+Fn-call W h b =
    parts.ahead-nth-fn-nth_live-nth+Fn-call.has (in_world W) true (made.found-ahead::nth::fn::nth_live::nth+Fn::call W h) (nth-fn-nth_live-nth W h b)

nth-fn-nth_live-nth+FnMut-call_mut : Linked parts.ahead-nth-fn-nth_live-nth+FnMut-call_mut.code
nth-fn-nth_live-nth+FnMut-call_mut W h b =
    parts.ahead-nth-fn-nth_live-nth+FnMut-call_mut.has (in_world W) true (made.found-ahead::nth::fn::nth_live::nth+FnMut::call_mut W h) (nth-fn-nth_live-nth W h b)

nth-fn-nth_live-nth+FnOnce-call_once : Linked parts.ahead-nth-fn-nth_live-nth+FnOnce-call_once.code
nth-fn-nth_live-nth+FnOnce-call_once W h b =
    parts.ahead-nth-fn-nth_live-nth+FnOnce-call_once.has (in_world W) true (made.found-ahead::nth::fn::nth_live::nth+FnOnce::call_once W h) (nth-fn-nth_live-nth W h b)

reclaims-taken_up_to : Linked parts.ahead-reclaims-taken_up_to.code
reclaims-taken_up_to W h b =
    parts.ahead-reclaims-taken_up_to.has (in_world W) true (made.found-ahead::reclaims::taken_up_to W h) b.0

placements-closing_step : Linked parts.ahead-placements-closing_step.code
placements-closing_step W h b =
    parts.ahead-placements-closing_step.has (in_world W) true (made.found-ahead::placements::closing_step W h) b.1.0

placements-step_behind : Linked parts.ahead-placements-step_behind.code
placements-step_behind W h b =
    parts.ahead-placements-step_behind.has (in_world W) true (made.found-ahead::placements::step_behind W h) (placements-closing_step W h b) b.0 b.1.1.0 b.1.1.1.0 b.1.1.1.1.0

placements-step_from_contents : Linked parts.ahead-placements-step_from_contents.code
placements-step_from_contents W h b =
    parts.ahead-placements-step_from_contents.has (in_world W) true (made.found-ahead::placements::step_from_contents W h) (placements-step_behind W h b) b.1.1.1.1.1.0

pub placements-placement_step : Linked parts.ahead-placements-placement_step.code
placements-placement_step W h b =
    parts.ahead-placements-placement_step.has (in_world W) true (made.found-ahead::placements::placement_step W h) (placements-step_from_contents W h b) b.0 b.1.1.0 b.1.1.1.1.1.1.0

reclaims-fn-Reclaiming-live_before-count : Linked parts.ahead-reclaims-fn-Reclaiming-live_before-count.code
reclaims-fn-Reclaiming-live_before-count W h b =
    parts.ahead-reclaims-fn-Reclaiming-live_before-count.has (in_world W) true (made.found-ahead::reclaims::fn::Reclaiming::live_before::count W h) b.1.1.1.1.1.1.1.0

reclaims-fn-Reclaiming-live_before-count+Fn-call : Linked parts.ahead-reclaims-fn-Reclaiming-live_before-count+Fn-call.code
reclaims-fn-Reclaiming-live_before-count+Fn-call W h b =
    parts.ahead-reclaims-fn-Reclaiming-live_before-count+Fn-call.has (in_world W) true (made.found-ahead::reclaims::fn::Reclaiming::live_before::count+Fn::call W h) (reclaims-fn-Reclaiming-live_before-count W h b)

reclaims-fn-Reclaiming-live_before-count+FnMut-call_mut : Linked parts.ahead-reclaims-fn-Reclaiming-live_before-count+FnMut-call_mut.code
reclaims-fn-Reclaiming-live_before-count+FnMut-call_mut W h b =
    parts.ahead-reclaims-fn-Reclaiming-live_before-count+FnMut-call_mut.has (in_world W) true (made.found-ahead::reclaims::fn::Reclaiming::live_before::count+FnMut::call_mut W h) (reclaims-fn-Reclaiming-live_before-count W h b)

reclaims-fn-Reclaiming-live_before-count+FnOnce-call_once : Linked parts.ahead-reclaims-fn-Reclaiming-live_before-count+FnOnce-call_once.code
reclaims-fn-Reclaiming-live_before-count+FnOnce-call_once W h b =
    parts.ahead-reclaims-fn-Reclaiming-live_before-count+FnOnce-call_once.has (in_world W) true (made.found-ahead::reclaims::fn::Reclaiming::live_before::count+FnOnce::call_once W h) (reclaims-fn-Reclaiming-live_before-count W h b)

reclaims-Reclaiming-block_after : Linked parts.ahead-reclaims-Reclaiming-block_after.code
reclaims-Reclaiming-block_after W h b =
    parts.ahead-reclaims-Reclaiming-block_after.has (in_world W) true (made.found-ahead::reclaims::Reclaiming::block_after W h) b.1.1.1.1.1.1.1.1.0 b.1.1.1.1.1.1.1.1.1.0

plain-placement_over : Linked parts.ahead-plain-placement_over.code
plain-placement_over W h b =
    parts.ahead-plain-placement_over.has (in_world W) true (made.found-ahead::plain::placement_over W h) b.0 b.1.1.1.1.1.1.1.1.1.1.0 b.1.1.1.1.1.1.1.1.1.1.1.0 b.1.1.1.1.1.1.1.1.1.1.1.1.0 b.1.1.1.1.1.1.1.1.1.1.1.1.1.0 b.1.1.1.1.1.1.1.1.1.1.1.1.1.1.0

pub plain-release_step : Linked parts.ahead-plain-release_step.code
plain-release_step W h b =
    parts.ahead-plain-release_step.has (in_world W) true (made.found-ahead::plain::release_step W h) b.0 b.1.1.0 b.1.1.1.1.1.1.1.1.1.1.1.1.1.1.0

reclaims-Reclaiming-moved_entry : Linked parts.ahead-reclaims-Reclaiming-moved_entry.code
reclaims-Reclaiming-moved_entry W h b =
    parts.ahead-reclaims-Reclaiming-moved_entry.has (in_world W) true (made.found-ahead::reclaims::Reclaiming::moved_entry W h) b.1.1.1.1.0 b.1.1.1.1.1.1.1.1.1.1.1.1.1.1.0

reclaims-Reclaiming-live_before : Linked parts.ahead-reclaims-Reclaiming-live_before.code
reclaims-Reclaiming-live_before W h b =
    parts.ahead-reclaims-Reclaiming-live_before.has (in_world W) true (made.found-ahead::reclaims::Reclaiming::live_before W h) (Destruct++none-drop W h b) (reclaims-fn-Reclaiming-live_before-count+Fn-call W h b) (reclaims-fn-Reclaiming-live_before-count+FnMut-call_mut W h b) (reclaims-fn-Reclaiming-live_before-count+FnOnce-call_once W h b) b.1.1.1.1.1.1.1.1.1.1.1.1.1.1.1.0

reclaims-Reclaiming-copy_placement : Linked parts.ahead-reclaims-Reclaiming-copy_placement.code
reclaims-Reclaiming-copy_placement W h b =
    parts.ahead-reclaims-Reclaiming-copy_placement.has (in_world W) true (made.found-ahead::reclaims::Reclaiming::copy_placement W h) (reclaims-Reclaiming-live_before W h b) (reclaims-taken_up_to W h b) b.1.1.1.1.1.1.1.1.1.1.1.1.1.1.1.1.0 b.1.1.1.1.1.1.1.1.1.1.1.1.1.1.0

reclaims-Reclaiming-moved_to : Linked parts.ahead-reclaims-Reclaiming-moved_to.code
reclaims-Reclaiming-moved_to W h b =
    parts.ahead-reclaims-Reclaiming-moved_to.has (in_world W) true (made.found-ahead::reclaims::Reclaiming::moved_to W h) (reclaims-Reclaiming-live_before W h b)

reclaims-Reclaiming-last_placement : Linked parts.ahead-reclaims-Reclaiming-last_placement.code
reclaims-Reclaiming-last_placement W h b =
    parts.ahead-reclaims-Reclaiming-last_placement.has (in_world W) true (made.found-ahead::reclaims::Reclaiming::last_placement W h) (reclaims-Reclaiming-block_after W h b) (reclaims-Reclaiming-moved_entry W h b) (reclaims-Reclaiming-moved_to W h b) (reclaims-taken_up_to W h b) b.1.1.1.1.1.1.1.1.0 b.1.1.1.1.1.1.1.1.1.1.1.1.1.1.1.1.1.0 b.1.1.1.1.1.1.1.1.1.1.1.1.0 b.1.1.1.1.1.1.1.1.1.1.1.1.1.0

pub nth-nth_live : Linked parts.ahead-nth-nth_live.code
nth-nth_live W h b =
    parts.ahead-nth-nth_live.has (in_world W) true (made.found-ahead::nth::nth_live W h) (Destruct++none-drop W h b) (nth-fn-nth_live-nth+Fn-call W h b) (nth-fn-nth_live-nth+FnMut-call_mut W h b) (nth-fn-nth_live-nth+FnOnce-call_once W h b) b.1.1.1.1.1.1.1.1.1.1.1.1.1.1.1.1.1.0 b.1.1.1.1.1.1.1.1.1.1.1.1.1.1.1.1.1.1.0

reclaims-Reclaiming-step : Linked parts.ahead-reclaims-Reclaiming-step.code
reclaims-Reclaiming-step W h b =
    parts.ahead-reclaims-Reclaiming-step.has (in_world W) true (made.found-ahead::reclaims::Reclaiming::step W h) (nth-nth_live W h b) (placements-placement_step W h b) (reclaims-Reclaiming-copy_placement W h b) (reclaims-Reclaiming-last_placement W h b) b.1.1.1.1.1.1.1.1.0 b.1.0 b.1.1.1.1.1.1.1.1.1.1.1.1.1.1.1.1.1.1.1.0 b.1.1.1.1.1.1.1.0 b.1.1.1.1.1.1.1.1.1.1.1.1.1.1.1.1.1.1.1.1.0 b.1.1.1.1.1.1.1.1.1.1.1.1.1.1.1.1.1.1.1.1.1.0 b.1.1.1.1.1.1.1.1.1.0

pub reclaims-reclaim_step : Linked parts.ahead-reclaims-reclaim_step.code
reclaims-reclaim_step W h b =
    parts.ahead-reclaims-reclaim_step.has (in_world W) true (made.found-ahead::reclaims::reclaim_step W h) (reclaims-Reclaiming-step W h b) b.1.1.1.1.1.1.1.1.1.1.1.1.1.1.1.1.1.1.1.1.1.1.0

pub plain-fill_step : Linked parts.ahead-plain-fill_step.code
plain-fill_step W h b =
    parts.ahead-plain-fill_step.has (in_world W) true (made.found-ahead::plain::fill_step W h) (placements-placement_step W h b) (plain-placement_over W h b) b.1.1.1.1.1.1.1.1.1.1.1.1.1.1.1.1.1.1.1.1.1.1.1.0 b.1.1.1.1.1.1.1.1.1.1.1.1.1.1.1.1.1.1.1.1.1.1.1.1.0
