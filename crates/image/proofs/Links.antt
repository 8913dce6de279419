-- What `determined` takes of this crate, to show that there is an environment that has the code of the public functions: the table of the crate's
-- functions; what those that are told here call in the crates below, `Below`; and of each of them, that a look-up that has both has its code, with the code
-- of all that it calls. The toolchain makes the tables and the parts, in modules that only this crate can name. Written by tools/links.py.
-- Assumes nothing.
use mathlib.Core.Bool.{true}
use prog.Wired.{Code}
use prog.Linked.{World, Tree, Holds, in_world}
use prog.LinkedThreads.{HasT}
use Rattle.image.proofs.TheLink as made
use Rattle.image.proofs.TheLinks as parts

abbrev pub table : Tree
table = made.table

abbrev pub Below : World → Type 0
Below W =
    HasT (in_world W) true Rattle.bits.proofs.clear_bit.Symbol.code ×
    (HasT (in_world W) true Rattle.geometry.proofs.Geometry.length.Symbol.code ×
    (HasT (in_world W) true Rattle.geometry.proofs.Geometry.within_limits.Symbol.code ×
    (HasT (in_world W) true Rattle.geometry.proofs.Geometry.contents_start.Symbol.code ×
    (HasT (in_world W) true Rattle.geometry.proofs.Geometry.d.Symbol.code ×
    (HasT (in_world W) true Rattle.geometry.proofs.Geometry.entries_start.Symbol.code ×
    (HasT (in_world W) true Rattle.geometry.proofs.Geometry.start.Symbol.code ×
    (HasT (in_world W) true Rattle.geometry.proofs.Geometry.k.Symbol.code ×
    (HasT (in_world W) true Rattle.geometry.proofs.Geometry.map_start.Symbol.code ×
    (HasT (in_world W) true Rattle.bits.proofs.is_set.Symbol.code ×
    (HasT (in_world W) true Rattle.ranges.proofs.count.Symbol.code ×
    (Unit {0})))))))))))

abbrev pub Linked : Code → Type 0
Linked c = (W : World) → Holds W "image" table → Below W → HasT (in_world W) true c

Destruct++none-drop : Linked parts.image-Destruct++none-drop.code
Destruct++none-drop W h b =
    parts.image-Destruct++none-drop.has (in_world W) true (made.found-image::Destruct++none::drop W h)

pub Entry-begun : Linked parts.image-Entry-begun.code
Entry-begun W h b =
    parts.image-Entry-begun.has (in_world W) true (made.found-image::Entry::begun W h)

pub Entry-complete : Linked parts.image-Entry-complete.code
Entry-complete W h b =
    parts.image-Entry-complete.has (in_world W) true (made.found-image::Entry::complete W h)

Entry-has_number : Linked parts.image-Entry-has_number.code
Entry-has_number W h b =
    parts.image-Entry-has_number.has (in_world W) true (made.found-image::Entry::has_number W h)

pub Entry-is_complete : Linked parts.image-Entry-is_complete.code
Entry-is_complete W h b =
    parts.image-Entry-is_complete.has (in_world W) true (made.found-image::Entry::is_complete W h)

Entry-is_free : Linked parts.image-Entry-is_free.code
Entry-is_free W h b =
    parts.image-Entry-is_free.has (in_world W) true (made.found-image::Entry::is_free W h)

pub Entry-is_live_for : Linked parts.image-Entry-is_live_for.code
Entry-is_live_for W h b =
    parts.image-Entry-is_live_for.has (in_world W) true (made.found-image::Entry::is_live_for W h) b.0

pub Entry-is_passing : Linked parts.image-Entry-is_passing.code
Entry-is_passing W h b =
    parts.image-Entry-is_passing.has (in_world W) true (made.found-image::Entry::is_passing W h)

pub Entry-number : Linked parts.image-Entry-number.code
Entry-number W h b =
    parts.image-Entry-number.has (in_world W) true (made.found-image::Entry::number W h)

pub kinds-BlockKinds-block : Linked parts.image-kinds-BlockKinds-block.code
kinds-BlockKinds-block W h b =
    parts.image-kinds-BlockKinds-block.has (in_world W) true (made.found-image::kinds::BlockKinds::block W h)

kinds-bounded : Linked parts.image-kinds-bounded.code
kinds-bounded W h b =
    parts.image-kinds-bounded.has (in_world W) true (made.found-image::kinds::bounded W h) (Entry-has_number W h b) (Entry-number W h b)

kinds-fn-count_live-count : Linked parts.image-kinds-fn-count_live-count.code
kinds-fn-count_live-count W h b =
    parts.image-kinds-fn-count_live-count.has (in_world W) true (made.found-image::kinds::fn::count_live::count W h)

kinds-fn-count_live-count+Fn-call : Linked parts.image-kinds-fn-count_live-count+Fn-call.code
kinds-fn-count_live-count+Fn-call W h b =
    parts.image-kinds-fn-count_live-count+Fn-call.has (in_world W) true (made.found-image::kinds::fn::count_live::count+Fn::call W h) (kinds-fn-count_live-count W h b)

kinds-fn-count_live-count+FnMut-call_mut : Linked parts.image-kinds-fn-count_live-count+FnMut-call_mut.code
kinds-fn-count_live-count+FnMut-call_mut W h b =
    parts.image-kinds-fn-count_live-count+FnMut-call_mut.has (in_world W) true (made.found-image::kinds::fn::count_live::count+FnMut::call_mut W h) (kinds-fn-count_live-count W h b)

kinds-fn-count_live-count+FnOnce-call_once : Linked parts.image-kinds-fn-count_live-count+FnOnce-call_once.code
kinds-fn-count_live-count+FnOnce-call_once W h b =
    parts.image-kinds-fn-count_live-count+FnOnce-call_once.has (in_world W) true (made.found-image::kinds::fn::count_live::count+FnOnce::call_once W h) (kinds-fn-count_live-count W h b)

slots-length : Linked parts.image-slots-length.code
slots-length W h b =
    parts.image-slots-length.has (in_world W) true (made.found-image::slots::length W h)

pub slots-slot_of : Linked parts.image-slots-slot_of.code
slots-slot_of W h b =
    parts.image-slots-slot_of.has (in_world W) true (made.found-image::slots::slot_of W h) (Entry-has_number W h b) (Entry-is_complete W h b) (Entry-is_free W h b) (Entry-number W h b)

slots-words_in : Linked parts.image-slots-words_in.code
slots-words_in W h b =
    parts.image-slots-words_in.has (in_world W) true (made.found-image::slots::words_in W h) (slots-length W h b)

pub slots-fits : Linked parts.image-slots-fits.code
slots-fits W h b =
    parts.image-slots-fits.has (in_world W) true (made.found-image::slots::fits W h) b.1.0 b.1.1.0 (slots-words_in W h b)

pub view-Block-contents : Linked parts.image-view-Block-contents.code
view-Block-contents W h b =
    parts.image-view-Block-contents.has (in_world W) true (made.found-image::view::Block::contents W h) b.1.1.1.0

pub view-Block-copy_contents : Linked parts.image-view-Block-copy_contents.code
view-Block-copy_contents W h b =
    parts.image-view-Block-copy_contents.has (in_world W) true (made.found-image::view::Block::copy_contents W h) b.1.1.1.0

pub view-Block-entries : Linked parts.image-view-Block-entries.code
view-Block-entries W h b =
    parts.image-view-Block-entries.has (in_world W) true (made.found-image::view::Block::entries W h) b.1.1.1.1.0 b.1.1.1.1.1.0

pub kinds-BlockKinds-live_at : Linked parts.image-kinds-BlockKinds-live_at.code
kinds-BlockKinds-live_at W h b =
    parts.image-kinds-BlockKinds-live_at.has (in_world W) true (made.found-image::kinds::BlockKinds::live_at W h) (slots-slot_of W h b) (view-Block-entries W h b)

pub kinds-BlockKinds-live_between : Linked parts.image-kinds-BlockKinds-live_between.code
kinds-BlockKinds-live_between W h b =
    parts.image-kinds-BlockKinds-live_between.has (in_world W) true (made.found-image::kinds::BlockKinds::live_between W h) (kinds-bounded W h b) (view-Block-entries W h b)

pub view-Block-erase_count : Linked parts.image-view-Block-erase_count.code
view-Block-erase_count W h b =
    parts.image-view-Block-erase_count.has (in_world W) true (made.found-image::view::Block::erase_count W h) b.1.1.1.1.1.1.0

pub view-Block-map_words : Linked parts.image-view-Block-map_words.code
view-Block-map_words W h b =
    parts.image-view-Block-map_words.has (in_world W) true (made.found-image::view::Block::map_words W h) b.1.1.1.1.1.1.1.0 b.1.1.1.1.1.1.1.1.0

pub view-Block-own_slot : Linked parts.image-view-Block-own_slot.code
view-Block-own_slot W h b =
    parts.image-view-Block-own_slot.has (in_world W) true (made.found-image::view::Block::own_slot W h) b.1.1.1.1.1.1.1.1.1.0 (slots-slot_of W h b) (view-Block-entries W h b) (view-Block-map_words W h b)

pub view-View-block : Linked parts.image-view-View-block.code
view-View-block W h b =
    parts.image-view-View-block.has (in_world W) true (made.found-image::view::View::block W h)

pub view-View-find : Linked parts.image-view-View-find.code
view-View-find W h b =
    parts.image-view-View-find.has (in_world W) true (made.found-image::view::View::find W h) (Entry-is_live_for W h b) (view-Block-entries W h b) (view-View-block W h b)

pub view-View-new : Linked parts.image-view-View-new.code
view-View-new W h b =
    parts.image-view-View-new.has (in_world W) true (made.found-image::view::View::new W h) (slots-fits W h b)

pub view-View-over : Linked parts.image-view-View-over.code
view-View-over W h b =
    parts.image-view-View-over.has (in_world W) true (made.found-image::view::View::over W h)

pub kinds-count_live : Linked parts.image-kinds-count_live.code
kinds-count_live W h b =
    parts.image-kinds-count_live.has (in_world W) true (made.found-image::kinds::count_live W h) b.1.1.1.1.0 (Destruct++none-drop W h b) (kinds-fn-count_live-count+Fn-call W h b) (kinds-fn-count_live-count+FnMut-call_mut W h b) (kinds-fn-count_live-count+FnOnce-call_once W h b) b.1.1.1.1.1.1.1.1.1.1.0
