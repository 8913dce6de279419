-- What `determined` takes of this crate, to show that there is an environment that has the code of the public functions: the table of the crate's
-- functions; what those that are told here call in the crates below, `Below`; and of each of them, that a look-up that has both has its code, with the code
-- of all that it calls. The toolchain makes the tables and the parts, in modules that only this crate can name. Written by tools/links.py.
-- Assumes nothing.
use mathlib.Core.Bool.{true}
use prog.Wired.{Code}
use prog.Linked.{World, Tree, Holds, in_world}
use prog.LinkedThreads.{HasT}
use Rattle.blocks.proofs.TheLink as made
use Rattle.blocks.proofs.TheLinks as parts

abbrev pub table : Tree
table = made.table

abbrev pub Below : World → Type 0
Below W =
    HasT (in_world W) true Rattle.image.proofs.kinds.BlockKinds.block.Symbol.code ×
    (HasT (in_world W) true Rattle.image.proofs.kinds.BlockKinds.live_at.Symbol.code ×
    (HasT (in_world W) true Rattle.image.proofs.kinds.BlockKinds.live_between.Symbol.code ×
    (HasT (in_world W) true Rattle.image.proofs.kinds.count_live.Symbol.code ×
    (HasT (in_world W) true Rattle.image.proofs.view.Block.erase_count.Symbol.code ×
    (HasT (in_world W) true Rattle.bits.proofs.count_set.Symbol.code ×
    (HasT (in_world W) true Rattle.geometry.proofs.Geometry.d.Symbol.code ×
    (HasT (in_world W) true Rattle.geometry.proofs.Geometry.k.Symbol.code ×
    (HasT (in_world W) true Rattle.image.proofs.view.Block.map_words.Symbol.code ×
    (HasT (in_world W) true Rattle.bits.proofs.lowest_set.Symbol.code ×
    (HasT (in_world W) true Rattle.image.proofs.view.View.block.Symbol.code ×
    (HasT (in_world W) true Rattle.ranges.proofs.all.Symbol.code ×
    (HasT (in_world W) true Rattle.ranges.proofs.count.Symbol.code ×
    (HasT (in_world W) true Rattle.ranges.proofs.find.Symbol.code ×
    (HasT (in_world W) true Rattle.ranges.proofs.least.Symbol.code ×
    (Unit {0})))))))))))))))

abbrev pub Linked : Code → Type 0
Linked c = (W : World) → Holds W "blocks" table → Below W → HasT (in_world W) true c

Destruct++none-drop : Linked parts.blocks-Destruct++none-drop.code
Destruct++none-drop W h b =
    parts.blocks-Destruct++none-drop.has (in_world W) true (made.found-blocks::Destruct++none::drop W h)

fn-is_blank-all : Linked parts.blocks-fn-is_blank-all.code
fn-is_blank-all W h b =
    parts.blocks-fn-is_blank-all.has (in_world W) true (made.found-blocks::fn::is_blank::all W h)

fn-is_blank-all+Fn-call : Linked parts.blocks-fn-is_blank-all+Fn-call.code
fn-is_blank-all+Fn-call W h b =
    parts.blocks-fn-is_blank-all+Fn-call.has (in_world W) true (made.found-blocks::fn::is_blank::all+Fn::call W h) (fn-is_blank-all W h b)

fn-is_blank-all+FnMut-call_mut : Linked parts.blocks-fn-is_blank-all+FnMut-call_mut.code
fn-is_blank-all+FnMut-call_mut W h b =
    parts.blocks-fn-is_blank-all+FnMut-call_mut.has (in_world W) true (made.found-blocks::fn::is_blank::all+FnMut::call_mut W h) (fn-is_blank-all W h b)

fn-is_blank-all+FnOnce-call_once : Linked parts.blocks-fn-is_blank-all+FnOnce-call_once.code
fn-is_blank-all+FnOnce-call_once W h b =
    parts.blocks-fn-is_blank-all+FnOnce-call_once.has (in_world W) true (made.found-blocks::fn::is_blank::all+FnOnce::call_once W h) (fn-is_blank-all W h b)

pub live_slots : Linked parts.blocks-live_slots.code
live_slots W h b =
    parts.blocks-live_slots.has (in_world W) true (made.found-blocks::live_slots W h) b.0 b.1.0 b.1.1.0 b.1.1.1.0

rank : Linked parts.blocks-rank.code
rank W h b =
    parts.blocks-rank.has (in_world W) true (made.found-blocks::rank W h) (live_slots W h b) b.1.1.1.1.0

pub free_slots : Linked parts.blocks-free_slots.code
free_slots W h b =
    parts.blocks-free_slots.has (in_world W) true (made.found-blocks::free_slots W h) b.1.1.1.1.1.0 b.1.1.1.1.1.1.0 b.1.1.1.1.1.1.1.0 b.1.1.1.1.1.1.1.1.0

is_open : Linked parts.blocks-is_open.code
is_open W h b =
    parts.blocks-is_open.has (in_world W) true (made.found-blocks::is_open W h) (free_slots W h b) b.1.1.1.1.1.1.0

pub lowest_free : Linked parts.blocks-lowest_free.code
lowest_free W h b =
    parts.blocks-lowest_free.has (in_world W) true (made.found-blocks::lowest_free W h) b.1.1.1.1.1.1.1.1.1.0 b.1.1.1.1.1.1.0 b.1.1.1.1.1.1.1.1.0

pub is_full : Linked parts.blocks-is_full.code
is_full W h b =
    parts.blocks-is_full.has (in_world W) true (made.found-blocks::is_full W h) (lowest_free W h b) b.1.1.1.1.1.1.0

pub tally : Linked parts.blocks-tally.code
tally W h b =
    parts.blocks-tally.has (in_world W) true (made.found-blocks::tally W h) (free_slots W h b) (live_slots W h b) b.1.1.1.1.1.1.0

fn-least_worn_blank-least+arg3 : Linked parts.blocks-fn-least_worn_blank-least+arg3.code
fn-least_worn_blank-least+arg3 W h b =
    parts.blocks-fn-least_worn_blank-least+arg3.has (in_world W) true (made.found-blocks::fn::least_worn_blank::least+arg3 W h) b.1.1.1.1.0 b.1.1.1.1.1.1.1.1.1.1.0

fn-least_worn_blank-least+arg3+Fn-call : Linked parts.blocks-fn-least_worn_blank-least+arg3+Fn-call.code
fn-least_worn_blank-least+arg3+Fn-call W h b =
    parts.blocks-fn-least_worn_blank-least+arg3+Fn-call.has (in_world W) true (made.found-blocks::fn::least_worn_blank::least+arg3+Fn::call W h) (fn-least_worn_blank-least+arg3 W h b)

fn-least_worn_blank-least+arg3+FnMut-call_mut : Linked parts.blocks-fn-least_worn_blank-least+arg3+FnMut-call_mut.code
fn-least_worn_blank-least+arg3+FnMut-call_mut W h b =
    parts.blocks-fn-least_worn_blank-least+arg3+FnMut-call_mut.has (in_world W) true (made.found-blocks::fn::least_worn_blank::least+arg3+FnMut::call_mut W h) (fn-least_worn_blank-least+arg3 W h b)

fn-least_worn_blank-least+arg3+FnOnce-call_once : Linked parts.blocks-fn-least_worn_blank-least+arg3+FnOnce-call_once.code
fn-least_worn_blank-least+arg3+FnOnce-call_once W h b =
    parts.blocks-fn-least_worn_blank-least+arg3+FnOnce-call_once.has (in_world W) true (made.found-blocks::fn::least_worn_blank::least+arg3+FnOnce::call_once W h) (fn-least_worn_blank-least+arg3 W h b)

fn-lowest_open-find : Linked parts.blocks-fn-lowest_open-find.code
fn-lowest_open-find W h b =
    parts.blocks-fn-lowest_open-find.has (in_world W) true (made.found-blocks::fn::lowest_open::find W h) (is_open W h b) b.1.1.1.1.1.1.1.1.1.1.0

fn-lowest_open-find+Fn-call : Linked parts.blocks-fn-lowest_open-find+Fn-call.code
fn-lowest_open-find+Fn-call W h b =
    parts.blocks-fn-lowest_open-find+Fn-call.has (in_world W) true (made.found-blocks::fn::lowest_open::find+Fn::call W h) (fn-lowest_open-find W h b)

fn-lowest_open-find+FnMut-call_mut : Linked parts.blocks-fn-lowest_open-find+FnMut-call_mut.code
fn-lowest_open-find+FnMut-call_mut W h b =
    parts.blocks-fn-lowest_open-find+FnMut-call_mut.has (in_world W) true (made.found-blocks::fn::lowest_open::find+FnMut::call_mut W h) (fn-lowest_open-find W h b)

fn-lowest_open-find+FnOnce-call_once : Linked parts.blocks-fn-lowest_open-find+FnOnce-call_once.code
fn-lowest_open-find+FnOnce-call_once W h b =
    parts.blocks-fn-lowest_open-find+FnOnce-call_once.has (in_world W) true (made.found-blocks::fn::lowest_open::find+FnOnce::call_once W h) (fn-lowest_open-find W h b)

fn-victim-least+arg2 : Linked parts.blocks-fn-victim-least+arg2.code
fn-victim-least+arg2 W h b =
    parts.blocks-fn-victim-least+arg2.has (in_world W) true (made.found-blocks::fn::victim::least+arg2 W h) (is_full W h b) b.1.1.1.1.1.1.1.1.1.1.0

fn-victim-least+arg2+Fn-call : Linked parts.blocks-fn-victim-least+arg2+Fn-call.code
fn-victim-least+arg2+Fn-call W h b =
    parts.blocks-fn-victim-least+arg2+Fn-call.has (in_world W) true (made.found-blocks::fn::victim::least+arg2+Fn::call W h) (fn-victim-least+arg2 W h b)

fn-victim-least+arg2+FnMut-call_mut : Linked parts.blocks-fn-victim-least+arg2+FnMut-call_mut.code
fn-victim-least+arg2+FnMut-call_mut W h b =
    parts.blocks-fn-victim-least+arg2+FnMut-call_mut.has (in_world W) true (made.found-blocks::fn::victim::least+arg2+FnMut::call_mut W h) (fn-victim-least+arg2 W h b)

fn-victim-least+arg2+FnOnce-call_once : Linked parts.blocks-fn-victim-least+arg2+FnOnce-call_once.code
fn-victim-least+arg2+FnOnce-call_once W h b =
    parts.blocks-fn-victim-least+arg2+FnOnce-call_once.has (in_world W) true (made.found-blocks::fn::victim::least+arg2+FnOnce::call_once W h) (fn-victim-least+arg2 W h b)

fn-victim-least+arg3 : Linked parts.blocks-fn-victim-least+arg3.code
fn-victim-least+arg3 W h b =
    parts.blocks-fn-victim-least+arg3.has (in_world W) true (made.found-blocks::fn::victim::least+arg3 W h) (rank W h b) b.1.1.1.1.1.1.1.1.1.1.0

fn-victim-least+arg3+Fn-call : Linked parts.blocks-fn-victim-least+arg3+Fn-call.code
fn-victim-least+arg3+Fn-call W h b =
    parts.blocks-fn-victim-least+arg3+Fn-call.has (in_world W) true (made.found-blocks::fn::victim::least+arg3+Fn::call W h) (fn-victim-least+arg3 W h b)

fn-victim-least+arg3+FnMut-call_mut : Linked parts.blocks-fn-victim-least+arg3+FnMut-call_mut.code
fn-victim-least+arg3+FnMut-call_mut W h b =
    parts.blocks-fn-victim-least+arg3+FnMut-call_mut.has (in_world W) true (made.found-blocks::fn::victim::least+arg3+FnMut::call_mut W h) (fn-victim-least+arg3 W h b)

fn-victim-least+arg3+FnOnce-call_once : Linked parts.blocks-fn-victim-least+arg3+FnOnce-call_once.code
fn-victim-least+arg3+FnOnce-call_once W h b =
    parts.blocks-fn-victim-least+arg3+FnOnce-call_once.has (in_world W) true (made.found-blocks::fn::victim::least+arg3+FnOnce::call_once W h) (fn-victim-least+arg3 W h b)

is_blank : Linked parts.blocks-is_blank.code
is_blank W h b =
    parts.blocks-is_blank.has (in_world W) true (made.found-blocks::is_blank W h) (Destruct++none-drop W h b) (fn-is_blank-all+Fn-call W h b) (fn-is_blank-all+FnMut-call_mut W h b) (fn-is_blank-all+FnOnce-call_once W h b) b.1.1.1.1.1.1.1.1.0 b.1.1.1.1.1.1.1.1.1.1.1.0

pub count_unset : Linked parts.blocks-count_unset.code
count_unset W h b =
    parts.blocks-count_unset.has (in_world W) true (made.found-blocks::count_unset W h) (is_blank W h b) b.1.1.1.1.0

fn-count_blank-count : Linked parts.blocks-fn-count_blank-count.code
fn-count_blank-count W h b =
    parts.blocks-fn-count_blank-count.has (in_world W) true (made.found-blocks::fn::count_blank::count W h) (is_blank W h b) b.1.1.1.1.1.1.1.1.1.1.0

fn-count_blank-count+Fn-call : Linked parts.blocks-fn-count_blank-count+Fn-call.code
fn-count_blank-count+Fn-call W h b =
    parts.blocks-fn-count_blank-count+Fn-call.has (in_world W) true (made.found-blocks::fn::count_blank::count+Fn::call W h) (fn-count_blank-count W h b)

fn-count_blank-count+FnMut-call_mut : Linked parts.blocks-fn-count_blank-count+FnMut-call_mut.code
fn-count_blank-count+FnMut-call_mut W h b =
    parts.blocks-fn-count_blank-count+FnMut-call_mut.has (in_world W) true (made.found-blocks::fn::count_blank::count+FnMut::call_mut W h) (fn-count_blank-count W h b)

fn-count_blank-count+FnOnce-call_once : Linked parts.blocks-fn-count_blank-count+FnOnce-call_once.code
fn-count_blank-count+FnOnce-call_once W h b =
    parts.blocks-fn-count_blank-count+FnOnce-call_once.has (in_world W) true (made.found-blocks::fn::count_blank::count+FnOnce::call_once W h) (fn-count_blank-count W h b)

fn-least_worn_blank-least+arg2 : Linked parts.blocks-fn-least_worn_blank-least+arg2.code
fn-least_worn_blank-least+arg2 W h b =
    parts.blocks-fn-least_worn_blank-least+arg2.has (in_world W) true (made.found-blocks::fn::least_worn_blank::least+arg2 W h) (is_blank W h b) b.1.1.1.1.1.1.1.1.1.1.0

fn-least_worn_blank-least+arg2+Fn-call : Linked parts.blocks-fn-least_worn_blank-least+arg2+Fn-call.code
fn-least_worn_blank-least+arg2+Fn-call W h b =
    parts.blocks-fn-least_worn_blank-least+arg2+Fn-call.has (in_world W) true (made.found-blocks::fn::least_worn_blank::least+arg2+Fn::call W h) (fn-least_worn_blank-least+arg2 W h b)

fn-least_worn_blank-least+arg2+FnMut-call_mut : Linked parts.blocks-fn-least_worn_blank-least+arg2+FnMut-call_mut.code
fn-least_worn_blank-least+arg2+FnMut-call_mut W h b =
    parts.blocks-fn-least_worn_blank-least+arg2+FnMut-call_mut.has (in_world W) true (made.found-blocks::fn::least_worn_blank::least+arg2+FnMut::call_mut W h) (fn-least_worn_blank-least+arg2 W h b)

fn-least_worn_blank-least+arg2+FnOnce-call_once : Linked parts.blocks-fn-least_worn_blank-least+arg2+FnOnce-call_once.code
fn-least_worn_blank-least+arg2+FnOnce-call_once W h b =
    parts.blocks-fn-least_worn_blank-least+arg2+FnOnce-call_once.has (in_world W) true (made.found-blocks::fn::least_worn_blank::least+arg2+FnOnce::call_once W h) (fn-least_worn_blank-least+arg2 W h b)

pub count_blank : Linked parts.blocks-count_blank.code
count_blank W h b =
    parts.blocks-count_blank.has (in_world W) true (made.found-blocks::count_blank W h) (Destruct++none-drop W h b) (fn-count_blank-count+Fn-call W h b) (fn-count_blank-count+FnMut-call_mut W h b) (fn-count_blank-count+FnOnce-call_once W h b) b.1.1.1.1.1.1.1.1.1.1.1.1.0

pub lowest_open : Linked parts.blocks-lowest_open.code
lowest_open W h b =
    parts.blocks-lowest_open.has (in_world W) true (made.found-blocks::lowest_open W h) (Destruct++none-drop W h b) (fn-lowest_open-find+Fn-call W h b) (fn-lowest_open-find+FnMut-call_mut W h b) (fn-lowest_open-find+FnOnce-call_once W h b) b.1.1.1.1.1.1.1.1.1.1.1.1.1.0

pub least_worn_blank : Linked parts.blocks-least_worn_blank.code
least_worn_blank W h b =
    parts.blocks-least_worn_blank.has (in_world W) true (made.found-blocks::least_worn_blank W h) (Destruct++none-drop W h b) (fn-least_worn_blank-least+arg2+Fn-call W h b) (fn-least_worn_blank-least+arg2+FnMut-call_mut W h b) (fn-least_worn_blank-least+arg2+FnOnce-call_once W h b) (fn-least_worn_blank-least+arg3+Fn-call W h b) (fn-least_worn_blank-least+arg3+FnMut-call_mut W h b) (fn-least_worn_blank-least+arg3+FnOnce-call_once W h b) b.1.1.1.1.1.1.1.1.1.1.1.1.1.1.0

pub victim : Linked parts.blocks-victim.code
victim W h b =
    parts.blocks-victim.has (in_world W) true (made.found-blocks::victim W h) (Destruct++none-drop W h b) (fn-victim-least+arg2+Fn-call W h b) (fn-victim-least+arg2+FnMut-call_mut W h b) (fn-victim-least+arg2+FnOnce-call_once W h b) (fn-victim-least+arg3+Fn-call W h b) (fn-victim-least+arg3+FnMut-call_mut W h b) (fn-victim-least+arg3+FnOnce-call_once W h b) b.1.1.1.1.1.1.1.1.1.1.1.1.1.1.0
