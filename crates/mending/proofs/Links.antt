-- What `determined` takes of this crate, to show that there is an environment that has the code of the public functions: the table of the crate's
-- functions; what those that are told here call in the crates below, `Below`; and of each of them, that a look-up that has both has its code, with the code
-- of all that it calls. The toolchain makes the tables and the parts, in modules that only this crate can name. Written by tools/links.py.
-- Assumes nothing.
use mathlib.Core.Bool.{true}
use prog.Wired.{Code}
use prog.Linked.{World, Tree, Holds, in_world}
use prog.LinkedThreads.{HasT}
use Rattle.mending.proofs.TheLink as made
use Rattle.mending.proofs.TheLinks as parts

abbrev pub table : Tree
table = made.table

abbrev pub Below : World → Type 0
Below W =
    HasT (in_world W) true Rattle.blocks.proofs.is_full.Symbol.code ×
    (HasT (in_world W) true Rattle.image.proofs.view.View.block.Symbol.code ×
    (HasT (in_world W) true Rattle.image.proofs.kinds.count_live.Symbol.code ×
    (HasT (in_world W) true Rattle.image.proofs.view.Block.erase_count.Symbol.code ×
    (HasT (in_world W) true Rattle.naming.proofs.judged.JudgedKinds.block.Symbol.code ×
    (HasT (in_world W) true Rattle.naming.proofs.judged.JudgedKinds.live_at.Symbol.code ×
    (HasT (in_world W) true Rattle.naming.proofs.judged.JudgedKinds.live_between.Symbol.code ×
    (HasT (in_world W) true Rattle.ranges.proofs.least.Symbol.code ×
    (HasT (in_world W) true Rattle.rules.proofs.greatest_mapped.Symbol.code ×
    (HasT (in_world W) true Rattle.rules.proofs.least_mapped.Symbol.code ×
    (HasT (in_world W) true Rattle.blocks.proofs.count_unset.Symbol.code ×
    (HasT (in_world W) true Rattle.rules.proofs.rule1.Symbol.code ×
    (HasT (in_world W) true Rattle.naming.proofs.judged.Judged.rule5.Symbol.code ×
    (HasT (in_world W) true Rattle.rules.proofs.rule2.Symbol.code ×
    (HasT (in_world W) true Rattle.rules.proofs.rule3.Symbol.code ×
    (HasT (in_world W) true Rattle.rules.proofs.rule4.Symbol.code ×
    (HasT (in_world W) true Rattle.naming.proofs.mark_all_completes.Symbol.code ×
    (HasT (in_world W) true Rattle.rules.proofs.NumberSet.new.Symbol.code ×
    (Unit {0}))))))))))))))))))

abbrev pub Linked : Code → Type 0
Linked c = (W : World) → Holds W "mending" table → Below W → HasT (in_world W) true c

Destruct++none-drop : Linked parts.mending-Destruct++none-drop.code
Destruct++none-drop W h b =
    parts.mending-Destruct++none-drop.has (in_world W) true (made.found-mending::Destruct++none::drop W h)

fn-emptiest-least+arg2 : Linked parts.mending-fn-emptiest-least+arg2.code
fn-emptiest-least+arg2 W h b =
    parts.mending-fn-emptiest-least+arg2.has (in_world W) true (made.found-mending::fn::emptiest::least+arg2 W h) b.0 b.1.0

fn-emptiest-least+arg2+Fn-call : Linked parts.mending-fn-emptiest-least+arg2+Fn-call.code
fn-emptiest-least+arg2+Fn-call W h b =
    parts.mending-fn-emptiest-least+arg2+Fn-call.has (in_world W) true (made.found-mending::fn::emptiest::least+arg2+Fn::call W h) (fn-emptiest-least+arg2 W h b)

fn-emptiest-least+arg2+FnMut-call_mut : Linked parts.mending-fn-emptiest-least+arg2+FnMut-call_mut.code
fn-emptiest-least+arg2+FnMut-call_mut W h b =
    parts.mending-fn-emptiest-least+arg2+FnMut-call_mut.has (in_world W) true (made.found-mending::fn::emptiest::least+arg2+FnMut::call_mut W h) (fn-emptiest-least+arg2 W h b)

fn-emptiest-least+arg2+FnOnce-call_once : Linked parts.mending-fn-emptiest-least+arg2+FnOnce-call_once.code
fn-emptiest-least+arg2+FnOnce-call_once W h b =
    parts.mending-fn-emptiest-least+arg2+FnOnce-call_once.has (in_world W) true (made.found-mending::fn::emptiest::least+arg2+FnOnce::call_once W h) (fn-emptiest-least+arg2 W h b)

rank : Linked parts.mending-rank.code
rank W h b =
    parts.mending-rank.has (in_world W) true (made.found-mending::rank W h) b.1.1.0 b.1.1.1.0 b.1.1.1.1.0 b.1.1.1.1.1.0 b.1.1.1.1.1.1.0

fn-emptiest-least+arg3 : Linked parts.mending-fn-emptiest-least+arg3.code
fn-emptiest-least+arg3 W h b =
    parts.mending-fn-emptiest-least+arg3.has (in_world W) true (made.found-mending::fn::emptiest::least+arg3 W h) b.1.0 (rank W h b)

fn-emptiest-least+arg3+Fn-call : Linked parts.mending-fn-emptiest-least+arg3+Fn-call.code
fn-emptiest-least+arg3+Fn-call W h b =
    parts.mending-fn-emptiest-least+arg3+Fn-call.has (in_world W) true (made.found-mending::fn::emptiest::least+arg3+Fn::call W h) (fn-emptiest-least+arg3 W h b)

fn-emptiest-least+arg3+FnMut-call_mut : Linked parts.mending-fn-emptiest-least+arg3+FnMut-call_mut.code
fn-emptiest-least+arg3+FnMut-call_mut W h b =
    parts.mending-fn-emptiest-least+arg3+FnMut-call_mut.has (in_world W) true (made.found-mending::fn::emptiest::least+arg3+FnMut::call_mut W h) (fn-emptiest-least+arg3 W h b)

fn-emptiest-least+arg3+FnOnce-call_once : Linked parts.mending-fn-emptiest-least+arg3+FnOnce-call_once.code
fn-emptiest-least+arg3+FnOnce-call_once W h b =
    parts.mending-fn-emptiest-least+arg3+FnOnce-call_once.has (in_world W) true (made.found-mending::fn::emptiest::least+arg3+FnOnce::call_once W h) (fn-emptiest-least+arg3 W h b)

pub emptiest : Linked parts.mending-emptiest.code
emptiest W h b =
    parts.mending-emptiest.has (in_world W) true (made.found-mending::emptiest W h) (Destruct++none-drop W h b) (fn-emptiest-least+arg2+Fn-call W h b) (fn-emptiest-least+arg2+FnMut-call_mut W h b) (fn-emptiest-least+arg2+FnOnce-call_once W h b) (fn-emptiest-least+arg3+Fn-call W h b) (fn-emptiest-least+arg3+FnMut-call_mut W h b) (fn-emptiest-least+arg3+FnOnce-call_once W h b) b.1.1.1.1.1.1.1.0

bounds_mendable : Linked parts.mending-bounds_mendable.code
bounds_mendable W h b =
    parts.mending-bounds_mendable.has (in_world W) true (made.found-mending::bounds_mendable W h) b.0 b.1.1.1.1.1.1.0 b.1.1.1.1.1.1.1.1.0 b.1.1.1.1.1.1.1.1.1.0

count_mendable : Linked parts.mending-count_mendable.code
count_mendable W h b =
    parts.mending-count_mendable.has (in_world W) true (made.found-mending::count_mendable W h) b.1.1.1.1.1.1.1.1.1.1.0 b.1.1.1.1.1.1.1.1.1.1.1.0

mendable_block : Linked parts.mending-mendable_block.code
mendable_block W h b =
    parts.mending-mendable_block.has (in_world W) true (made.found-mending::mendable_block W h) (bounds_mendable W h b) (count_mendable W h b) b.1.1.1.1.1.1.1.1.1.1.1.1.0 b.1.1.1.1.1.1.1.1.1.1.1.1.1.0 b.1.1.1.1.1.1.1.1.1.1.1.1.1.1.0 b.1.1.1.1.1.1.1.1.1.1.1.1.1.1.1.0

pub is_mendable : Linked parts.mending-is_mendable.code
is_mendable W h b =
    parts.mending-is_mendable.has (in_world W) true (made.found-mending::is_mendable W h) b.1.1.1.1.1.1.1.1.1.1.0 b.1.0 (mendable_block W h b) b.1.1.1.1.1.1.1.1.1.1.1.1.1.1.1.1.0 b.1.1.1.1.1.1.1.1.1.1.1.1.1.1.1.1.1.0
