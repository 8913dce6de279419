-- What `determined` takes of this crate, to show that there is an environment that has the code of the public functions: the table of the crate's
-- functions; what those that are told here call in the crates below, `Below`; and of each of them, that a look-up that has both has its code, with the code
-- of all that it calls. The toolchain makes the tables and the parts, in modules that only this crate can name. Written by tools/links.py.
-- Assumes nothing.
use mathlib.Core.Bool.{true}
use prog.Wired.{Code}
use prog.Linked.{World, Tree, Holds, in_world}
use prog.LinkedThreads.{HasT}
use Rattle.naming.proofs.TheLink as made
use Rattle.naming.proofs.TheLinks as parts

abbrev pub table : Tree
table = made.table

abbrev pub Below : World → Type 0
Below W =
    HasT (in_world W) true Rattle.image.proofs.Entry.is_passing.Symbol.code ×
    (HasT (in_world W) true Rattle.image.proofs.Entry.number.Symbol.code ×
    (HasT (in_world W) true Rattle.image.proofs.view.Block.entries.Symbol.code ×
    (HasT (in_world W) true Rattle.rules.proofs.NumberSet.is_marked.Symbol.code ×
    (HasT (in_world W) true Rattle.image.proofs.view.Block.own_slot.Symbol.code ×
    (HasT (in_world W) true Rattle.image.proofs.kinds.BlockKinds.live_at.Symbol.code ×
    (HasT (in_world W) true Rattle.geometry.proofs.Geometry.d.Symbol.code ×
    (HasT (in_world W) true Rattle.ranges.proofs.all.Symbol.code ×
    (HasT (in_world W) true Rattle.rules.proofs.NumberSet.mark.Symbol.code ×
    (HasT (in_world W) true Rattle.image.proofs.Entry.is_complete.Symbol.code ×
    (HasT (in_world W) true Rattle.image.proofs.view.View.block.Symbol.code ×
    (HasT (in_world W) true Rattle.rules.proofs.rule1.Symbol.code ×
    (HasT (in_world W) true Rattle.rules.proofs.rule2.Symbol.code ×
    (HasT (in_world W) true Rattle.rules.proofs.rule3.Symbol.code ×
    (HasT (in_world W) true Rattle.rules.proofs.rule4.Symbol.code ×
    (HasT (in_world W) true Rattle.rules.proofs.rule7.Symbol.code ×
    (HasT (in_world W) true Rattle.rules.proofs.NumberSet.new.Symbol.code ×
    (Unit {0})))))))))))))))))

abbrev pub Linked : Code → Type 0
Linked c = (W : World) → Holds W "naming" table → Below W → HasT (in_world W) true c

Destruct++none-drop : Linked parts.naming-Destruct++none-drop.code
Destruct++none-drop W h b =
    parts.naming-Destruct++none-drop.has (in_world W) true (made.found-naming::Destruct++none::drop W h)

pub judged-JudgedKinds-block : Linked parts.naming-judged-JudgedKinds-block.code
judged-JudgedKinds-block W h b =
    parts.naming-judged-JudgedKinds-block.has (in_world W) true (made.found-naming::judged::JudgedKinds::block W h)

pub judged-Judged-is_superseded : Linked parts.naming-judged-Judged-is_superseded.code
judged-Judged-is_superseded W h b =
    parts.naming-judged-Judged-is_superseded.has (in_world W) true (made.found-naming::judged::Judged::is_superseded W h) b.0 b.1.0 b.1.1.0 b.1.1.1.0

pub judged-Judged-slot : Linked parts.naming-judged-Judged-slot.code
judged-Judged-slot W h b =
    parts.naming-judged-Judged-slot.has (in_world W) true (made.found-naming::judged::Judged::slot W h) b.1.1.1.1.0 (judged-Judged-is_superseded W h b)

pub judged-JudgedKinds-live_at : Linked parts.naming-judged-JudgedKinds-live_at.code
judged-JudgedKinds-live_at W h b =
    parts.naming-judged-JudgedKinds-live_at.has (in_world W) true (made.found-naming::judged::JudgedKinds::live_at W h) b.1.1.1.1.1.0 (judged-Judged-is_superseded W h b)

judged-fn-Judged-rule8-all : Linked parts.naming-judged-fn-Judged-rule8-all.code
judged-fn-Judged-rule8-all W h b =
    parts.naming-judged-fn-Judged-rule8-all.has (in_world W) true (made.found-naming::judged::fn::Judged::rule8::all W h) (judged-Judged-is_superseded W h b)

judged-fn-Judged-rule8-all+Fn-call : Linked parts.naming-judged-fn-Judged-rule8-all+Fn-call.code
judged-fn-Judged-rule8-all+Fn-call W h b =
    parts.naming-judged-fn-Judged-rule8-all+Fn-call.has (in_world W) true (made.found-naming::judged::fn::Judged::rule8::all+Fn::call W h) (judged-fn-Judged-rule8-all W h b)

judged-fn-Judged-rule8-all+FnMut-call_mut : Linked parts.naming-judged-fn-Judged-rule8-all+FnMut-call_mut.code
judged-fn-Judged-rule8-all+FnMut-call_mut W h b =
    parts.naming-judged-fn-Judged-rule8-all+FnMut-call_mut.has (in_world W) true (made.found-naming::judged::fn::Judged::rule8::all+FnMut::call_mut W h) (judged-fn-Judged-rule8-all W h b)

judged-fn-Judged-rule8-all+FnOnce-call_once : Linked parts.naming-judged-fn-Judged-rule8-all+FnOnce-call_once.code
judged-fn-Judged-rule8-all+FnOnce-call_once W h b =
    parts.naming-judged-fn-Judged-rule8-all+FnOnce-call_once.has (in_world W) true (made.found-naming::judged::fn::Judged::rule8::all+FnOnce::call_once W h) (judged-fn-Judged-rule8-all W h b)

judged-Judged-rule8 : Linked parts.naming-judged-Judged-rule8.code
judged-Judged-rule8 W h b =
    parts.naming-judged-Judged-rule8.has (in_world W) true (made.found-naming::judged::Judged::rule8 W h) b.1.1.1.1.1.1.0 (Destruct++none-drop W h b) (judged-fn-Judged-rule8-all+Fn-call W h b) (judged-fn-Judged-rule8-all+FnMut-call_mut W h b) (judged-fn-Judged-rule8-all+FnOnce-call_once W h b) b.1.1.1.1.1.1.1.0

judged-fn-JudgedKinds-live_between-all : Linked parts.naming-judged-fn-JudgedKinds-live_between-all.code
judged-fn-JudgedKinds-live_between-all W h b =
    parts.naming-judged-fn-JudgedKinds-live_between-all.has (in_world W) true (made.found-naming::judged::fn::JudgedKinds::live_between::all W h) (judged-JudgedKinds-live_at W h b)

judged-fn-JudgedKinds-live_between-all+Fn-call : Linked parts.naming-judged-fn-JudgedKinds-live_between-all+Fn-call.code
judged-fn-JudgedKinds-live_between-all+Fn-call W h b =
    parts.naming-judged-fn-JudgedKinds-live_between-all+Fn-call.has (in_world W) true (made.found-naming::judged::fn::JudgedKinds::live_between::all+Fn::call W h) (judged-fn-JudgedKinds-live_between-all W h b)

judged-fn-JudgedKinds-live_between-all+FnMut-call_mut : Linked parts.naming-judged-fn-JudgedKinds-live_between-all+FnMut-call_mut.code
judged-fn-JudgedKinds-live_between-all+FnMut-call_mut W h b =
    parts.naming-judged-fn-JudgedKinds-live_between-all+FnMut-call_mut.has (in_world W) true (made.found-naming::judged::fn::JudgedKinds::live_between::all+FnMut::call_mut W h) (judged-fn-JudgedKinds-live_between-all W h b)

judged-fn-JudgedKinds-live_between-all+FnOnce-call_once : Linked parts.naming-judged-fn-JudgedKinds-live_between-all+FnOnce-call_once.code
judged-fn-JudgedKinds-live_between-all+FnOnce-call_once W h b =
    parts.naming-judged-fn-JudgedKinds-live_between-all+FnOnce-call_once.has (in_world W) true (made.found-naming::judged::fn::JudgedKinds::live_between::all+FnOnce::call_once W h) (judged-fn-JudgedKinds-live_between-all W h b)

pub judged-JudgedKinds-live_between : Linked parts.naming-judged-JudgedKinds-live_between.code
judged-JudgedKinds-live_between W h b =
    parts.naming-judged-JudgedKinds-live_between.has (in_world W) true (made.found-naming::judged::JudgedKinds::live_between W h) b.1.1.1.1.1.1.0 (Destruct++none-drop W h b) (judged-fn-JudgedKinds-live_between-all+Fn-call W h b) (judged-fn-JudgedKinds-live_between-all+FnMut-call_mut W h b) (judged-fn-JudgedKinds-live_between-all+FnOnce-call_once W h b) b.1.1.1.1.1.1.1.0

pub judged-Judged-rule5 : Linked parts.naming-judged-Judged-rule5.code
judged-Judged-rule5 W h b =
    parts.naming-judged-Judged-rule5.has (in_world W) true (made.found-naming::judged::Judged::rule5 W h) b.1.1.1.1.1.1.0 (judged-JudgedKinds-live_at W h b) b.1.1.1.1.1.1.1.1.0

mark_completes : Linked parts.naming-mark_completes.code
mark_completes W h b =
    parts.naming-mark_completes.has (in_world W) true (made.found-naming::mark_completes W h) b.1.1.1.1.1.1.1.1.1.0 b.1.0 b.1.1.0 b.1.1.1.1.1.1.1.1.0

pub mark_all_completes : Linked parts.naming-mark_all_completes.code
mark_all_completes W h b =
    parts.naming-mark_all_completes.has (in_world W) true (made.found-naming::mark_all_completes W h) b.1.1.1.1.1.1.1.1.1.1.0 (mark_completes W h b)

broken_rule : Linked parts.naming-broken_rule.code
broken_rule W h b =
    parts.naming-broken_rule.has (in_world W) true (made.found-naming::broken_rule W h) (judged-Judged-rule5 W h b) (judged-Judged-rule8 W h b) (judged-JudgedKinds-block W h b) (judged-JudgedKinds-live_at W h b) (judged-JudgedKinds-live_between W h b) b.1.1.1.1.1.1.1.1.1.1.1.0 b.1.1.1.1.1.1.1.1.1.1.1.1.0 b.1.1.1.1.1.1.1.1.1.1.1.1.1.0 b.1.1.1.1.1.1.1.1.1.1.1.1.1.1.0 b.1.1.1.1.1.1.1.1.1.1.1.1.1.1.1.0

pub first_bad : Linked parts.naming-first_bad.code
first_bad W h b =
    parts.naming-first_bad.has (in_world W) true (made.found-naming::first_bad W h) b.1.1.1.1.1.1.1.1.1.1.0 (broken_rule W h b) (mark_all_completes W h b) b.1.1.1.1.1.1.1.1.1.1.1.1.1.1.1.1.0
