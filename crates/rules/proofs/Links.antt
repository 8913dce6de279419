-- What `determined` takes of this crate, to show that there is an environment that has the code of the public functions: the table of the crate's
-- functions; what those that are told here call in the crates below, `Below`; and of each of them, that a look-up that has both has its code, with the code
-- of all that it calls. The toolchain makes the tables and the parts, in modules that only this crate can name. Written by tools/links.py.
-- Assumes nothing.
use mathlib.Core.Bool.{true}
use prog.Wired.{Code}
use prog.Linked.{World, Tree, Holds, in_world}
use prog.LinkedThreads.{HasT}
use Rattle.rules.proofs.TheLink as made
use Rattle.rules.proofs.TheLinks as parts

abbrev pub table : Tree
table = made.table

abbrev pub Below : World → Type 0
Below W =
    HasT (in_world W) true Rattle.bits.proofs.is_set.Symbol.code ×
    (HasT (in_world W) true Rattle.bits.proofs.clear_bit.Symbol.code ×
    (HasT (in_world W) true Rattle.image.proofs.view.Block.contents.Symbol.code ×
    (HasT (in_world W) true Rattle.image.proofs.view.Block.own_slot.Symbol.code ×
    (HasT (in_world W) true Rattle.geometry.proofs.Geometry.start.Symbol.code ×
    (HasT (in_world W) true Rattle.geometry.proofs.Geometry.d.Symbol.code ×
    (HasT (in_world W) true Rattle.image.proofs.view.Block.entries.Symbol.code ×
    (HasT (in_world W) true Rattle.image.proofs.view.Block.map_words.Symbol.code ×
    (HasT (in_world W) true Rattle.ranges.proofs.all.Symbol.code ×
    (HasT (in_world W) true Rattle.geometry.proofs.Geometry.k.Symbol.code ×
    (HasT (in_world W) true Rattle.image.proofs.view.Block.erase_count.Symbol.code ×
    (HasT (in_world W) true Rattle.blocks.proofs.is_full.Symbol.code ×
    (Unit {0}))))))))))))

abbrev pub Linked : Code → Type 0
Linked c = (W : World) → Holds W "rules" table → Below W → HasT (in_world W) true c

Destruct++none-drop : Linked parts.rules-Destruct++none-drop.code
Destruct++none-drop W h b =
    parts.rules-Destruct++none-drop.has (in_world W) true (made.found-rules::Destruct++none::drop W h)

pub NumberSet-is_marked : Linked parts.rules-NumberSet-is_marked.code
NumberSet-is_marked W h b =
    parts.rules-NumberSet-is_marked.has (in_world W) true (made.found-rules::NumberSet::is_marked W h) b.0

pub NumberSet-mark : Linked parts.rules-NumberSet-mark.code
NumberSet-mark W h b =
    parts.rules-NumberSet-mark.has (in_world W) true (made.found-rules::NumberSet::mark W h) b.1.0 b.0

pub NumberSet-new : Linked parts.rules-NumberSet-new.code
NumberSet-new W h b =
    parts.rules-NumberSet-new.has (in_world W) true (made.found-rules::NumberSet::new W h)

all_ones : Linked parts.rules-all_ones.code
all_ones W h b =
    parts.rules-all_ones.has (in_world W) true (made.found-rules::all_ones W h)

pub contents_clean : Linked parts.rules-contents_clean.code
contents_clean W h b =
    parts.rules-contents_clean.has (in_world W) true (made.found-rules::contents_clean W h) b.1.1.0 (all_ones W h b)

fn-map_agrees-all : Linked parts.rules-fn-map_agrees-all.code
fn-map_agrees-all W h b =
    parts.rules-fn-map_agrees-all.has (in_world W) true (made.found-rules::fn::map_agrees::all W h) b.0

fn-map_agrees-all+Fn-call : Linked parts.rules-fn-map_agrees-all+Fn-call.code
fn-map_agrees-all+Fn-call W h b =
    parts.rules-fn-map_agrees-all+Fn-call.has (in_world W) true (made.found-rules::fn::map_agrees::all+Fn::call W h) (fn-map_agrees-all W h b)

fn-map_agrees-all+FnMut-call_mut : Linked parts.rules-fn-map_agrees-all+FnMut-call_mut.code
fn-map_agrees-all+FnMut-call_mut W h b =
    parts.rules-fn-map_agrees-all+FnMut-call_mut.has (in_world W) true (made.found-rules::fn::map_agrees::all+FnMut::call_mut W h) (fn-map_agrees-all W h b)

fn-map_agrees-all+FnOnce-call_once : Linked parts.rules-fn-map_agrees-all+FnOnce-call_once.code
fn-map_agrees-all+FnOnce-call_once W h b =
    parts.rules-fn-map_agrees-all+FnOnce-call_once.has (in_world W) true (made.found-rules::fn::map_agrees::all+FnOnce::call_once W h) (fn-map_agrees-all W h b)

fn-rest_set-all : Linked parts.rules-fn-rest_set-all.code
fn-rest_set-all W h b =
    parts.rules-fn-rest_set-all.has (in_world W) true (made.found-rules::fn::rest_set::all W h) b.0

fn-rest_set-all+Fn-call : Linked parts.rules-fn-rest_set-all+Fn-call.code
fn-rest_set-all+Fn-call W h b =
    parts.rules-fn-rest_set-all+Fn-call.has (in_world W) true (made.found-rules::fn::rest_set::all+Fn::call W h) (fn-rest_set-all W h b)

fn-rest_set-all+FnMut-call_mut : Linked parts.rules-fn-rest_set-all+FnMut-call_mut.code
fn-rest_set-all+FnMut-call_mut W h b =
    parts.rules-fn-rest_set-all+FnMut-call_mut.has (in_world W) true (made.found-rules::fn::rest_set::all+FnMut::call_mut W h) (fn-rest_set-all W h b)

fn-rest_set-all+FnOnce-call_once : Linked parts.rules-fn-rest_set-all+FnOnce-call_once.code
fn-rest_set-all+FnOnce-call_once W h b =
    parts.rules-fn-rest_set-all+FnOnce-call_once.has (in_world W) true (made.found-rules::fn::rest_set::all+FnOnce::call_once W h) (fn-rest_set-all W h b)

fn-rule3-all : Linked parts.rules-fn-rule3-all.code
fn-rule3-all W h b =
    parts.rules-fn-rule3-all.has (in_world W) true (made.found-rules::fn::rule3::all W h) b.1.1.1.0 (contents_clean W h b)

fn-rule3-all+Fn-call : Linked parts.rules-fn-rule3-all+Fn-call.code
fn-rule3-all+Fn-call W h b =
    parts.rules-fn-rule3-all+Fn-call.has (in_world W) true (made.found-rules::fn::rule3::all+Fn::call W h) (fn-rule3-all W h b)

fn-rule3-all+FnMut-call_mut : Linked parts.rules-fn-rule3-all+FnMut-call_mut.code
fn-rule3-all+FnMut-call_mut W h b =
    parts.rules-fn-rule3-all+FnMut-call_mut.has (in_world W) true (made.found-rules::fn::rule3::all+FnMut::call_mut W h) (fn-rule3-all W h b)

fn-rule3-all+FnOnce-call_once : Linked parts.rules-fn-rule3-all+FnOnce-call_once.code
fn-rule3-all+FnOnce-call_once W h b =
    parts.rules-fn-rule3-all+FnOnce-call_once.has (in_world W) true (made.found-rules::fn::rule3::all+FnOnce::call_once W h) (fn-rule3-all W h b)

fn-rule4-all : Linked parts.rules-fn-rule4-all.code
fn-rule4-all W h b =
    parts.rules-fn-rule4-all.has (in_world W) true (made.found-rules::fn::rule4::all W h) b.1.1.1.0

fn-rule4-all+Fn-call : Linked parts.rules-fn-rule4-all+Fn-call.code
fn-rule4-all+Fn-call W h b =
    parts.rules-fn-rule4-all+Fn-call.has (in_world W) true (made.found-rules::fn::rule4::all+Fn::call W h) (fn-rule4-all W h b)

fn-rule4-all+FnMut-call_mut : Linked parts.rules-fn-rule4-all+FnMut-call_mut.code
fn-rule4-all+FnMut-call_mut W h b =
    parts.rules-fn-rule4-all+FnMut-call_mut.has (in_world W) true (made.found-rules::fn::rule4::all+FnMut::call_mut W h) (fn-rule4-all W h b)

fn-rule4-all+FnOnce-call_once : Linked parts.rules-fn-rule4-all+FnOnce-call_once.code
fn-rule4-all+FnOnce-call_once W h b =
    parts.rules-fn-rule4-all+FnOnce-call_once.has (in_world W) true (made.found-rules::fn::rule4::all+FnOnce::call_once W h) (fn-rule4-all W h b)

pub greatest_mapped : Linked parts.rules-greatest_mapped.code
greatest_mapped W h b =
    parts.rules-greatest_mapped.has (in_world W) true (made.found-rules::greatest_mapped W h) b.1.1.1.1.0

pub least_mapped : Linked parts.rules-least_mapped.code
least_mapped W h b =
    parts.rules-least_mapped.has (in_world W) true (made.found-rules::least_mapped W h) b.1.1.1.1.0

map_agrees : Linked parts.rules-map_agrees.code
map_agrees W h b =
    parts.rules-map_agrees.has (in_world W) true (made.found-rules::map_agrees W h) b.1.1.1.1.1.0 b.1.1.1.1.1.1.0 b.1.1.1.1.1.1.1.0 b.1.1.1.1.1.1.1.1.0 (Destruct++none-drop W h b) (fn-map_agrees-all+Fn-call W h b) (fn-map_agrees-all+FnMut-call_mut W h b) (fn-map_agrees-all+FnOnce-call_once W h b)

pub rest_set : Linked parts.rules-rest_set.code
rest_set W h b =
    parts.rules-rest_set.has (in_world W) true (made.found-rules::rest_set W h) b.1.1.1.1.1.0 b.1.1.1.1.1.1.1.1.1.0 b.1.1.1.1.1.1.1.0 b.1.1.1.1.1.1.1.1.0 (Destruct++none-drop W h b) (fn-rest_set-all+Fn-call W h b) (fn-rest_set-all+FnMut-call_mut W h b) (fn-rest_set-all+FnOnce-call_once W h b)

pub rule1 : Linked parts.rules-rule1.code
rule1 W h b =
    parts.rules-rule1.has (in_world W) true (made.found-rules::rule1 W h) b.1.1.1.1.1.1.1.1.1.1.0

pub rule2 : Linked parts.rules-rule2.code
rule2 W h b =
    parts.rules-rule2.has (in_world W) true (made.found-rules::rule2 W h) (map_agrees W h b) (rest_set W h b)

pub rule3 : Linked parts.rules-rule3.code
rule3 W h b =
    parts.rules-rule3.has (in_world W) true (made.found-rules::rule3 W h) b.1.1.1.1.1.0 b.1.1.1.1.1.1.1.1.0 (Destruct++none-drop W h b) (fn-rule3-all+Fn-call W h b) (fn-rule3-all+FnMut-call_mut W h b) (fn-rule3-all+FnOnce-call_once W h b)

pub rule4 : Linked parts.rules-rule4.code
rule4 W h b =
    parts.rules-rule4.has (in_world W) true (made.found-rules::rule4 W h) b.1.1.1.1.1.0 b.1.1.1.1.1.1.1.1.0 (Destruct++none-drop W h b) (fn-rule4-all+Fn-call W h b) (fn-rule4-all+FnMut-call_mut W h b) (fn-rule4-all+FnOnce-call_once W h b)

pub rule7 : Linked parts.rules-rule7.code
rule7 W h b =
    parts.rules-rule7.has (in_world W) true (made.found-rules::rule7 W h) b.1.1.1.1.1.1.1.1.1.1.1.0 (greatest_mapped W h b) (least_mapped W h b)
