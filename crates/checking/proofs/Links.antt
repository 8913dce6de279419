-- What `determined` takes of this crate, to show that there is an environment that has the code of the public functions: the table of the crate's
-- functions; what those that are told here call in the crates below, `Below`; and of each of them, that a look-up that has both has its code, with the code
-- of all that it calls. The toolchain makes the tables and the parts, in modules that only this crate can name. Written by tools/links.py.
-- Assumes nothing.
use mathlib.Core.Bool.{true}
use prog.Wired.{Code}
use prog.Linked.{World, Tree, Holds, in_world}
use prog.LinkedThreads.{HasT}
use Rattle.checking.proofs.TheLink as made
use Rattle.checking.proofs.TheLinks as parts

abbrev pub table : Tree
table = made.table

abbrev pub Below : World → Type 0
Below W =
    HasT (in_world W) true Rattle.rules.proofs.contents_clean.Symbol.code ×
    (HasT (in_world W) true Rattle.bits.proofs.is_set.Symbol.code ×
    (HasT (in_world W) true Rattle.image.proofs.slots.slot_of.Symbol.code ×
    (HasT (in_world W) true Rattle.image.proofs.view.Block.entries.Symbol.code ×
    (HasT (in_world W) true Rattle.image.proofs.view.Block.map_words.Symbol.code ×
    (HasT (in_world W) true Rattle.rules.proofs.NumberSet.mark.Symbol.code ×
    (HasT (in_world W) true Rattle.rules.proofs.rest_set.Symbol.code ×
    (HasT (in_world W) true Rattle.image.proofs.kinds.BlockKinds.block.Symbol.code ×
    (HasT (in_world W) true Rattle.image.proofs.kinds.BlockKinds.live_at.Symbol.code ×
    (HasT (in_world W) true Rattle.image.proofs.kinds.BlockKinds.live_between.Symbol.code ×
    (HasT (in_world W) true Rattle.rules.proofs.rule1.Symbol.code ×
    (HasT (in_world W) true Rattle.rules.proofs.rule7.Symbol.code ×
    (HasT (in_world W) true Rattle.image.proofs.view.View.block.Symbol.code ×
    (HasT (in_world W) true Rattle.rules.proofs.NumberSet.new.Symbol.code ×
    (HasT (in_world W) true Rattle.blocks.proofs.count_blank.Symbol.code ×
    (HasT (in_world W) true Rattle.naming.proofs.first_bad.Symbol.code ×
    (Unit {0}))))))))))))))))

abbrev pub Linked : Code → Type 0
Linked c = (W : World) → Holds W "checking" table → Below W → HasT (in_world W) true c

free_kept : Linked parts.checking-free_kept.code
free_kept W h b =
    parts.checking-free_kept.has (in_world W) true (made.found-checking::free_kept W h) b.0

rules_2_to_5 : Linked parts.checking-rules_2_to_5.code
rules_2_to_5 W h b =
    parts.checking-rules_2_to_5.has (in_world W) true (made.found-checking::rules_2_to_5 W h) b.1.0 (free_kept W h b) b.1.1.0 b.1.1.1.0 b.1.1.1.1.0 b.1.1.1.1.1.0 b.1.1.1.1.1.1.0

keeps_rules : Linked parts.checking-keeps_rules.code
keeps_rules W h b =
    parts.checking-keeps_rules.has (in_world W) true (made.found-checking::keeps_rules W h) (rules_2_to_5 W h b) b.1.1.1.1.1.1.1.0 b.1.1.1.1.1.1.1.1.0 b.1.1.1.1.1.1.1.1.1.0 b.1.1.1.1.1.1.1.1.1.1.0 b.1.1.1.1.1.1.1.1.1.1.1.0

is_sound : Linked parts.checking-is_sound.code
is_sound W h b =
    parts.checking-is_sound.has (in_world W) true (made.found-checking::is_sound W h) (keeps_rules W h b) b.1.1.1.1.1.1.1.1.1.1.1.1.0 b.1.1.1.1.1.1.1.1.1.1.1.1.1.0

pub first_fault : Linked parts.checking-first_fault.code
first_fault W h b =
    parts.checking-first_fault.has (in_world W) true (made.found-checking::first_fault W h) b.1.1.1.1.1.1.1.1.1.1.1.1.1.1.0 (is_sound W h b) b.1.1.1.1.1.1.1.1.1.1.1.1.1.1.1.0
