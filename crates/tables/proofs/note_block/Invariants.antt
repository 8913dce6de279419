-- `tables::note_block` meets its contract: after the slots passed the table is what the definition notes of them.
use mathlib.Core.Path.{◌≡◌}
use Prim.Native.Nat.{◌-◌, ◌≤◌}
use lib.ListN.{length}
use Rattle.tables.specs.Tables.{block_noted}
use Rattle.tables.proofs.note_block.Given as goal

abbrev pub invariant-loop-i : goal.invariant-loop-i
invariant-loop-i l = (l.i ≤ l.d) × (length l.table ≡ length l.initial.table) × (l.table ≡ block_noted l.block.image.geo l.block.image.words.now l.block.index l.initial.table l.i)

abbrev pub decreases-loop-i : goal.decreases-loop-i
decreases-loop-i l = l.d - l.i
