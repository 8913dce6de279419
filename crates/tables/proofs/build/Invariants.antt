-- `tables::build` meets its contract: after the blocks passed the table is what the definition notes of them, and in the end it is right.
use mathlib.Core.Path.{◌≡◌}
use Prim.Native.Nat.{◌-◌, ◌≤◌}
use lib.ListN.{length}
use Rattle.tables.specs.Tables.{blocks_noted}
use Rattle.tables.proofs.build.Given as goal

abbrev pub invariant-loop-b : goal.invariant-loop-b
invariant-loop-b l = (l.b ≤ l.blocks) × (length l.table ≡ length l.initial.table) × (l.table ≡ blocks_noted l.image.geo l.image.words.now l.b)

abbrev pub decreases-loop-b : goal.decreases-loop-b
decreases-loop-b l = l.blocks - l.b
