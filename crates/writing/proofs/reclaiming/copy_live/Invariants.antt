-- `writing::reclaiming::copy_live` meets its contract: after the slots passed all the definition's steps so far are done; it stops where none is left.
use mathlib.Core.Path.{◌≡◌}
use Prim.Native.Nat.{ℕ, ◌-◌, ◌≤◌}
use lib.ListN.{length}
use Rattle.tables.specs.Tables.{Table}
use Rattle.flash.specs.declared.run.Run.{Run}
use Rattle.flash.specs.Runs.{Does, of_run}
use Rattle.flash.specs.Writing.{copying}
use Rattle.flash.specs.Tables.{table_copied}
use Rattle.writing.proofs.reclaiming.copy_live.Given as goal

-- how things stand after the first i slots of v
pub record Copying (before : Run) (v t : ℕ) (table₀ : Table) (i : ℕ) (now : Run) (table : Table) : Type 0 where
  pub done : Does before now (of_run copying before v t i)
  pub whole : length (of_run copying before v t i) ≤ before.left
  pub table_is : table ≡ of_run table_copied before v t table₀ i

abbrev pub invariant-loop-i : goal.invariant-loop-i
invariant-loop-i l = (l.i ≤ l.d) × Copying l.initial.run l.v l.t l.initial.table l.i l.run l.table

abbrev pub decreases-loop-i : goal.decreases-loop-i
decreases-loop-i l = l.d - l.i
