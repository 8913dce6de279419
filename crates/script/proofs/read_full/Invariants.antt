-- `script::read_full` meets its contract: no more bytes come than there is room for.
use Prim.Native.Nat.{◌≤◌}
use Rattle.script.proofs.read_full.Given as goal

abbrev pub invariant-loop : goal.invariant-loop
invariant-loop g l = l.came ≤ 12
