-- `g` is what the definition says. It returns early where there is no room, as with fewer than two blocks, and no division by 0 is left.
use mathlib.Core.Path.{sym, ap₂}
use Prim.Native.Nat.{◌*◌}
use native.Mathlib.Omega.{arith}
use Rattle.geometry.specs.Geometry.{g, rounded_up}
use Rattle.geometry.proofs.Laws.{g-none}
use Rattle.geometry.proofs.Geometry.g.Goals as goal

pub returns-then-room-logical : goal.returns-then-room-logical
returns-then-room-logical c = sym (g-none c.args.self (omega (arith, ap₂ ◌*◌ c.all_but_one-others.ensures c.d.ensures)))

pub returns : goal.returns
unfolding g rounded_up
returns c = rw (c.all_but_one-others.ensures, c.d.ensures)
