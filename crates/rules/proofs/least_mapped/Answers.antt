-- `rules::least_mapped` meets its contract: it reads the word where the definition has it.
use native.Mathlib.Omega.{arith}
use Rattle.rules.proofs.RuleLaws.{least-read}
use Rattle.rules.proofs.least_mapped.Goals as goal

pub returns : goal.returns
returns c = least-read _ _ c.args.block.now.index _ (omega arith)
