-- `rules::greatest_mapped` meets its contract: it reads the word where the definition has it.
use native.Mathlib.Omega.{arith}
use Rattle.rules.proofs.RuleLaws.{greatest-read}
use Rattle.rules.proofs.greatest_mapped.Goals as goal

pub returns : goal.returns
returns c = greatest-read _ _ c.args.block.now.index _ (omega arith)
