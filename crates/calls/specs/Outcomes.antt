-- What a call reports: its answer and the numbers beside it, which a refused call reports as zeros (FORMAT.md, Refusals). The code gives the same
-- as a Result: the numbers where the call is accepted, or why it is refused.
use Rattle.std.specs.Prelude.{ℕ, Result, Ok, Err}
use Rattle.answers.specs.declared.Refusal.{Refusal}
use Rattle.answers.specs.Answers.{Answer, Accepted, answered}
use Rattle.calls.specs.declared.Counts.{Counts}
use Rattle.calls.specs.declared.Totals as sums

-- what format, write, release and repair report: the words programmed and the blocks erased
pub record Outcome : Type 0 where
  pub answer : Answer
  pub words : ℕ
  pub erasures : ℕ

-- what report reports: mapped, free and dead slots, and the sum of the erase counts
pub record Totals : Type 0 where
  pub answer : Answer
  pub mapped : ℕ
  pub free : ℕ
  pub dead : ℕ
  pub erase_sum : ℕ

-- what the code gives of each
abbrev pub counts_of : Outcome → Result Counts Refusal
counts_of o = answered o.answer (record { words = o.words; erasures = o.erasures })

abbrev pub sums_of : Totals → Result sums.Totals Refusal
sums_of t = answered t.answer (record { mapped = t.mapped; free = t.free; dead = t.dead; erase_sum = t.erase_sum })

-- and back: where the code gives a refusal, zeros are reported
abbrev pub outcome_of : Result Counts Refusal → Outcome
outcome_of (Ok c) = record { answer = Accepted; words = c.words; erasures = c.erasures }
outcome_of (Err why) = record { answer = Err why; words = 0; erasures = 0 }

abbrev pub totals_of_sums : Result sums.Totals Refusal → Totals
totals_of_sums (Ok s) = record { answer = Accepted; mapped = s.mapped; free = s.free; dead = s.dead; erase_sum = s.erase_sum }
totals_of_sums (Err why) = record { answer = Err why; mapped = 0; free = 0; dead = 0; erase_sum = 0 }
