-- The contract of every public function determines what a call does: the answer, each count, the whole image, the buffer and the table. A contract is
-- here what the toolchain makes of the clauses in the source, so one that is dropped or weakened there makes its line of `EveryContract` false.
--
-- To add a public function, or one of a trait for a public type: give it no `requires`, and as `ensures` equations whose right sides name the arguments alone, one for the result
-- and then one for each `&mut` parameter, in the parameters' order. Name it here, add a line to `EveryContract` and one to its proof,
-- and run tools/links.py.
use Rattle.determined.specs.Determined.{Function, Determined}
use Rattle.answers.specs.contracts as answers
use Rattle.answers.proofs as answers_code
use Rattle.shellwaltz.specs.contracts as calls
use Rattle.shellwaltz.proofs as calls_code
use Rattle.stepwise.specs.contracts as stepwise
use Rattle.stepwise.proofs as stepwise_code
use Rattle.tabled.specs.contracts as tabled
use Rattle.tabled.proofs as tabled_code
use Rattle.shellwaltz_c.specs.contracts as in_c
use Rattle.shellwaltz_c.proofs as in_c_code
use Rattle.records.specs.contracts as records
use Rattle.records.proofs as records_code
use Rattle.text.specs.contracts as text
use Rattle.text.proofs as text_code

-- ---- what an answer says
abbrev pub number : Function
number = record { ended = answers.number.ended; clauses = λ M 𝓤. answers.number.clauses; name = answers_code.number.Symbol.name; code = answers_code.number.Symbol.code }

abbrev pub bad_block : Function
bad_block = record { ended = answers.bad_block.ended; clauses = λ M 𝓤. answers.bad_block.clauses; name = answers_code.bad_block.Symbol.name; code = answers_code.bad_block.Symbol.code }

abbrev pub bad_rule : Function
bad_rule = record { ended = answers.bad_rule.ended; clauses = λ M 𝓤. answers.bad_rule.clauses; name = answers_code.bad_rule.Symbol.name; code = answers_code.bad_rule.Symbol.code }

-- a pair that fails as a refusal
abbrev pub from_fault : Function
from_fault = record { ended = answers.RefusalFromFault.from.ended; clauses = λ M 𝓤. answers.RefusalFromFault.from.clauses; name = answers_code.RefusalFromFault.from.Symbol.name; code = answers_code.RefusalFromFault.from.Symbol.code }

-- ---- the calls
abbrev pub format : Function
format = record { ended = calls.format.ended; clauses = λ M 𝓤. calls.format.clauses; name = calls_code.format.Symbol.name; code = calls_code.format.Symbol.code }

abbrev pub check : Function
check = record { ended = calls.check.ended; clauses = λ M 𝓤. calls.check.clauses; name = calls_code.check.Symbol.name; code = calls_code.check.Symbol.code }

abbrev pub report : Function
report = record { ended = calls.report.ended; clauses = λ M 𝓤. calls.report.clauses; name = calls_code.report.Symbol.name; code = calls_code.report.Symbol.code }

abbrev pub read : Function
read = record { ended = calls.read.ended; clauses = λ M 𝓤. calls.read.clauses; name = calls_code.read.Symbol.name; code = calls_code.read.Symbol.code }

abbrev pub write : Function
write = record { ended = calls.write.ended; clauses = λ M 𝓤. calls.write.clauses; name = calls_code.write.Symbol.name; code = calls_code.write.Symbol.code }

abbrev pub release : Function
release = record { ended = calls.release.ended; clauses = λ M 𝓤. calls.release.clauses; name = calls_code.release.Symbol.name; code = calls_code.release.Symbol.code }

abbrev pub repair : Function
repair = record { ended = calls.repair.ended; clauses = λ M 𝓤. calls.repair.clauses; name = calls_code.repair.Symbol.name; code = calls_code.repair.Symbol.code }

-- ---- step by step (K4)
abbrev pub write_step : Function
write_step = record { ended = stepwise.write_step.ended; clauses = λ M 𝓤. stepwise.write_step.clauses; name = stepwise_code.write_step.Symbol.name; code = stepwise_code.write_step.Symbol.code }

abbrev pub release_step : Function
release_step = record { ended = stepwise.release_step.ended; clauses = λ M 𝓤. stepwise.release_step.clauses; name = stepwise_code.release_step.Symbol.name; code = stepwise_code.release_step.Symbol.code }

abbrev pub repair_step : Function
repair_step = record { ended = stepwise.repair_step.ended; clauses = λ M 𝓤. stepwise.repair_step.clauses; name = stepwise_code.repair_step.Symbol.name; code = stepwise_code.repair_step.Symbol.code }

abbrev pub write_first : Function
write_first = record { ended = stepwise.write_first.ended; clauses = λ M 𝓤. stepwise.write_first.clauses; name = stepwise_code.write_first.Symbol.name; code = stepwise_code.write_first.Symbol.code }

abbrev pub release_first : Function
release_first = record { ended = stepwise.release_first.ended; clauses = λ M 𝓤. stepwise.release_first.clauses; name = stepwise_code.release_first.Symbol.name; code = stepwise_code.release_first.Symbol.code }

abbrev pub repair_first : Function
repair_first = record { ended = stepwise.repair_first.ended; clauses = λ M 𝓤. stepwise.repair_first.clauses; name = stepwise_code.repair_first.Symbol.name; code = stepwise_code.repair_first.Symbol.code }

-- ---- with a lookup table (K2)
abbrev pub build_table : Function
build_table = record { ended = tabled.build.ended; clauses = λ M 𝓤. tabled.build.clauses; name = tabled_code.build.Symbol.name; code = tabled_code.build.Symbol.code }

abbrev pub read_with_table : Function
read_with_table = record { ended = tabled.read.ended; clauses = λ M 𝓤. tabled.read.clauses; name = tabled_code.read.Symbol.name; code = tabled_code.read.Symbol.code }

abbrev pub write_with_table : Function
write_with_table = record { ended = tabled.write.ended; clauses = λ M 𝓤. tabled.write.clauses; name = tabled_code.write.Symbol.name; code = tabled_code.write.Symbol.code }

abbrev pub release_with_table : Function
release_with_table = record { ended = tabled.release.ended; clauses = λ M 𝓤. tabled.release.clauses; name = tabled_code.release.Symbol.name; code = tabled_code.release.Symbol.code }

-- ---- the calls for C
abbrev pub c_format : Function
c_format =
    record { ended = in_c.shellwaltz_format.ended; clauses = λ M 𝓤. in_c.shellwaltz_format.clauses; name = in_c_code.shellwaltz_format.Symbol.name; code = in_c_code.shellwaltz_format.Symbol.code }

abbrev pub c_check : Function
c_check =
    record { ended = in_c.shellwaltz_check.ended; clauses = λ M 𝓤. in_c.shellwaltz_check.clauses; name = in_c_code.shellwaltz_check.Symbol.name; code = in_c_code.shellwaltz_check.Symbol.code }

abbrev pub c_report : Function
c_report =
    record { ended = in_c.shellwaltz_report.ended; clauses = λ M 𝓤. in_c.shellwaltz_report.clauses; name = in_c_code.shellwaltz_report.Symbol.name; code = in_c_code.shellwaltz_report.Symbol.code }

abbrev pub c_read : Function
c_read =
    record { ended = in_c.shellwaltz_read.ended; clauses = λ M 𝓤. in_c.shellwaltz_read.clauses; name = in_c_code.shellwaltz_read.Symbol.name; code = in_c_code.shellwaltz_read.Symbol.code }

abbrev pub c_write : Function
c_write =
    record { ended = in_c.shellwaltz_write.ended; clauses = λ M 𝓤. in_c.shellwaltz_write.clauses; name = in_c_code.shellwaltz_write.Symbol.name; code = in_c_code.shellwaltz_write.Symbol.code }

abbrev pub c_release : Function
c_release =
    record { ended = in_c.shellwaltz_release.ended; clauses = λ M 𝓤. in_c.shellwaltz_release.clauses; name = in_c_code.shellwaltz_release.Symbol.name; code = in_c_code.shellwaltz_release.Symbol.code }

abbrev pub c_repair : Function
c_repair =
    record { ended = in_c.shellwaltz_repair.ended; clauses = λ M 𝓤. in_c.shellwaltz_repair.clauses; name = in_c_code.shellwaltz_repair.Symbol.name; code = in_c_code.shellwaltz_repair.Symbol.code }

abbrev pub c_write_step : Function
c_write_step = record { ended = in_c.by_steps.shellwaltz_write_step.ended; clauses = λ M 𝓤. in_c.by_steps.shellwaltz_write_step.clauses; name = in_c_code.by_steps.shellwaltz_write_step.Symbol.name; code = in_c_code.by_steps.shellwaltz_write_step.Symbol.code }

abbrev pub c_release_step : Function
c_release_step = record { ended = in_c.by_steps.shellwaltz_release_step.ended; clauses = λ M 𝓤. in_c.by_steps.shellwaltz_release_step.clauses; name = in_c_code.by_steps.shellwaltz_release_step.Symbol.name; code = in_c_code.by_steps.shellwaltz_release_step.Symbol.code }

abbrev pub c_repair_step : Function
c_repair_step = record { ended = in_c.by_steps.shellwaltz_repair_step.ended; clauses = λ M 𝓤. in_c.by_steps.shellwaltz_repair_step.clauses; name = in_c_code.by_steps.shellwaltz_repair_step.Symbol.name; code = in_c_code.by_steps.shellwaltz_repair_step.Symbol.code }

abbrev pub c_write_first : Function
c_write_first = record { ended = in_c.by_steps.shellwaltz_write_first.ended; clauses = λ M 𝓤. in_c.by_steps.shellwaltz_write_first.clauses; name = in_c_code.by_steps.shellwaltz_write_first.Symbol.name; code = in_c_code.by_steps.shellwaltz_write_first.Symbol.code }

abbrev pub c_release_first : Function
c_release_first = record { ended = in_c.by_steps.shellwaltz_release_first.ended; clauses = λ M 𝓤. in_c.by_steps.shellwaltz_release_first.clauses; name = in_c_code.by_steps.shellwaltz_release_first.Symbol.name; code = in_c_code.by_steps.shellwaltz_release_first.Symbol.code }

abbrev pub c_repair_first : Function
c_repair_first = record { ended = in_c.by_steps.shellwaltz_repair_first.ended; clauses = λ M 𝓤. in_c.by_steps.shellwaltz_repair_first.clauses; name = in_c_code.by_steps.shellwaltz_repair_first.Symbol.name; code = in_c_code.by_steps.shellwaltz_repair_first.Symbol.code }

abbrev pub c_build_table : Function
c_build_table = record { ended = in_c.with_table.shellwaltz_build_table.ended; clauses = λ M 𝓤. in_c.with_table.shellwaltz_build_table.clauses; name = in_c_code.with_table.shellwaltz_build_table.Symbol.name; code = in_c_code.with_table.shellwaltz_build_table.Symbol.code }

abbrev pub c_read_with_table : Function
c_read_with_table = record { ended = in_c.with_table.shellwaltz_read_with_table.ended; clauses = λ M 𝓤. in_c.with_table.shellwaltz_read_with_table.clauses; name = in_c_code.with_table.shellwaltz_read_with_table.Symbol.name; code = in_c_code.with_table.shellwaltz_read_with_table.Symbol.code }

abbrev pub c_write_with_table : Function
c_write_with_table = record { ended = in_c.with_table.shellwaltz_write_with_table.ended; clauses = λ M 𝓤. in_c.with_table.shellwaltz_write_with_table.clauses; name = in_c_code.with_table.shellwaltz_write_with_table.Symbol.name; code = in_c_code.with_table.shellwaltz_write_with_table.Symbol.code }

abbrev pub c_release_with_table : Function
c_release_with_table = record { ended = in_c.with_table.shellwaltz_release_with_table.ended; clauses = λ M 𝓤. in_c.with_table.shellwaltz_release_with_table.clauses; name = in_c_code.with_table.shellwaltz_release_with_table.Symbol.name; code = in_c_code.with_table.shellwaltz_release_with_table.Symbol.code }

-- ---- the records of a script
abbrev pub start : Function
start = record { ended = records.start.ended; clauses = λ M 𝓤. records.start.clauses; name = records_code.start.Symbol.name; code = records_code.start.Symbol.code }

abbrev pub record_of : Function
record_of = record { ended = records.record_of.ended; clauses = λ M 𝓤. records.record_of.clauses; name = records_code.record_of.Symbol.name; code = records_code.record_of.Symbol.code }

abbrev pub short : Function
short = record { ended = records.short.ended; clauses = λ M 𝓤. records.short.clauses; name = records_code.short.Symbol.name; code = records_code.short.Symbol.code }

abbrev pub carry_out : Function
carry_out = record { ended = records.carry_out.ended; clauses = λ M 𝓤. records.carry_out.clauses; name = records_code.carry_out.Symbol.name; code = records_code.carry_out.Symbol.code }

abbrev pub end : Function
end = record { ended = records.end.ended; clauses = λ M 𝓤. records.end.clauses; name = records_code.end.Symbol.name; code = records_code.end.Symbol.code }

-- ---- what a script prints
abbrev pub reply : Function
reply = record { ended = text.reply.ended; clauses = λ M 𝓤. text.reply.clauses; name = text_code.reply.Symbol.name; code = text_code.reply.Symbol.code }

abbrev pub last : Function
last = record { ended = text.last.ended; clauses = λ M 𝓤. text.last.clauses; name = text_code.last.Symbol.name; code = text_code.last.Symbol.code }

pub record EveryContract : Type 2 where
  pub of_number : Determined number
  pub of_bad_block : Determined bad_block
  pub of_bad_rule : Determined bad_rule
  pub of_from_fault : Determined from_fault
  pub of_format : Determined format
  pub of_check : Determined check
  pub of_report : Determined report
  pub of_read : Determined read
  pub of_write : Determined write
  pub of_release : Determined release
  pub of_repair : Determined repair
  pub of_write_step : Determined write_step
  pub of_release_step : Determined release_step
  pub of_repair_step : Determined repair_step
  pub of_write_first : Determined write_first
  pub of_release_first : Determined release_first
  pub of_repair_first : Determined repair_first
  pub of_build_table : Determined build_table
  pub of_read_with_table : Determined read_with_table
  pub of_write_with_table : Determined write_with_table
  pub of_release_with_table : Determined release_with_table
  pub of_c_format : Determined c_format
  pub of_c_check : Determined c_check
  pub of_c_report : Determined c_report
  pub of_c_read : Determined c_read
  pub of_c_write : Determined c_write
  pub of_c_release : Determined c_release
  pub of_c_repair : Determined c_repair
  pub of_c_write_step : Determined c_write_step
  pub of_c_release_step : Determined c_release_step
  pub of_c_repair_step : Determined c_repair_step
  pub of_c_write_first : Determined c_write_first
  pub of_c_release_first : Determined c_release_first
  pub of_c_repair_first : Determined c_repair_first
  pub of_c_build_table : Determined c_build_table
  pub of_c_read_with_table : Determined c_read_with_table
  pub of_c_write_with_table : Determined c_write_with_table
  pub of_c_release_with_table : Determined c_release_with_table
  pub of_start : Determined start
  pub of_record_of : Determined record_of
  pub of_short : Determined short
  pub of_carry_out : Determined carry_out
  pub of_end : Determined end
  pub of_reply : Determined reply
  pub of_last : Determined last
