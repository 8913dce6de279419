-- Every contract determines what a call does, by the law: a line has what each of the function's parameters leaves, its theorem, and that its code
-- is found in the tables of all crates. The outcome, `_`, is read off the clauses, which are its equations by computation. Assumes nothing.
use mathlib.Core.Path.{refl}
use mathlib.Core.List.{[], ◌∷◌}
use Rattle.determined.specs.Contracts.{EveryContract, number, bad_block, bad_rule, from_fault, format, check, report, read, write, release, repair, write_step, release_step, repair_step, write_first, release_first, repair_first, build_table, read_with_table, write_with_table, release_with_table, c_format, c_check, c_report, c_read, c_write, c_release, c_repair, c_write_step, c_release_step, c_repair_step, c_write_first, c_release_first, c_repair_first, c_build_table, c_read_with_table, c_write_with_table, c_release_with_table, start, record_of, short, carry_out, end, reply, last}
use Rattle.determined.proofs.Law.{kept, count, words, left, determined, nothing}
use Rattle.determined.proofs.Links.{in_answers, in_shellwaltz, in_stepwise, in_tabled, in_shellwaltz_c, in_records, in_text}
use Rattle.answers.proofs as answers
use Rattle.shellwaltz.proofs as calls
use Rattle.stepwise.proofs as stepwise
use Rattle.tabled.proofs as tabled
use Rattle.shellwaltz_c.proofs as in_c
use Rattle.records.proofs as records
use Rattle.text.proofs as text

pub every-contract : EveryContract
every-contract =
    record {
      of_number =
          determined number (left (kept ∷ [])) _ nothing (λ w c g o. refl)
          (λ M. answers.number.Met.met) (in_answers number.code answers.Links.number);
      of_bad_block =
          determined bad_block (left (kept ∷ [])) _ nothing (λ w c g o. refl)
          (λ M. answers.bad_block.Met.met) (in_answers bad_block.code answers.Links.bad_block);
      of_bad_rule =
          determined bad_rule (left (kept ∷ [])) _ nothing (λ w c g o. refl)
          (λ M. answers.bad_rule.Met.met) (in_answers bad_rule.code answers.Links.bad_rule);
      of_from_fault =
          determined from_fault (left (kept ∷ [])) _ nothing (λ w c g o. refl)
          (λ M. answers.RefusalFromFault.from.Met.met) (in_answers from_fault.code answers.Links.RefusalFromFault-from);
      of_format =
          determined format (left (words ∷ kept ∷ [])) _ nothing (λ w c g o. refl)
          (λ M. calls.format.Met.met) (in_shellwaltz format.code calls.Links.format);
      of_check =
          determined check (left (kept ∷ kept ∷ [])) _ nothing (λ w c g o. refl)
          (λ M. calls.check.Met.met) (in_shellwaltz check.code calls.Links.check);
      of_report =
          determined report (left (kept ∷ kept ∷ [])) _ nothing (λ w c g o. refl)
          (λ M. calls.report.Met.met) (in_shellwaltz report.code calls.Links.report);
      of_read =
          determined read (left (kept ∷ kept ∷ kept ∷ words ∷ [])) _ nothing (λ w c g o. refl)
          (λ M. calls.read.Met.met) (in_shellwaltz read.code calls.Links.read);
      of_write =
          determined write (left (words ∷ kept ∷ kept ∷ kept ∷ [])) _ nothing (λ w c g o. refl)
          (λ M. calls.write.Met.met) (in_shellwaltz write.code calls.Links.write);
      of_release =
          determined release (left (words ∷ kept ∷ kept ∷ [])) _ nothing (λ w c g o. refl)
          (λ M. calls.release.Met.met) (in_shellwaltz release.code calls.Links.release);
      of_repair =
          determined repair (left (words ∷ kept ∷ [])) _ nothing (λ w c g o. refl)
          (λ M. calls.repair.Met.met) (in_shellwaltz repair.code calls.Links.repair);
      of_write_step =
          determined write_step (left (kept ∷ kept ∷ kept ∷ kept ∷ kept ∷ [])) _ nothing (λ w c g o. refl)
          (λ M. stepwise.write_step.Met.met) (in_stepwise write_step.code stepwise.Links.write_step);
      of_release_step =
          determined release_step (left (kept ∷ kept ∷ kept ∷ kept ∷ [])) _ nothing (λ w c g o. refl)
          (λ M. stepwise.release_step.Met.met) (in_stepwise release_step.code stepwise.Links.release_step);
      of_repair_step =
          determined repair_step (left (kept ∷ kept ∷ kept ∷ [])) _ nothing (λ w c g o. refl)
          (λ M. stepwise.repair_step.Met.met) (in_stepwise repair_step.code stepwise.Links.repair_step);
      of_write_first =
          determined write_first (left (words ∷ kept ∷ kept ∷ kept ∷ kept ∷ [])) _ nothing (λ w c g o. refl)
          (λ M. stepwise.write_first.Met.met) (in_stepwise write_first.code stepwise.Links.write_first);
      of_release_first =
          determined release_first (left (words ∷ kept ∷ kept ∷ kept ∷ [])) _ nothing (λ w c g o. refl)
          (λ M. stepwise.release_first.Met.met) (in_stepwise release_first.code stepwise.Links.release_first);
      of_repair_first =
          determined repair_first (left (words ∷ kept ∷ kept ∷ [])) _ nothing (λ w c g o. refl)
          (λ M. stepwise.repair_first.Met.met) (in_stepwise repair_first.code stepwise.Links.repair_first);
      of_build_table =
          determined build_table (left (kept ∷ kept ∷ words ∷ [])) _ nothing (λ w c g o. refl)
          (λ M. tabled.build.Met.met) (in_tabled build_table.code tabled.Links.build);
      of_read_with_table =
          determined read_with_table (left (kept ∷ kept ∷ kept ∷ words ∷ kept ∷ [])) _ nothing (λ w c g o. refl)
          (λ M. tabled.read.Met.met) (in_tabled read_with_table.code tabled.Links.read);
      of_write_with_table =
          determined write_with_table (left (words ∷ kept ∷ kept ∷ kept ∷ words ∷ [])) _ nothing (λ w c g o. refl)
          (λ M. tabled.write.Met.met) (in_tabled write_with_table.code tabled.Links.write);
      of_release_with_table =
          determined release_with_table (left (words ∷ kept ∷ kept ∷ words ∷ [])) _ nothing (λ w c g o. refl)
          (λ M. tabled.release.Met.met) (in_tabled release_with_table.code tabled.Links.release);
      of_c_format =
          determined c_format (left (kept ∷ kept ∷ kept ∷ words ∷ count ∷ count ∷ [])) _ nothing (λ w c g o. refl)
          (λ M. in_c.shellwaltz_format.Met.met) (in_shellwaltz_c c_format.code in_c.Links.shellwaltz_format);
      of_c_check =
          determined c_check (left (kept ∷ kept ∷ kept ∷ kept ∷ count ∷ count ∷ [])) _ nothing (λ w c g o. refl)
          (λ M. in_c.shellwaltz_check.Met.met) (in_shellwaltz_c c_check.code in_c.Links.shellwaltz_check);
      of_c_report =
          determined c_report (left (kept ∷ kept ∷ kept ∷ kept ∷ count ∷ count ∷ count ∷ count ∷ count ∷ count ∷ [])) _ nothing (λ w c g o. refl)
          (λ M. in_c.shellwaltz_report.Met.met) (in_shellwaltz_c c_report.code in_c.Links.shellwaltz_report);
      of_c_read =
          determined c_read (left (kept ∷ kept ∷ kept ∷ kept ∷ kept ∷ words ∷ count ∷ count ∷ [])) _ nothing (λ w c g o. refl)
          (λ M. in_c.shellwaltz_read.Met.met) (in_shellwaltz_c c_read.code in_c.Links.shellwaltz_read);
      of_c_write =
          determined c_write (left (kept ∷ kept ∷ kept ∷ words ∷ kept ∷ kept ∷ count ∷ count ∷ count ∷ count ∷ [])) _ nothing (λ w c g o. refl)
          (λ M. in_c.shellwaltz_write.Met.met) (in_shellwaltz_c c_write.code in_c.Links.shellwaltz_write);
      of_c_release =
          determined c_release (left (kept ∷ kept ∷ kept ∷ words ∷ kept ∷ count ∷ count ∷ count ∷ count ∷ [])) _ nothing (λ w c g o. refl)
          (λ M. in_c.shellwaltz_release.Met.met) (in_shellwaltz_c c_release.code in_c.Links.shellwaltz_release);
      of_c_repair =
          determined c_repair (left (kept ∷ kept ∷ kept ∷ words ∷ count ∷ count ∷ count ∷ count ∷ [])) _ nothing (λ w c g o. refl)
          (λ M. in_c.shellwaltz_repair.Met.met) (in_shellwaltz_c c_repair.code in_c.Links.shellwaltz_repair);
      of_c_write_step =
          determined c_write_step (left (kept ∷ kept ∷ kept ∷ kept ∷ kept ∷ kept ∷ kept ∷ count ∷ count ∷ count ∷ count ∷ count ∷ [])) _ nothing (λ w c g o. refl)
          (λ M. in_c.by_steps.shellwaltz_write_step.Met.met) (in_shellwaltz_c c_write_step.code in_c.Links.by_steps-shellwaltz_write_step);
      of_c_release_step =
          determined c_release_step (left (kept ∷ kept ∷ kept ∷ kept ∷ kept ∷ kept ∷ count ∷ count ∷ count ∷ count ∷ count ∷ [])) _ nothing (λ w c g o. refl)
          (λ M. in_c.by_steps.shellwaltz_release_step.Met.met) (in_shellwaltz_c c_release_step.code in_c.Links.by_steps-shellwaltz_release_step);
      of_c_repair_step =
          determined c_repair_step (left (kept ∷ kept ∷ kept ∷ kept ∷ kept ∷ count ∷ count ∷ count ∷ count ∷ count ∷ [])) _ nothing (λ w c g o. refl)
          (λ M. in_c.by_steps.shellwaltz_repair_step.Met.met) (in_shellwaltz_c c_repair_step.code in_c.Links.by_steps-shellwaltz_repair_step);
      of_c_write_first =
          determined c_write_first (left (kept ∷ kept ∷ kept ∷ words ∷ kept ∷ kept ∷ kept ∷ count ∷ count ∷ count ∷ count ∷ [])) _ nothing (λ w c g o. refl)
          (λ M. in_c.by_steps.shellwaltz_write_first.Met.met) (in_shellwaltz_c c_write_first.code in_c.Links.by_steps-shellwaltz_write_first);
      of_c_release_first =
          determined c_release_first (left (kept ∷ kept ∷ kept ∷ words ∷ kept ∷ kept ∷ count ∷ count ∷ count ∷ count ∷ [])) _ nothing (λ w c g o. refl)
          (λ M. in_c.by_steps.shellwaltz_release_first.Met.met) (in_shellwaltz_c c_release_first.code in_c.Links.by_steps-shellwaltz_release_first);
      of_c_repair_first =
          determined c_repair_first (left (kept ∷ kept ∷ kept ∷ words ∷ kept ∷ count ∷ count ∷ count ∷ count ∷ [])) _ nothing (λ w c g o. refl)
          (λ M. in_c.by_steps.shellwaltz_repair_first.Met.met) (in_shellwaltz_c c_repair_first.code in_c.Links.by_steps-shellwaltz_repair_first);
      of_c_build_table =
          determined c_build_table (left (kept ∷ kept ∷ kept ∷ kept ∷ words ∷ count ∷ count ∷ [])) _ nothing (λ w c g o. refl)
          (λ M. in_c.with_table.shellwaltz_build_table.Met.met) (in_shellwaltz_c c_build_table.code in_c.Links.with_table-shellwaltz_build_table);
      of_c_read_with_table =
          determined c_read_with_table (left (kept ∷ kept ∷ kept ∷ kept ∷ kept ∷ words ∷ kept ∷ count ∷ count ∷ [])) _ nothing (λ w c g o. refl)
          (λ M. in_c.with_table.shellwaltz_read_with_table.Met.met) (in_shellwaltz_c c_read_with_table.code in_c.Links.with_table-shellwaltz_read_with_table);
      of_c_write_with_table =
          determined c_write_with_table (left (kept ∷ kept ∷ kept ∷ words ∷ kept ∷ kept ∷ words ∷ count ∷ count ∷ count ∷ count ∷ [])) _ nothing (λ w c g o. refl)
          (λ M. in_c.with_table.shellwaltz_write_with_table.Met.met) (in_shellwaltz_c c_write_with_table.code in_c.Links.with_table-shellwaltz_write_with_table);
      of_c_release_with_table =
          determined c_release_with_table (left (kept ∷ kept ∷ kept ∷ words ∷ kept ∷ words ∷ count ∷ count ∷ count ∷ count ∷ [])) _ nothing (λ w c g o. refl)
          (λ M. in_c.with_table.shellwaltz_release_with_table.Met.met) (in_shellwaltz_c c_release_with_table.code in_c.Links.with_table-shellwaltz_release_with_table);
      of_start =
          determined start (left (words ∷ [])) _ nothing (λ w c g o. refl)
          (λ M. records.start.Met.met) (in_records start.code records.Links.start);
      of_record_of =
          determined record_of (left (kept ∷ [])) _ nothing (λ w c g o. refl)
          (λ M. records.record_of.Met.met) (in_records record_of.code records.Links.record_of);
      of_short = determined short (left []) _ nothing (λ w c g o. refl) (λ M. records.short.Met.met) (in_records short.code records.Links.short);
      of_carry_out =
          determined carry_out (left (words ∷ count ∷ kept ∷ [])) _ nothing (λ w c g o. refl)
          (λ M. records.carry_out.Met.met) (in_records carry_out.code records.Links.carry_out);
      of_end =
          determined end (left (kept ∷ kept ∷ [])) _ nothing (λ w c g o. refl)
          (λ M. records.end.Met.met) (in_records end.code records.Links.end);
      of_reply =
          determined reply (left (words ∷ count ∷ kept ∷ words ∷ [])) _ nothing (λ w c g o. refl)
          (λ M. text.reply.Met.met) (in_text reply.code text.Links.reply);
      of_last =
          determined last (left (kept ∷ kept ∷ words ∷ [])) _ nothing (λ w c g o. refl)
          (λ M. text.last.Met.met) (in_text last.code text.Links.last);
    }
