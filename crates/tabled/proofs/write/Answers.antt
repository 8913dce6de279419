-- `tabled::write` meets its contract: a table of another length is refused, and else it writes as the call without one.
use mathlib.Core.Path.{sym, ◌∙◌}
use Rattle.flash.proofs.Stores.{run_none}
use Rattle.calls.specs.Calls.{write_steps}
use Rattle.tabled.specs.Calls.{write_steps_with, write_table}
use Rattle.tabled.proofs.TableLaws.{lent-well, write-refused, write-alike}
use Rattle.tabled.proofs.write.Goals as goal

pub returns-in-Err : goal.returns-in-Err
unfolding write_steps_with write_table
returns-in-Err c =
    let refused = write-refused _ _ _ (sym c.check_table.ensures ∙ c.in-Err.is) c.args.n c.args.buffer.now in
    record {
      value = rw refused;
      image_after = rw refused (sym (run_none c.args.geo c.args.image.now));
      table_after = rw refused;
    }

pub returns : goal.returns
unfolding write_steps write_steps_with write_table
returns c =
    let well = lent-well _ _ _ (sym c.check_table.ensures ∙ c.in_default.is) in
    let alike = write-alike c.args.geo c.args.image.now c.args.table.now well.table_fits c.args.n c.args.buffer.now in
    let done = c.write_by.ensures in
    record { value = rw alike done.value; image_after = rw alike done.image_after; table_after = rw alike done.table_after }
