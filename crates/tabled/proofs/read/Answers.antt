-- `tabled::read` meets its contract: a table of another length is refused, and else it reads as the call without one.
use mathlib.Core.Path.{sym, ◌∙◌}
use Rattle.calls.specs.Calls.{read_buffer}
use Rattle.tabled.specs.Calls.{read_buffer_with}
use Rattle.tabled.proofs.TableLaws.{lent-well, read-refused, read_alike}
use Rattle.tabled.proofs.read.Goals as goal

pub returns-in-Err : goal.returns-in-Err
unfolding read_buffer_with
returns-in-Err c =
    let refused = read-refused _ _ _ (sym c.check_table.ensures ∙ c.in-Err.is) c.args.n c.args.buffer.now in
    record { value = sym refused; buffer_after = rw refused }

pub returns : goal.returns
unfolding read_buffer read_buffer_with
returns c =
    let well = lent-well _ _ _ (sym c.check_table.ensures ∙ c.in_default.is) in
    let alike = read_alike c.args.geo c.args.image.now c.args.table.now well.table_fits c.args.n c.args.buffer.now in
    record { value = rw alike c.read_by.ensures.value; buffer_after = rw alike c.read_by.ensures.buffer_after }
