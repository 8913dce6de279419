-- `tabled::release` meets its contract: a table of another length is refused, and else it releases as the call without one.
use mathlib.Core.Path.{sym, ◌∙◌}
use Rattle.flash.proofs.Stores.{run_none}
use Rattle.calls.specs.Calls.{release_steps}
use Rattle.tabled.specs.Calls.{release_steps_with, release_table}
use Rattle.tabled.proofs.TableLaws.{lent-well, release-refused, release-alike}
use Rattle.tabled.proofs.release.Goals as goal

pub returns-in-Err : goal.returns-in-Err
unfolding release_steps_with release_table
returns-in-Err c =
    let refused = release-refused _ _ _ (sym c.check_table.ensures ∙ c.in-Err.is) c.args.n in
    record {
      value = rw refused;
      image_after = rw refused (sym (run_none c.args.geo c.args.image.now));
      table_after = rw refused;
    }

pub returns : goal.returns
unfolding release_steps release_steps_with release_table
returns c =
    let well = lent-well _ _ _ (sym c.check_table.ensures ∙ c.in_default.is) in
    let alike = release-alike c.args.geo c.args.image.now c.args.table.now well.table_fits c.args.n in
    let done = c.release_by.ensures in
    record { value = rw alike done.value; image_after = rw alike done.image_after; table_after = rw alike done.table_after }
