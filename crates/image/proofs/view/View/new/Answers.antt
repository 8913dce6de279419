-- `image::view::View::new` meets its contract: what passes the test is an image. Assumes nothing.
use mathlib.Core.Path.{sym, ◌∙◌}
use borrow.Author.Tests.{eqb-true}
use Rattle.ranges.proofs.Tests.{both-pass}
use Rattle.geometry.proofs.Laws.{limits-hold}
use Rattle.image.proofs.view.View.new.Goals as goal

pub invariant_of-result-clause-shaped : goal.invariant_of-result-clause-shaped
invariant_of-result-clause-shaped c =
    let both = both-pass _ _ (sym c.fits.ensures ∙ c.if-not-fits.false) in
    record { limits = limits-hold _ both.0; long = eqb-true _ _ both.1 }
