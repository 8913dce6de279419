-- `image::view::View::find` meets its contract: no slot that the search has passed is live for n, so the first that is is the definition's, and where
-- there is none the definition finds nothing.
use Rattle.std.proofs.Common.{◌≡◌, ℕ, ◌<◌, false}
use Rattle.image.specs.Found.{Nothing}
use Rattle.image.specs.Slots.{slot, is_live_for, live_in}
use Rattle.image.proofs.view.View.find.Given as goal

abbrev pub invariant-loop-i : goal.invariant-loop-i
invariant-loop-i l = (l.found ≡ Nothing) × ((j : ℕ) → j < l.i → is_live_for l.n (slot l.self.geo l.self.words.now l.b j) ≡ false)

abbrev pub invariant-scan : goal.invariant-scan
invariant-scan l = (l.found ≡ Nothing) × ((e : ℕ) → e < l.b → live_in l.self.geo l.self.words.now e l.n ≡ false)
