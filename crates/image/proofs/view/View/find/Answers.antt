-- `image::view::View::find` meets its contract: no slot that the search has passed is live for n, so the first that is is the definition's, and where
-- there is none the definition finds nothing.
use Rattle.std.proofs.Common.{◌≡◌, sym, ap, ◌∙◌, ◌<◌, length, below_more, arith}
use Rattle.ranges.proofs.Tests.{none_of}
use Rattle.geometry.specs.Geometry.{d}
use Rattle.geometry.specs.Places.{place, entry_word}
use Rattle.geometry.proofs.Laws.{logical-small}
use Rattle.image.specs.Words.{map_bit, entry, entries}
use Rattle.image.specs.Slots.{slot, own_slot, is_live_for}
use Rattle.image.proofs.Entries.{live_test}
use Rattle.image.proofs.Own.{each-own}
use Rattle.image.proofs.Places.{entries-long, entries-at}
use Rattle.image.proofs.Finding.{find_none, find_at}
use Rattle.image.proofs.view.View.find.Goals.{After-entries-entry-items, After-is_live_for}
use Rattle.image.proofs.view.View.find.Goals as goal

-- there are d entries
long : (c : After-entries-entry-items) → length c.entries-entry-items.result.now ≡ d c.args.self.now.geo
long c =
    ap length c.entries-entry-items.ensures
    ∙ rw (c.block.ensures.image, c.block.ensures.index)
    (entries-long c.args.self.now.geo c.args.self.now.words.now c.args.self.now.shaped (omega arith))

-- the slot of this turn is live for n exactly when the code says so
live_here : (c : After-is_live_for) → is_live_for c.args.n (slot c.args.self.now.geo c.args.self.now.words.now c.scan.b c.loop-i.i) ≡ c.is_live_for.result
unfolding own_slot entry
live_here c =
    let geo = c.args.self.now.geo in
    let image = c.args.self.now.words.now in
    let b = c.scan.b in
    let i = c.loop-i.i in
    let read : c.entries-entry-items.result.now ≡ entries geo image b = c.entries-entry-items.ensures ∙ rw (c.block.ensures.image, c.block.ensures.index) in
    let inside : i < d geo = omega (arith, ap length read, entries-long geo image c.args.self.now.shaped {b = b} (omega arith)) in
    rw (each-own c.requires.none_superseded {b = b} {i = i} (omega arith) inside, c.is_live_for.ensures, read, entries-at geo image b i inside)
    (live_test geo.logical (map_bit geo image b i) (entry geo image b i) c.args.n (c.args.self.now.words32.small (place geo b (entry_word geo i))) c.requires.n_lt_logical (omega (arith, logical-small geo c.args.self.now.shaped.limits)))

pub loop-i-preserved : goal.loop-i-preserved
loop-i-preserved c =
    let l = c.loop-i in
    (l.invariant.0, below_more _ _ l.invariant.1 (live_here (goal.at.loop-i-preserved c).After-is_live_for ∙ c.if-is_live_for.false))

pub scan-preserved : goal.scan-preserved
scan-preserved c =
    let l = c.loop-i in
    (l.invariant.0, below_more _ _ c.scan.invariant.1 (none_of _ (λ j h. l.invariant.1 j (omega (arith, long (goal.at.scan-preserved c).After-entries-entry-items)))))

pub returns-after-scan : goal.returns-after-scan
returns-after-scan c = let s = c.scan in s.invariant.0 ∙ sym (find_none _ _ _ (λ b l. s.invariant.1 b (omega arith)))

pub returns-then-is_live_for : goal.returns-then-is_live_for
returns-then-is_live_for c =
    sym
    (find_at _ _ _ _ _
    (omega arith)
    (omega (arith, long (goal.at.returns-then-is_live_for c).After-entries-entry-items))
    c.scan.invariant.1
    c.loop-i.invariant.1
    (live_here (goal.at.returns-then-is_live_for c).After-is_live_for ∙ c.if-is_live_for.true))
