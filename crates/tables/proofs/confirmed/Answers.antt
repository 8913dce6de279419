-- `tables::confirmed` meets its contract: where b is a block of the image, the entry of its slot i says whether that is live for n.
use Rattle.std.proofs.Common.{sym, ap, ◌≡◌, ◌∙◌, length, arith}
use borrow.Author.Tests.{lt-ltb}
use Rattle.geometry.specs.Places.{place, entry_word}
use Rattle.geometry.proofs.Laws.{logical-small}
use Rattle.image.specs.Words.{map_bit, entry, entries}
use Rattle.image.specs.Slots.{own_slot}
use Rattle.image.proofs.Entries.{live_test}
use Rattle.image.proofs.Own.{each-own}
use Rattle.image.proofs.Places.{entries-long, entries-at}
use Rattle.tables.proofs.confirmed.Goals as goal

pub bounds-entries-i : goal.bounds-entries-i
bounds-entries-i c =
    let geo = c.args.image.now.geo in
    let image = c.args.image.now.words.now in
    let from : c.entries.result.now ≡ entries geo image c.args.b = c.entries.ensures ∙ rw (c.block.ensures.image, c.block.ensures.index) in
    omega (arith, c.requires.i_bound, ap length from, entries-long geo image c.args.image.now.shaped {b = c.args.b} c.if-b-image.true)

pub returns-then-b-image : goal.returns-then-b-image
unfolding own_slot entry
returns-then-b-image c =
    let a = c.args in
    let geo = a.image.now.geo in
    let image = a.image.now.words.now in
    rw (lt-ltb _ _ c.if-b-image.true, each-own c.requires.none_superseded {b = a.b} {i = a.i} c.if-b-image.true c.requires.i_bound)
    (rw (c.is_live_for.ensures, c.entries.ensures, c.block.ensures.image, c.block.ensures.index, entries-at geo image a.b a.i c.requires.i_bound)
    (sym
    (live_test geo.logical (map_bit geo image a.b a.i) (entry geo image a.b a.i) a.n
    (a.image.now.words32.small (place geo a.b (entry_word geo a.i)))
    c.requires.n_lt_logical
    (omega (arith, logical-small geo a.image.now.shaped.limits)))))
