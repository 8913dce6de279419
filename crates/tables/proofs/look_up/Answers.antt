-- `tables::look_up` meets its contract: a slot that is live for n is the one that is found, by R5.
use mathlib.Core.Path.{sym, ◌∙◌}
use borrow.Author.Tests.{ltb-true}
use Rattle.ranges.proofs.Tests.{both-pass}
use Rattle.image.proofs.Facts.{sound-facts, live-for}
use Rattle.image.proofs.Finding.{live-found}
use Rattle.tables.proofs.Laws.{told-slot}
use Rattle.tables.proofs.look_up.Goals as goal

pub confirmed-requires-clause-none_superseded : goal.confirmed-requires-clause-none_superseded
confirmed-requires-clause-none_superseded c = (sound-facts _ _ c.requires.image_value).current

pub returns-then-confirmed : goal.returns-then-confirmed
returns-then-confirmed c =
    let geo = c.args.image.now.geo in
    let image = c.args.image.now.words.now in
    let says = both-pass _ _ (sym c.confirmed.ensures ∙ c.if-confirmed.true) in
    sym
    (live-found geo image (sound-facts geo image c.requires.image_value).once c.args.n _ _
    (record { block = ltb-true _ _ says.0; slot_is = rw c.d-d.ensures (told-slot geo c.args.image.now.shaped.limits _); live = live-for _ _ says.1 }))

pub find-requires-clause-none_superseded : goal.find-requires-clause-none_superseded
find-requires-clause-none_superseded c = (sound-facts _ _ c.requires.image_value).current
