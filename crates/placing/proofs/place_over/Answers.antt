-- `placing::place_over` meets its contract: each call carries out what is left for one of the steps (a) to (g).
use mathlib.Core.List.{List, [], ◌∷◌}
use mathlib.Core.Path.{◌≡◌, refl, ap, ◌∙◌}
use Prim.Native.Nat.{ℕ, ◌+◌, ◌<◌}
use native.Mathlib.Omega.{arith}
use lib.ListN.{length}
use Rattle.bits.specs.Word.{cleared}
use Rattle.geometry.specs.Places.{place, entry_word}
use Rattle.image.specs.Found.{Found}
use Rattle.image.specs.Slots.{valid_bit, current_bit, find}
use Rattle.image.proofs.Facts.{sound-facts}
use Rattle.image.proofs.Reading.{entry-inside}
use Rattle.flash.specs.declared.Step.TheVariants.{Program}
use Rattle.flash.specs.declared.run.Run.{Run}
use Rattle.flash.specs.Runs.{Does}
use Rattle.flash.specs.Placing.{entry_at, programs_entry, takes_slot, stores_contents, fills_slot, closes_block, placing}
use Rattle.flash.proofs.RunLaws.{as-steps, by-geo, both, at-place, done, none-left}
use Rattle.flash.proofs.Filling.{Ready, Target}
use Rattle.flash.proofs.Placed.{filled-placed}
use Rattle.flash.proofs.Kept.{maps-kept}
use Rattle.flash.proofs.CodeLaws.{found_inside}
use Rattle.placing.proofs.place_over.Goals.{After-entries_start, After-view, After-store_contents, After-program_entry-2}
use Rattle.placing.proofs.place_over.Goals as goal

-- what the calls do, one after the other, are the steps (a) to (f)
filled :
    (n : ℕ) (ws : List ℕ) (b i : ℕ) {r A B C D E F : Run} {old : Found} {entry outdated retired at : ℕ} →
    old ≡ find r.geo r.words.now n →
    entry ≡ entry_at r.geo r.words.now old →
    outdated ≡ cleared entry current_bit →
    retired ≡ cleared outdated valid_bit →
    at ≡ place r.geo b (entry_word r.geo i) →
    Does r A (takes_slot r.geo r.words.now b i) →
    Does A B (programs_entry A.geo old outdated) →
    Does B C (stores_contents B.geo b i ws) →
    Does C D (Program at (0xE0000000 + n) ∷ []) →
    Does D E (Program at (0xC0000000 + n) ∷ []) →
    Does E F (programs_entry E.geo old retired) →
    Does r F (fills_slot r.geo r.words.now (find r.geo r.words.now n) n ws b i)
unfolding fills_slot
filled n ws b i {old = old} {outdated = outdated} {retired = retired} o y z w h a b' c d e f =
    let of_b = b'.same_geo ∙ a.same_geo in
    let of_e = e.same_geo ∙ d.same_geo ∙ c.same_geo ∙ of_b in
    rw (← o, ← y, ← z, ← w)
    (both a
    (both (by-geo (λ geo. programs_entry geo old outdated) b' a.same_geo)
    (both (by-geo (λ geo. stores_contents geo b i ws) c of_b)
    (both (at-place d h refl)
    (both (at-place e h refl)
    (by-geo (λ geo. programs_entry geo old retired) f of_e))))))

-- the slot's entry lies in the image
inside : (c : After-entries_start) → c.entries_start.result + c.args.i < length c.args.run.now.words.now
inside c =
    omega (arith, entry-inside _ _ c.args.run.now.shaped {i = c.args.i} c.requires.b_lt_blocks c.requires.i_bound)

-- the geometry after (c)
stored : (c : After-store_contents) → c.store_contents.new.run.geo ≡ c.args.run.now.geo
stored c = c.store_contents.ensures.same_geo ∙ c.program_entry.ensures.same_geo ∙ c.take_slot.ensures.same_geo

-- the run after (f)
six : (c : After-program_entry-2) →
    let r = c.args.run.now in
    let sector = c.args.sector.now in
    Does r c.program_entry-2.new.run (fills_slot r.geo r.words.now (find r.geo r.words.now sector.number) sector.number sector.words.now c.args.b c.args.i)
six c =
    filled c.args.sector.now.number c.args.sector.now.words.now c.args.b c.args.i
    c.requires.value
    (rw (c.view.ensures.geo, c.view.ensures.words) at c.entry_at.ensures)
    c.clear_bit-outdated.ensures
    c.clear_bit.ensures
    (omega (arith, c.entries_start.ensures))
    c.take_slot.ensures
    c.program_entry.ensures
    c.store_contents.ensures
    (at-place c.program.ensures refl c.begun.ensures)
    (at-place c.program-2.ensures refl c.complete.ensures)
    c.program_entry-2.ensures

pub overflow_add-entry : goal.overflow_add-entry
overflow_add-entry c = omega (arith, inside (goal.at.overflow_add-entry c).After-entries_start)

pub entry_at-requires : goal.entry_at-requires
entry_at-requires c = rw c.view.ensures.geo (found_inside _ _ _ c.requires.value)

pub program_entry-requires : goal.program_entry-requires
program_entry-requires c = rw c.take_slot.ensures.same_geo (found_inside _ _ _ c.requires.value)

-- the slot's entry lies in the image of a run that has its geometry
still-inside : (c : After-entries_start) (r : Run) → r.geo ≡ c.args.run.now.geo → c.entries_start.result + c.args.i < length r.words.now
still-inside c r e =
    omega (arith, entry-inside r.geo r.words.now r.shaped {b = c.args.b} {i = c.args.i} (rw e c.requires.b_lt_blocks) (rw e c.requires.i_bound), ap (λ geo. place geo c.args.b (entry_word geo c.args.i)) e)

pub program-requires : goal.program-requires
program-requires c = still-inside (goal.at.program-requires c).After-entries_start c.store_contents.new.run (stored (goal.at.program-requires c).After-store_contents)

pub program-requires-2 : goal.program-requires-2
program-requires-2 c =
    still-inside (goal.at.program-requires-2 c).After-entries_start c.program.new.self (c.program.ensures.same_geo ∙ stored (goal.at.program-requires-2 c).After-store_contents)

pub program_entry-requires-2 : goal.program_entry-requires-2
program_entry-requires-2 c =
    rw (c.program-2.ensures.same_geo, c.program.ensures.same_geo, stored (goal.at.program_entry-requires-2 c).After-store_contents) (found_inside _ _ _ c.requires.value)

-- what the placing starts from, as the laws want it
ready : (c : After-view) → let r = c.args.run.now in Ready r.geo r.words.now
ready c =
    record {
      shaped = c.args.run.now.shaped;
      words = rw c.view.ensures.words at c.view.result.words32;
      sound = sound-facts _ _ c.requires.image_value;
    }

target : (c : After-view) →
    let r = c.args.run.now in
    let sector = c.args.sector.now in
    Target r.geo r.words.now sector.number sector.words.now c.args.b c.args.i
target c =
    record {
      number = c.requires.number_lt_logical;
      long = c.args.sector.now.whole;
      words = c.args.sector.now.words32;
      block = c.requires.b_lt_blocks;
      slot_is = c.requires.i_bound;
      free = c.requires.i_value;
    }

pub returns-then-run-gt0 : goal.returns-then-run-gt0
unfolding placing
returns-then-run-gt0 c =
    let r = c.args.run.now in
    let filled = six (goal.at.returns-then-run-gt0 c).After-program_entry-2 in
    both filled
    (as-steps c.close_block.ensures
    (ap (λ geo. closes_block geo c.program_entry-2.new.run.words.now c.args.b) filled.same_geo
    ∙ ap (λ words. closes_block r.geo words c.args.b) (done filled (omega arith))))

pub returns-else-run-gt0 : goal.returns-else-run-gt0
unfolding placing
returns-else-run-gt0 c = none-left (six (goal.at.returns-else-run-gt0 c).After-program_entry-2) (omega arith) _

pub close_block-requires-clause-none_superseded : goal.close_block-requires-clause-none_superseded
close_block-requires-clause-none_superseded c =
    let r = c.args.run.now in
    let sector = c.args.sector.now in
    let start = (goal.at.close_block-requires-clause-none_superseded c).After-view in
    let filled = six (goal.at.close_block-requires-clause-none_superseded c).After-program_entry-2 in
    let p = filled-placed r.geo r.words.now sector.number sector.words.now c.args.b c.args.i (ready start) (target start) in
    rw (filled.same_geo, done filled (omega arith)) p.current

pub close_block-requires-clause-b_value : goal.close_block-requires-clause-b_value
close_block-requires-clause-b_value c =
    let r = c.args.run.now in
    let sector = c.args.sector.now in
    let start = (goal.at.close_block-requires-clause-b_value c).After-view in
    let filled = six (goal.at.close_block-requires-clause-b_value c).After-program_entry-2 in
    let p = filled-placed r.geo r.words.now sector.number sector.words.now c.args.b c.args.i (ready start) (target start) in
    let maps = maps-kept r.geo r.words.now _ sector.number sector.words.now c.args.b c.args.i (ready start) (target start) p in
    rw (filled.same_geo, done filled (omega arith)) (maps c.args.b c.requires.b_lt_blocks)
