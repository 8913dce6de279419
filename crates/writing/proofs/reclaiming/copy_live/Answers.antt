-- `writing::reclaiming::copy_live` meets its contract: after the slots passed all the definition's steps so far are done; it stops where none is left.
use mathlib.Core.Bool.{true, false}
use mathlib.Core.List.{List, [], ◌++◌, append-nil}
use mathlib.Core.Path.{◌≡◌, refl, sym, ap, ◌∙◌}
use Prim.Native.Nat.{ℕ, ◌+◌, ◌≤◌, ◌<◌}
use native.Mathlib.Omega.{arith}
use native.Mathlib.Numerals.{add-one}
use lib.ListN.{length}
use Rattle.ranges.proofs.Searches.{best-passes}
use Rattle.geometry.specs.declared.Geometry.{Geometry}
use Rattle.geometry.specs.Geometry.{d}
use Rattle.image.specs.Found.{At}
use Rattle.image.specs.declared.Slot.{Slot}
use Rattle.image.specs.declared.Slot.TheVariants.{Free, Live, Dead, Faulty, Superseded}
use Rattle.image.specs.Words.{Image, contents}
use Rattle.image.specs.Slots.{own_slot, slot, is_free, find}
use Rattle.image.specs.Blocks.{lowest_free}
use Rattle.image.specs.WellFormed.{sound}
use Rattle.image.proofs.Own.{each-own, live-number}
use Rattle.image.proofs.SlotKinds.{NotLive}
use Rattle.image.proofs.Places.{contents-long, contents-words}
use Rattle.image.proofs.Facts.{sound-facts, sound-maps, free-is}
use Rattle.tables.specs.Tables.{Table, noted, slot_noted}
use Rattle.tables.proofs.Laws.{slot_same}
use Rattle.flash.specs.declared.run.Run.{Run}
use Rattle.flash.specs.Steps.{run}
use Rattle.flash.specs.Runs.{Does, of_run}
use Rattle.flash.specs.Placing.{placing}
use Rattle.flash.specs.Writing.{EachInTurn, copied_slot, copying}
use Rattle.flash.specs.Tables.{table_copied}
use Rattle.flash.proofs.RunLaws.{nothing, as-steps, by-geo, both, none-left, done-all}
use Rattle.flash.proofs.CopiesInto.{all-behind}
use Rattle.writing.proofs.reclaiming.copy_live.Invariants.{Copying}
use Rattle.writing.proofs.reclaiming.copy_live.Goals.{in-Live+else-run-eq0, in_default}
use Rattle.writing.proofs.reclaiming.copy_live.Goals.{After-own_slot, After-copy_contents, After-lowest_free-taken}
use Rattle.writing.proofs.reclaiming.copy_live.Goals as goal

-- a slot that is not live is not copied
not_copied : (geo : Geometry) (image : Image) (v t i : ℕ) (s : Slot) → NotLive s → copied_slot geo image v t i s ≡ []
not_copied geo image v t i Free other = refl
not_copied geo image v t i (Live n) other = absurd (other n refl)
not_copied geo image v t i Dead other = refl
not_copied geo image v t i Faulty other = refl
not_copied geo image v t i Superseded other = refl

module _ {before now : Run} {v t i : ℕ} {table₀ table : Table} (so-far : Copying before v t table₀ i now table) where
  -- the image is the one that the steps so far leave, of the same geometry
  same : now.geo ≡ before.geo
  same = so-far.done.same_geo

  image-is : now.words.now ≡ run before.geo before.words.now (of_run copying before v t i)
  image-is = done-all so-far.done so-far.whole

  -- one slot more, by what the image says of it now
  next : {s : Slot} → of_run slot now v i ≡ s → of_run copying before v t (i + 1) ≡ of_run copying before v t i ++ copied_slot before.geo now.words.now v t i s
  unfolding copying
  next e = rw (add-one, ← image-is, rw same at e)

  next-table : {s : Slot} → of_run slot now v i ≡ s → of_run table_copied before v t table₀ (i + 1) ≡ slot_noted before.geo table s (At t (lowest_free before.geo now.words.now t))
  unfolding table_copied
  next-table e = rw (add-one, ← image-is, rw same at e, ← so-far.table_is)

  -- the image is sound, a live slot is where its number is found now, and a slot is free for it
  module _ (turns : of_run EachInTurn before v t) (l : i < d before.geo) where
    still-sound : of_run sound now ≡ true
    still-sound = rw (same, image-is) (turns.sound_then i l)

    -- and so it is what its own entry and map bit say
    own-now : v < before.geo.blocks → of_run slot now v i ≡ of_run own_slot now v i
    own-now block = each-own (sound-facts now.geo now.words.now still-sound).current (rw same block) (rw same l)

    in_place : {n : ℕ} → of_run slot now v i ≡ Live n → At v i ≡ of_run find now n
    in_place {n} e = rw (same, image-is) (sym (turns.found_there i n l (rw (same, image-is) at e)))

    has_room : {n : ℕ} → of_run slot now v i ≡ Live n → of_run lowest_free now t < d now.geo
    has_room {n} e = rw (same, image-is) (turns.room_there i n l (rw (same, image-is) at e))

    free_found : {n : ℕ} → of_run slot now v i ≡ Live n → of_run slot now t (of_run lowest_free now t) ≡ Free
    unfolding lowest_free
    free_found e = free-is _ (best-passes (λ x y. false) (d now.geo) (λ j. is_free (of_run slot now t j)) (has_room e))

  -- a slot that is not live changes nothing
  unchanged : {s : Slot} → of_run slot now v i ≡ s → NotLive s → Copying before v t table₀ (i + 1) now table
  unchanged {s} kind other =
      let e = next kind ∙ ap (λ ws. of_run copying before v t i ++ ws) (not_copied before.geo now.words.now v t i s other) ∙ append-nil _ in
      record {
        done = as-steps so-far.done (sym e);
        whole = omega (arith, so-far.whole, ap length e);
        table_is = sym (next-table kind ∙ slot_same before.geo table s _ other);
      }

  -- a live slot, whose contents are ws, and the lowest free one: the definition's steps up to it, as far as there are some left
  module _
      {n taken : ℕ} {ws : List ℕ} {after : Run}
      (e : of_run slot now v i ≡ Live n)
      (contents-are : ws ≡ of_run contents now v i)
      (lowest : taken ≡ of_run lowest_free now t)
      (placed : Does now after (of_run placing now n ws t taken))
    where
      with_it : of_run copying before v t (i + 1) ≡ of_run copying before v t i ++ placing before.geo now.words.now n ws t taken
      with_it = rw (next e, rw same at lowest, rw same at contents-are)

      so_far : Does before after (of_run copying before v t (i + 1))
      so_far = as-steps (both so-far.done (by-geo (λ geo. placing geo now.words.now n ws t taken) placed same)) (sym with_it)

      -- where none is left, nothing of the later slots is
      ended : after.left ≡ 0 → (m : ℕ) → i + 1 ≤ m → Does before after (of_run copying before v t m)
      ended none m l =
          let rest = all-behind before.geo before.words.now v t (i + 1) m l in
          as-steps (none-left so_far none rest.0) (sym rest.1)

      copied : {table' : Table} → (after.left ≡ 0 → ⊥) → table' ≡ noted after.geo table n (At t taken) → Copying before v t table₀ (i + 1) after table'
      copied some marked =
          record {
            done = so_far;
            whole = omega (arith, so_far.left_after, some);
            table_is = rw so_far.same_geo at marked ∙ sym (rw (rw same at lowest) (next-table e));
          }

pub loop-i-init : goal.loop-i-init
unfolding copying table_copied
loop-i-init c = (omega arith, record { done = nothing _; whole = omega arith; table_is = refl })

-- the slot of this turn is live for the number that the code found in it
turn : (c : After-own_slot) → c.loop-i.i < d c.args.run.now.geo
turn c = omega arith

own-is : (c : After-own_slot) → of_run slot c.loop-i.run c.args.v c.loop-i.i ≡ c.own_slot.result
own-is c =
    own-now c.loop-i.invariant.1 c.requires.each_in_turn (turn c) c.requires.v_lt_blocks
    ∙ sym (rw (c.block-from.ensures.image, c.block-from.ensures.index, c.view-image.ensures.words, c.view-image.ensures.geo) at c.own_slot.ensures)

pub lowest_free-taken-requires : goal.lowest_free-taken-requires
lowest_free-taken-requires c =
    let here = c.loop-i.invariant.1 in
    let now = sound-facts _ _ (still-sound here c.requires.each_in_turn (turn (goal.at.lowest_free-taken-requires c).After-own_slot)) in
    rw (c.block.ensures.image, c.block.ensures.index, c.view-image.ensures.words, c.view-image.ensures.geo) ((sound-maps _ _ now).agrees _ (rw here.done.same_geo c.requires.t_lt_blocks))

pub invariant_of-sector : goal.invariant_of-sector
invariant_of-sector c =
    let from = c.block-from.result in
    let l : c.loop-i.i < d from.image.geo =
    rw (c.block-from.ensures.image, c.view-image.ensures.geo, c.loop-i.invariant.1.done.same_geo) (turn (goal.at.invariant_of-sector c).After-own_slot) in
    record {
      whole = ap length c.copy_contents.ensures ∙ contents-long from.image.geo from.image.words.now from.image.shaped from.in_image l;
      words32 = rw c.copy_contents.ensures (contents-words from.image.geo from.image.words.now from.index c.loop-i.i from.image.shaped from.in_image l from.image.words32);
    }

pub place_over-requires-clause-number_lt_logical : goal.place_over-requires-clause-number_lt_logical
place_over-requires-clause-number_lt_logical c =
    live-number _ _ _ _ (own-is (goal.at.place_over-requires-clause-number_lt_logical c).After-own_slot ∙ c.in-Live.is)

-- the slot that it goes to
lowest-is : (c : After-lowest_free-taken) → c.lowest_free-taken.result ≡ of_run lowest_free c.loop-i.run c.args.t
lowest-is c = rw (c.block.ensures.image, c.block.ensures.index, c.view-image.ensures.words, c.view-image.ensures.geo) at c.lowest_free-taken.ensures

pub place_over-requires-clause-i_bound : goal.place_over-requires-clause-i_bound
place_over-requires-clause-i_bound c =
    let own = (goal.at.place_over-requires-clause-i_bound c).After-own_slot in
    rw (lowest-is (goal.at.place_over-requires-clause-i_bound c).After-lowest_free-taken)
    (has_room c.loop-i.invariant.1 c.requires.each_in_turn (turn own) (own-is own ∙ c.in-Live.is))

pub place_over-requires-clause-i_value : goal.place_over-requires-clause-i_value
place_over-requires-clause-i_value c =
    let own = (goal.at.place_over-requires-clause-i_value c).After-own_slot in
    rw (lowest-is (goal.at.place_over-requires-clause-i_value c).After-lowest_free-taken)
    (free_found c.loop-i.invariant.1 c.requires.each_in_turn (turn own) (own-is own ∙ c.in-Live.is))

pub place_over-requires-clause-value : goal.place_over-requires-clause-value
place_over-requires-clause-value c =
    let own = (goal.at.place_over-requires-clause-value c).After-own_slot in
    in_place c.loop-i.invariant.1 c.requires.each_in_turn (turn own) (own-is own ∙ c.in-Live.is)

-- its contents
contents-are : (c : After-copy_contents) → c.copy_contents.new.buffer ≡ of_run contents c.loop-i.run c.args.v c.loop-i.i
contents-are c = rw (c.block-from.ensures.image, c.block-from.ensures.index, c.view-image.ensures.words, c.view-image.ensures.geo) at c.copy_contents.ensures

pub returns-then-run-eq0-clause-run_after : goal.returns-then-run-eq0-clause-run_after
returns-then-run-eq0-clause-run_after c =
    let at = goal.at.returns-then-run-eq0-clause-run_after c in
    let l = turn at.After-own_slot in
    ended c.loop-i.invariant.1 (own-is at.After-own_slot ∙ c.in-Live.is) (contents-are at.After-copy_contents) (lowest-is at.After-lowest_free-taken)
    c.place_over.ensures c.if-run-eq0.true (d c.args.run.now.geo) (omega (arith, l))

pub word_at-requires-clause-i_bound : goal.word_at-requires-clause-i_bound
word_at-requires-clause-i_bound c =
    let own = (goal.at.word_at-requires-clause-i_bound c).After-own_slot in
    let taken : c.lowest_free-taken.result < d c.loop-i.run.geo =
    rw (lowest-is (goal.at.word_at-requires-clause-i_bound c).After-lowest_free-taken)
    (has_room c.loop-i.invariant.1 c.requires.each_in_turn (turn own) (own-is own ∙ c.in-Live.is)) in
    let here : c.loop-i.i < d c.loop-i.run.geo = rw c.loop-i.invariant.1.done.same_geo (turn own) in
    rw c.place_over.ensures.same_geo (omega (arith, taken, here))

pub loop-i-preserved : goal.loop-i-preserved
loop-i-preserved c =
    let here = c.loop-i.invariant.1 in
    let this = own-is (goal.at.loop-i-preserved c).After-own_slot in (
      omega arith,
      elim c.match-own_slot.branch [
        | in-Live+else-run-eq0 w ↦ rw (w.run-is, w.table-is)
            (copied here (this ∙ w.in-Live.is)
            (rw (c.block-from.ensures.image, c.block-from.ensures.index, c.view-image.ensures.words, c.view-image.ensures.geo) at w.copy_contents.ensures)
            (rw (w.block.ensures.image, w.block.ensures.index, c.view-image.ensures.words, c.view-image.ensures.geo) at w.lowest_free-taken.ensures)
            w.place_over.ensures w.if-run-eq0.false (rw w.word_at.ensures at w.note.ensures))
        | in_default w ↦ rw (w.run-is, w.table-is) (unchanged here this w.in_default.not-Live)
      ],
    )
