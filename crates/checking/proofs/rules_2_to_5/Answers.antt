-- `checking::rules_2_to_5` meets its contract: the marks know the numbers of all slots before this one, every slot passed keeps the
-- four rules, and the first that breaks one decides.
use mathlib.Core.Path.{◌≡◌, refl, sym, ap, ◌∙◌}
use mathlib.Core.Bool.{Bool, true, false, not, ◌&&◌}
use Prim.Native.Nat.{ℕ, ◌+◌, ◌/◌, ◌%◌, ◌<◌}
use native.Mathlib.Omega.{arith}
use lib.ListN.{length, get_or}
use Rattle.ranges.specs.Range.{all_below}
use Rattle.ranges.proofs.Tests.{both-pass, not-all}
use Rattle.bits.specs.Word.{is_set}
use Rattle.geometry.specs.Geometry.{d}
use Rattle.geometry.proofs.Laws.{map-covers, logical-small}
use Rattle.image.specs.Words.{map_bit, entry, contents}
use Rattle.image.specs.declared.Slot.{Slot}
use Rattle.image.specs.declared.Slot.TheVariants.{Live}
use Rattle.image.specs.Slots.{slot_of, own_slot, is_free_entry, is_faulty, is_live_with}
use Rattle.image.specs.WellFormed.{all_ones, live_before}
use Rattle.image.proofs.Entries.{live-parts}
use Rattle.image.proofs.SlotKinds.{not_live_with, not_faulty}
use Rattle.image.proofs.Places.{map-long, free-map-at, entries-long, entries-at}
use Rattle.rules.specs.declared.NumberSet.{NumberSet}
use Rattle.rules.specs.Marks.{seen, Marks}
use Rattle.rules.proofs.RuleLaws.{all_more}
use Rattle.rules.proofs.MarkLaws.{marks-next, other-learnt, live-learnt}
use Rattle.checking.specs.OwnKinds.{four_by_own}
use Rattle.checking.proofs.CheckLaws.{keeps, own-free, set_keeps, own-used, used-keeps, keeps-rules, rest-breaks}
use Rattle.checking.proofs.rules_2_to_5.Goals.{else-is_set+in-Live+else-not-mark, else-is_set+in_default, then-is_set+else-not-free_kept}
use Rattle.checking.proofs.rules_2_to_5.Goals.{After-is_set, At-loop-i}
use Rattle.checking.proofs.rules_2_to_5.Goals as goal

pub returns-then-not-rest_set-clause-value : goal.returns-then-not-rest_set-clause-value
returns-then-not-rest_set-clause-value c = sym (rest-breaks _ _ _ (sym c.rest_set.ensures ∙ c.if-not-rest_set.true))

pub loop-i-init : goal.loop-i-init
unfolding all_below
loop-i-init c = (c.requires, refl)

-- a turn of the loop
module _ (turn : At-loop-i) where
  -- the tests of all slots are the four rules
  rules :
      all_below (d turn.args.block.now.image.geo) (keeps turn.args.block.now.image.geo turn.args.block.now.image.words.now turn.args.block.now.index)
      ≡ four_by_own turn.args.block.now.image.geo turn.args.block.now.image.words.now turn.args.block.now.index
  rules =
      keeps-rules _ _ _ (sym turn.rest_set.ensures ∙ turn.if-not-rest_set.false)

  -- a slot that breaks one of them decides
  decides :
      turn.loop-i.i < d turn.args.block.now.image.geo →
      keeps turn.args.block.now.image.geo turn.args.block.now.image.words.now turn.args.block.now.index turn.loop-i.i ≡ false →
      false ≡ four_by_own turn.args.block.now.image.geo turn.args.block.now.image.words.now turn.args.block.now.index
  decides l broken = sym (not-all (d turn.args.block.now.image.geo) _ l broken) ∙ rules

-- there are d entries
long : (c : At-loop-i) → length c.entries-entry-items.result.now ≡ d c.args.block.now.image.geo
long c =
    ap length c.entries-entry-items.ensures
    ∙ entries-long c.args.block.now.image.geo c.args.block.now.image.words.now c.args.block.now.image.shaped c.args.block.now.in_image

pub bounds-map-i : goal.bounds-map-i
bounds-map-i c =
    let block = c.args.block.now in
    omega (arith, long (goal.at.bounds-map-i c).At-loop-i, ap length c.map_words-map.ensures, map-long block.image.geo block.image.words.now block.image.shaped block.in_image, map-covers block.image.geo block.image.shaped.limits)

pub free_kept-requires : goal.free_kept-requires
free_kept-requires c = omega (arith, long (goal.at.free_kept-requires c).At-loop-i)

-- slot i, whose map bit and entry are read
module _ (c : After-is_set) where
  abbrev word_read : ℕ
  word_read = get_or c.entries-entry-items.result.now c.loop-i.i 0

  inside : c.loop-i.i < d c.args.block.now.image.geo
  inside = omega (arith, ap length c.entries-entry-items.ensures, entries-long c.args.block.now.image.geo c.args.block.now.image.words.now c.args.block.now.image.shaped c.args.block.now.in_image)

  bit_is : map_bit c.args.block.now.image.geo c.args.block.now.image.words.now c.args.block.now.index c.loop-i.i ≡ c.is_set.result
  bit_is =
      sym
      (c.is_set.ensures
      ∙ ap (λ ws. is_set (get_or ws (c.loop-i.i / 32) 0) (c.loop-i.i % 32)) c.map_words-map.ensures
      ∙ ap (λ (w : ℕ). is_set w (c.loop-i.i % 32)) (free-map-at c.args.block.now.image.geo c.args.block.now.image.words.now c.args.block.now.index c.loop-i.i (omega (arith, inside, map-covers c.args.block.now.image.geo c.args.block.now.image.shaped.limits))))

  entry-is : entry c.args.block.now.image.geo c.args.block.now.image.words.now c.args.block.now.index c.loop-i.i ≡ word_read
  entry-is =
      sym (ap (λ ws. get_or ws c.loop-i.i 0) c.entries-entry-items.ensures ∙ entries-at c.args.block.now.image.geo c.args.block.now.image.words.now c.args.block.now.index c.loop-i.i inside)

  abbrev kept : Bool
  kept = keeps c.args.block.now.image.geo c.args.block.now.image.words.now c.args.block.now.index c.loop-i.i

  -- where the bit is set, this is all that is asked of it
  set_is :
      c.is_set.result ≡ true →
      {r : Bool} →
      r ≡ (is_free_entry word_read && all_ones (contents c.args.block.now.image.geo c.args.block.now.image.words.now c.args.block.now.index c.loop-i.i)) →
      kept ≡ r
  set_is set e = set_keeps _ _ _ _ (bit_is ∙ set) ∙ sym (rw entry-is e)

  -- what the invariant asks after the c.before.before.before.before
  abbrev Passed : NumberSet → Type 0
  Passed marks =
      Marks c.args.block.now.image.geo (own_slot c.args.block.now.image.geo c.args.block.now.image.words.now) c.args.block.now.index (c.loop-i.i + 1) marks.words × (kept ≡ true)

  -- a slot that is not live leaves the marks
  other :
      {s : Slot} →
      own_slot c.args.block.now.image.geo c.args.block.now.image.words.now c.args.block.now.index c.loop-i.i ≡ s →
      ((f : ℕ → Bool) → is_live_with f s ≡ false) →
      kept ≡ true →
      (marks : NumberSet) →
      marks ≡ c.loop-i.marks →
      Passed marks
  other kind none keep marks e = (rw e (other-learnt _ _ c.loop-i.invariant.0 (λ f. ap (is_live_with f) kind ∙ none f)), keep)

pub returns-then-not-free_kept-clause-value : goal.returns-then-not-free_kept-clause-value
returns-then-not-free_kept-clause-value c = let broken = set_is (goal.at.returns-then-not-free_kept-clause-value c).After-is_set c.if-is_set.true c.free_kept.ensures ∙ c.if-not-free_kept.true in
    decides (goal.at.returns-then-not-free_kept-clause-value c).At-loop-i (inside (goal.at.returns-then-not-free_kept-clause-value c).After-is_set) broken

-- one whose bit is clear, by its kind
module _
    (c : After-is_set) (clear : c.is_set.result ≡ false)
    {s : Slot}
    (kind : slot_of c.args.block.now.image.geo.logical false (word_read c) ≡ s)
  where
    slot_is : own_slot c.args.block.now.image.geo c.args.block.now.image.words.now c.args.block.now.index c.loop-i.i ≡ s
    slot_is = own-used _ _ _ _ (bit_is c ∙ clear) (entry-is c) ∙ kind

    keeps-is :
        kept c
        ≡ (not (is_faulty s)
        && not (is_live_with (live_before c.args.block.now.image.geo (own_slot c.args.block.now.image.geo c.args.block.now.image.words.now) c.args.block.now.index c.loop-i.i) s))
    keeps-is = used-keeps _ _ _ _ (bit_is c ∙ clear) slot_is

    used-other :
        ((f : ℕ → Bool) → is_live_with f s ≡ false) → is_faulty s ≡ false → (marks : NumberSet) → marks ≡ c.loop-i.marks → Passed c marks
    used-other none proper = other c slot_is none (keeps-is ∙ rw (proper, none _))

-- a live number is one of the numbers, and was live before exactly where it was seen
module _
    (c : After-is_set) (clear : c.is_set.result ≡ false)
    (n : ℕ)
    (kind : slot_of c.args.block.now.image.geo.logical false (word_read c) ≡ Live n)
  where
    number_small : n < c.args.block.now.image.geo.logical
    number_small = (live-parts _ _ _ n kind).2

    live-keeps : kept c ≡ not (seen c.loop-i.marks.words n)
    live-keeps = keeps-is c clear kind ∙ sym (ap not (c.loop-i.invariant.0.says n number_small))

pub mark-requires : goal.mark-requires
mark-requires c = let small = number_small (goal.at.mark-requires c).After-is_set c.if-is_set.false _ (sym c.slot_of.ensures ∙ c.in-Live.is) in
    omega (arith, small, logical-small c.args.block.now.image.geo c.args.block.now.image.shaped.limits)

pub returns-then-not-mark-clause-value : goal.returns-then-not-mark-clause-value
returns-then-not-mark-clause-value c = let again =
    live-keeps (goal.at.returns-then-not-mark-clause-value c).After-is_set c.if-is_set.false _ (sym c.slot_of.ensures ∙ c.in-Live.is)
    ∙ sym c.mark.ensures.value
    ∙ c.if-not-mark.true in
    decides (goal.at.returns-then-not-mark-clause-value c).At-loop-i (inside (goal.at.returns-then-not-mark-clause-value c).After-is_set) again

pub returns-in-Faulty-clause-value : goal.returns-in-Faulty-clause-value
returns-in-Faulty-clause-value c = let faulty = keeps-is (goal.at.returns-in-Faulty-clause-value c).After-is_set c.if-is_set.false (sym c.slot_of.ensures ∙ c.in-Faulty.is) in
    decides (goal.at.returns-in-Faulty-clause-value c).At-loop-i (inside (goal.at.returns-in-Faulty-clause-value c).After-is_set) faulty

pub loop-i-preserved : goal.loop-i-preserved
loop-i-preserved c =
    let loop = c.loop-i in
    let passed : Passed (goal.at.loop-i-preserved c).After-is_set c.if-is_set.marks =
    elim c.if-is_set.branch [
      | then-is_set+else-not-free_kept w ↦ let tests = w.if-not-free_kept.false in
          let free = ap is_free_entry (entry-is (goal.at.loop-i-preserved c).After-is_set) ∙ (both-pass _ _ (sym w.free_kept.ensures ∙ tests)).0 in
          other (goal.at.loop-i-preserved c).After-is_set (own-free _ _ _ _ (bit_is (goal.at.loop-i-preserved c).After-is_set ∙ w.if-is_set.true) free) (λ f. refl) (set_is (goal.at.loop-i-preserved c).After-is_set w.if-is_set.true w.free_kept.ensures ∙ tests) _ w.marks-is
      | else-is_set+in-Live+else-not-mark w ↦ let kind = sym w.slot_of.ensures ∙ w.in-Live.is in (
        rw w.marks-is (live-learnt _ _ loop.invariant.0 _ (slot_is (goal.at.loop-i-preserved c).After-is_set w.if-is_set.false kind) _ (w.mark.ensures.long ∙ sym loop.invariant.0.long) w.mark.ensures.by_index),
        live-keeps (goal.at.loop-i-preserved c).After-is_set w.if-is_set.false _ kind ∙ sym w.mark.ensures.value ∙ w.if-not-mark.false,
      )
      | else-is_set+in_default w ↦ used-other (goal.at.loop-i-preserved c).After-is_set w.if-is_set.false (sym w.slot_of.ensures) (not_live_with _ w.in_default.not-Live) (not_faulty _ (w.in_default.not-Faulty)) _ w.marks-is
    ] in
    (passed.0, all_more loop.i _ loop.invariant.1 passed.1)

pub returns-clause-marks_2 : goal.returns-clause-marks_2
returns-clause-marks_2 c = let end : c.loop-i.i ≡ d c.args.block.now.image.geo = omega (arith, long (goal.at.returns-clause-marks_2 c).At-loop-i) in
    λ r. marks-next _ _ (rw end at c.loop-i.invariant.0)

pub returns-clause-value : goal.returns-clause-value
returns-clause-value c = let end : c.loop-i.i ≡ d c.args.block.now.image.geo = omega (arith, long (goal.at.returns-clause-value c).At-loop-i) in
    sym (rw end at c.loop-i.invariant.1) ∙ rules (goal.at.returns-clause-value c).At-loop-i
