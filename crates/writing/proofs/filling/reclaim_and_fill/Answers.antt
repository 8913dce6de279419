-- `writing::filling::reclaim_and_fill` meets its contract: the victim is one that may be reclaimed, so that what the whole reclaim leaves is
-- well formed and asks for no further reclaim; and where the steps end before that, nothing more is done.
use mathlib.Core.Path.{◌≡◌, sym, ap, ap₂, ◌∙◌}
use mathlib.Core.List.{List}
use Prim.Native.Nat.{ℕ, ◌<◌}
use native.Mathlib.Omega.{arith}
use Rattle.ranges.proofs.Searches.{index-some, index-none}
use Rattle.geometry.specs.declared.Geometry.{Geometry}
use Rattle.geometry.specs.Geometry.{d}
use Rattle.image.specs.Words.{Image, erase_count}
use Rattle.image.specs.Blocks.{least_worn_blank}
use Rattle.image.proofs.Facts.{sound-facts, sound-maps, formed-sound, facts-formed}
use Rattle.tables.specs.Tables.{Table}
use Rattle.flash.specs.declared.Step.{Step}
use Rattle.flash.specs.declared.run.Run.{Run}
use Rattle.flash.specs.Runs.{Does, of_run}
use Rattle.flash.specs.Steps.{run, erasures_in, first_of}
use Rattle.flash.specs.Writing.{copying, erases_victim, reclaiming, reclaiming_first, filling}
use Rattle.flash.specs.Tables.{table_copied, table_reclaimed, table_filled, table_reclaimed_first}
use Rattle.flash.proofs.Counts.{filling-erases-nothing}
use Rattle.flash.proofs.RunLaws.{as-steps, by-geo, both, none-left, done}
use Rattle.flash.proofs.Written.{Reclaims, reclaims, blank-in, victim-in-turn, victim-moved, reclaim-ready, reclaim-blank}
use Rattle.writing.proofs.Erasing.{before-erase, behind-erase}
use Rattle.writing.proofs.filling.reclaim_and_fill.Goals.{After-view-image, In-Some, After-erase_count-count, After-copy_live}
use Rattle.writing.proofs.filling.reclaim_and_fill.Goals as goal

module _ (before : Run) (v : ℕ) where
  -- the copying of a reclaim; the whole of it, and the image that this leaves
  abbrev copies : List Step
  copies = of_run copying before v (of_run least_worn_blank before) (d before.geo)

  abbrev reclaim : List Step
  reclaim = of_run reclaiming before v (of_run least_worn_blank before)

  abbrev base : Image
  base = run before.geo before.words.now reclaim

module _ (before : Run) (v : ℕ) (plan : of_run Reclaims before v) (n : ℕ) (ws : List ℕ) where
  abbrev all : List Step
  all = of_run reclaiming_first before v n ws

  no-erasure : erasures_in (copies before v) ≡ 0
  no-erasure = (victim-moved before.geo before.words.now plan.ready plan.must v plan.victim-is (d before.geo) (omega arith)).erasures

  no-more : erasures_in (filling before.geo (base before v) n ws) ≡ 0
  no-more = filling-erases-nothing before.geo (base before v) n ws

  module _ {copied : Run} (first : Does before copied (copies before v)) where
    -- none is left behind the copying
    no-copy-left : copied.left ≡ 0 → Does before copied all
    unfolding reclaiming_first reclaiming
    no-copy-left none = none-left (none-left first none _) none _

    none-erased : copied.left ≡ 0 → 0 ≡ erasures_in (first_of before.left all)
    unfolding reclaiming_first reclaiming
    none-erased none =
        sym (before-erase before.geo v _ (copies before v) _ no-erasure no-more before.left (omega (arith, first.left_after)))

    -- some are
    module _ (some : copied.left ≡ 0 → ⊥) {erased : Run} {count : ℕ} (counted : count ≡ of_run erase_count before v) (second : Does copied erased (erases_victim copied.geo v count)) where
      reclaimed : Does before erased (reclaim before v)
      unfolding reclaiming
      reclaimed = both first (as-steps (by-geo (λ geo. erases_victim geo v count) second first.same_geo) (ap (erases_victim before.geo v) counted))

      one-erasure : 1 ≡ erasures_in (first_of before.left all)
      unfolding reclaiming_first reclaiming
      one-erasure =
          sym (behind-erase before.geo v _ (copies before v) _ no-erasure no-more before.left (omega (arith, first.left_after, some)))

      -- none behind the erasing
      no-erase-left : erased.left ≡ 0 → Does before erased all
      unfolding reclaiming_first
      no-erase-left none = none-left reclaimed none _

      -- some there too: the image is that of the whole reclaim
      module _ (more : erased.left ≡ 0 → ⊥) where
        whole : erased.words.now ≡ base before v
        whole = done reclaimed more

        filled : {end : Run} → Does erased end (of_run filling erased n ws) → Does before end all
        unfolding reclaiming_first
        filled third = both reclaimed (as-steps third (ap₂ (λ (geo : Geometry) (image : Image). filling geo image n ws) reclaimed.same_geo whole))

        noted-all :
            (table : Table) {mid end : Table} →
            mid ≡ of_run table_copied before v (of_run least_worn_blank before) table (d before.geo) →
            end ≡ of_run table_filled erased n mid →
            end ≡ of_run table_reclaimed_first before v n table
        unfolding table_reclaimed_first table_reclaimed
        noted-all table p q = q ∙ rw (reclaimed.same_geo, whole, p)

-- what the contract asks, as the laws want it
planned-so : (c : After-view-image) → of_run Reclaims c.args.run.now c.args.v
planned-so c =
    let r = c.args.run.now in
    reclaims r.geo r.words.now c.args.v r.shaped c.requires.image_value c.requires.image_value_2 (rw c.view-image.ensures.words at c.view-image.result.words32)

pub least_worn_blank-requires : goal.least_worn_blank-requires
least_worn_blank-requires c =
    rw (c.view-image.ensures.words, c.view-image.ensures.geo) (sound-maps _ _ (sound-facts _ _ (formed-sound _ _ c.requires.image_value)))

-- the blank block
blank-below : (c : After-view-image) → of_run least_worn_blank c.args.run.now < c.args.run.now.geo.blocks
blank-below c =
    let r = c.args.run.now in
    let plan = planned-so c in
    blank-in r.geo r.words.now plan.ready plan.must c.args.v plan.victim-is

pub returns-in_default : goal.returns-in_default
returns-in_default c =
    let is = rw (c.view-image.ensures.words, c.view-image.ensures.geo) at c.least_worn_blank.ensures in
    absurd (omega (arith, blank-below (goal.at.returns-in_default c).After-view-image, index-none (sym is ∙ c.in_default.is)))

blank-is : (c : In-Some) → c.in-Some.blank ≡ of_run least_worn_blank c.args.run.now
blank-is c =
    let is = rw (c.view-image.ensures.words, c.view-image.ensures.geo) at c.least_worn_blank.ensures in
    sym (index-some (sym is ∙ c.in-Some.is)).0

pub block-requires : goal.block-requires
block-requires c = rw c.view-image.ensures.geo (planned-so (goal.at.block-requires c).After-view-image).victim-is.block

count-is : (c : After-erase_count-count) → c.erase_count-count.result ≡ of_run erase_count c.args.run.now c.args.v
count-is c =
    rw (c.block.ensures.image, c.block.ensures.index, c.view-image.ensures.words, c.view-image.ensures.geo) at c.erase_count-count.ensures

pub copy_live-requires-clause-each_in_turn : goal.copy_live-requires-clause-each_in_turn
copy_live-requires-clause-each_in_turn c =
    let r = c.args.run.now in
    let plan = planned-so (goal.at.copy_live-requires-clause-each_in_turn c).After-view-image in
    rw (blank-is (goal.at.copy_live-requires-clause-each_in_turn c).In-Some)
    (victim-in-turn r.geo r.words.now plan.ready plan.must c.args.v plan.victim-is)

-- the copying, into the blank block
first : (c : After-copy_live) → Does c.args.run.now c.copy_live.new.run (copies c.args.run.now c.args.v)
first c =
    let is = rw (c.view-image.ensures.words, c.view-image.ensures.geo) at c.least_worn_blank.ensures in
    let blank = sym (index-some (sym is ∙ c.in-Some.is)).0 in
    as-steps c.copy_live.ensures.run_after (ap (λ t. of_run copying c.args.run.now c.args.v t (d c.args.run.now.geo)) blank)

pub returns-then-run-eq0-clause-value : goal.returns-then-run-eq0-clause-value
returns-then-run-eq0-clause-value c =
    let at = goal.at.returns-then-run-eq0-clause-value c in
    none-erased _ _ (planned-so at.After-view-image) _ _ (first at.After-copy_live) c.if-run-eq0.true

pub returns-then-run-eq0-clause-run_after : goal.returns-then-run-eq0-clause-run_after
returns-then-run-eq0-clause-run_after c =
    let at = goal.at.returns-then-run-eq0-clause-run_after c in
    no-copy-left _ _ (planned-so at.After-view-image) _ _ (first at.After-copy_live) c.if-run-eq0.true

pub erase_victim-requires-clause-count_lt_ceiling : goal.erase_victim-requires-clause-count_lt_ceiling
erase_victim-requires-clause-count_lt_ceiling c =
    let at = goal.at.erase_victim-requires-clause-count_lt_ceiling c in
    omega (arith, (planned-so at.After-view-image).victim-is.wearable, count-is at.After-erase_count-count)

pub fill-requires-clause-image_value : goal.fill-requires-clause-image_value
fill-requires-clause-image_value c =
    let at = goal.at.fill-requires-clause-image_value c in
    let r = c.args.run.now in
    let plan = planned-so at.After-view-image in
    let copied = first at.After-copy_live in
    let count = count-is at.After-erase_count-count in
    let left = whole r c.args.v plan c.args.sector.now.number c.args.sector.now.words.now copied c.if-run-eq0.false count c.erase_victim.ensures (omega arith) in
    let geo = (reclaimed r c.args.v plan c.args.sector.now.number c.args.sector.now.words.now copied c.if-run-eq0.false count c.erase_victim.ensures).same_geo in
    rw (geo, left) (facts-formed r.geo _ (reclaim-ready r.geo r.words.now plan.ready plan.must c.args.v plan.victim-is).sound (reclaim-blank r.geo r.words.now plan.ready plan.must c.args.v plan.victim-is))

pub returns-then-run-gt0-clause-value : goal.returns-then-run-gt0-clause-value
returns-then-run-gt0-clause-value c =
    let at = goal.at.returns-then-run-gt0-clause-value c in
    one-erasure _ _ (planned-so at.After-view-image) _ _ (first at.After-copy_live) c.if-run-eq0.false (count-is at.After-erase_count-count) c.erase_victim.ensures

pub returns-then-run-gt0-clause-run_after : goal.returns-then-run-gt0-clause-run_after
returns-then-run-gt0-clause-run_after c =
    let at = goal.at.returns-then-run-gt0-clause-run_after c in
    filled _ _ (planned-so at.After-view-image) _ _ (first at.After-copy_live) c.if-run-eq0.false (count-is at.After-erase_count-count) c.erase_victim.ensures
    (omega arith) c.fill.ensures.run_after

pub returns-then-run-gt0-clause-table_after : goal.returns-then-run-gt0-clause-table_after
returns-then-run-gt0-clause-table_after c some =
    let at = goal.at.returns-then-run-gt0-clause-table_after c in
    let r = c.args.run.now in
    noted-all _ _ (planned-so at.After-view-image) _ c.args.sector.now.words.now (first at.After-copy_live) c.if-run-eq0.false (count-is at.After-erase_count-count) c.erase_victim.ensures
    (omega arith) c.args.table.now
    (c.copy_live.ensures.table_after c.if-run-eq0.false ∙ ap (λ t. of_run table_copied r c.args.v t c.args.table.now (d r.geo)) (blank-is at.In-Some))
    c.fill.ensures.table_after

pub returns-else-run-gt0-clause-value : goal.returns-else-run-gt0-clause-value
returns-else-run-gt0-clause-value c =
    let at = goal.at.returns-else-run-gt0-clause-value c in
    one-erasure _ _ (planned-so at.After-view-image) _ _ (first at.After-copy_live) c.if-run-eq0.false (count-is at.After-erase_count-count) c.erase_victim.ensures

pub returns-else-run-gt0-clause-run_after : goal.returns-else-run-gt0-clause-run_after
returns-else-run-gt0-clause-run_after c =
    let at = goal.at.returns-else-run-gt0-clause-run_after c in
    no-erase-left _ _ (planned-so at.After-view-image) _ _ (first at.After-copy_live) c.if-run-eq0.false (count-is at.After-erase_count-count) c.erase_victim.ensures
    (omega arith)
