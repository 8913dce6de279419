-- A whole write, by rules 1 and 2 and by rule 3: what it leaves, what it costs and what it pays, and that a right table stays right.
-- Assumes nothing.
use mathlib.Core.Path.{◌≡◌, refl, sym, ap, ap₂, ◌∙◌}
use mathlib.Core.Logic.{◌≢◌}
use mathlib.Core.Bool.{Bool, true, false, not, ◌&&◌, ◌||◌, and-false, true≢false}
use mathlib.Core.List.{List, ◌++◌}
use mathlib.Core.Option.{some}
use Prim.Native.Nat.{ℕ, ◌+◌, ◌*◌, ◌<◌, ◌≤◌}
use native.Mathlib.Decide.{ℕ_discrete}
use native.Mathlib.Omega.{arith}
use lib.ListN.{length}
use Rattle.ranges.specs.Range.{one_if, sum_below, count_below}
use Rattle.ranges.proofs.Tests.{unless, all_of, not-all, any_of, any_at}
use Rattle.ranges.proofs.Sums.{sum-ext, sum-prefix, sum-update, sum-update-two, one-if-le, count-one, count-positive}
use Rattle.ranges.proofs.Searches.{best-passes, best-some}
use Rattle.geometry.specs.declared.Geometry.{Geometry}
use Rattle.geometry.specs.Geometry.{Limits, d, g, sector_words}
use Rattle.geometry.proofs.Laws.{d-positive, g-positive, g-at-most-d}
use Rattle.image.specs.declared.Slot.{Slot}
use Rattle.image.specs.Words.{Image, Shaped, Words32, erase_count}
use Rattle.image.specs.Slots.{slot, is_free, is_live, find, map_of, is_at}
use Rattle.image.specs.Blocks.{blank, full, is_open, free_slots, live_slots, dead_slots, less_worn, least_worn_blank, preferred, victim}
use Rattle.image.specs.WellFormed.{ceiling, R6, well_formed}
use Rattle.image.proofs.Capacity.{block-parts, blank-free, full-free, shut-full, blank-not-full, free-is-a-block, victim-dead}
use Rattle.image.proofs.Facts.{sound-facts, formed-sound}
use Rattle.tables.specs.Tables.{right_table}
use Rattle.flash.specs.declared.Step.{Step}
use Rattle.flash.specs.Steps.{run, words_in, erasures_in, erases_block, leaves_asked}
use Rattle.flash.specs.Placing.{placing}
use Rattle.flash.specs.Writing.{Reclaim, EachInTurn, filling, must_reclaim, copying, at_turn, reclaiming, reclaiming_first, writing, planned}
use Rattle.flash.specs.Tables.{table_copied, table_reclaimed, table_filled, table_reclaimed_first, table_written}
use Rattle.flash.proofs.Stores.{run-append, asked-append, words_append, erasures-append}
use Rattle.flash.proofs.Clearing.{erases-append, erases-none}
use Rattle.flash.proofs.Counts.{placing-erasures, filling-erases-nothing}
use Rattle.flash.proofs.Unused.{SparesUnused, spares-append, placing-spares}
use Rattle.flash.proofs.Filling.{Ready, Target}
use Rattle.flash.proofs.Placed.{Placed, placing-exact, placing-placed, placing-bounds, placing-cost, placing-shaped, placing-words32}
use Rattle.flash.proofs.Kept.{free-as-before, placed-sound, placed-right, placed-here, placed-other, placed-free}
use Rattle.flash.proofs.Moving.{Received, InOrder, Moved, filled_by, in_order, moved, each-in-turn}
use Rattle.flash.proofs.Reclaimed.{Reclaimed, reclaimed}
use Rattle.flash.proofs.Chosen.{Choice, blank-slot, slots-blank, choice, reclaim-says}
use Rattle.flash.proofs.Planned.{plan-says}

-- the free slots of an image, and the sum of its erase counts
abbrev pub free_in : Geometry → Image → ℕ
free_in geo image = sum_below geo.blocks (free_slots geo image)

abbrev pub worn_in : Geometry → Image → ℕ
worn_in geo image = sum_below geo.blocks (erase_count geo image)

-- what these steps of a write of n leave, cost and pay, where v is the block that they erase if they erase one
pub record Wrote (geo : Geometry) (image : Image) (n : ℕ) (ws : List ℕ) (v : ℕ) (steps : List Step) : Type 0 where
  pub asked : leaves_asked geo image steps ≡ true
  pub ready : Ready geo (run geo image steps)
  pub still-blank : R6 geo (run geo image steps) ≡ true
  pub here : map_of geo (run geo image steps) n ≡ some ws
  pub other : (m : ℕ) → m ≢ n → map_of geo (run geo image steps) m ≡ map_of geo image m
  pub erases : erasures_in steps ≤ 1
  pub plain : erasures_in steps ≡ 0 → words_in steps ≤ 135
  pub words : words_in steps + 133 * g geo ≤ 133 * d geo + 136
  pub worn : worn_in geo (run geo image steps) ≡ worn_in geo image + erasures_in steps
  pub free : free_in geo (run geo image steps) + 1 ≡ free_in geo image + erasures_in steps * dead_slots geo image v
  pub gain : erasures_in steps ≡ 1 → g geo ≤ dead_slots geo image v
  pub which : (b : ℕ) → erases_block steps b ≡ true → (erasures_in steps ≡ 1) × (b ≡ v)
  pub spares : SparesUnused geo steps
  pub low : erasures_in steps ≡ 1 → free_in geo image ≡ d geo

-- what is written: a number and a sector
pub record Sector (geo : Geometry) (n : ℕ) (ws : List ℕ) : Type 0 where
  pub number : n < geo.logical
  pub long : length ws ≡ sector_words
  pub words : Words32 ws

-- ---- rules 1 and 2

module _ (geo : Geometry) (image : Image) (n : ℕ) (ws : List ℕ) (start : Ready geo image) (sector : Sector geo n ws) (c : Choice geo image) where
  within : Limits geo
  within = start.shaped.limits

  abbrev b : ℕ
  b = c.b

  abbrev i : ℕ
  i = c.i

  abbrev after : Image
  after = run geo image (placing geo image n ws b i)

  pub choice-target : Target geo image n ws b i
  choice-target =
      record {
        number = sector.number;
        long = sector.long;
        words = sector.words;
        block = c.chosen.block;
        slot_is = c.chosen.slot_is;
        free = c.chosen.free;
      }

  p : Placed geo image after n ws b i
  p = placing-placed geo image n ws b i start choice-target

  ready-after : Ready geo after
  ready-after =
      record {
        shaped = placing-shaped geo image n ws b i start choice-target;
        words = placing-words32 geo image n ws b i start choice-target;
        sound = placed-sound geo image after n ws b i start choice-target p (placing-bounds geo image n ws b i start choice-target);
      }

  -- the spare block is still blank
  blank-after : R6 geo after ≡ true
  unfolding R6 blank
  blank-after =
      let spare = c.chosen.spare in
      any_of geo.blocks (blank geo after) c.chosen.spare-in
      (all_of (d geo)
      (λ j l.
      free-as-before geo image after n ws b i start choice-target p spare j c.chosen.spare-in l (λ x y. c.chosen.spare-other x)
      ∙ ap is_free (blank-slot geo image spare c.chosen.spare-blank j l)))

  placed-wrote : (v : ℕ) → Wrote geo image n ws v (placing geo image n ws b i)
  placed-wrote v =
      let none = placing-erasures geo image n ws b i in
      let cost = placing-cost geo image n ws b i start choice-target in
      let few : words_in (placing geo image n ws b i) ≤ 135 =
      omega (arith, cost, one-if-le (is_at (find geo image n)), one-if-le (full geo after b)) in
      let paid = placed-free geo image after n ws b i start choice-target p in
      record {
        asked = (placing-exact geo image n ws b i start choice-target).asked;
        ready = ready-after;
        still-blank = blank-after;
        here = placed-here geo image after n ws b i start choice-target p (placing-bounds geo image n ws b i start choice-target);
        other = placed-other geo image after n ws b i start choice-target p (placing-bounds geo image n ws b i start choice-target);
        erases = omega (arith, none);
        plain = λ e. few;
        words = omega (arith, few, g-at-most-d geo within);
        worn = sum-ext geo.blocks (λ x l. p.counts x l) ∙ omega (arith, none);
        free = rw none (omega (arith, paid));
        gain = λ e. absurd (omega (arith, none));
        spares = placing-spares geo within image n ws b i c.chosen.slot_is;
        which = λ x e. absurd (true≢false (sym e ∙ erases-none (placing geo image n ws b i) none x));
        low = λ e. absurd (omega (arith, none));
      }

  pub filling-wrote : (v : ℕ) → Wrote geo image n ws v (filling geo image n ws)
  unfolding filling
  filling-wrote v = rw c.chosen.at (placed-wrote v)

  -- a right table stays right when n is noted in the chosen slot
  pub filling-right : table_filled geo image n (right_table geo image) ≡ right_table geo (run geo image (filling geo image n ws))
  unfolding filling table_filled
  filling-right =
      rw c.chosen.at
      (placed-right geo image after n ws b i start choice-target p (placing-bounds geo image n ws b i start choice-target))

-- ---- rule 3, with any full block of at least g dead slots whose count is below the ceiling

pub record Reclaimable (geo : Geometry) (image : Image) (v : ℕ) : Type 0 where
  pub block : v < geo.blocks
  pub filled : full geo image v ≡ true
  pub dead : g geo ≤ dead_slots geo image v
  pub wearable : erase_count geo image v < ceiling

module _
    (geo : Geometry) (image : Image) (start : Ready geo image)
    (must : must_reclaim geo image ≡ true)
    (v : ℕ) (victim-is : Reclaimable geo image v)
  where
    limits : Limits geo
    limits = start.shaped.limits

    pub none_open : (c : ℕ) → c < geo.blocks → is_open geo image c ≡ false
    none_open = (reclaim-says geo image limits must).0

    pub one-blank : count_below geo.blocks (blank geo image) ≡ 1
    one-blank = (reclaim-says geo image limits must).1

    -- the blank block
    abbrev t : ℕ
    t = least_worn_blank geo image

    some-blank : (c : ℕ) × (c < geo.blocks) × (blank geo image c ≡ true)
    some-blank = count-positive geo.blocks (blank geo image) (omega (arith, one-blank))

    pub blank-in : t < geo.blocks
    unfolding least_worn_blank
    blank-in = best-some (less_worn geo image) geo.blocks (blank geo image) some-blank.1 some-blank.2

    pub is-blank : blank geo image t ≡ true
    unfolding least_worn_blank
    is-blank = best-passes (less_worn geo image) geo.blocks (blank geo image) blank-in

    pub apart : v ≢ t
    apart e = blank-not-full geo image start.sound limits t is-blank (ap (full geo image) (sym e) ∙ victim-is.filled)

    pub live-few : live_slots geo image v + g geo ≤ d geo
    live-few =
        omega (arith, block-parts geo image start.sound v victim-is.block, full-free geo image start.sound v victim-is.filled, victim-is.dead)

    pub spare : live_slots geo image v < d geo
    spare = omega (arith, live-few, g-positive geo limits)

    pub has_room : live_slots geo image v ≤ free_slots geo image t
    has_room = omega (arith, spare, blank-free geo image start.sound t is-blank)

    abbrev base : Image
    base = run geo image (reclaiming geo image v (least_worn_blank geo image))

    r : Reclaimed geo image v t (reclaiming geo image v (least_worn_blank geo image))
    unfolding reclaiming
    r =
        reclaimed geo image v t start victim-is.block blank-in apart has_room victim-is.wearable

    pub reclaim-leaves : Reclaimed geo image v t (reclaiming geo image v (least_worn_blank geo image))
    reclaim-leaves = r

    pub victim-in-turn : EachInTurn geo image v t
    victim-in-turn = each-in-turn geo image v t start victim-is.block blank-in apart has_room

    -- how the image stands when slot m of the victim has its turn
    pub victim-moved :
        (m : ℕ) → m ≤ d geo → Moved geo image v t m (copying geo image v t m) (table_copied geo image v t (right_table geo image) m)
    victim-moved = moved geo image v t start victim-is.block blank-in apart has_room

    -- the blank block is filled in order, then and at the end
    in-blank : (now : Image) (m : ℕ) → m ≤ d geo → Received geo image now v t m → InOrder geo image now v t m
    in-blank now m l h =
        in_order geo image now v t m l (blank-slot geo image t is-blank)
        (omega (arith, spare, sum-prefix {m = m} {n = d geo} (λ i. one_if (is_live (slot geo image v i))) l)) h

    pub reclaim-order : InOrder geo image base v t (d geo)
    reclaim-order = in-blank base (d geo) (omega arith) r.received

    -- a slot of the victim is as it was at the start when it has its turn
    pub victim-at-turn :
        (m : ℕ) → m < d geo → slot geo (at_turn geo image v t m) v m ≡ slot geo image v m
    victim-at-turn m l = (victim-moved m (omega arith)).later m (omega arith) l

    -- a right table stays right when each copied number is noted where it was placed: the erasing moves none
    pub reclaiming-right : table_reclaimed geo image v (right_table geo image) ≡ right_table geo base
    unfolding table_reclaimed
    reclaiming-right = r.right

    -- the blank block is not filled by it
    reclaim-words : words_in (reclaiming geo image v (least_worn_blank geo image)) ≡ 133 * live_slots geo image v + 1
    reclaim-words =
        let kept-open : filled_by geo image base t ≡ false = rw reclaim-order.not_full (and-false (not (full geo image t))) in
        omega (arith, r.words, ap one_if kept-open)

    -- afterwards no reclaim is needed: the victim is blank, and the other block is open or blank too
    pub victim-blank : blank geo base v ≡ true
    victim-blank = slots-blank geo base v r.emptied

    pub target-blank : live_slots geo image v ≡ 0 → blank geo base t ≡ true
    target-blank e = slots-blank geo base t (λ j l. reclaim-order.left-free j (omega arith) l)

    pub target-open : 1 ≤ live_slots geo image v → is_open geo base t ≡ true
    unfolding blank full
    target-open l =
        let some-used = not-all (d geo) (λ j. is_free (slot geo base t j)) {i = 0} (d-positive geo limits) (reclaim-order.used 0 l) in
        let some-free =
        any_of (d geo) (λ j. is_free (slot geo base t j)) {i = live_slots geo image v} spare
        (ap is_free (reclaim-order.left-free (live_slots geo image v) (omega arith) spare)) in
        rw (some-used, some-free)

    pub no_more : must_reclaim geo base ≡ false
    no_more = unless (must_reclaim geo base) (λ again. go (reclaim-says geo base limits again) (ℕ_discrete (live_slots geo image v) 0))
      where
        go :
            ((c : ℕ) → c < geo.blocks → is_open geo base c ≡ false) × (count_below geo.blocks (blank geo base) ≡ 1) →
            Dec (live_slots geo image v ≡ 0) →
            ⊥
        go says (yes e) = apart (count-one geo.blocks (blank geo base) says.1 victim-is.block blank-in victim-blank (target-blank e))
        go says (no n) = true≢false (sym (target-open (omega arith)) ∙ says.0 t blank-in)

    pub reclaim-choice : Choice geo base
    reclaim-choice = choice geo base limits victim-is.block victim-blank no_more

    pub reclaim-ready : Ready geo base
    reclaim-ready = r.ready

    pub reclaim-blank : R6 geo base ≡ true
    unfolding R6
    reclaim-blank = any_of geo.blocks (blank geo base) victim-is.block victim-blank

    -- the free slots grow by the dead slots of the victim
    gained : free_in geo base ≡ free_in geo image + dead_slots geo image v
    gained =
        let change =
        sum-update-two geo.blocks {f = free_slots geo image} {f' = free_slots geo base} victim-is.block blank-in apart
        (λ c l n n'. sum-ext (d geo) (λ j h. ap (λ (s : Slot). one_if (is_free s)) (r.others c j l n n' h))) in
        omega (
          arith,
          change,
          r.received.free_of_target,
          blank-free geo base r.ready.sound v victim-blank,
          blank-free geo image start.sound t is-blank,
          full-free geo image start.sound v victim-is.filled,
          block-parts geo image start.sound v victim-is.block,
        )

    worn-by-one : worn_in geo base ≡ worn_in geo image + 1
    worn-by-one =
        omega (
          arith,
          sum-update geo.blocks {f = erase_count geo image} {f' = erase_count geo base} victim-is.block (λ c l n. r.counts c l n),
          r.count,
        )

    module _ (n : ℕ) (ws : List ℕ) (sector : Sector geo n ws) where
      abbrev first : List Step
      first = reclaiming geo image v (least_worn_blank geo image)

      abbrev second : List Step
      second = filling geo base n ws

      w : Wrote geo base n ws v second
      w = filling-wrote geo base n ws r.ready sector reclaim-choice v

      placed : erasures_in second ≡ 0
      placed = filling-erases-nothing geo base n ws

      same-image : run geo image (first ++ second) ≡ run geo base second
      same-image = run-append geo image first second

      once : erasures_in (first ++ second) ≡ 1
      once = omega (arith, erasures-append first second, r.erasures, placed)

      -- the one block that these steps erase
      one_block : (b : ℕ) → erases_block (first ++ second) b ≡ (erases_block first b || erases_block second b) → erases_block (first ++ second) b ≡ true → b ≡ v
      one_block b parts e = r.which b (go (erases_block first b) (sym parts ∙ e))
        where
          go : (x : Bool) → (x || erases_block second b) ≡ true → x ≡ true
          go true t = refl
          go false t = sym (erases-none second placed b) ∙ t

      pub reclaiming-wrote : Wrote geo image n ws v (reclaiming_first geo image v n ws)
      unfolding reclaiming_first
      reclaiming-wrote =
          record {
            asked = asked-append geo image first second ∙ ap₂ ◌&&◌ r.asked w.asked;
            ready = rw same-image w.ready;
            still-blank = rw same-image w.still-blank;
            here = rw same-image w.here;
            other = λ m x. rw same-image (w.other m x ∙ r.map m);
            erases = omega (arith, once);
            plain = λ e. absurd (omega (arith, once));
            words = omega (arith, words_append first second, reclaim-words, w.plain placed, live-few);
            worn = rw (same-image, once) (w.worn ∙ omega (arith, worn-by-one, placed));
            free = rw (same-image, once) (omega (arith, gained, rw placed at w.free));
            gain = λ e. victim-is.dead;
            which = λ b e. (once, one_block b (erases-append first second b) e);
            spares = spares-append geo first second r.spares w.spares;
            low = λ e. free-is-a-block geo image start.sound limits none_open one-blank;
          }

      -- and it stays right when n is then noted in the slot that was taken for it
      pub reclaiming-first-right :
          table_reclaimed_first geo image v n (right_table geo image) ≡ right_table geo (run geo image (reclaiming_first geo image v n ws))
      unfolding reclaiming_first table_reclaimed_first
      reclaiming-first-right =
          rw (same-image, reclaiming-right) (filling-right geo base n ws r.ready sector reclaim-choice)

-- ---- the write

-- the victim by the usual rule is such a block, unless its count is at the ceiling
module _ (geo : Geometry) (image : Image) (start : Ready geo image) (must : must_reclaim geo image ≡ true) where
  rule-limits : Limits geo
  rule-limits = start.shaped.limits

  abbrev says : ((c : ℕ) → c < geo.blocks → is_open geo image c ≡ false) × (count_below geo.blocks (blank geo image) ≡ 1)
  says = reclaim-says geo image rule-limits must

  -- of blocks 0 and 1 one is not blank, so it is full
  some-full : (c : ℕ) × (c < geo.blocks) × (full geo image c ≡ true)
  some-full = go (blank geo image 0) refl (blank geo image 1) refl
    where
      zero_in : 0 < geo.blocks
      zero_in = omega (arith, rule-limits.blocks_low)

      one_in : 1 < geo.blocks
      one_in = omega (arith, rule-limits.blocks_low)

      go : (x : Bool) → blank geo image 0 ≡ x → (y : Bool) → blank geo image 1 ≡ y → (c : ℕ) × (c < geo.blocks) × (full geo image c ≡ true)
      go false e y e' = (0, zero_in, shut-full geo image start.sound 0 (says.0 0 zero_in) e)
      go true e false e' = (1, one_in, shut-full geo image start.sound 1 (says.0 1 one_in) e')
      go true e true e' = absurd (let z = count-one geo.blocks (blank geo image) says.1 zero_in one_in e e' in omega arith)

  pub victim_in : victim geo image < geo.blocks
  unfolding victim
  victim_in = best-some (preferred geo image) geo.blocks (full geo image) some-full.1 some-full.2

  pub victim-reclaimable : (erase_count geo image (victim geo image) ≡ ceiling → ⊥) → Reclaimable geo image (victim geo image)
  unfolding victim
  victim-reclaimable below =
      record {
        block = victim_in;
        filled = best-passes (preferred geo image) geo.blocks (full geo image) victim_in;
        dead = victim-dead geo image start.sound rule-limits says.0 says.1;
        wearable = omega (arith, start.sound.worn (victim geo image) victim_in);
      }

-- what a plan to reclaim v gives: the image is one that laws speak of, rule 3 applies, and v may be reclaimed
pub record Reclaims (geo : Geometry) (image : Image) (v : ℕ) : Type 0 where
  pub ready : Ready geo image
  pub must : must_reclaim geo image ≡ true
  pub victim-is : Reclaimable geo image v

-- by what the contracts ask
pub reclaims :
    (geo : Geometry) (image : Image) (v : ℕ) →
    Shaped geo image → well_formed geo image ≡ true → planned geo image ≡ Reclaim v → Words32 image → Reclaims geo image v
reclaims geo image v shaped formed plan words =
    let says = plan-says geo image v plan in
    let ready : Ready geo image = record { shaped = shaped; words = words; sound = sound-facts geo image (formed-sound geo image formed) } in
    record { ready = ready; must = says.0; victim-is = rw says.1 (victim-reclaimable geo image ready says.0 says.2) }

-- an accepted write
module _
    (geo : Geometry) (image : Image) (n : ℕ) (ws : List ℕ)
    (start : Ready geo image)
    (formed : R6 geo image ≡ true)
    (sector : Sector geo n ws)
    (below : must_reclaim geo image ≡ true → erase_count geo image (victim geo image) ≡ ceiling → ⊥)
  where
    -- the block that rule 3 reclaims, or the slot that rules 1 and 2 take
    pub by-reclaim : must_reclaim geo image ≡ true → Reclaimable geo image (victim geo image)
    by-reclaim must = victim-reclaimable geo image start must (below must)

    pub by-choice : must_reclaim geo image ≡ false → Choice geo image
    unfolding R6
    by-choice no-need =
        let empty = any_at geo.blocks (blank geo image) formed in
        choice geo image start.shaped.limits empty.1 empty.2 no-need

    pub writing-wrote : Wrote geo image n ws (victim geo image) (writing geo image n ws)
    unfolding writing
    writing-wrote = go (must_reclaim geo image) refl
      where
        go : (x : Bool) → must_reclaim geo image ≡ x → Wrote geo image n ws (victim geo image) (writing geo image n ws)
        go true must = rw must (reclaiming-wrote geo image start must (victim geo image) (by-reclaim must) n ws sector)
        go false no-need = rw no-need (filling-wrote geo image n ws start sector (by-choice no-need) (victim geo image))

    -- a right table stays right: with a reclaim or without, each number is noted in the slot where it was placed
    pub writing-right : table_written geo image n (right_table geo image) ≡ right_table geo (run geo image (writing geo image n ws))
    unfolding writing table_written
    writing-right = go (must_reclaim geo image) refl
      where
        go : (x : Bool) → must_reclaim geo image ≡ x → table_written geo image n (right_table geo image) ≡ right_table geo (run geo image (writing geo image n ws))
        go true must = rw must (reclaiming-first-right geo image start must (victim geo image) (by-reclaim must) n ws sector)
        go false no-need = rw no-need (filling-right geo image n ws start sector (by-choice no-need))
