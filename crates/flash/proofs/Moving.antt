-- The copying of a reclaim, slot by slot, into any block with a free slot for each live one: what is kept, what is where, what it costs, and that a
-- right table stays right. Assumes nothing.
use mathlib.Core.Path.{◌≡◌, refl, sym, ap, ap₂, ◌∙◌}
use mathlib.Core.Logic.{◌≢◌, ⊎_elim}
use mathlib.Core.Bool.{Bool, true, false, not, ◌&&◌, true≢false}
use mathlib.Core.List.{List, [], ◌++◌, append-nil}
use Prim.Native.Nat.{ℕ, zero, suc, ◌+◌, ◌*◌, ◌<◌, ◌≤◌}
use native.Mathlib.Decide.{ℕ_discrete}
use native.Mathlib.Omega.{arith}
use Rattle.ranges.specs.Range.{one_if, sum_below, count_below}
use Rattle.ranges.proofs.Tests.{below_suc, passes-or-fails}
use Rattle.ranges.proofs.Sums.{sum-prefix, sum-update, count-le, count-every, count-nth, count-grows, nth-alone}
use Rattle.ranges.proofs.Searches.{first-is}
use Rattle.geometry.specs.declared.Geometry.{Geometry}
use Rattle.geometry.specs.Geometry.{d}
use Rattle.image.specs.declared.Slot.{Slot}
use Rattle.image.specs.declared.Slot.TheVariants.{Free, Live, Dead, Faulty, Superseded}
use Rattle.image.specs.Found.{Found}
use Rattle.image.specs.Found.{At}
use Rattle.image.specs.Words.{Image, Words32, erase_count, entry, contents}
use Rattle.image.specs.Slots.{slot, is_free, is_live, find, map_of, is_at}
use Rattle.image.specs.Blocks.{full, free_slots, live_slots, lowest_free}
use Rattle.image.proofs.Own.{live-number}
use Rattle.image.proofs.Facts.{Sound, facts-sound, free-is, live-is}
use Rattle.image.proofs.Finding.{live-found, map_at}
use Rattle.image.proofs.Places.{contents-long, contents-words}
use Rattle.tables.specs.Tables.{Table, right_table, noted, slot_noted}
use Rattle.flash.specs.declared.Step.{Step}
use Rattle.flash.specs.Steps.{run, words_in, erasures_in, leaves_asked}
use Rattle.flash.specs.Placing.{placing}
use Rattle.flash.specs.Writing.{copied_slot, copying, EachInTurn}
use Rattle.flash.specs.Ahead.{live_before, free_before}
use Rattle.flash.specs.Tables.{table_copied}
use Rattle.flash.proofs.Stores.{run-append, asked-append, words_append, erasures-append}
use Rattle.flash.proofs.Counts.{placing-erasures}
use Rattle.flash.proofs.Unused.{SparesUnused, spares-none, spares-append, placing-spares}
use Rattle.flash.proofs.Filling.{Ready, Target, free-not-full}
use Rattle.flash.proofs.Placed.{Placed, Bounds, placing-exact, placing-placed, placing-bounds, placing-cost, placing-shaped, placing-words32}
use Rattle.flash.proofs.Changed.{not_live, free-not-live, same_number, other_place}
use Rattle.flash.proofs.Kept.{live-before, only_here, placed-sound, placed-right, placed-here, placed-other}

-- ---- the block that is copied to

-- block t is full now, and was not
abbrev pub filled_by : Geometry → Image → Image → ℕ → Bool
filled_by geo image now t = not (full geo image t) && full geo now t

-- What block t has of the first m slots of v: the live ones, in their order, went to the first of its free slots; the other slots are as they were.
pub record Received (geo : Geometry) (image now : Image) (v t m : ℕ) : Type 0 where
  pub kept-slots : (j : ℕ) → j < d geo → is_free (slot geo image t j) ≡ false → slot geo now t j ≡ slot geo image t j
  pub left-free :
      (j : ℕ) → j < d geo → slot geo image t j ≡ Free → live_before geo image v m ≤ free_before geo image t j → slot geo now t j ≡ Free
  pub copies :
      (j n p : ℕ) →
      j < m →
      j < d geo →
      slot geo image v j ≡ Live n →
      p < d geo →
      is_free (slot geo image t p) ≡ true →
      free_before geo image t p ≡ live_before geo image v j →
      (slot geo now t p ≡ Live n) × (entry geo now t p ≡ 0xC0000000 + n)
  pub free_of_target : free_slots geo now t + live_before geo image v m ≡ free_slots geo image t
  pub live-of-target : live_slots geo now t ≡ live_slots geo image t + live_before geo image v m

module _ (geo : Geometry) (image now : Image) (v t m : ℕ) (l : m ≤ d geo) (h : Received geo image now v t m) where
  -- the first free slots are taken
  pub taken-slots :
      (j : ℕ) →
      j < d geo →
      is_free (slot geo image t j) ≡ true →
      free_before geo image t j < live_before geo image v m →
      is_free (slot geo now t j) ≡ false
  taken-slots j q e r =
      let nth = count-nth m (λ i. is_live (slot geo image v i)) (free_before geo image t j) r in
      let is = live-is _ nth.passes in
      ap is_free (h.copies nth.i is.0 j nth.below (omega (arith, nth.below)) is.1 q e (sym nth.before)).0

  -- and where one is left, the lowest free slot now is the next of them
  pub next-slot :
      live_before geo image v m < free_slots geo image t →
      (lowest_free geo now t < d geo)
      × (is_free (slot geo image t (lowest_free geo now t)) ≡ true)
      × (free_before geo image t (lowest_free geo now t) ≡ live_before geo image v m)
  unfolding lowest_free
  next-slot r =
      let frees : ℕ → Bool = λ j. is_free (slot geo image t j) in
      let nth = count-nth (d geo) frees (live_before geo image v m) r in
      let inside = nth.below in
      let at : lowest_free geo now t ≡ nth.i =
      first-is (d geo) (λ j. is_free (slot geo now t j)) nth.i (omega arith)
      (λ j q.
      ⊎_elim
      (λ e. taken-slots j (omega arith) e (omega (arith, count-grows frees e q, nth.before)))
      (λ e. ap is_free (h.kept-slots j (omega arith) e) ∙ e)
      (passes-or-fails (is_free (slot geo image t j))))
      (λ q. ap is_free (h.left-free nth.i q (free-is _ nth.passes) (omega (arith, nth.before)))) in
      rw at (nth.below, nth.passes, nth.before)

-- ---- a blank block

-- What a blank block t has of them: the live ones stand in slots 0, 1, ..
pub record InOrder (geo : Geometry) (image now : Image) (v t m : ℕ) : Type 0 where
  pub next : lowest_free geo now t ≡ live_before geo image v m
  pub left-free : (j : ℕ) → live_before geo image v m ≤ j → j < d geo → slot geo now t j ≡ Free
  pub used : (j : ℕ) → j < live_before geo image v m → is_free (slot geo now t j) ≡ false
  pub copies :
      (j n : ℕ) →
      j < m →
      slot geo image v j ≡ Live n →
      (slot geo now t (live_before geo image v j) ≡ Live n) × (entry geo now t (live_before geo image v j) ≡ 0xC0000000 + n)
  pub not_full : full geo now t ≡ false

-- the slot of a blank block that a slot of v goes to
pub copy-inside : (geo : Geometry) (image : Image) (v : ℕ) {j : ℕ} → j < d geo → live_before geo image v j < d geo
copy-inside geo image v {j} l = omega (arith, count-le j (λ i. is_live (slot geo image v i)))

module _
    (geo : Geometry) (image now : Image) (v t m : ℕ) (l : m ≤ d geo)
    (blank-slots : (j : ℕ) → j < d geo → slot geo image t j ≡ Free)
    (spare : live_before geo image v m < d geo)
    (h : Received geo image now v t m)
  where
    all-before : (j : ℕ) → j ≤ d geo → free_before geo image t j ≡ j
    all-before j q = count-every j (λ i r. ap is_free (blank-slots i (omega arith)))

    pub in_order : InOrder geo image now v t m
    in_order =
        let spot = next-slot geo image now v t m l h (omega (arith, spare, all-before (d geo) (omega arith))) in
        let spot_in = spot.0 in
        let free-from : (j : ℕ) → live_before geo image v m ≤ j → j < d geo → slot geo now t j ≡ Free =
        λ j q r. h.left-free j r (blank-slots j r) (omega (arith, all-before j (omega arith))) in
        record {
          next = sym (all-before (lowest_free geo now t) (omega arith)) ∙ spot.2;
          left-free = free-from;
          used = λ j q.
              let inside : j < d geo = omega (arith, spare) in
              taken-slots geo image now v t m l h j inside (ap is_free (blank-slots j inside)) (omega (arith, all-before j (omega arith)));
          copies = λ j n q e.
              let inside : live_before geo image v j < d geo = copy-inside geo image v (omega arith) in
              h.copies j n (live_before geo image v j) q (omega arith) e inside (ap is_free (blank-slots (live_before geo image v j) inside))
              (all-before (live_before geo image v j) (omega arith));
          not_full = free-not-full geo now t spare (ap is_free (free-from (live_before geo image v m) (omega arith) spare));
        }

-- ---- the copying

-- how the image stands after the first m slots of v, by these steps, and that the table that was right at the start, with each copied number noted,
-- is right now
pub record Moved (geo : Geometry) (image : Image) (v t m : ℕ) (steps : List Step) (table : Table) : Type 0 where
  pub asked : leaves_asked geo image steps ≡ true
  pub ready : Ready geo (run geo image steps)
  pub words : words_in steps ≡ 133 * live_before geo image v m + 2 * one_if (filled_by geo image (run geo image steps) t)
  pub erasures : erasures_in steps ≡ 0
  pub spares : SparesUnused geo steps
  pub counts : (c : ℕ) → c < geo.blocks → erase_count geo (run geo image steps) c ≡ erase_count geo image c
  pub later : (j : ℕ) → m ≤ j → j < d geo → slot geo (run geo image steps) v j ≡ slot geo image v j
  pub passed : (j n : ℕ) → j < m → j < d geo → slot geo (run geo image steps) v j ≡ Live n → ⊥
  pub others : (c j : ℕ) → c < geo.blocks → c ≢ v → c ≢ t → j < d geo → slot geo (run geo image steps) c j ≡ slot geo image c j
  pub entries :
      (c j : ℕ) → c < geo.blocks → c ≢ t → j < d geo → (c ≡ v → m ≤ j) → entry geo (run geo image steps) c j ≡ entry geo image c j
  pub kept-contents : (j : ℕ) → j < d geo → contents geo (run geo image steps) v j ≡ contents geo image v j
  pub received : Received geo image (run geo image steps) v t m
  pub live-of-victim : live_slots geo (run geo image steps) v + live_before geo image v m ≡ live_slots geo image v
  pub map : (n : ℕ) → map_of geo (run geo image steps) n ≡ map_of geo image n
  pub right : table ≡ right_table geo (run geo image steps)

module _
    (geo : Geometry) (image : Image) (v t : ℕ)
    (start : Ready geo image)
    (victim_in : v < geo.blocks) (target_in : t < geo.blocks) (apart : v ≢ t)
    (room : live_slots geo image v ≤ free_slots geo image t)
  where
    abbrev lives : ℕ → Bool
    lives i = is_live (slot geo image v i)

    nothing_yet : Moved geo image v t 0 [] (right_table geo image)
    unfolding run leaves_asked words_in erasures_in sum_below
    nothing_yet =
        record {
          asked = refl;
          ready = start;
          words = omega (arith, ap one_if (not-both (full geo image t)));
          erasures = refl;
          spares = spares-none geo;
          counts = λ c l. refl;
          later = λ j l h. refl;
          passed = λ j n l h e. omega arith;
          others = λ c j l n n' h. refl;
          entries = λ c j l n h k. refl;
          kept-contents = λ j l. refl;
          received =
              record {
                kept-slots = λ j l e. refl;
                left-free = λ j l e h. e;
                copies = λ j n p l h e. absurd (omega arith);
                free_of_target = omega arith;
                live-of-target = omega arith;
              };
          live-of-victim = omega arith;
          map = λ n. refl;
          right = refl;
        }
      where
        not-both : (x : Bool) → (not x && x) ≡ false
        not-both true = refl
        not-both false = refl

    -- a slot that is not live is passed by
    module _
        (m : ℕ) (steps : List Step) {table : Table} (l : m < d geo)
        (h : Moved geo image v t m steps table)
        (none : is_live (slot geo (run geo image steps) v m) ≡ false)
      where
        was-none : is_live (slot geo image v m) ≡ false
        was-none = sym (ap is_live (h.later m (omega arith) l)) ∙ none

        as_many : live_before geo image v (suc m) ≡ live_before geo image v m
        unfolding sum_below
        as_many = omega (arith, ap one_if was-none)

        passed-by : Moved geo image v t (suc m) steps table
        passed-by =
            record {
              asked = h.asked;
              ready = h.ready;
              words = rw as_many h.words;
              erasures = h.erasures;
              spares = h.spares;
              counts = h.counts;
              later = λ j q r. h.later j (omega arith) r;
              passed = λ j n q r e.
                  ⊎_elim (λ s. not_live none (ap (slot geo (run geo image steps) v) (sym s) ∙ e)) (λ s. h.passed j n s r e) (below_suc q);
              others = h.others;
              entries = λ c j q n r k. h.entries c j q n r (λ e. omega (arith, k e));
              kept-contents = h.kept-contents;
              received =
                  record {
                    kept-slots = h.received.kept-slots;
                    left-free = λ j q e r. h.received.left-free j q e (omega (arith, as_many));
                    copies = λ j n p q r e.
                        ⊎_elim
                        (λ s. absurd (not_live was-none (ap (slot geo image v) (sym s) ∙ e)))
                        (λ s. h.received.copies j n p s r e)
                        (below_suc q);
                    free_of_target = rw as_many h.received.free_of_target;
                    live-of-target = rw as_many h.received.live-of-target;
                  };
              live-of-victim = rw as_many h.live-of-victim;
              map = h.map;
              right = h.right;
            }

    -- a live slot is copied
    module _
        (m : ℕ) (steps : List Step) {table : Table} (n : ℕ) (l : m < d geo)
        (h : Moved geo image v t m steps table)
        (live : slot geo (run geo image steps) v m ≡ Live n)
      where
        abbrev now : Image
        now = run geo image steps

        abbrev ws : List ℕ
        ws = contents geo now v m

        -- the lowest free slot now
        abbrev i : ℕ
        i = lowest_free geo now t

        abbrev more : List Step
        more = placing geo now n ws t i

        abbrev after : Image
        after = run geo now more

        was-live : slot geo image v m ≡ Live n
        was-live = sym (h.later m (omega arith) l) ∙ live

        one_more : live_before geo image v (suc m) ≡ live_before geo image v m + 1
        unfolding sum_below
        one_more = omega (arith, ap (λ (s : Slot). one_if (is_live s)) was-live)

        -- the slot that is taken: it was free, and as many before it as are copied
        pub spot :
            (i < d geo)
            × (is_free (slot geo image t i) ≡ true)
            × (free_before geo image t i ≡ live_before geo image v m)
        spot =
            next-slot geo image now v t m (omega arith) h.received
            (omega (arith, one_more, room, sum-prefix {m = suc m} {n = d geo} (λ i. one_if (lives i)) l))

        pub target : Target geo now n ws t i
        target =
            record {
              number = live-number geo now v m live;
              long = contents-long geo now h.ready.shaped victim_in l;
              words = contents-words geo now v m h.ready.shaped victim_in l h.ready.words;
              block = target_in;
              slot_is = spot.0;
              free = h.received.left-free i spot.0 (free-is _ spot.1) (omega (arith, spot.2));
            }

        p : Placed geo now after n ws t i
        p = placing-placed geo now n ws t i h.ready target

        pub here : find geo now n ≡ At v m
        here = live-found geo now h.ready.sound.once n v m (record { block = victim_in; slot_is = l; live = live })

        not-here : {c j : ℕ} → (c ≡ v → j ≡ m → ⊥) → find geo now n ≡ At c j → ⊥
        not-here x e = other_place (λ y z. x (sym y) (sym z)) (sym here ∙ e)

        bounds : Bounds geo now after t
        bounds = placing-bounds geo now n ws t i h.ready target

        words-after : Words32 after
        words-after = placing-words32 geo now n ws t i h.ready target

        sound-after : Sound geo after
        sound-after = placed-sound geo now after n ws t i h.ready target p bounds

        ready-after : Ready geo after
        ready-after = record { shaped = placing-shaped geo now n ws t i h.ready target; words = words-after; sound = sound-after }

        -- ---- the words

        not-full-now : full geo now t ≡ false
        not-full-now = free-not-full geo now t spot.0 (ap is_free target.free)

        not-full-before : full geo image t ≡ false
        not-full-before = free-not-full geo image t spot.0 spot.1

        cost : words_in more ≡ 133 + 2 * one_if (full geo after t)
        cost =
            placing-cost geo now n ws t i h.ready target
            ∙ ap (λ (f : Found). 131 + 2 * one_if (is_at f) + 2 * one_if (full geo after t)) here

        words-so-far : words_in steps ≡ 133 * live_before geo image v m
        words-so-far = rw (not-full-before, not-full-now) at h.words ∙ omega arith

        words_more : words_in (steps ++ more) ≡ 133 * live_before geo image v (suc m) + 2 * one_if (filled_by geo image after t)
        words_more = rw not-full-before (omega (arith, words_append steps more, words-so-far, cost, one_more))

        -- ---- the slots

        other-there : (j : ℕ) → j < d geo → j ≢ i → slot geo after t j ≡ slot geo now t j
        other-there j r x = p.changed.other t j target_in r (λ y z. x z) (not-here (λ y z. apart (sym y)))

        other-here : (j : ℕ) → j < d geo → j ≢ m → slot geo after v j ≡ slot geo now v j
        other-here j r x = p.changed.other v j victim_in r (λ y z. apart y) (not-here (λ y z. x z))

        map-after : (x : ℕ) → map_of geo after x ≡ map_of geo now x
        map-after x = go (ℕ_discrete x n)
          where
            go : Dec (x ≡ n) → map_of geo after x ≡ map_of geo now x
            go (yes e) =
                rw e
                (placed-here geo now after n ws t i h.ready target p
                bounds
                ∙ sym (map_at geo now n v m here))
            go (no e) =
                placed-other geo now after n ws t i h.ready target p
                bounds x e

        passed-after : (j x : ℕ) → j < suc m → j < d geo → slot geo after v j ≡ Live x → ⊥
        passed-after j x q r e =
            ⊎_elim
            (λ s. not_live (ap is_live (ap (slot geo after v) s ∙ p.changed.old-dead v m here)) e)
            (λ s. go s (ℕ_discrete x n))
            (below_suc q)
          where
            go : j < m → Dec (x ≡ n) → ⊥
            go s (yes y) =
                apart
                (only_here geo now after n ws t i h.ready target p
                v j victim_in r (e ∙ ap Live y)).0
            go s (no y) =
                h.passed j x s r
                (live-before geo now after n ws t i h.ready target p
                x v j victim_in r y e)

        -- each copy stands where it was made, and n now behind them
        copies-after :
            (j x q : ℕ) →
            j < suc m →
            j < d geo →
            slot geo image v j ≡ Live x →
            q < d geo →
            is_free (slot geo image t q) ≡ true →
            free_before geo image t q ≡ live_before geo image v j →
            (slot geo after t q ≡ Live x) × (entry geo after t q ≡ 0xC0000000 + x)
        copies-after j x q k r e inside free rank = ⊎_elim last earlier (below_suc k)
          where
            last : j ≡ m → (slot geo after t q ≡ Live x) × (entry geo after t q ≡ 0xC0000000 + x)
            last s =
                let same : n ≡ x = same_number was-live (ap (slot geo image v) (sym s) ∙ e) in
                let at : q ≡ i =
                nth-alone (λ j. is_free (slot geo image t j)) q i free spot.1 (rank ∙ ap (live_before geo image v) s ∙ sym spot.2) in (
                  ap (slot geo after t) at ∙ p.changed.here ∙ ap Live same,
                  ap (entry geo after t) at ∙ p.entry_here ∙ ap (0xC0000000 +◌) same,
                )

            earlier : j < m → (slot geo after t q ≡ Live x) × (entry geo after t q ≡ 0xC0000000 + x)
            earlier s =
                let was = h.received.copies j x q s r e inside free rank in
                let other : q ≢ i = λ y. free-not-live (ap (slot geo now t) y ∙ target.free) was.0 in (
                  other-there q inside other ∙ was.0,
                  p.entry_other t q target_in inside (λ y z. other z) (not-here (λ y z. apart (sym y))) ∙ was.1,
                )

        -- a count of the slots of a block of which one changed
        recount :
            (f : Slot → Bool) (c x : ℕ) →
            x < d geo →
            ((j : ℕ) → j < d geo → j ≢ x → slot geo after c j ≡ slot geo now c j) →
            count_below (d geo) (λ j. f (slot geo after c j)) + one_if (f (slot geo now c x))
            ≡ count_below (d geo) (λ j. f (slot geo now c j)) + one_if (f (slot geo after c x))
        recount f c x q same = sum-update (d geo) q (λ j r y. ap (λ (s : Slot). one_if (f s)) (same j r y))

        received-after : Received geo image after v t (suc m)
        received-after =
            record {
              kept-slots = λ j q e.
                  other-there j q (λ s. true≢false (sym spot.1 ∙ ap (λ (x : ℕ). is_free (slot geo image t x)) (sym s) ∙ e))
                  ∙ h.received.kept-slots j q e;
              left-free = λ j q e r.
                  other-there j q (λ s. omega (arith, one_more, spot.2, ap (free_before geo image t) s))
                  ∙ h.received.left-free j q e (omega (arith, one_more));
              copies = copies-after;
              free_of_target =
                  omega (
                    arith,
                    recount is_free t i spot.0 other-there,
                    h.received.free_of_target,
                    one_more,
                    ap (λ (s : Slot). one_if (is_free s)) target.free,
                    ap (λ (s : Slot). one_if (is_free s)) p.changed.here,
                  );
              live-of-target =
                  omega (
                    arith,
                    recount is_live t i spot.0 other-there,
                    h.received.live-of-target,
                    one_more,
                    ap (λ (s : Slot). one_if (is_live s)) target.free,
                    ap (λ (s : Slot). one_if (is_live s)) p.changed.here,
                  );
            }

        live-of-victim-after : live_slots geo after v + live_before geo image v (suc m) ≡ live_slots geo image v
        live-of-victim-after =
            omega (
              arith,
              recount is_live v m l other-here,
              h.live-of-victim,
              one_more,
              ap (λ (s : Slot). one_if (is_live s)) live,
              ap (λ (s : Slot). one_if (is_live s)) (p.changed.old-dead v m here),
            )

        same-image : run geo image (steps ++ more) ≡ after
        same-image = run-append geo image steps more

        copied : Moved geo image v t (suc m) (steps ++ more) (noted geo table n (At t i))
        copied =
            record {
              asked = asked-append geo image steps more ∙ ap₂ ◌&&◌ h.asked (placing-exact geo now n ws t i h.ready target).asked;
              ready = rw same-image ready-after;
              words = rw same-image words_more;
              erasures = omega (arith, erasures-append steps more, h.erasures, placing-erasures geo now n ws t i);
              spares = spares-append geo steps more h.spares (placing-spares geo start.shaped.limits now n ws t i spot.0);
              counts = λ c q. rw same-image (p.counts c q ∙ h.counts c q);
              later = λ j q r. rw same-image (other-here j r (λ x. omega arith) ∙ h.later j (omega arith) r);
              passed = λ j x q r e. passed-after j x q r (rw same-image at e);
              others = λ c j q x y r.
                  rw same-image (p.changed.other c j q r (λ z w. y z) (not-here (λ z w. x z)) ∙ h.others c j q x y r);
              entries = λ c j q x r y.
                  rw same-image
                  (p.entry_other c j q r (λ z w. x z) (not-here (λ z w. omega (arith, y z))) ∙ h.entries c j q x r (λ z. omega (arith, y z)));
              kept-contents = λ j q. rw same-image (p.contents-other v j victim_in q (λ x y. apart x) ∙ h.kept-contents j q);
              received = rw same-image received-after;
              live-of-victim = rw same-image live-of-victim-after;
              map = λ x. rw same-image (map-after x ∙ h.map x);
              right = rw (same-image, h.right) (placed-right geo now after n ws t i h.ready target p bounds);
            }

    -- one slot more
    moved_on :
        (m : ℕ) (steps : List Step) {table : Table} →
        m < d geo →
        Moved geo image v t m steps table →
        let now = run geo image steps in
        Moved geo image v t (suc m)
        (steps ++ copied_slot geo now v t m (slot geo now v m))
        (slot_noted geo table (slot geo now v m) (At t (lowest_free geo now t)))
    moved_on m steps {table} l h = go (slot geo (run geo image steps) v m) refl
      where
        unmoved : is_live (slot geo (run geo image steps) v m) ≡ false → Moved geo image v t (suc m) (steps ++ []) table
        unmoved none = rw (append-nil steps) (passed-by m steps l h none)

        go :
            (s : Slot) →
            slot geo (run geo image steps) v m ≡ s →
            Moved geo image v t (suc m)
            (steps ++ copied_slot geo (run geo image steps) v t m s)
            (slot_noted geo table s (At t (lowest_free geo (run geo image steps) t)))
        go Free e = unmoved (ap is_live e)
        go (Live n) e = copied m steps n l h e
        go Dead e = unmoved (ap is_live e)
        go Faulty e = unmoved (ap is_live e)
        go Superseded e = unmoved (ap is_live e)

    -- all the slots
    pub moved : (m : ℕ) → m ≤ d geo → Moved geo image v t m (copying geo image v t m) (table_copied geo image v t (right_table geo image) m)
    unfolding copying table_copied
    moved zero l = nothing_yet
    moved (suc m) l = moved_on m (copying geo image v t m) l (moved m (omega arith))

    pub each-in-turn : EachInTurn geo image v t
    each-in-turn =
        record {
          sound_then = λ m l. facts-sound geo _ (moved m (omega arith)).ready.sound;
          found_there = λ m n l e. here m (copying geo image v t m) n l (moved m (omega arith)) e;
          room_there = λ m n l e. (spot m (copying geo image v t m) n l (moved m (omega arith)) e).0;
        }
