-- K4: in a reclaim into any block with a free slot for each live one of the victim, the steps of each copy, and those that erase the victim, are known
-- before the first step. Assumes nothing.
use mathlib.Core.Path.{◌≡◌, refl, sym, ap, ap₂, ◌∙◌}
use mathlib.Core.Logic.{◌≢◌, ⊎_elim, dite}
use mathlib.Core.Bool.{Bool, true, false, cond, ◌&&◌, ◌||◌, or-true, true≢false}
use mathlib.Core.List.{List, [], ◌++◌, append_assoc, append-nil}
use Prim.Native.Nat.{ℕ, zero, suc, ◌+◌, ◌-◌, ◌*◌, ◌/◌, ◌%◌, ◌^◌, ◌<◌, ◌≤◌}
use native.Mathlib.Decide.{dec_lt, ℕ_discrete}
use native.Mathlib.Nat.{lt_of_not-le}
use native.Mathlib.Omega.{arith}
use lib.Dec.{eqb}
use lib.ListN.{length, length-append}
use borrow.Author.Tests.{eq-eqb, ne_eqb, eqb-true}
use Rattle.ranges.specs.Range.{one_if, sum_below, count_below, best_below, first_below, last_below, or_at}
use Rattle.ranges.proofs.Tests.{below_suc, passes-or-fails, unless, both-pass, either-passes, any_at, any_of}
use Rattle.ranges.proofs.Sums.{sum-prefix, count-fails, count-nth, count-grows, nth-alone}
use Rattle.ranges.proofs.Searches.{first-is, first-before, best-ext}
use Rattle.bits.specs.Word.{bit, is_set}
use Rattle.bits.proofs.Bit.{bit-set, bit-clear, bits-same}
use Rattle.bits.proofs.Upper.{lower-cleared, upper-kept}
use Rattle.geometry.specs.declared.Geometry.{Geometry}
use Rattle.geometry.specs.Geometry.{d}
use Rattle.geometry.specs.Places.{place, map_word}
use Rattle.geometry.proofs.Laws.{map-covers}
use Rattle.image.specs.declared.Slot.{Slot}
use Rattle.image.specs.declared.Slot.TheVariants.{Free, Live, Dead, Faulty, Superseded}
use Rattle.image.specs.Words.{Image, Words32, free_map, map_bit, contents}
use Rattle.image.specs.Slots.{slot, is_free, is_live, is_live_for, live_in, find}
use Rattle.image.specs.Blocks.{full, free_slots, live_slots, lowest_free}
use Rattle.image.proofs.Facts.{free-is, live-is, live-for, live-is-for}
use Rattle.image.proofs.Reading.{full-count}
use Rattle.tables.specs.Tables.{right_table}
use Rattle.flash.specs.declared.Step.{Step}
use Rattle.flash.specs.Steps.{run, step_at}
use Rattle.flash.specs.Placing.{programs_bounds, placing}
use Rattle.flash.specs.Writing.{copied_slot, copying, at_turn, erasing, reclaiming}
use Rattle.flash.specs.Ahead.{closes_with, placement_steps, placement_over, live_before, free_before, nth_free, copy_slot, live_in_either, copy_into, copy_steps}
use Rattle.flash.specs.Tables.{table_copied}
use Rattle.flash.proofs.Parts.{steps-counted, step-before, step-behind}
use Rattle.flash.proofs.Changed.{free-not-live, same_number}
use Rattle.flash.proofs.Filling.{Ready}
use Rattle.flash.proofs.Ahead.{placing-ahead}
use Rattle.flash.proofs.Moving.{Moved, moved, spot, target, here}

-- ---- a map word, by the slots that its bits belong to

-- the slot of bit c of the map word of slot i
abbrev pub beside : ℕ → ℕ → ℕ
beside i c = 32 * (i / 32) + c

module _ (geo : Geometry) (image : Image) (b i : ℕ) where
  pub word-bit : (c : ℕ) → c < 32 → is_set (free_map geo image b i) c ≡ map_bit geo image b (beside i c)
  unfolding free_map
  word-bit c l =
      let same : map_word (beside i c) ≡ map_word i = omega arith in
      let at : beside i c % 32 ≡ c = omega arith in
      rw (same, at)

  pub map-small : Words32 image → free_map geo image b i < 2 ^ 32
  unfolding free_map
  map-small words = words.small (place geo b (map_word i))

module _ (geo : Geometry) (image : Image) (b i : ℕ) (ready : Ready geo image) (block : b < geo.blocks) (inside : i < d geo) where
  -- a bit of a slot says whether it is free, and one that belongs to none is set
  pub bit-of-slot : (c : ℕ) → c < 32 → beside i c < d geo → is_set (free_map geo image b i) c ≡ is_free (slot geo image b (beside i c))
  bit-of-slot c l h = word-bit geo image b i c l ∙ ready.sound.map b (beside i c) block h

  pub bit-of-none : (c : ℕ) → c < 32 → d geo ≤ beside i c → is_set (free_map geo image b i) c ≡ true
  bit-of-none c l h = word-bit geo image b i c l ∙ ready.sound.rest b (beside i c) block h (omega (arith, inside, map-covers geo ready.shaped.limits))

  -- so it is set where its slot, if it has one, is free
  pub bit-of-free : (c : ℕ) → c < 32 → (beside i c < d geo → slot geo image b (beside i c) ≡ Free) → is_set (free_map geo image b i) c ≡ true
  bit-of-free c l free =
      dite (dec_lt (beside i c) (d geo)) (λ q. bit-of-slot c l q ∙ ap is_free (free q)) (λ q. bit-of-none c l (omega arith))

-- bits that pass the same test are the same
pub same_bit : (a b c : ℕ) → is_set a c ≡ is_set b c → bit a c ≡ bit b c
same_bit a b c e =
    ⊎_elim
    (λ t. bit-set a c t ∙ sym (bit-set b c (sym e ∙ t)))
    (λ t. bit-clear a c t ∙ sym (bit-clear b c (sym e ∙ t)))
    (passes-or-fails (is_set a c))

-- the slots of a block before slot i are taken now, and those from there on are free where they were
module _
    (geo : Geometry) (image now : Image) (b i : ℕ)
    (start : Ready geo image) (ready : Ready geo now)
    (block : b < geo.blocks) (inside : i < d geo)
    (taken : (j : ℕ) → j < i → is_free (slot geo now b j) ≡ false)
    (left : (j : ℕ) → i ≤ j → j < d geo → is_free (slot geo now b j) ≡ is_free (slot geo image b j))
  where
    same_set : (c : ℕ) → c < 32 → i % 32 ≤ c → is_set (free_map geo now b i) c ≡ is_set (free_map geo image b i) c
    same_set c l h = go (dec_lt (beside i c) (d geo))
      where
        go : Dec (beside i c < d geo) → is_set (free_map geo now b i) c ≡ is_set (free_map geo image b i) c
        go (yes q) =
            bit-of-slot geo now b i ready block inside c l q
            ∙ left (beside i c) (omega arith) q
            ∙ sym (bit-of-slot geo image b i start block inside c l q)
        go (no q) =
            bit-of-none geo now b i ready block inside c l (omega arith)
            ∙ sym (bit-of-none geo image b i start block inside c l (omega arith))

    -- so this is its map word
    map-of-left : free_map geo now b i ≡ free_map geo image b i - free_map geo image b i % 2 ^ (i % 32)
    map-of-left =
        bits-same 32 (free_map geo now b i) _ (map-small geo now b i ready.words)
        (omega (arith, map-small geo image b i start.words))
        (λ c l. go c l (dec_lt c (i % 32)))
      where
        go :
            (c : ℕ) →
            c < 32 →
            Dec (c < i % 32) →
            bit (free_map geo now b i) c ≡ bit (free_map geo image b i - free_map geo image b i % 2 ^ (i % 32)) c
        go c l (yes h) =
            bit-clear (free_map geo now b i) c
            (bit-of-slot geo now b i ready block inside c l (omega arith) ∙ taken (beside i c) (omega arith))
            ∙ sym (lower-cleared (free_map geo image b i) (i % 32) c h)
        go c l (no h) =
            same_bit (free_map geo now b i) (free_map geo image b i) c (same_set c l (omega arith))
            ∙ sym (upper-kept (free_map geo image b i) (i % 32) c (omega arith))

-- ---- tests that say each other

same_tests : {a b : Bool} → (a ≡ true → b ≡ true) → (b ≡ true → a ≡ true) → a ≡ b
same_tests {a} {b} to from =
    ⊎_elim (λ e. e ∙ sym (to e)) (λ n. n ∙ sym (unless b (λ e. true≢false (sym (from e) ∙ n)))) (passes-or-fails a)

same-equal : (a p b q : ℕ) → (a ≡ p → b ≡ q) → (b ≡ q → a ≡ p) → eqb a p ≡ eqb b q
same-equal a p b q to from = same_tests (λ e. eq-eqb b q (to (eqb-true a p e))) (λ e. eq-eqb a p (from (eqb-true b q e)))

-- ---- the r-th index that passes, as a search finds it

pub nth-first :
    (m : ℕ) (f : ℕ → Bool) (i : ℕ) →
    i < m → f i ≡ true → first_below m (λ j. f j && eqb (count_below j f) (count_below i f)) ≡ i
nth-first m f i l t =
    first-is m (λ j. f j && eqb (count_below j f) (count_below i f)) i (omega arith)
    (λ j q.
    unless _
    (λ e.
    let passes = both-pass (f j) (eqb (count_below j f) (count_below i f)) e in
    omega (arith, nth-alone f j i passes.0 t (eqb-true _ _ passes.1))))
    (λ q. rw t (eq-eqb (count_below i f) (count_below i f) refl))

-- ---- the copying goes on behind the steps that it has

module _ (geo : Geometry) (image : Image) (v t : ℕ) where
  abbrev pub Behind : List Step → List Step → Type 0
  Behind first all = (rest : List Step) × (all ≡ first ++ rest)

  pub all-behind : (m e : ℕ) → m ≤ e → Behind (copying geo image v t m) (copying geo image v t e)
  unfolding copying
  all-behind m zero l =
      let same : 0 ≡ m = omega arith in
      ([], ap (copying geo image v t) same ∙ sym (append-nil (copying geo image v t m)))
  all-behind m (suc e) l =
      ⊎_elim
      (λ same. ([], ap (copying geo image v t) (sym same) ∙ sym (append-nil (copying geo image v t m))))
      (λ h.
      let before = all-behind m e (omega arith) in
      let now = at_turn geo image v t e in
      let more = copied_slot geo now v t e (slot geo now v e) in (
        before.0 ++ more,
        ap (λ (x : List Step). x ++ more) before.1 ∙ append_assoc (copying geo image v t m) before.0 more,
      ))
      (below_suc {i = m} {m = suc e} (omega arith))

  -- where nothing is live there are none
  unmoved : (now : Image) (m : ℕ) (s : Slot) → is_live s ≡ false → copied_slot geo now v t m s ≡ []
  unmoved now m Free e = refl
  unmoved now m (Live n) e = absurd (true≢false e)
  unmoved now m Dead e = refl
  unmoved now m Faulty e = refl
  unmoved now m Superseded e = refl

  none-copied : live_slots geo image v ≡ 0 → (m : ℕ) → m ≤ d geo → copying geo image v t m ≡ []
  unfolding copying run
  none-copied none zero l = refl
  none-copied none (suc m) l =
      rw (none-copied none m (omega arith))
      (unmoved image m (slot geo image v m) (count-fails (d geo) (λ i. is_live (slot geo image v i)) none m l))

-- ---- the copies

-- a number live in a slot of block b is live in b
live-in : (geo : Geometry) (image : Image) (b y j : ℕ) → j < d geo → slot geo image b j ≡ Live y → live_in geo image b y ≡ true
live-in geo image b y j l e = any_of (d geo) (λ k. is_live_for y (slot geo image b k)) l (live-is-for e)

-- Block v can be reclaimed into t: another block, with a free slot for each live one of v. Where none is live, there need be no such block.
pub record Emptiable (geo : Geometry) (image : Image) (v t : ℕ) : Type 0 where
  pub ready : Ready geo image
  pub victim_in : v < geo.blocks
  pub target_in : 1 ≤ live_slots geo image v → t < geo.blocks
  pub apart : v ≢ t
  pub room : live_slots geo image v ≤ free_slots geo image t

module _ (geo : Geometry) (image : Image) (v t : ℕ) (able : Emptiable geo image v t) where
  -- ---- where something is live

  module _ (some : 1 ≤ live_slots geo image v) where
    -- how the image stands when slot m has its turn
    moved_at : (m : ℕ) → m ≤ d geo → Moved geo image v t m (copying geo image v t m) (table_copied geo image v t (right_table geo image) m)
    moved_at = moved geo image v t able.ready able.victim_in (able.target_in some) able.apart able.room

    -- t is full then if as many are copied as it had free slots
    full-then : (m : ℕ) → m ≤ d geo → full geo (at_turn geo image v t m) t ≡ eqb (free_slots geo image t) (live_before geo image v m)
    full-then m l =
        let fewer = (moved_at m l).received.free_of_target in
        full-count geo (at_turn geo image v t m) t
        ∙ same-equal (free_slots geo (at_turn geo image v t m) t) 0 (free_slots geo image t) (live_before geo image v m) (λ e. omega (arith, fewer))
        (λ e. omega (arith, fewer))

    -- it has a free slot before the first copy
    not-full-first : full geo image t ≡ false
    not-full-first = full-count geo image t ∙ ne_eqb (free_slots geo image t) 0 (λ e. omega (arith, able.room))

    -- every copy programs 133 words, and the one that t is full by two more
    copying-long :
        (m : ℕ) →
        m ≤ d geo →
        length (copying geo image v t m)
        ≡ 133 * live_before geo image v m + 2 * one_if (eqb (free_slots geo image t) (live_before geo image v m))
    copying-long m l =
        let so_far = moved_at m l in
        let words = rw (not-full-first, full-then m l) at so_far.words in
        omega (arith, steps-counted (copying geo image v t m), words, so_far.erasures)

  -- ---- a live slot in its turn

  module _ (m x : ℕ) (l : m < d geo) (live : slot geo image v m ≡ Live x) where
    abbrev now : Image
    now = at_turn geo image v t m

    -- how many are copied before it
    abbrev taken : ℕ
    taken = live_before geo image v m

    abbrev i : ℕ
    i = lowest_free geo now t

    abbrev copy : List Step
    copy = placing geo now x (contents geo now v m) t i

    one_more : live_before geo image v (suc m) ≡ taken + 1
    unfolding sum_below
    one_more = omega (arith, ap (λ (s : Slot). one_if (is_live s)) live)

    -- with it they are at most all
    pub counted-in : taken + 1 ≤ live_slots geo image v
    counted-in = omega (arith, one_more, sum-prefix {m = suc m} {n = d geo} (λ i. one_if (is_live (slot geo image v i))) l)

    some : 1 ≤ live_slots geo image v
    some = omega (arith, counted-in)

    block : t < geo.blocks
    block = able.target_in some

    h : Moved geo image v t m (copying geo image v t m) (table_copied geo image v t (right_table geo image) m)
    h = moved_at some m (omega arith)

    live_now : slot geo now v m ≡ Live x
    live_now = h.later m (omega arith) l ∙ live

    -- the slot that it goes to
    there : (i < d geo) × (is_free (slot geo image t i) ≡ true) × (free_before geo image t i ≡ taken)
    there = spot geo image v t able.ready able.victim_in block able.apart able.room m (copying geo image v t m) x l h live_now

    slot-ahead : copy_slot geo image v t m ≡ i
    unfolding nth_free
    slot-ahead =
        ap (nth_free geo image t) (sym there.2) ∙ nth-first (d geo) (λ j. is_free (slot geo image t j)) i there.0 there.1

    pub slot-inside : copy_slot geo image v t m < d geo
    slot-inside = rw slot-ahead there.0

    -- its map word
    before-taken : (j : ℕ) → j < i → is_free (slot geo now t j) ≡ false
    unfolding lowest_free
    before-taken j q = first-before (d geo) (λ j. is_free (slot geo now t j)) q

    behind-left : (j : ℕ) → i ≤ j → j < d geo → is_free (slot geo now t j) ≡ is_free (slot geo image t j)
    behind-left j q r =
        ⊎_elim
        (λ e.
        ap is_free
        (h.received.left-free j r (free-is _ e) (omega (arith, there.2, sum-prefix {m = i} {n = j} (λ k. one_if (is_free (slot geo image t k))) q)))
        ∙ sym e)
        (λ e. ap is_free (h.received.kept-slots j r e))
        (passes-or-fails (is_free (slot geo image t j)))

    map-ahead : free_map geo now t i ≡ free_map geo image t i - free_map geo image t i % 2 ^ (i % 32)
    map-ahead = map-of-left geo image now t i able.ready h.ready block there.0 before-taken behind-left

    -- whether t is full by it
    closes-ahead : eqb (free_slots geo now t) 1 ≡ eqb (free_slots geo image t) (taken + 1)
    closes-ahead =
        let fewer = h.received.free_of_target in
        same-equal (free_slots geo now t) 1 (free_slots geo image t) (taken + 1) (λ e. omega (arith, fewer)) (λ e. omega (arith, fewer))

    -- where it is, no other slot of v is left to copy: so the numbers live in t then are those that were live in t or v
    module _ (last : free_slots geo image t ≡ taken + 1) where
      -- x is the only number that was live in v and is not live in t yet
      came_from : (y j : ℕ) → j < d geo → slot geo now t j ≡ Live y → live_in_either geo image t v y ≡ true
      came_from y j q e =
          ⊎_elim
          (λ f. ap (live_in geo image t y ||◌) (copied f) ∙ or-true (live_in geo image t y))
          (λ f. ap (◌|| live_in geo image v y) (live-in geo image t y j q (sym (h.received.kept-slots j q f) ∙ e)))
          (passes-or-fails (is_free (slot geo image t j)))
        where
          copied : is_free (slot geo image t j) ≡ true → live_in geo image v y ≡ true
          copied f =
              let before : free_before geo image t j < taken =
              lt_of_not-le (λ k. free-not-live (h.received.left-free j q (free-is _ f) k) e) in
              let nth = count-nth m (λ k. is_live (slot geo image v k)) (free_before geo image t j) before in
              let inside : nth.i < d geo = omega (arith, nth.below) in
              let is = live-is _ nth.passes in
              let made = (h.received.copies nth.i is.0 j nth.below inside is.1 q f (sym nth.before)).0 in
              live-in geo image v y nth.i inside (is.1 ∙ ap Live (same_number made e))

      goes_to : (y j : ℕ) → j < d geo → slot geo image v j ≡ Live y → (live_in geo now t y || eqb x y) ≡ true
      goes_to y j q e =
          dite (dec_lt j m)
          (λ k.
          let nth = count-nth (d geo) (λ k. is_free (slot geo image t k)) (live_before geo image v j) (omega (arith, grows k, last)) in
          let made = (h.received.copies j y nth.i k q e nth.below nth.passes nth.before).0 in
          ap (◌|| eqb x y) (live-in geo now t y nth.i nth.below made))
          (λ k.
          let past : m < j → ⊥ = λ r. omega (arith, count-grows lives (ap is_live live) r, grows q, able.room, last) in
          let same : j ≡ m = omega arith in
          ap (live_in geo now t y ||◌) (eq-eqb x y (same_number live (ap (slot geo image v) (sym same) ∙ e))) ∙ or-true (live_in geo now t y))
        where
          lives : ℕ → Bool
          lives k = is_live (slot geo image v k)

          grows : {n : ℕ} → j < n → live_before geo image v j < live_before geo image v n
          grows k = count-grows lives (ap is_live e) k

      live-ahead : (y : ℕ) → or_at (live_in geo now t) x y ≡ live_in_either geo image t v y
      live-ahead y =
          same_tests
          (λ e.
          ⊎_elim
          (λ f. let is = any_at (d geo) (λ j. is_live_for y (slot geo now t j)) f in came_from y is.0 is.1 (live-for y _ is.2))
          (λ f.
          ap (live_in geo image t y ||◌) (live-in geo image v y m l (live ∙ ap Live (eqb-true x y f))) ∙ or-true (live_in geo image t y))
          (either-passes (live_in geo now t y) (eqb x y) e))
          (λ e.
          ⊎_elim
          (λ f.
          let is = any_at (d geo) (λ j. is_live_for y (slot geo image t j)) f in
          let was = live-for y _ is.2 in
          ap (◌|| eqb x y) (live-in geo now t y is.0 is.1 (h.received.kept-slots is.0 is.1 (ap is_free was) ∙ was)))
          (λ f. let is = any_at (d geo) (λ j. is_live_for y (slot geo image v j)) f in goes_to y is.0 is.1 (live-for y _ is.2))
          (either-passes (live_in geo image t y) (live_in geo image v y) e))

      bound-ahead :
          (beats : ℕ → ℕ → Bool) →
          best_below beats geo.logical (or_at (live_in geo now t) x) ≡ best_below beats geo.logical (live_in_either geo image t v)
      bound-ahead beats = best-ext geo.logical (λ y q. live-ahead y) (λ y r q k. refl)

    -- (g)
    closing-ahead : closes_with geo (placement_over geo now x (find geo now x) t i) ≡ closes_with geo (copy_into geo image v t m x)
    closing-ahead = rw closes-ahead (go (eqb (free_slots geo image t) (taken + 1)) refl)
      where
        go :
            (c : Bool) →
            eqb (free_slots geo image t) (taken + 1) ≡ c →
            cond c
            (programs_bounds geo t (first_below geo.logical (or_at (live_in geo now t) x)) (last_below geo.logical (or_at (live_in geo now t) x)))
            []
            ≡ cond c
            (programs_bounds geo t (first_below geo.logical (live_in_either geo image t v)) (last_below geo.logical (live_in_either geo image t v)))
            []
        go true e = rw (bound-ahead (eqb-true _ _ e) (λ y r. false), bound-ahead (eqb-true _ _ e) (λ y r. true))
        go false e = refl

    same-steps :
        placement_steps geo (placement_over geo now x (find geo now x) t i) (contents geo now v m)
        ≡ placement_steps geo (copy_into geo image v t m x) (contents geo image v m)
    unfolding placement_steps
    same-steps =
        rw (
          slot-ahead,
          closing-ahead,
          here geo image v t able.ready able.victim_in block able.apart able.room m (copying geo image v t m) x l h live_now,
          map-ahead,
          h.entries v m able.victim_in able.apart l (λ e. omega arith),
          h.kept-contents m l,
        )

    copy-ahead : copy ≡ placement_steps geo (copy_into geo image v t m x) (contents geo image v m)
    copy-ahead =
        placing-ahead geo now x (contents geo now v m) t i h.ready
        (target geo image v t able.ready able.victim_in block able.apart able.room m (copying geo image v t m) x l h live_now)
        ∙ same-steps

    -- ---- where its steps stand

    next : copying geo image v t (suc m) ≡ copying geo image v t m ++ copy
    unfolding copying
    next = rw live_now

    first-long : length (copying geo image v t m) ≡ 133 * taken
    first-long =
        let still : eqb (free_slots geo image t) taken ≡ false = ne_eqb (free_slots geo image t) taken (λ e. omega (arith, counted-in, able.room)) in
        rw still at (copying-long some m (omega arith)) ∙ omega arith

    copy-long : length copy ≡ 133 + 2 * one_if (eqb (free_slots geo image t) (taken + 1))
    copy-long =
        let then = rw one_more at (copying-long some (suc m) l) in
        omega (arith, length-append (copying geo image v t m) copy, ap length next, first-long, then)

    pub copied-step :
        (s : ℕ) →
        s < 133 + 2 * one_if (eqb (free_slots geo image t) (live_before geo image v m + 1)) →
        step_at (reclaiming geo image v t) (133 * live_before geo image v m + s)
        ≡ step_at (placement_steps geo (copy_into geo image v t m x) (contents geo image v m)) s
    unfolding reclaiming
    copied-step s q =
        let first = copying geo image v t m in
        let all = all-behind geo image v t (suc m) (d geo) l in
        let rest = all.0 ++ erasing geo image v in
        let parts : reclaiming geo image v t ≡ first ++ (copy ++ rest) =
        ap (λ (c : List Step). c ++ erasing geo image v) (all.1 ∙ ap (λ (c : List Step). c ++ all.0) next)
        ∙ append_assoc (first ++ copy) all.0 (erasing geo image v)
        ∙ append_assoc first copy rest in
        ap₂ step_at parts (ap (◌+ s) (sym first-long))
        ∙ step-behind first (copy ++ rest) s
        ∙ step-before copy rest s (omega (arith, copy-long))
        ∙ ap (λ (c : List Step). step_at c s) copy-ahead

  -- ---- all copies, and what is behind them

  pub copies-long : length (copying geo image v t (d geo)) ≡ copy_steps geo image v t
  copies-long = go (ℕ_discrete (live_slots geo image v) 0)
    where
      go : Dec (live_slots geo image v ≡ 0) → length (copying geo image v t (d geo)) ≡ copy_steps geo image v t
      go (yes e) = rw (none-copied geo image v t e (d geo) (omega arith), e)
      go (no e) = rw (ne_eqb (live_slots geo image v) 0 e) (copying-long (omega (arith, e)) (d geo) (omega arith))

  pub reclaiming-long : length (reclaiming geo image v t) ≡ copy_steps geo image v t + 2
  unfolding reclaiming
  reclaiming-long = omega (arith, length-append (copying geo image v t (d geo)) (erasing geo image v), copies-long)

  pub step-behind-copies : (s : ℕ) → step_at (reclaiming geo image v t) (copy_steps geo image v t + s) ≡ step_at (erasing geo image v) s
  unfolding reclaiming
  step-behind-copies s =
      ap (λ (c : ℕ). step_at (reclaiming geo image v t) (c + s)) (sym copies-long) ∙ step-behind (copying geo image v t (d geo)) (erasing geo image v) s
