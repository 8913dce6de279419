-- (ii) of a repair: what holds of the image while words 1 and 2 of full blocks are programmed, and when they are. Assumes nothing.
use mathlib.Core.Path.{◌≡◌, refl, sym, ap, ap₂, ◌∙◌}
use mathlib.Core.Logic.{◌≢◌, ◌⊎◌, inl, inr, ⊎_elim}
use mathlib.Core.Bool.{Bool, true, false, cond, ◌&&◌, true≢false}
use mathlib.Core.List.{List, ◌++◌}
use Prim.Native.Nat.{ℕ, suc, ◌+◌, ◌*◌, ◌<◌, ◌≤◌}
use native.Mathlib.Decide.{dec_lt, ℕ_discrete}
use native.Mathlib.Omega.{arith}
use lib.Dec.{ltb, eqb}
use borrow.Author.Tests.{eq-eqb, eqb-true, eqb-false, lt-ltb, le-ltb}
use Rattle.std.specs.Prelude.{Option, Some, None}
use Rattle.std.specs.Option.{unwrap_or}
use Rattle.ranges.specs.Range.{one_if, sum_below, join_below}
use Rattle.ranges.proofs.Tests.{both-pass, any_at}
use Rattle.ranges.proofs.Sums.{sum-ext, sum-zero, count_none, count-fails}
use Rattle.ranges.proofs.Searches.{best-le, best-passes}
use Rattle.bits.specs.Word.{ones}
use Rattle.geometry.specs.declared.Geometry.{Geometry}
use Rattle.geometry.specs.Geometry.{d}
use Rattle.geometry.specs.Places.{place, erase_word, least_word, greatest_word}
use Rattle.geometry.proofs.Laws.{logical-small}
use Rattle.image.specs.declared.Slot.{Slot}
use Rattle.image.specs.declared.Slot.TheVariants.{Free, Live, Dead, Faulty, Superseded}
use Rattle.image.specs.Words.{Image, Shaped, word, erase_count, least_mapped, greatest_mapped}
use Rattle.image.specs.Slots.{slot, is_live, is_live_for, live_in}
use Rattle.image.specs.Blocks.{full, live_slots}
use Rattle.image.specs.WellFormed.{NoneSuperseded}
use Rattle.image.specs.Mending.{least_unset, greatest_unset, least_bound}
use Rattle.image.proofs.Own.{live-number}
use Rattle.image.proofs.Facts.{live-for}
use Rattle.image.proofs.Mending.{Mendable}
use Rattle.flash.specs.declared.LiveBounds.{LiveBounds}
use Rattle.flash.specs.declared.Step.{Step}
use Rattle.flash.specs.Steps.{run, words_in, erasures_in, leaves_asked}
use Rattle.flash.specs.Placing.{least_live, greatest_live, live_bounds}
use Rattle.flash.specs.Repairing.{or_zero, sets_least, sets_greatest, bounding}
use Rattle.flash.proofs.Stores.{run-append, asked-append, exact_none, Counts, counts-words, counts-erasures, count-append, count-one}
use Rattle.flash.proofs.Along.{Along, join-each, along-append, along-join}
use Rattle.flash.proofs.Joins.{count-join}
use Rattle.flash.proofs.Kept.{live-between}
use Rattle.placing.specs.Bounds.{bounds_below}
use Rattle.placing.proofs.BoundLaws.{bounds-some, bounds-none}
use Rattle.restoring.proofs.LowWords.{LowOnly, low-none, low-then, programs_where, Programmed, programmed-where, along-where}
use Rattle.restoring.proofs.LowWords.{full-kept, live-slots-kept, least-live-kept, greatest-live-kept, current-kept, still-mendable}

-- ---- word w of the blocks, one block after the other, where a test asks for it

-- the step that a test asks for is counted where it passes
pub count-where :
    {count : List Step → ℕ} {u v : ℕ} →
    Counts count u v →
    (geo : Geometry) (asks : Bool) (b w asked : ℕ) →
    count (programs_where geo asks b w asked) ≡ one_if asks * u
count-where c geo true b w asked = omega (arith, count-one c (place geo b w) asked)
count-where c geo false b w asked = omega (arith, c.none)

module _ (geo : Geometry) (image : Image) (w : ℕ) (asks : ℕ → Bool) (asked : ℕ → ℕ) where
  -- what word w of block c is then
  abbrev word_then : ℕ → ℕ
  word_then c = cond (asks c) (asked c) (word image (place geo c w))

  -- in the first k blocks it is done, in the others not yet
  record Column (k : ℕ) (now : Image) : Type 0 where
    at_block : (c : ℕ) → c < geo.blocks → word now (place geo c w) ≡ cond (ltb c k) (word_then c) (word image (place geo c w))

  column-none : Column 0 image
  column-none = record { at_block = λ c l. rw (le-ltb c 0 (omega arith)) }

  -- not yet
  column-ahead : {k : ℕ} {now : Image} → Column k now → (c : ℕ) → c < geo.blocks → k ≤ c → word now (place geo c w) ≡ word image (place geo c w)
  column-ahead {k} q c l h = q.at_block c l ∙ rw (le-ltb c k h)

  -- done
  column-done : {k : ℕ} {now : Image} → Column k now → (c : ℕ) → c < geo.blocks → c < k → word now (place geo c w) ≡ word_then c
  column-done {k} q c l h = q.at_block c l ∙ rw (lt-ltb c k h)

  -- one or the other
  column-either :
      {k : ℕ} {now : Image} →
      Column k now →
      (c : ℕ) →
      c < geo.blocks →
      (word now (place geo c w) ≡ word image (place geo c w)) ⊎ ((asks c ≡ true) × (word now (place geo c w) ≡ asked c))
  column-either {k} {now} q c l = go (ltb c k) (asks c) refl (q.at_block c l)
    where
      go :
          (done t : Bool) →
          asks c ≡ t →
          word now (place geo c w) ≡ cond done (cond t (asked c) (word image (place geo c w))) (word image (place geo c w)) →
          (word now (place geo c w) ≡ word image (place geo c w)) ⊎ ((asks c ≡ true) × (word now (place geo c w) ≡ asked c))
      go true true t e = inr (t, e)
      go true false t e = inl e
      go false x t e = inl e

  -- one block more
  column-next :
      {k : ℕ} {now : Image} →
      w < 3 →
      k < geo.blocks →
      Column k now →
      Programmed geo now (asks k) k w (asked k) →
      Column (suc k) (run geo now (programs_where geo (asks k) k w (asked k)))
  column-next {k} {now} small block q s = record { at_block = λ c l. go c l (ℕ_discrete c k) (dec_lt c k) }
    where
      after : Image
      after = run geo now (programs_where geo (asks k) k w (asked k))

      go :
          (c : ℕ) →
          c < geo.blocks →
          Dec (c ≡ k) →
          Dec (c < k) →
          word after (place geo c w) ≡ cond (ltb c (suc k)) (word_then c) (word image (place geo c w))
      go c l (yes e) x =
          rw (e, lt-ltb k (suc k) (omega arith)) (s.here ∙ ap (cond (asks k) (asked k)) (column-ahead q k block (omega arith)))
      go c l (no n) (yes x) = s.other c w small (λ e f. n e) ∙ column-done q c l x ∙ rw (lt-ltb c (suc k) (omega arith))
      go c l (no n) (no x) = s.other c w small (λ e f. n e) ∙ column-ahead q c l (omega arith) ∙ rw (le-ltb c (suc k) (omega arith))

-- ---- the two bounds

module _ (geo : Geometry) (image : Image) where
  abbrev asks_least : ℕ → Bool
  asks_least b = full geo image b && least_unset geo image b

  abbrev asks_greatest : ℕ → Bool
  asks_greatest b = full geo image b && greatest_unset geo image b

  abbrev least_asked : ℕ → ℕ
  least_asked b = or_zero geo image b (least_live geo image b)

  abbrev greatest_asked : ℕ → ℕ
  greatest_asked b = or_zero geo image b (greatest_live geo image b)

  -- both words of one block
  abbrev pub bounds : ℕ → List Step
  bounds b = sets_least geo image b ++ sets_greatest geo image b

  -- a bound that is at most L is so where it is 0 for a block without live numbers
  or-zero-small : (b x : ℕ) → x ≤ geo.logical → or_zero geo image b x ≤ geo.logical
  or-zero-small b x l = go (eqb (live_slots geo image b) 0)
    where
      go : (t : Bool) → cond t 0 x ≤ geo.logical
      go true = omega arith
      go false = l

  pub least-small : (b : ℕ) → least_asked b ≤ geo.logical
  unfolding least_live
  least-small b = or-zero-small b (least_live geo image b) (best-le (λ i r. false) geo.logical (live_in geo image b))

  pub greatest-small : (b : ℕ) → greatest_asked b ≤ geo.logical
  unfolding greatest_live
  greatest-small b = or-zero-small b (greatest_live geo image b) (best-le (λ i r. true) geo.logical (live_in geo image b))

  -- where a number is live, the bound is asked for
  some-live : (b i : ℕ) {n : ℕ} (x : ℕ) → i < d geo → slot geo image b i ≡ Live n → or_zero geo image b x ≡ x
  some-live b i x h e = go (eqb (live_slots geo image b) 0) refl
    where
      go : (t : Bool) → eqb (live_slots geo image b) 0 ≡ t → cond t 0 x ≡ x
      go true t =
          absurd (true≢false (sym (ap is_live e) ∙ count-fails (d geo) (λ i. is_live (slot geo image b i)) (eqb-true _ _ t) i h))
      go false t = refl

  -- by the least live number, which is L where none is live
  pub none-live-zero : (b x : ℕ) → least_live geo image b ≡ geo.logical → or_zero geo image b x ≡ 0
  none-live-zero b x e = rw (eq-eqb (live_slots geo image b) 0 (count_none (d geo) (λ i h. no_number (slot geo image b i) (nowhere i h))))
    where
      nowhere : (i : ℕ) → i < d geo → (n : ℕ) → slot geo image b i ≡ Live n → ⊥
      nowhere i h n q = omega (arith, e, live-number geo image b i q, (live-between geo image b i n h q).0)

      no_number : (s : Slot) → ((n : ℕ) → s ≡ Live n → ⊥) → is_live s ≡ false
      no_number Free k = refl
      no_number (Live n) k = absurd (k n refl)
      no_number Dead k = refl
      no_number Faulty k = refl
      no_number Superseded k = refl

  pub some-live-bound : (b x : ℕ) → least_live geo image b ≢ geo.logical → or_zero geo image b x ≡ x
  unfolding least_live
  some-live-bound b x n =
      let found = best-passes (λ i r. false) geo.logical (live_in geo image b) (omega (arith, n, best-le (λ i r. false) geo.logical (live_in geo image b))) in
      let (i, h, t) = any_at (d geo) (λ i. is_live_for (least_live geo image b) (slot geo image b i)) found in
      some-live b i x h (live-for (least_live geo image b) (slot geo image b i) t)

  -- both, by the bounds of the live numbers, if there are any
  pub asked-bounds :
      (b : ℕ) {live : Option LiveBounds} →
      live ≡ bounds_below geo.logical (live_bounds geo image b) →
      let asked = unwrap_or live (record { least = 0; greatest = 0 }) in
      (asked.least ≡ least_asked b) × (asked.greatest ≡ greatest_asked b)
  unfolding least_live
  asked-bounds b {live = Some x} e =
      let some = bounds-some geo.logical (live_bounds geo image b) e in
      let bound : (y : ℕ) → or_zero geo image b y ≡ y = λ y. some-live-bound b y (λ none. omega (arith, none, some.1)) in
      (ap (λ (l : LiveBounds). l.least) some.0 ∙ sym (bound _), ap (λ (l : LiveBounds). l.greatest) some.0 ∙ sym (bound _))
  asked-bounds b {live = None} e =
      let none : least_live geo image b ≡ geo.logical =
      omega (arith, bounds-none geo.logical (live_bounds geo image b) e, best-le (λ i r. false) geo.logical (live_in geo image b)) in
      (sym (none-live-zero b _ none), sym (none-live-zero b _ none))

  pub asked-between : (b i n : ℕ) → i < d geo → slot geo image b i ≡ Live n → (least_asked b ≤ n) × (n ≤ greatest_asked b)
  asked-between b i n h e =
      let between = live-between geo image b i n h e in
      (rw (some-live b i (least_live geo image b) h e) between.0, rw (some-live b i (greatest_live geo image b) h e) between.1)

-- ---- on the way

-- the image while (ii) is done
pub record Bounding (geo : Geometry) (image now : Image) : Type 0 where
  pub low : LowOnly geo image now
  pub counts : (c : ℕ) → c < geo.blocks → erase_count geo now c ≡ erase_count geo image c
  pub mendable : Mendable geo now
  pub current : NoneSuperseded geo now

-- in no full block word 1 or word 2 is all ones
abbrev pub Closed : Geometry → Image → Type 0
Closed geo image =
    (c : ℕ) → c < geo.blocks → full geo image c ≡ true → (least_mapped geo image c ≢ ones) × (greatest_mapped geo image c ≢ ones)

module _ (geo : Geometry) (image : Image) (shaped : Shaped geo image) (start : Mendable geo image) (current : NoneSuperseded geo image) where
  -- word 1 of the first k blocks and word 2 of the first m are done
  record Passed (k m : ℕ) (now : Image) : Type 0 where
    low : LowOnly geo image now
    counts : (c : ℕ) → c < geo.blocks → word now (place geo c erase_word) ≡ word image (place geo c erase_word)
    leasts : Column geo image least_word (asks_least geo image) (least_asked geo image) k now
    greatests : Column geo image greatest_word (asks_greatest geo image) (greatest_asked geo image) m now

  small : geo.logical < ones
  small = omega (arith, logical-small geo shaped.limits)

  -- a word that is no larger than n is no lower bound above n
  bound-le : (now : Image) (c : ℕ) {n : ℕ} → least_mapped geo now c ≤ n → least_bound geo now c ≤ n
  bound-le now c {n} l = go (least_unset geo now c)
    where
      go : (t : Bool) → cond t 0 (least_mapped geo now c) ≤ n
      go true = omega arith
      go false = l

  module _ {k m : ℕ} {now : Image} (p : Passed k m now) where
    -- words 1 and 2 are programmed only in full blocks
    kept-open :
        (c : ℕ) →
        c < geo.blocks →
        full geo image c ≡ false →
        (least_mapped geo now c ≡ least_mapped geo image c) × (greatest_mapped geo now c ≡ greatest_mapped geo image c)
    unfolding least_mapped greatest_mapped
    kept-open c l f = (
      ⊎_elim (λ e. e) (λ x. absurd (true≢false (sym (both-pass _ _ x.0).0 ∙ f)))
          (column-either geo image least_word (asks_least geo image) (least_asked geo image) p.leasts c l),
      ⊎_elim (λ e. e) (λ x. absurd (true≢false (sym (both-pass _ _ x.0).0 ∙ f)))
          (column-either geo image greatest_word (asks_greatest geo image) (greatest_asked geo image) p.greatests c l),
    )

    -- and bound the live numbers there
    least-holds : (c i n : ℕ) → c < geo.blocks → i < d geo → full geo image c ≡ true → slot geo image c i ≡ Live n → least_bound geo now c ≤ n
    unfolding least_mapped
    least-holds c i n l h f e =
        ⊎_elim
        (λ same. rw same (start.bounded c i n l h f e).0)
        (λ x. bound-le now c (rw x.1 (asked-between geo image c i n h e).0))
        (column-either geo image least_word (asks_least geo image) (least_asked geo image) p.leasts c l)

    greatest-holds :
        (c i n : ℕ) → c < geo.blocks → i < d geo → full geo image c ≡ true → slot geo image c i ≡ Live n → n ≤ greatest_mapped geo now c
    unfolding greatest_mapped
    greatest-holds c i n l h f e =
        ⊎_elim
        (λ same. rw same (start.bounded c i n l h f e).1)
        (λ x. rw x.1 (asked-between geo image c i n h e).1)
        (column-either geo image greatest_word (asks_greatest geo image) (greatest_asked geo image) p.greatests c l)

    passed-bounding : Bounding geo image now
    unfolding erase_count
    passed-bounding =
        record {
          low = p.low;
          counts = p.counts;
          mendable =
              still-mendable geo image now p.low start (λ c l. inl (p.counts c l)) kept-open
              (λ c i n l h f e. (least-holds c i n l h f e, greatest-holds c i n l h f e));
          current = current-kept geo image now p.low current;
        }

  -- ---- one block more

  module _ {k : ℕ} {now : Image} (block : k < geo.blocks) (p : Passed k k now) where
    abbrev mid : Image
    mid = run geo now (sets_least geo image k)

    least-set : Programmed geo now (asks_least geo image k) k least_word (least_asked geo image k)
    unfolding least_mapped
    least-set =
        programmed-where geo now (asks_least geo image k) k least_word (least_asked geo image k) p.low.shaped block (omega arith)
        (λ t.
        column-ahead geo image least_word (asks_least geo image) (least_asked geo image) p.leasts k block (omega arith)
        ∙ eqb-true _ _ (both-pass (full geo image k) _ t).1)
        (omega (arith, small, least-small geo image k))

    half : Passed (suc k) k mid
    half =
        record {
          low = low-then p.low least-set.low;
          counts = λ c l. least-set.other c erase_word (omega arith) (λ x e. omega arith) ∙ p.counts c l;
          leasts = column-next geo image least_word (asks_least geo image) (least_asked geo image) (omega arith) block p.leasts least-set;
          greatests = record { at_block = λ c l. least-set.other c greatest_word (omega arith) (λ x e. omega arith) ∙ p.greatests.at_block c l };
        }

    greatest-set : Programmed geo mid (asks_greatest geo image k) k greatest_word (greatest_asked geo image k)
    unfolding greatest_mapped
    greatest-set =
        programmed-where geo mid (asks_greatest geo image k) k greatest_word (greatest_asked geo image k) half.low.shaped block (omega arith)
        (λ t.
        column-ahead geo image greatest_word (asks_greatest geo image) (greatest_asked geo image) half.greatests k block (omega arith)
        ∙ eqb-true _ _ (both-pass (full geo image k) _ t).1)
        (omega (arith, small, greatest-small geo image k))

    both : Passed (suc k) (suc k) (run geo now (bounds geo image k))
    both =
        rw (run-append geo now (sets_least geo image k) (sets_greatest geo image k))
        (record {
          low = low-then half.low greatest-set.low;
          counts = λ c l. greatest-set.other c erase_word (omega arith) (λ x e. omega arith) ∙ half.counts c l;
          leasts = record { at_block = λ c l. greatest-set.other c least_word (omega arith) (λ x e. omega arith) ∙ half.leasts.at_block c l };
          greatests = column-next geo image greatest_word (asks_greatest geo image) (greatest_asked geo image) (omega arith) block half.greatests greatest-set;
        })

    along-both : Along geo (Bounding geo image) now (bounds geo image k)
    along-both =
        along-append geo (Bounding geo image) now (sets_least geo image k) (sets_greatest geo image k)
        (along-where geo (Bounding geo image) now (asks_least geo image k) k least_word (least_asked geo image k) (passed-bounding p) (passed-bounding half))
        (along-where geo (Bounding geo image) mid (asks_greatest geo image k) k greatest_word (greatest_asked geo image k)
        (passed-bounding half)
        (rw (run-append geo now (sets_least geo image k) (sets_greatest geo image k)) at (passed-bounding both)))

    asked-both : leaves_asked geo now (bounds geo image k) ≡ true
    asked-both =
        asked-append geo now (sets_least geo image k) (sets_greatest geo image k) ∙ ap₂ ◌&&◌ least-set.as-asked greatest-set.as-asked

  -- ---- the first blocks, and all

  passed_none : Passed 0 0 image
  passed_none =
      record {
        low = low-none shaped;
        counts = λ c l. refl;
        leasts = column-none geo image least_word (asks_least geo image) (least_asked geo image);
        greatests = column-none geo image greatest_word (asks_greatest geo image) (greatest_asked geo image);
      }

  passed_first :
      (m : ℕ) →
      m ≤ geo.blocks →
      Along geo (Bounding geo image) image (join_below m (bounds geo image)) × Passed m m (run geo image (join_below m (bounds geo image)))
  passed_first m l =
      along-join geo (Bounding geo image) (bounds geo image) (λ k. Passed k k) m image
      (λ k now p. passed-bounding p)
      (λ k now h p. (along-both (omega arith) p, both (omega arith) p))
      passed_none

  -- what the code has done when it comes to block m
  pub bounding-first : (m : ℕ) → m ≤ geo.blocks → Bounding geo image (run geo image (join_below m (bounds geo image)))
  bounding-first m l = passed-bounding (passed_first m l).1

  -- and that its steps there are the same as those told from the first image
  pub bounds-then : (m : ℕ) → m < geo.blocks → bounds geo (run geo image (join_below m (bounds geo image))) m ≡ bounds geo image m
  unfolding least_mapped greatest_mapped
  bounds-then m l =
      let p = (passed_first m (omega arith)).1 in
      let now = run geo image (join_below m (bounds geo image)) in
      rw (
        full-kept geo image now p.low m l,
        live-slots-kept geo image now p.low m l,
        least-live-kept geo image now p.low m l,
        greatest-live-kept geo image now p.low m l,
        column-ahead geo image least_word (asks_least geo image) (least_asked geo image) p.leasts m l (omega arith),
        column-ahead geo image greatest_word (asks_greatest geo image) (greatest_asked geo image) p.greatests m l (omega arith),
      )

  -- ---- (ii)

  pub bounding-along : Along geo (Bounding geo image) image (bounding geo image)
  unfolding bounding
  bounding-along = (passed_first geo.blocks (omega arith)).0

  pub bounding-asked : leaves_asked geo image (bounding geo image) ≡ true
  unfolding bounding
  bounding-asked =
      (join-each geo (λ now steps. leaves_asked geo now steps ≡ true)
      (λ now xs ys x y. asked-append geo now xs ys ∙ ap₂ ◌&&◌ x y)
      (bounds geo image) (λ k. Passed k k) geo.blocks image
      (exact_none geo image).asked
      (λ k now l p. (asked-both l p, both l p))
      passed_none).0

  -- a word of a full block that is done is not all ones
  word-closed :
      (w asked : ℕ) (asks : ℕ → Bool) (c : ℕ) →
      asked ≤ geo.logical →
      asks c ≡ eqb (word image (place geo c w)) ones →
      cond (asks c) asked (word image (place geo c w)) ≢ ones
  word-closed w asked asks c l e = go (asks c) (sym e)
    where
      go : (t : Bool) → eqb (word image (place geo c w)) ones ≡ t → cond t asked (word image (place geo c w)) ≢ ones
      go true t q = omega (arith, small)
      go false t q = eqb-false _ _ t q

  pub bounding-closed : Closed geo (run geo image (bounding geo image))
  unfolding bounding least_mapped greatest_mapped
  bounding-closed c l f =
      let p = (passed_first geo.blocks (omega arith)).1 in
      let is-full = sym (full-kept geo image (run geo image (bounding geo image)) p.low c l) ∙ f in (
        rw (column-done geo image least_word (asks_least geo image) (least_asked geo image) p.leasts c l l)
            (word-closed least_word (least_asked geo image c) (asks_least geo image) c (least-small geo image c) (rw is-full)),
        rw (column-done geo image greatest_word (asks_greatest geo image) (greatest_asked geo image) p.greatests c l l)
            (word-closed greatest_word (greatest_asked geo image c) (asks_greatest geo image) c (greatest-small geo image c) (rw is-full)),
      )

-- how many steps (ii) has: one for each word that is asked for, and none erases
module _ (geo : Geometry) (image : Image) where
  block-count :
      {count : List Step → ℕ} {u v : ℕ} →
      Counts count u v →
      (b : ℕ) →
      count (bounds geo image b) ≡ (one_if (asks_least geo image b) + one_if (asks_greatest geo image b)) * u
  block-count c b =
      omega (
        arith,
        count-append c (sets_least geo image b) (sets_greatest geo image b),
        count-where c geo (asks_least geo image b) b least_word (least_asked geo image b),
        count-where c geo (asks_greatest geo image b) b greatest_word (greatest_asked geo image b),
      )

  pub bounding-erasures : erasures_in (bounding geo image) ≡ 0
  unfolding bounding
  bounding-erasures =
      count-join counts-erasures geo.blocks (bounds geo image) ∙ sum-zero geo.blocks (λ b l. omega (arith, block-count counts-erasures b))

  pub bounding-words :
      words_in (bounding geo image) ≡ sum_below geo.blocks (λ b. one_if (asks_least geo image b) + one_if (asks_greatest geo image b))
  unfolding bounding
  bounding-words = count-join counts-words geo.blocks (bounds geo image) ∙ sum-ext geo.blocks (λ b l. omega (arith, block-count counts-words b))
