-- (i) of a repair (K4): what an image is on the way, when some of its superseded entries were made invalid, and at the end, when none is left.
-- Assumes nothing.
use mathlib.Core.Path.{◌≡◌, refl, sym, ap, ap₂, ◌∙◌}
use mathlib.Core.Logic.{◌⊎◌, inl, inr, ⊎_elim}
use mathlib.Core.Bool.{Bool, true, false, cond, ◌&&◌, true≢false}
use mathlib.Core.List.{List, [], ◌++◌}
use Prim.Native.Nat.{ℕ, suc, ◌*◌, ◌<◌, ◌≤◌}
use native.Mathlib.Omega.{arith}
use Rattle.ranges.specs.Range.{one_if, sum_below, count_below, join_below}
use Rattle.ranges.proofs.Tests.{any-ext, below_suc}
use Rattle.ranges.proofs.Sums.{sum-ext, sum-zero}
use Rattle.bits.specs.Word.{is_set, cleared}
use Rattle.geometry.specs.declared.Geometry.{Geometry}
use Rattle.geometry.specs.Geometry.{d, k}
use Rattle.geometry.specs.Places.{place, entry_word}
use Rattle.geometry.proofs.Laws.{map-covers}
use Rattle.image.specs.declared.Slot.TheVariants.{Dead, Superseded}
use Rattle.image.specs.Found.{At}
use Rattle.image.specs.Words.{Image, Words32, Shaped, erase_count, least_mapped, greatest_mapped, map_bit, entry, contents}
use Rattle.image.specs.Slots.{valid_bit, is_complete, is_passing, is_complete_for, has_complete, superseded, slot}
use Rattle.image.specs.WellFormed.{NoneSuperseded}
use Rattle.image.proofs.Entries.{passing-not-complete}
use Rattle.image.proofs.Alike.{superseded-kept, slot_kept}
use Rattle.image.proofs.Own.{passed, superseded-slot, slot-own}
use Rattle.flash.specs.declared.Step.{Step}
use Rattle.flash.specs.Steps.{run, words_in, erasures_in, leaves_asked}
use Rattle.flash.specs.Placing.{invalidates}
use Rattle.flash.specs.Repairing.{clears_slot, clearing, settled}
use Rattle.flash.proofs.Stores.{asked-append, Counts, counts-words, counts-erasures, count-one}
use Rattle.flash.proofs.Along.{Along, join-each, along-none, along_one, along-end, along-append, along-map}
use Rattle.flash.proofs.Joins.{count-join}
use Rattle.flash.proofs.Changed.{at_slot}
use Rattle.flash.proofs.Invalidated.{invalidated, Invalidated, invalidate, own-dead}

-- the image `now` is `image` with some of its superseded entries made invalid
pub record Retired (geo : Geometry) (image now : Image) : Type 0 where
  pub shaped : Shaped geo now
  pub words : Words32 now
  pub counts : (c : ℕ) → c < geo.blocks → erase_count geo now c ≡ erase_count geo image c
  pub bounds :
      (c : ℕ) → c < geo.blocks → (least_mapped geo now c ≡ least_mapped geo image c) × (greatest_mapped geo now c ≡ greatest_mapped geo image c)
  pub maps : (c j : ℕ) → c < geo.blocks → j < 32 * k geo → map_bit geo now c j ≡ map_bit geo image c j
  pub contents-kept : (c j : ℕ) → c < geo.blocks → j < d geo → contents geo now c j ≡ contents geo image c j
  pub completes : (n : ℕ) → has_complete geo now n ≡ has_complete geo image n
  pub entries : (c j : ℕ) → c < geo.blocks → j < d geo → superseded geo image c j ≡ false → entry geo now c j ≡ entry geo image c j
  pub kinds :
      (c j : ℕ) →
      c < geo.blocks →
      j < d geo →
      (slot geo now c j ≡ slot geo image c j) ⊎ ((slot geo image c j ≡ Superseded) × (slot geo now c j ≡ Dead))

-- no entry was
pub retired-none : (geo : Geometry) (image : Image) → Shaped geo image → Words32 image → Retired geo image image
retired-none geo image shaped words =
    record {
      shaped = shaped;
      words = words;
      counts = λ c l. refl;
      bounds = λ c l. (refl, refl);
      maps = λ c j l h. refl;
      contents-kept = λ c j l h. refl;
      completes = λ n. refl;
      entries = λ c j l h f. refl;
      kinds = λ c j l h. inl refl;
    }

-- some were, and then some more
pub retired-then : {geo : Geometry} {image now after : Image} → Retired geo image now → Retired geo now after → Retired geo image after
retired-then {geo} {image} {now} {after} r s =
    record {
      shaped = s.shaped;
      words = s.words;
      counts = λ c l. s.counts c l ∙ r.counts c l;
      bounds = λ c l. ((s.bounds c l).0 ∙ (r.bounds c l).0, (s.bounds c l).1 ∙ (r.bounds c l).1);
      maps = λ c j l h. s.maps c j l h ∙ r.maps c j l h;
      contents-kept = λ c j l h. s.contents-kept c j l h ∙ r.contents-kept c j l h;
      completes = λ n. s.completes n ∙ r.completes n;
      entries = λ c j l h f.
          let same = r.entries c j l h f in
          s.entries c j l h (superseded-kept geo image now r.completes c j same ∙ f) ∙ same;
      kinds = λ c j l h.
          ⊎_elim
          (λ e. ⊎_elim (λ f. inl (f ∙ e)) (λ f. inr (sym e ∙ f.0, f.1)) (s.kinds c j l h))
          (λ e. inr (e.0, ⊎_elim (λ f. f ∙ e.1) (λ f. f.1) (s.kinds c j l h)))
          (r.kinds c j l h);
    }

-- ---- one superseded entry made invalid

-- an entry that is not valid is neither complete nor in passing
not_valid : (e : ℕ) → is_set e valid_bit ≡ false → (is_complete e ≡ false) × (is_passing e ≡ false)
unfolding is_complete is_passing
not_valid e f = (rw f, rw f)

module _
    (geo : Geometry) (image : Image) (b i : ℕ)
    (shaped : Shaped geo image) (words : Words32 image) (l : b < geo.blocks) (h : i < d geo) (t : superseded geo image b i ≡ true)
  where
    abbrev after : Image
    after = invalidated geo image b i

    made : Invalidated geo image b i
    made = invalidate geo image b i shaped words l h

    -- it was in passing, and so not complete; now it is neither
    not-superseded-now : superseded geo after b i ≡ false
    unfolding superseded
    not-superseded-now = rw (not_valid (entry geo after b i) made.here).1

    same-complete : (n c j : ℕ) → j < d geo → is_complete_for n (entry geo after c j) ≡ is_complete_for n (entry geo image c j)
    same-complete n c j m =
        at_slot c j b i
        (λ x y.
        rw (x, y, (not_valid (entry geo after b i) made.here).0, passing-not-complete (entry geo image b i) (passed geo image b i t).passing))
        (λ o. ap (is_complete_for n) (made.entries c j m o))

    same-completes : (n : ℕ) → has_complete geo after n ≡ has_complete geo image n
    unfolding has_complete
    same-completes n = any-ext geo.blocks (λ c m. any-ext (d geo) (λ j q. same-complete n c j q))

    -- so every other slot keeps its kind
    slot-other : (c j : ℕ) → j < d geo → (c ≡ b → j ≡ i → ⊥) → slot geo after c j ≡ slot geo image c j
    slot-other c j m o =
        slot_kept geo image after same-completes c j (made.entries c j m o) (made.maps c j (omega (arith, map-covers geo shaped.limits)))

    slot-here : slot geo after b i ≡ Dead
    slot-here = slot-own geo after b i not-superseded-now ∙ own-dead geo image b i shaped.limits made

    retired-one : Retired geo image after
    retired-one =
        record {
          shaped = made.shaped;
          words = made.words;
          counts = λ c m. made.counts c;
          bounds = λ c m. made.bounds c;
          maps = λ c j m q. made.maps c j q;
          contents-kept = made.contents-kept;
          completes = same-completes;
          entries = λ c j m q f.
              at_slot c j b i
              (λ x y. absurd (true≢false (sym t ∙ sym (ap₂ (superseded geo image) x y) ∙ f)))
              (made.entries c j q);
          kinds = λ c j m q.
              at_slot c j b i
              (λ x y. inr (ap₂ (slot geo image) x y ∙ superseded-slot geo image b i t, ap₂ (slot geo after) x y ∙ slot-here))
              (λ o. inl (slot-other c j q o));
        }

-- ---- the turn of a slot

-- slot j of block c comes before slot i of block b
abbrev Before : ℕ → ℕ → ℕ → ℕ → Type 0
Before c j b i = (c < b) ⊎ ((c ≡ b) × (j < i))

-- steps on the image `now` that leave the words that they ask for, and on whose way no entry of `image` changes but superseded ones, to invalid
abbrev Tidy : Geometry → Image → Image → List Step → Type 0
Tidy geo image now steps = Along geo (Retired geo image) now steps × (leaves_asked geo now steps ≡ true)

module _ (geo : Geometry) (image : Image) where
  tidy-append : (now : Image) (xs ys : List Step) → Tidy geo image now xs → Tidy geo image (run geo now xs) ys → Tidy geo image now (xs ++ ys)
  tidy-append now xs ys p q =
      (along-append geo (Retired geo image) now xs ys p.0 q.0, asked-append geo now xs ys ∙ ap₂ ◌&&◌ p.1 q.1)

  tidy-none : (now : Image) → Retired geo image now → Tidy geo image now []
  unfolding leaves_asked
  tidy-none now r = (along-none geo (Retired geo image) now r, refl)

-- what the steps of one slot leave, on the image that they are told by
record SlotRetired (geo : Geometry) (image : Image) (b i : ℕ) (steps : List Step) : Type 0 where
  tidy : Tidy geo image image steps
  gone : superseded geo (run geo image steps) b i ≡ false
  others : (c j : ℕ) → j < d geo → (c ≡ b → j ≡ i → ⊥) → entry geo (run geo image steps) c j ≡ entry geo image c j

slot-retired :
    (geo : Geometry) (image : Image) (b i : ℕ) →
    Shaped geo image →
    Words32 image →
    b < geo.blocks →
    i < d geo →
    SlotRetired geo image b i (clears_slot geo image b i)
unfolding run leaves_asked
slot-retired geo image b i shaped words l h = go (superseded geo image b i) refl
  where
    start : Retired geo image image
    start = retired-none geo image shaped words

    go : (t : Bool) → superseded geo image b i ≡ t → SlotRetired geo image b i (cond t (invalidates geo image (At b i)) [])
    go true t =
        record {
          tidy = (along_one geo (Retired geo image) image _ start (retired-one geo image b i shaped words l h t), (made geo image b i shaped words l h t).asked);
          gone = not-superseded-now geo image b i shaped words l h t;
          others = (made geo image b i shaped words l h t).entries;
        }
    go false t = record { tidy = (along-none geo (Retired geo image) image start, refl); gone = t; others = λ c j q o. refl }

-- The image when slot i of block b has its turn, where the first turn was that of slot 0 of block `from`: the entries of the slots that are still to come
-- are as they were, and those that were passed are not superseded.
pub record Turn (geo : Geometry) (image : Image) (from b i : ℕ) (now : Image) : Type 0 where
  pub retired : Retired geo image now
  pub ahead : (c j : ℕ) → c < geo.blocks → j < d geo → (Before c j b i → ⊥) → entry geo now c j ≡ entry geo image c j
  pub behind : (c j : ℕ) → c < geo.blocks → j < d geo → from ≤ c → Before c j b i → superseded geo now c j ≡ false

-- the first turn
pub turn-first : (geo : Geometry) (image : Image) (b : ℕ) → Shaped geo image → Words32 image → Turn geo image b b 0 image
turn-first geo image b shaped words =
    record {
      retired = retired-none geo image shaped words;
      ahead = λ c j l h n. refl;
      behind = λ c j l h m p. absurd (⊎_elim (λ x. omega arith) (λ x. omega (arith, x.1)) p);
    }

module _ (geo : Geometry) (image : Image) (from : ℕ) where
  module _ {b i : ℕ} {now : Image} (turn : Turn geo image from b i now) (l : b < geo.blocks) where
    -- the entries of the slots to come in this block are the same; so these are superseded as they were, and so their steps are the same, told by the
    -- image as it is now
    pub entry-same : (j : ℕ) → i ≤ j → j < d geo → entry geo now b j ≡ entry geo image b j
    entry-same j m h = turn.ahead b j l h (⊎_elim (λ x. omega arith) (λ x. omega (arith, x.1)))

    pub superseded-same : (j : ℕ) → i ≤ j → j < d geo → superseded geo now b j ≡ superseded geo image b j
    superseded-same j m h = superseded-kept geo image now turn.retired.completes b j (entry-same j m h)

    pub steps-same : (j : ℕ) → i ≤ j → j < d geo → clears_slot geo now b j ≡ clears_slot geo image b j
    steps-same j m h = rw (superseded-same j m h, entry-same j m h)

    -- after the last slot of a block the next block has its turn
    turn-block : i ≡ d geo → Turn geo image from (suc b) 0 now
    turn-block e =
        record {
          retired = turn.retired;
          ahead = λ c j m h n. turn.ahead c j m h (λ p. n (inl (⊎_elim (λ x. omega arith) (λ x. omega (arith, x.0)) p)));
          behind = λ c j m h f p.
              turn.behind c j m h f
              (⊎_elim (λ x. ⊎_elim (λ y. inr (y, omega arith)) inl (below_suc x)) (λ x. absurd (omega (arith, x.1))) p);
        }

    -- after a slot the next
    module _ (h : i < d geo) where
      abbrev steps : List Step
      steps = clears_slot geo image b i

      abbrev next : Image
      next = run geo now steps

      done : SlotRetired geo now b i steps
      done = rw (steps-same i (omega arith) h) at (slot-retired geo now b i turn.retired.shaped turn.retired.words l h)

      this : Retired geo now next
      this = along-end geo (Retired geo now) now steps done.tidy.0

      turn-tidy : Tidy geo image now steps
      turn-tidy =
          (along-map geo (Retired geo now) (Retired geo image) now steps (λ after r. retired-then turn.retired r) done.tidy.0, done.tidy.1)

      turn-next : Turn geo image from b (suc i) next
      turn-next =
          record {
            retired = retired-then turn.retired this;
            ahead = λ c j m q n.
                done.others c j q (λ x y. n (inr (x, omega arith)))
                ∙ turn.ahead c j m q (λ p. n (⊎_elim inl (λ x. inr (x.0, omega (arith, x.1))) p));
            behind = λ c j m q f p.
                at_slot c j b i
                (λ x y. ap₂ (superseded geo next) x y ∙ done.gone)
                (λ o.
                superseded-kept geo now next this.completes c j (done.others c j q o)
                ∙ turn.behind c j m q f (⊎_elim inl (λ x. inr (x.0, omega (arith, x.1, o x.0))) p));
          }

  -- the turns of the first m slots of block b
  pub turns-of-slots :
      {b : ℕ} {now : Image} →
      Turn geo image from b 0 now →
      b < geo.blocks →
      (m : ℕ) →
      m ≤ d geo →
      Tidy geo image now (join_below m (clears_slot geo image b)) × Turn geo image from b m (run geo now (join_below m (clears_slot geo image b)))
  turns-of-slots {b} {now} turn l m q =
      join-each geo (Tidy geo image) (tidy-append geo image) (clears_slot geo image b) (λ i. Turn geo image from b i) m now
      (tidy-none geo image now turn.retired)
      (λ i then h t. (turn-tidy t l (omega arith), turn-next t l (omega arith)))
      turn

-- ---- (i) as a whole

module _ (geo : Geometry) (image : Image) where
  abbrev pub clears_block : ℕ → List Step
  clears_block b = join_below (d geo) (clears_slot geo image b)

  module _ (shaped : Shaped geo image) (words : Words32 image) where
    -- the turns of the first m blocks
    pub turns-of-blocks :
        (m : ℕ) → m ≤ geo.blocks → Tidy geo image image (join_below m clears_block) × Turn geo image 0 m 0 (run geo image (join_below m clears_block))
    turns-of-blocks m q =
        join-each geo (Tidy geo image) (tidy-append geo image) clears_block (λ b. Turn geo image 0 b 0) m image
        (tidy-none geo image image (retired-none geo image shaped words))
        (λ b now h t.
        let slots = turns-of-slots geo image 0 t (omega arith) (d geo) (omega arith) in
        (slots.0, turn-block geo image 0 slots.1 (omega arith) refl))
        (turn-first geo image 0 shaped words)

    -- after every step only superseded entries were made invalid, and each step leaves the word that it asks for
    pub clearing-retires : Along geo (Retired geo image) image (clearing geo image)
    unfolding clearing
    clearing-retires = (turns-of-blocks geo.blocks (omega arith)).0.0

    pub clearing-asked : leaves_asked geo image (clearing geo image) ≡ true
    unfolding clearing
    clearing-asked = (turns-of-blocks geo.blocks (omega arith)).0.1

    pub settled-retired : Retired geo image (settled geo image)
    unfolding settled
    settled-retired = along-end geo (Retired geo image) image (clearing geo image) clearing-retires

    -- at the end no slot is superseded
    pub settled-current : NoneSuperseded geo (settled geo image)
    unfolding settled clearing
    settled-current = record { none = λ c j l h. (turns-of-blocks geo.blocks (omega arith)).1.behind c j l h (omega arith) (inl l) }

  -- one word for each superseded slot, and no block is erased
  slot-count :
      {count : List Step → ℕ} {u v : ℕ} → Counts count u v → (b i : ℕ) → count (clears_slot geo image b i) ≡ one_if (superseded geo image b i) * u
  slot-count {count} {u} counts b i = go (superseded geo image b i)
    where
      go : (t : Bool) → count (cond t (invalidates geo image (At b i)) []) ≡ one_if t * u
      go true = omega (arith, count-one counts (place geo b (entry_word geo i)) (cleared (entry geo image b i) valid_bit))
      go false = omega (arith, counts.none)

  pub clearing-words : words_in (clearing geo image) ≡ sum_below geo.blocks (λ b. count_below (d geo) (superseded geo image b))
  unfolding clearing
  clearing-words =
      count-join counts-words geo.blocks clears_block
      ∙ sum-ext geo.blocks
      (λ b l. count-join counts-words (d geo) (clears_slot geo image b) ∙ sum-ext (d geo) (λ i h. omega (arith, slot-count counts-words b i)))

  pub clearing-erasures : erasures_in (clearing geo image) ≡ 0
  unfolding clearing
  clearing-erasures =
      count-join counts-erasures geo.blocks clears_block
      ∙ sum-zero geo.blocks
      (λ b l. count-join counts-erasures (d geo) (clears_slot geo image b) ∙ sum-zero (d geo) (λ i h. omega (arith, slot-count counts-erasures b i)))
