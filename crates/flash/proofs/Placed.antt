-- A whole placing, (a) to (g): what it leaves of each reading of the image. Assumes nothing.
use mathlib.Core.Path.{◌≡◌, refl, sym, ap, ap₂, ◌∙◌}
use mathlib.Core.Logic.{◌≢◌}
use mathlib.Core.Bool.{Bool, true, false, not}
use mathlib.Core.List.{List, [], ◌∷◌, ◌++◌}
use Prim.Native.Nat.{ℕ, ◌+◌, ◌*◌, ◌%◌, ◌^◌, ◌<◌, ◌≤◌}
use native.Mathlib.Decide.{ℕ_discrete}
use native.Mathlib.Omega.{arith}
use lib.Dec.{eqb}
use lib.ListN.{length, get_or}
use Rattle.ranges.specs.Range.{one_if}
use Rattle.ranges.proofs.Tests.{any-ext}
use Rattle.ranges.proofs.Searches.{best-le, best-ext}
use Rattle.bits.specs.Word.{ones, is_set, cleared, programmed}
use Rattle.bits.proofs.Bit.{clear-bit}
use Rattle.bits.proofs.Clearing.{cleared-here, cleared-other}
use Rattle.bits.proofs.Programming.{ones-leave}
use Rattle.geometry.specs.declared.Geometry.{Geometry}
use Rattle.geometry.specs.Geometry.{Limits, d, k, block_length, sector_words}
use Rattle.geometry.specs.Places.{place, erase_word, least_word, greatest_word, map_word, entry_word, content_word}
use Rattle.geometry.proofs.Laws.{logical-small, low-in-block, entry-in-block, management-fits, map-word-inside, map-covers, entry-word-inside, content-word-inside, content-word-after, content-word-injective}
use Rattle.image.specs.declared.Slot.TheVariants.{Live, Dead}
use Rattle.image.specs.Found.{Found}
use Rattle.image.specs.Found.{At}
use Rattle.image.specs.Words.{Image, Shaped, Words32, word, erase_count, least_mapped, greatest_mapped, free_map, map_bit, entry, contents}
use Rattle.image.specs.Slots.{valid_bit, current_bit, slot, own_slot, slot_of, is_free, is_live_for, live_in, find, is_at}
use Rattle.image.specs.Blocks.{full}
use Rattle.image.specs.WellFormed.{NoneSuperseded}
use Rattle.image.proofs.Entries.{complete-for, invalid-dead}
use Rattle.image.proofs.Own.{none-superseded, each-own}
use Rattle.image.proofs.Reading.{word-inside}
use Rattle.image.proofs.Finding.{LiveAt, found-live}
use Rattle.image.proofs.Places.{apart, contents-at, contents-are, contents-long}
use Rattle.flash.specs.declared.Step.{Step}
use Rattle.flash.specs.declared.Step.TheVariants.{Program}
use Rattle.flash.specs.Steps.{run, words_in}
use Rattle.flash.specs.Placing.{least_live, greatest_live, closes_block, fills_slot, placing}
use Rattle.flash.proofs.Stores.{Exact, last_asked, run-append, run_none, last-append, last-here, last-other, last-nothing, exact_none, exact_one, exact-then, run-words}
use Rattle.flash.proofs.Counts.{placing-words, placing-erasures}
use Rattle.flash.proofs.Changed.{Changed, renewed, once-kept}
use Rattle.flash.proofs.Taken.{Readings}
use Rattle.flash.proofs.Filling.{Ready, Target, Elsewhere, free-not-full, fills-exact, filled-map, filled-entry, filled-content, filled-old, filled-elsewhere}

-- What a placing leaves, by slots: n in slot i of block b, with the contents ws; its old slot dead; all else as it was. (Words 1 and 2
-- are another matter: they are written where the block fills.)
pub record Placed (geo : Geometry) (image after : Image) (n : ℕ) (ws : List ℕ) (b i : ℕ) : Type 0 where
  pub long : length after ≡ length image
  pub counts : (c : ℕ) → c < geo.blocks → erase_count geo after c ≡ erase_count geo image c
  pub map-here : map_bit geo after b i ≡ false
  pub map_other : (c j : ℕ) → c < geo.blocks → j < 32 * k geo → (c ≡ b → j ≡ i → ⊥) → map_bit geo after c j ≡ map_bit geo image c j
  pub entry_here : entry geo after b i ≡ 0xC0000000 + n
  pub entry_other :
      (c j : ℕ) → c < geo.blocks → j < d geo → (c ≡ b → j ≡ i → ⊥) → (find geo image n ≡ At c j → ⊥) → entry geo after c j ≡ entry geo image c j
  pub current : NoneSuperseded geo after
  pub changed : Changed geo image (slot geo after) n b i
  pub contents-here : contents geo after b i ≡ ws
  pub contents-other : (c j : ℕ) → c < geo.blocks → j < d geo → (c ≡ b → j ≡ i → ⊥) → contents geo after c j ≡ contents geo image c j

-- words 1 and 2 after a placing in block b
pub record Bounds (geo : Geometry) (image after : Image) (b : ℕ) : Type 0 where
  pub elsewhere : (c : ℕ) → c ≢ b → (least_mapped geo after c ≡ least_mapped geo image c) × (greatest_mapped geo after c ≡ greatest_mapped geo image c)
  pub open_block : full geo after b ≡ false → (least_mapped geo after b ≡ ones) × (greatest_mapped geo after b ≡ ones)
  pub full_block : full geo after b ≡ true → (least_mapped geo after b ≡ least_live geo after b) × (greatest_mapped geo after b ≡ greatest_live geo after b)

module _ (geo : Geometry) (image : Image) (n : ℕ) (ws : List ℕ) (b i : ℕ) (ready : Ready geo image) (target : Target geo image n ws b i) where
  abbrev old : Found
  old = find geo image n

  abbrev pub Away : ℕ → Type 0
  Away q = Elsewhere geo image n ws b i ready target q

  within : Limits geo
  within = ready.shaped.limits

  -- neither word 1 nor word 2 of the block
  abbrev pub NotBound : ℕ → Type 0
  NotBound q = (v : ℕ) → 0 < v → v < 3 → q ≢ place geo b v

  -- the words of an image in which the slot was taken, whatever stands in its entry and contents, the old entry, and words 1 and 2 of the block
  pub record Around (after : Image) : Type 0 where
    pub long : length after ≡ length image
    pub map : word after (place geo b (map_word i)) ≡ cleared (free_map geo image b i) (i % 32)
    pub elsewhere : {q : ℕ} → Away q → NotBound q → word after q ≡ word image q

  -- the words after (a) to (f), whatever stands in words 1 and 2 of the block
  pub record Words (after : Image) : Type 0 where
    pub around : Around after
    pub entry-word : word after (place geo b (entry_word geo i)) ≡ 0xC0000000 + n
    pub content : (j : ℕ) → j < sector_words → word after (place geo b (content_word geo i j)) ≡ get_or ws j 0
    pub old-entry : {c j : ℕ} → old ≡ At c j → word after (place geo c (entry_word geo j)) ≡ cleared (cleared (entry geo image c j) current_bit) valid_bit

  -- ---- which readings are elsewhere

  old-live : {c j : ℕ} → old ≡ At c j → LiveAt geo image n c j
  old-live {c} {j} e = found-live geo image n c j e

  map-in : {j : ℕ} → j < 32 * k geo → map_word j < 3 + k geo
  map-in {j} l = map-word-inside geo within {i = j} l

  slot-in-map : {j : ℕ} → j < d geo → j < 32 * k geo
  slot-in-map l = omega (arith, map-covers geo within)

  -- a word before the entries, but for the slot's own map word
  pub low-away : (c j : ℕ) → j < 3 + k geo → (c ≡ b → j ≡ map_word i → ⊥) → Away (place geo c j)
  low-away c j l n' =
      record {
        map = apart geo (low-in-block geo within l) (low-in-block geo within (map-in (slot-in-map target.slot_is))) n';
        entry = apart geo (low-in-block geo within l) (entry-in-block geo within target.slot_is) (λ p e. omega arith);
        contents = λ m h.
            apart geo (low-in-block geo within l) (content-word-inside geo within target.slot_is h)
            (λ p e. omega (arith, management-fits geo within, content-word-after geo within i m));
        old = λ c' j' e. apart geo (low-in-block geo within l) (entry-in-block geo within (old-live e).slot_is) (λ p q. omega arith);
      }

  entry-away : (c j : ℕ) → j < d geo → (c ≡ b → j ≡ i → ⊥) → (old ≡ At c j → ⊥) → Away (place geo c (entry_word geo j))
  entry-away c j l n' o =
      record {
        map =
            apart geo (entry-in-block geo within l) (low-in-block geo within (map-in (slot-in-map target.slot_is)))
            (λ p e. omega (arith, map-in (slot-in-map target.slot_is)));
        entry = apart geo (entry-in-block geo within l) (entry-in-block geo within target.slot_is) (λ p e. n' p (omega arith));
        contents = λ m h.
            apart geo (entry-in-block geo within l) (content-word-inside geo within target.slot_is h)
            (λ p e. omega (arith, entry-word-inside geo within l, content-word-after geo within i m));
        old = λ c' j' e.
            apart geo (entry-in-block geo within l) (entry-in-block geo within (old-live e).slot_is)
            (λ p q. let same : j ≡ j' = omega arith in o (e ∙ ap₂ At (sym p) (sym same)));
      }

  content-away : (c j m : ℕ) → j < d geo → m < sector_words → (c ≡ b → j ≡ i → ⊥) → Away (place geo c (content_word geo j m))
  content-away c j m l h n' =
      let inside = content-word-inside geo within l h in
      let late = content-word-after geo within j m in
      record {
        map = apart geo inside (low-in-block geo within (map-in (slot-in-map target.slot_is)))
            (λ p e. omega (arith, map-in (slot-in-map target.slot_is), management-fits geo within));
        entry =
            apart geo inside (entry-in-block geo within target.slot_is)
            (λ p e. omega (arith, entry-word-inside geo within target.slot_is));
        contents = λ m' h'.
            apart geo inside (content-word-inside geo within target.slot_is h')
            (λ p e. n' p (content-word-injective geo j m i m' h h' e).0);
        old = λ c' j' e.
            apart geo inside (entry-in-block geo within (old-live e).slot_is)
            (λ p q. omega (arith, entry-word-inside geo within (old-live e).slot_is));
      }

  -- a word from the map on is none of those two
  not-bound : (c : ℕ) {w : ℕ} → w < block_length geo → 3 ≤ w → NotBound (place geo c w)
  not-bound c l m v p h = apart geo l (low-in-block geo within (omega arith)) (λ q e. omega arith)

  -- ---- so what is read as before

  module _ (after : Image) (left : Around after) where
    pub around-shaped : Shaped geo after
    around-shaped = record { limits = within; long = left.long ∙ ready.shaped.long }

    counts : (c : ℕ) → c < geo.blocks → erase_count geo after c ≡ erase_count geo image c
    unfolding erase_count
    counts c l =
        left.elsewhere (low-away c erase_word (omega arith) (λ p e. omega arith))
        (λ v p h. apart geo (low-in-block geo within (omega arith)) (low-in-block geo within (omega arith)) (λ q e. omega arith))

    map-word-other : (c j : ℕ) → j < 32 * k geo → (c ≡ b → map_word j ≡ map_word i → ⊥) → free_map geo after c j ≡ free_map geo image c j
    unfolding free_map
    map-word-other c j l n' =
        left.elsewhere (low-away c (map_word j) (map-in l) n')
        (not-bound c (low-in-block geo within (map-in l)) (omega arith))

    map-word-same : (j : ℕ) → map_word j ≡ map_word i → free_map geo after b j ≡ cleared (free_map geo image b j) (i % 32)
    unfolding free_map
    map-word-same j e = rw e left.map

    map_other : (c j : ℕ) → c < geo.blocks → j < 32 * k geo → (c ≡ b → j ≡ i → ⊥) → map_bit geo after c j ≡ map_bit geo image c j
    map_other c j l h n' = go (ℕ_discrete c b) (ℕ_discrete (map_word j) (map_word i))
      where
        go : Dec (c ≡ b) → Dec (map_word j ≡ map_word i) → map_bit geo after c j ≡ map_bit geo image c j
        go (no p) q = ap (λ (w : ℕ). is_set w (j % 32)) (map-word-other c j h (λ s e. p s))
        go (yes p) (no q) = ap (λ (w : ℕ). is_set w (j % 32)) (map-word-other c j h (λ s e. q e))
        go (yes p) (yes q) =
            rw p
            (ap (λ (w : ℕ). is_set w (j % 32)) (map-word-same j q)
            ∙ ap (λ (x : ℕ). eqb x 1) (cleared-other (free_map geo image b j) (i % 32) (j % 32) (λ e. n' p (omega arith))))

    map-here : map_bit geo after b i ≡ false
    map-here =
        ap (λ (w : ℕ). is_set w (i % 32)) (map-word-same i refl)
        ∙ clear-bit _ (i % 32) (cleared-here (free_map geo image b i) (i % 32))

    entry_other :
        (c j : ℕ) → c < geo.blocks → j < d geo → (c ≡ b → j ≡ i → ⊥) → (old ≡ At c j → ⊥) → entry geo after c j ≡ entry geo image c j
    unfolding entry
    entry_other c j l h n' o = left.elsewhere (entry-away c j h n' o) (not-bound c (entry-in-block geo within h) (omega arith))

    -- a slot that is neither the one taken nor the old one, by its own entry and map bit
    pub own-other : (c j : ℕ) → c < geo.blocks → j < d geo → (c ≡ b → j ≡ i → ⊥) → (old ≡ At c j → ⊥) → own_slot geo after c j ≡ slot geo image c j
    unfolding own_slot
    own-other c j l h n' o =
        ap₂ (slot_of geo.logical) (map_other c j l (slot-in-map h) n') (entry_other c j l h n' o)
        ∙ sym (each-own ready.sound.current l h)

    contents-other : (c j : ℕ) → c < geo.blocks → j < d geo → (c ≡ b → j ≡ i → ⊥) → contents geo after c j ≡ contents geo image c j
    contents-other c j l h n' =
        contents-are geo after c j (contents geo image c j) around-shaped l h (contents-long geo image ready.shaped l h)
        (λ m q.
        left.elsewhere (content-away c j m h q n')
        (not-bound c (content-word-inside geo within h q) (omega (arith, content-word-after geo within j m)))
        ∙ sym (contents-at geo image c j m q))

    pub around-readings : Readings geo image after b i
    around-readings = record { counts = counts; map-here = map-here; map_other = map_other; contents-other = contents-other }

    -- words 1 and 2 of another block
    low-other : (c v : ℕ) → v < 3 → c ≢ b → word after (place geo c v) ≡ word image (place geo c v)
    low-other c v l n' =
        left.elsewhere (low-away c v (omega arith) (λ p e. n' p))
        (λ w p h. apart geo (low-in-block geo within (omega arith)) (low-in-block geo within (omega arith)) (λ q e. n' q))

    pub bounds-other : (c : ℕ) → c ≢ b → (least_mapped geo after c ≡ least_mapped geo image c) × (greatest_mapped geo after c ≡ greatest_mapped geo image c)
    unfolding least_mapped greatest_mapped
    bounds-other c n' = (low-other c least_word (omega arith) n', low-other c greatest_word (omega arith) n')

  -- ---- and what is left, by slots

  module _ (after : Image) (left : Words after) where
    same : Readings geo image after b i
    same = around-readings after left.around

    entry_here : entry geo after b i ≡ 0xC0000000 + n
    unfolding entry
    entry_here = left.entry-word

    -- by their own entries and map bits: n complete in the slot that was taken, the old entry not valid any more, all others as they were
    own-here : own_slot geo after b i ≡ Live n
    unfolding own_slot
    own-here =
        ap (slot_of geo.logical (map_bit geo after b i)) entry_here
        ∙ complete-for geo.logical (map_bit geo after b i) n target.number (omega (arith, logical-small geo within))

    own_old : (c j : ℕ) → old ≡ At c j → own_slot geo after c j ≡ Dead
    unfolding own_slot entry
    own_old c j e =
        ap (slot_of geo.logical (map_bit geo after c j)) (left.old-entry e)
        ∙ invalid-dead geo.logical (map_bit geo after c j) (cleared (cleared (entry geo image c j) current_bit) valid_bit)
        (clear-bit _ valid_bit (cleared-here (cleared (entry geo image c j) current_bit) valid_bit))

    own-changed : Changed geo image (own_slot geo after) n b i
    own-changed = record { here = own-here; old-dead = own_old; other = own-other after left.around }

    -- so no slot is superseded, and each is what its own entry and map bit say
    current : NoneSuperseded geo after
    current = none-superseded geo after (once-kept geo image (own_slot geo after) n b i ready.sound (renewed own-changed))

    here : slot geo after b i ≡ Live n
    here = each-own current target.block target.slot_is ∙ own-here

    old-dead : (c j : ℕ) → old ≡ At c j → slot geo after c j ≡ Dead
    old-dead c j e = each-own current (old-live e).block (old-live e).slot_is ∙ own_old c j e

    other : (c j : ℕ) → c < geo.blocks → j < d geo → (c ≡ b → j ≡ i → ⊥) → (old ≡ At c j → ⊥) → slot geo after c j ≡ slot geo image c j
    other c j l h n' o = each-own current l h ∙ own-other after left.around c j l h n' o

    contents-here : contents geo after b i ≡ ws
    contents-here = contents-are geo after b i ws (around-shaped after left.around) target.block target.slot_is target.long left.content

    pub placed : Placed geo image after n ws b i
    placed =
        record {
          long = left.around.long;
          counts = same.counts;
          map-here = same.map-here;
          map_other = same.map_other;
          entry_here = entry_here;
          entry_other = entry_other after left.around;
          current = current;
          changed = record { here = here; old-dead = old-dead; other = other };
          contents-here = contents-here;
          contents-other = same.contents-other;
        }

  -- ---- (a) to (f), then (g)

  abbrev pub filled : Image
  filled = run geo image (fills_slot geo image old n ws b i)

  pub filled-words : Words filled
  filled-words =
      record {
        around =
            record {
              long = (fills-exact geo image n ws b i ready target).long;
              map = filled-map geo image n ws b i ready target;
              elsewhere = λ e p. filled-elsewhere geo image n ws b i ready target e;
            };
        entry-word = filled-entry geo image n ws b i ready target;
        content = filled-content geo image n ws b i ready target;
        old-entry = λ e. filled-old geo image n ws b i ready target e;
      }

  -- whatever stands in words 1 and 2 of the block then
  module _ (after : Image) (long : length after ≡ length image) (kept : (q : ℕ) → NotBound q → word after q ≡ word filled q) where
    pub bounds-apart : Words after
    bounds-apart =
        record {
          around =
              record {
                long = long;
                map =
                    kept _ (not-bound b (low-in-block geo within (map-in (slot-in-map target.slot_is))) (omega arith))
                    ∙ filled-words.around.map;
                elsewhere = λ e p. kept _ p ∙ filled-words.around.elsewhere e p;
              };
          entry-word = kept _ (not-bound b (entry-in-block geo within target.slot_is) (omega arith)) ∙ filled-words.entry-word;
          content = λ j l.
              kept _ (not-bound b (content-word-inside geo within target.slot_is l) (omega (arith, content-word-after geo within i j)))
              ∙ filled-words.content j l;
          old-entry = λ {c} e.
              kept _ (not-bound c (entry-in-block geo within (old-live e).slot_is) (omega arith))
              ∙ filled-words.old-entry e;
        }

    own-apart : (c j : ℕ) → j < d geo → own_slot geo after c j ≡ own_slot geo filled c j
    unfolding own_slot entry free_map
    own-apart c j l =
        ap₂ (λ (w : ℕ). slot_of geo.logical (is_set w (j % 32)))
        (kept _ (not-bound c (low-in-block geo within (map-in (slot-in-map l))) (omega arith)))
        (kept _ (not-bound c (entry-in-block geo within l) (omega arith)))

    pub slot_apart : (j : ℕ) → j < d geo → slot geo after b j ≡ slot geo filled b j
    slot_apart j l =
        each-own (current after bounds-apart) target.block l ∙ own-apart b j l ∙ sym (each-own (current filled filled-words) target.block l)

    pub full-apart : full geo after b ≡ full geo filled b
    unfolding full
    full-apart = ap not (any-ext (d geo) (λ j l. ap is_free (slot_apart j l)))

  -- the block was not full, so words 1 and 2 are ones until (g)
  pub not-full-before : full geo image b ≡ false
  not-full-before = free-not-full geo image b target.slot_is (ap is_free target.free)

  pub least-blank : word filled (place geo b least_word) ≡ ones
  unfolding least_mapped
  least-blank =
      filled-elsewhere geo image n ws b i ready target (low-away b least_word (omega arith) (λ p e. omega arith))
      ∙ (ready.sound.unbounded b target.block not-full-before).0

  pub greatest-blank : word filled (place geo b greatest_word) ≡ ones
  unfolding greatest_mapped
  greatest-blank =
      filled-elsewhere geo image n ws b i ready target (low-away b greatest_word (omega arith) (λ p e. omega arith))
      ∙ (ready.sound.unbounded b target.block not-full-before).1

  low_fits : (v : ℕ) → v < 3 → place geo b v < length filled
  low_fits v l =
      let inside : v < block_length geo = low-in-block geo within (omega arith) in
      omega (arith, filled-words.around.long, word-inside geo image ready.shaped target.block inside)

  abbrev least-now : ℕ
  least-now = least_live geo filled b

  abbrev greatest-now : ℕ
  greatest-now = greatest_live geo filled b

  least_fits : least-now < 2 ^ 32
  unfolding least_live
  least_fits = omega (arith, logical-small geo within, best-le (λ i r. false) geo.logical (live_in geo filled b))

  greatest-fits : greatest-now < 2 ^ 32
  unfolding greatest_live
  greatest-fits = omega (arith, logical-small geo within, best-le (λ i r. true) geo.logical (live_in geo filled b))

  pub low-apart : place geo b greatest_word ≢ place geo b least_word
  low-apart e = omega arith

  abbrev pub first_store : List Step
  first_store = Program (place geo b least_word) least-now ∷ []

  abbrev pub second_store : List Step
  second_store = Program (place geo b greatest_word) greatest-now ∷ []

  pub first-exact : Exact geo filled first_store
  first-exact =
      exact_one geo filled (place geo b least_word) least-now (low_fits least_word (omega arith))
      (ap (λ (w : ℕ). programmed w least-now) least-blank ∙ ones-leave least-now least_fits)

  second-exact : Exact geo (run geo filled first_store) second_store
  second-exact =
      exact_one geo (run geo filled first_store) (place geo b greatest_word) greatest-now
      (omega (arith, first-exact.long, low_fits greatest_word (omega arith)))
      (ap (λ (w : ℕ). programmed w greatest-now)
      (first-exact.words (place geo b greatest_word) ∙ last-other least-now (word filled (place geo b greatest_word)) low-apart ∙ greatest-blank)
      ∙ ones-leave greatest-now greatest-fits)

  both-exact : Exact geo filled (first_store ++ second_store)
  both-exact = exact-then geo filled first_store second_store first-exact second-exact

  pub closes-full : full geo filled b ≡ true → closes_block geo filled b ≡ first_store ++ second_store
  unfolding closes_block
  closes-full t = rw t

  pub closes-open : full geo filled b ≡ false → closes_block geo filled b ≡ []
  unfolding closes_block
  closes-open t = rw t

  closing-exact : Exact geo filled (closes_block geo filled b)
  closing-exact = go (full geo filled b) refl
    where
      go : (f : Bool) → full geo filled b ≡ f → Exact geo filled (closes_block geo filled b)
      go true t = rw (closes-full t) both-exact
      go false t = rw (closes-open t) (exact_none geo filled)

  abbrev final : Image
  final = run geo image (placing geo image n ws b i)

  pub placing-exact : Exact geo image (placing geo image n ws b i)
  unfolding placing
  placing-exact =
      exact-then geo image (fills_slot geo image old n ws b i) (closes_block geo filled b)
      (fills-exact geo image n ws b i ready target) closing-exact

  pub final-image : final ≡ run geo filled (closes_block geo filled b)
  unfolding placing
  final-image = run-append geo image (fills_slot geo image old n ws b i) (closes_block geo filled b)

  -- (g) writes words 1 and 2 of the block, or nothing
  closing-elsewhere : {q : ℕ} → NotBound q → word final q ≡ word filled q
  closing-elsewhere {q} other =
      ap (λ (x : Image). word x q) final-image ∙ closing-exact.words q ∙ go (full geo filled b) refl
    where
      go : (f : Bool) → full geo filled b ≡ f → last_asked (closes_block geo filled b) q (word filled q) ≡ word filled q
      go true t =
          ap (λ (ss : List Step). last_asked ss q (word filled q)) (closes-full t)
          ∙ last-append first_store second_store q (word filled q)
          ∙ last-other greatest-now (last_asked first_store q (word filled q)) (other greatest_word (omega arith) (omega arith))
          ∙ last-other least-now (word filled q) (other least_word (omega arith) (omega arith))
      go false t = ap (λ (ss : List Step). last_asked ss q (word filled q)) (closes-open t) ∙ last-nothing q (word filled q)

  final-words : Words final
  final-words = bounds-apart final placing-exact.long (λ q. closing-elsewhere)

  pub placing-placed : Placed geo image final n ws b i
  placing-placed = placed final final-words

  -- ---- words 1 and 2

  -- the image that (g) reads
  pub filled-placed : Placed geo image filled n ws b i
  filled-placed = placed filled filled-words

  slot-final : (j : ℕ) → j < d geo → slot geo final b j ≡ slot geo filled b j
  slot-final = slot_apart final placing-exact.long (λ q. closing-elsewhere)

  full-final : full geo final b ≡ full geo filled b
  full-final = full-apart final placing-exact.long (λ q. closing-elsewhere)

  live-in-final : (m : ℕ) → live_in geo final b m ≡ live_in geo filled b m
  live-in-final m = any-ext (d geo) (λ j l. ap (is_live_for m) (slot-final j l))

  least-final : least_live geo final b ≡ least-now
  unfolding least_live
  least-final = best-ext geo.logical (λ m l. live-in-final m) (λ m r l h. refl)

  greatest-final : greatest_live geo final b ≡ greatest-now
  unfolding greatest_live
  greatest-final = best-ext geo.logical (λ m l. live-in-final m) (λ m r l h. refl)

  bounds-open : full geo final b ≡ false → (least_mapped geo final b ≡ ones) × (greatest_mapped geo final b ≡ ones)
  unfolding least_mapped greatest_mapped
  bounds-open t =
      let same : final ≡ filled = final-image ∙ ap (run geo filled) (closes-open (sym full-final ∙ t)) ∙ run_none geo filled in (
        ap (λ (x : Image). word x (place geo b least_word)) same ∙ least-blank,
        ap (λ (x : Image). word x (place geo b greatest_word)) same ∙ greatest-blank,
      )

  bounds-full :
      full geo final b ≡ true →
      (least_mapped geo final b ≡ least_live geo final b) × (greatest_mapped geo final b ≡ greatest_live geo final b)
  unfolding least_mapped greatest_mapped
  bounds-full t =
      let same : final ≡ run geo filled (first_store ++ second_store) =
      final-image ∙ ap (run geo filled) (closes-full (sym full-final ∙ t)) in (
        ap (λ (x : Image). word x (place geo b least_word)) same
            ∙ both-exact.words (place geo b least_word)
            ∙ last-append first_store second_store (place geo b least_word) (word filled (place geo b least_word))
            ∙ last-other greatest-now (last_asked first_store (place geo b least_word) (word filled (place geo b least_word))) (λ e. low-apart (sym e))
            ∙ last-here (place geo b least_word) least-now (word filled (place geo b least_word))
            ∙ sym least-final,
        ap (λ (x : Image). word x (place geo b greatest_word)) same
            ∙ both-exact.words (place geo b greatest_word)
            ∙ last-append first_store second_store (place geo b greatest_word) (word filled (place geo b greatest_word))
            ∙ last-here (place geo b greatest_word) greatest-now (last_asked first_store (place geo b greatest_word) (word filled (place geo b greatest_word)))
            ∙ sym greatest-final,
      )

  pub placing-bounds : Bounds geo image final b
  placing-bounds = record { elsewhere = bounds-other final final-words.around; open_block = bounds-open; full_block = bounds-full }

  -- the words that a placing programs (FORMAT.md, Costs), by the image that it leaves
  pub placing-cost : words_in (placing geo image n ws b i) ≡ 131 + 2 * one_if (is_at (find geo image n)) + 2 * one_if (full geo final b)
  placing-cost = placing-words geo image n ws b i ∙ ap (λ (f : Bool). 131 + 2 * one_if (is_at (find geo image n)) + 2 * one_if f) (sym full-final)

  -- the image after is one to place in again
  pub placing-shaped : Shaped geo final
  placing-shaped = around-shaped final final-words.around

  pub placing-words32 : Words32 final
  placing-words32 = run-words geo image (placing geo image n ws b i) (placing-erasures geo image n ws b i) ready.words
