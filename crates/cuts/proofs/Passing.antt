-- K4: what an image is wherever a placing is cut short, after any number of its steps (a) to (g). Assumes nothing.
use mathlib.Core.Path.{◌≡◌, refl, sym, ap, ap₂, ◌∙◌}
use mathlib.Core.Logic.{◌≢◌, ◌⊎◌, inl, inr}
use mathlib.Core.Bool.{Bool, true, false, true≢false}
use mathlib.Core.List.{List, ◌++◌}
use Prim.Native.Nat.{ℕ, ◌+◌, ◌/◌, ◌%◌, ◌^◌, ◌<◌, ◌≤◌, min}
use native.Mathlib.Omega.{arith}
use lib.Dec.{eqb}
use lib.ListN.{length, get_or}
use borrow.Author.Tests.{eq-eqb, lt-ltb}
use Rattle.ranges.specs.Range.{list_below}
use Rattle.ranges.proofs.Tests.{unless, any_of}
use Rattle.bits.specs.Word.{ones, cleared}
use Rattle.geometry.specs.declared.Geometry.{Geometry}
use Rattle.geometry.specs.Geometry.{Limits, d, sector_words}
use Rattle.geometry.specs.Places.{place, least_word, greatest_word, map_word, entry_word, content_word}
use Rattle.geometry.proofs.Laws.{logical-small}
use Rattle.image.specs.declared.Slot.TheVariants.{Live}
use Rattle.image.specs.Found.{Found}
use Rattle.image.specs.Found.{At, Nothing}
use Rattle.image.specs.Words.{Image, Words32, word, least_mapped, greatest_mapped, free_map, map_bit, entry, contents}
use Rattle.image.specs.Slots.{valid_bit, current_bit, is_complete, is_passing, slot_of, has_complete, superseded, own_slot, slot, is_live_for, find}
use Rattle.image.specs.Blocks.{full}
use Rattle.image.specs.WellFormed.{NoneSuperseded}
use Rattle.image.proofs.Entries.{complete-is-6, passing-is-4, complete-for, passing-for, passing-not-complete, unfinished-dead, any-bit, live-cleared}
use Rattle.image.proofs.Own.{Replaced, replaced, superseded-slot, slot-own, none-superseded, each-own, live_own, live-number}
use Rattle.image.proofs.Facts.{live-for, live-is-for}
use Rattle.image.proofs.Finding.{LiveAt, found-live, live-found}
use Rattle.image.proofs.Mending.{sound-mendable}
use Rattle.image.proofs.Places.{contents-are}
use Rattle.flash.specs.declared.Step.{Step}
use Rattle.flash.specs.declared.Step.TheVariants.{Program}
use Rattle.flash.specs.Steps.{run, first_of}
use Rattle.flash.specs.Placing.{least_live, entry_at, programs_entry, takes_slot, outdates, begins_entry, completes_entry, retires, placing, fills_slot, closes_block}
use Rattle.flash.proofs.Stores.{Exact, last_asked, run-append, run_none, last-here, last-other, last-list-other, run-words}
use Rattle.flash.proofs.Parts.{first-list, erases-none-first}
use Rattle.flash.proofs.Along.{Along, along-none, along-short, along-append}
use Rattle.flash.proofs.Counts.{placing-erasures}
use Rattle.flash.proofs.Changed.{Renewed, renewed, free-not-live, at_slot, found_at, same_number}
use Rattle.flash.proofs.Taken.{Taken, renewed-taken}
use Rattle.flash.proofs.Filling.{Ready, Target, NotEntry, entry_other, entry_here}
use Rattle.flash.proofs.Filling as fill
use Rattle.flash.proofs.Placed as put
use Rattle.flash.proofs.Kept.{live-between, placed-sound}
use Rattle.cuts.proofs.Midway as midway
use Rattle.cuts.proofs.Stages.{Begun, begun-once, begun-taken, Done, During}

module _ (geo : Geometry) (image : Image) (n : ℕ) (ws : List ℕ) (b i : ℕ) (ready : Ready geo image) (target : Target geo image n ws b i) where
  abbrev old : Found
  old = find geo image n

  abbrev Around : Image → Type 0
  Around = put.Around geo image n ws b i ready target

  abbrev Away : ℕ → Type 0
  Away = put.Away geo image n ws b i ready target

  -- the word that (b) asks for
  abbrev outdated : ℕ
  outdated = cleared (entry_at geo image old) current_bit

  -- the places of the slot's map word, its entry and its contents
  abbrev map-place : ℕ
  map-place = place geo b (map_word i)

  abbrev entry_place : ℕ
  entry_place = place geo b (entry_word geo i)

  abbrev content-place : ℕ → ℕ
  content-place j = place geo b (content_word geo i j)

  -- the parts of the placing, (c) by how many of its words, and the image after each
  abbrev B : List Step
  B = outdates geo image old

  abbrev first : ℕ → List Step
  first m = list_below m (λ j. Program (content-place j) (get_or ws j 0))

  abbrev D : List Step
  D = begins_entry geo b i n

  abbrev E : List Step
  E = completes_entry geo b i n

  abbrev after-A : Image
  after-A = run geo image (takes_slot geo image b i)

  abbrev after-B : Image
  after-B = run geo after-A B

  abbrev after_first : ℕ → Image
  after_first m = run geo after-B (first m)

  abbrev after-C : Image
  after-C = after_first sector_words

  abbrev after-D : Image
  after-D = run geo after-C D

  abbrev after-E : Image
  after-E = run geo after-D E

  -- each leaves the words that it asks for
  exact-A : Exact geo image (takes_slot geo image b i)
  exact-A = fill.exact-A geo image n ws b i ready target

  exact-B : Exact geo after-A B
  exact-B = fill.exact-B geo image n ws b i ready target

  exact-first : (m : ℕ) → m ≤ sector_words → Exact geo after-B (first m)
  exact-first = fill.exact-first geo image n ws b i ready target

  exact-D : Exact geo after-C D
  exact-D = fill.exact-D geo image n ws b i ready target

  exact-E : Exact geo after-D E
  exact-E = fill.exact-E geo image n ws b i ready target

  abbrev Edges : Image → Type 0
  Edges = midway.Edges geo image n ws b i ready target

  unset-edges : (now : Image) → (least_mapped geo now b ≡ ones) × (greatest_mapped geo now b ≡ ones) → Edges now
  unset-edges = midway.unset-edges geo image n ws b i ready target

  on-the-way :
      (now : Image) →
      Around now →
      Taken geo image (slot geo now) b i →
      Edges now →
      Words32 now →
      Begun geo image (slot geo now) b i ⊎ Done geo image now n ws b i →
      During geo image now n ws b i
  on-the-way = midway.on-the-way geo image n ws b i ready target

  within : Limits geo
  within = ready.shaped.limits

  old-live : {c j : ℕ} → old ≡ At c j → LiveAt geo image n c j
  old-live {c} {j} e = found-live geo image n c j e

  entry_free : word image entry_place ≡ ones
  entry_free = fill.entry_free geo image n ws b i ready target

  -- ---- the words until (g)

  -- the words of an image before (g): the slot's map word, and every word that no step programs
  record Still (now : Image) : Type 0 where
    long : length now ≡ length image
    map : word now map-place ≡ cleared (free_map geo image b i) (i % 32)
    elsewhere : {q : ℕ} → Away q → word now q ≡ word image q

  still-around : {now : Image} → Still now → Around now
  still-around t = record { long = t.long; map = t.map; elsewhere = λ e p. t.elsewhere e }

  -- words 1 and 2 of the block are not programmed before (g), and no number is above them then
  still-unset : {now : Image} → Still now → (least_mapped geo now b ≡ ones) × (greatest_mapped geo now b ≡ ones)
  unfolding least_mapped greatest_mapped
  still-unset t =
      let were = ready.sound.unbounded b target.block (put.not-full-before geo image n ws b i ready target) in (
        t.elsewhere (put.low-away geo image n ws b i ready target b least_word (omega arith) (λ p e. omega arith)) ∙ were.0,
        t.elsewhere (put.low-away geo image n ws b i ready target b greatest_word (omega arith) (λ p e. omega arith)) ∙ were.1,
      )

  -- a place that (b) to (f) do not program
  record Later (q : ℕ) : Type 0 where
    entry : q ≢ entry_place
    contents : (j : ℕ) → j < sector_words → q ≢ content-place j
    old : NotEntry geo old q

  away-later : {q : ℕ} → Away q → Later q
  away-later e = record { entry = e.entry; contents = e.contents; old = e.old }

  map-later : Later map-place
  map-later =
      record {
        entry = fill.map-not-entry geo image n ws b i ready target b target.slot_is;
        contents = fill.map-not-content geo image n ws b i ready target;
        old = λ c j e. fill.map-not-entry geo image n ws b i ready target c (old-live e).slot_is;
      }

  still-next : (now : Image) (steps : List Step) → Still now → Exact geo now steps → ((q x : ℕ) → Later q → last_asked steps q x ≡ x) → Still (run geo now steps)
  still-next now steps t e kept =
      record {
        long = e.long ∙ t.long;
        map = e.words map-place ∙ kept map-place (word now map-place) map-later ∙ t.map;
        elsewhere = λ {q} a. e.words q ∙ kept q (word now q) (away-later a) ∙ t.elsewhere a;
      }

  still-A : Still after-A
  still-A =
      record {
        long = exact-A.long;
        map = exact-A.words map-place ∙ last-here map-place (cleared (free_map geo image b i) (i % 32)) (word image map-place);
        elsewhere = λ e. fill.untouched-A geo image n ws b i ready target e.map;
      }

  still-B : Still after-B
  still-B = still-next after-A B still-A exact-B (λ q x l. entry_other geo outdated old x l.old)

  still-first : (m : ℕ) → m ≤ sector_words → Still (after_first m)
  still-first m most =
      still-next after-B (first m) still-B (exact-first m most)
      (λ q x l. last-list-other content-place (λ j. get_or ws j 0) m x (λ j r. l.contents j (omega arith)))

  still-D : Still after-D
  still-D = still-next after-C D (still-first sector_words (omega arith)) exact-D (λ q x l. last-other (0xE0000000 + n) x l.entry)

  still-E : Still after-E
  still-E = still-next after-D E still-D exact-E (λ q x l. last-other (0xC0000000 + n) x l.entry)

  -- ---- until (e): begun

  -- the entry is not finished, and the old one is still live for n, be it current or not
  record Early (now : Image) : Type 0 where
    still : Still now
    here : word now entry_place / 2 ^ 29 ≡ 7
    there : {c j : ℕ} → old ≡ At c j → (set : Bool) → slot_of geo.logical set (word now (place geo c (entry_word geo j))) ≡ Live n

  old-set : {c j : ℕ} → old ≡ At c j → (set : Bool) → slot_of geo.logical set (entry geo image c j) ≡ Live n
  unfolding own_slot
  old-set {c} {j} e set =
      live-for n _
      (any-bit (is_live_for n) refl geo.logical set (map_bit geo image c j) (entry geo image c j)
      ∙ live-is-for (live_own geo image c j (old-live e).live))

  -- the old entry with bit 30 cleared, as (b) leaves it
  outdated-is : {c j : ℕ} → old ≡ At c j → outdated ≡ 0x80000000 + n
  outdated-is {c} {j} e =
      ap (λ (o : Found). cleared (entry_at geo image o) current_bit) e
      ∙ live-cleared geo.logical true (entry geo image c j) n (fill.entry-small geo image n ws b i ready target c j) (old-set e true)

  number_fits : geo.logical ≤ 2 ^ 29
  number_fits = omega (arith, logical-small geo within)

  passing-old : {c j : ℕ} → old ≡ At c j → (e : ℕ) → e ≡ outdated → (set : Bool) → slot_of geo.logical set e ≡ Live n
  passing-old o e is set = rw (is, outdated-is o) (passing-for geo.logical set n target.number number_fits)

  early-A : Early after-A
  unfolding entry
  early-A =
      record {
        still = still-A;
        here = rw (fill.untouched-A geo image n ws b i ready target (λ e. map-later.entry (sym e)) ∙ entry_free);
        there = λ {c} {j} e set. rw (fill.old-word geo image n ws b i ready target e ∙ ap (entry_at geo image) e) (old-set e set);
      }

  -- (b) and the first words of (c)
  first_entry : (m : ℕ) → m ≤ sector_words → word (after_first m) entry_place ≡ ones
  first_entry m most =
      (exact-first m most).words entry_place
      ∙ last-list-other content-place (λ j. get_or ws j 0) m (word after-B entry_place)
      (λ j r. fill.entry-not-content geo image n ws b i ready target b target.slot_is j (omega arith))
      ∙ fill.untouched-B geo image n ws b i ready target (λ e. map-later.entry (sym e)) (λ c j e. fill.old-elsewhere geo image n ws b i ready target e)
      ∙ entry_free

  first-old : (m : ℕ) → m ≤ sector_words → {c j : ℕ} → old ≡ At c j → word (after_first m) (place geo c (entry_word geo j)) ≡ outdated
  first-old m most {c} {j} e =
      (exact-first m most).words (place geo c (entry_word geo j))
      ∙ last-list-other content-place (λ j. get_or ws j 0) m (word after-B (place geo c (entry_word geo j)))
      (λ k r. fill.entry-not-content geo image n ws b i ready target c (old-live e).slot_is k (omega arith))
      ∙ exact-B.words (place geo c (entry_word geo j))
      ∙ entry_here geo outdated old (word after-A (place geo c (entry_word geo j))) e

  early-first : (m : ℕ) → m ≤ sector_words → Early (after_first m)
  early-first m most =
      record {
        still = still-first m most;
        here = rw (first_entry m most);
        there = λ e. passing-old e _ (first-old m most e);
      }

  early-B : Early after-B
  unfolding list_below
  early-B = rw (run_none geo after-B) at (early-first 0 (omega arith))

  early-D : Early after-D
  early-D =
      record {
        still = still-D;
        here = rw (exact-D.words entry_place ∙ last-here entry_place (0xE0000000 + n) (word after-C entry_place)) (omega (arith, target.number, number_fits));
        there = λ {c} {j} e.
            passing-old e _
            (exact-D.words (place geo c (entry_word geo j))
            ∙ last-other (0xE0000000 + n) _ (λ q. fill.old-elsewhere geo image n ws b i ready target e (sym q))
            ∙ first-old sector_words (omega arith) e);
      }

  module _ (now : Image) (early : Early now) (words : Words32 now) where
    around-now : Around now
    around-now = still-around early.still

    own-begun : Begun geo image (own_slot geo now) b i
    unfolding own_slot entry
    own-begun =
        record {
          here =
              ap (λ (set : Bool). slot_of geo.logical set (word now entry_place))
              (put.around-readings geo image n ws b i ready target now around-now).map-here
              ∙ unfinished-dead geo.logical (word now entry_place) (words.small entry_place) early.here;
          other = λ c j l h n'. go c j l h n' (found_at old c j);
        }
      where
        go : (c j : ℕ) → c < geo.blocks → j < d geo → (c ≡ b → j ≡ i → ⊥) → Dec (old ≡ At c j) → own_slot geo now c j ≡ slot geo image c j
        go c j l h n' (yes o) = early.there o (map_bit geo now c j) ∙ sym (old-live o).live
        go c j l h n' (no o) = put.own-other geo image n ws b i ready target now around-now c j l h n' o

    begun-current : NoneSuperseded geo now
    begun-current = none-superseded geo now (begun-once geo image (own_slot geo now) b i own-begun ready.sound)

    begun : Begun geo image (slot geo now) b i
    begun =
        record {
          here = each-own begun-current target.block target.slot_is ∙ own-begun.here;
          other = λ c j l h n'. each-own begun-current l h ∙ own-begun.other c j l h n';
        }

    during-begun : During geo image now n ws b i
    during-begun =
        on-the-way now around-now
        (begun-taken geo image (slot geo now) b i begun ready.sound)
        (unset-edges now (still-unset early.still))
        words
        (inl begun)

  -- ---- (e): the number is complete in the slot, and the old entry superseded

  around-E : Around after-E
  around-E = still-around still-E

  entry-E : entry geo after-E b i ≡ 0xC0000000 + n
  unfolding entry
  entry-E = exact-E.words entry_place ∙ last-here entry_place (0xC0000000 + n) (word after-D entry_place)

  old-E : {c j : ℕ} → old ≡ At c j → entry geo after-E c j ≡ 0x80000000 + n
  unfolding entry
  old-E e = fill.old-outdated geo image n ws b i ready target e ∙ outdated-is e

  small : n < 2 ^ 29
  small = omega (arith, target.number, number_fits)

  own-here : own_slot geo after-E b i ≡ Live n
  unfolding own_slot
  own-here =
      ap (slot_of geo.logical (map_bit geo after-E b i)) entry-E
      ∙ complete-for geo.logical (map_bit geo after-E b i) n target.number number_fits

  own-other-E : (c j : ℕ) → c < geo.blocks → j < d geo → (c ≡ b → j ≡ i → ⊥) → (old ≡ At c j → ⊥) → own_slot geo after-E c j ≡ slot geo image c j
  own-other-E = put.own-other geo image n ws b i ready target after-E around-E

  complete-here : is_complete (entry geo after-E b i) ≡ true
  complete-here =
      rw entry-E (complete-is-6 (0xC0000000 + n) (omega (arith, small)) ∙ eq-eqb ((0xC0000000 + n) / 2 ^ 29) 6 (omega (arith, small)))

  passing-old-E : {c j : ℕ} → old ≡ At c j → is_passing (entry geo after-E c j) ≡ true
  passing-old-E e =
      rw (old-E e) (passing-is-4 (0x80000000 + n) (omega (arith, small)) ∙ eq-eqb ((0x80000000 + n) / 2 ^ 29) 4 (omega (arith, small)))

  has-complete : has_complete geo after-E n ≡ true
  unfolding has_complete
  has-complete =
      let low : (0xC0000000 + n) % 2 ^ 29 ≡ n = omega (arith, small) in
      any_of geo.blocks _ target.block
      (any_of (d geo) _ target.slot_is (rw complete-here (ap (λ (e : ℕ). eqb (e % 2 ^ 29) n) entry-E ∙ eq-eqb _ n low)))

  old-superseded : {c j : ℕ} → old ≡ At c j → superseded geo after-E c j ≡ true
  unfolding superseded
  old-superseded {c} {j} e =
      let low : (0x80000000 + n) % 2 ^ 29 ≡ n = omega (arith, small) in
      let number : entry geo after-E c j % 2 ^ 29 ≡ n = ap (◌% 2 ^ 29) (old-E e) ∙ low in
      rw (passing-old-E e, number, lt-ltb n geo.logical target.number) has-complete

  -- no other slot is: of two entries that would be live for one number neither was changed, or both are n's
  others-current : (c j : ℕ) → c < geo.blocks → j < d geo → (old ≡ At c j → ⊥) → superseded geo after-E c j ≡ false
  others-current c j l h o = unless (superseded geo after-E c j) (λ t. at_slot c j b i (λ x y. here x y t) (λ other. clash other (replaced geo after-E c j t)))
    where
      here : c ≡ b → j ≡ i → superseded geo after-E c j ≡ true → ⊥
      here x y t = true≢false (sym (ap₂ (λ (v w : ℕ). is_complete (entry geo after-E v w)) x y ∙ complete-here) ∙ (replaced geo after-E c j t).outdated)

      clash : (c ≡ b → j ≡ i → ⊥) → Replaced geo after-E c j → ⊥
      clash other r = at_slot r.by-block r.by-slot b i by-here (λ by-other. by-found by-other (found_at old r.by-block r.by-slot))
        where
          was : slot geo image c j ≡ Live r.number
          was = sym (own-other-E c j l h other o) ∙ r.live

          by-here : r.by-block ≡ b → r.by-slot ≡ i → ⊥
          by-here x y =
              let is-n : r.number ≡ n = same_number r.by-live (ap₂ (own_slot geo after-E) x y ∙ own-here) in
              o (live-found geo image ready.sound.once n c j (record { block = l; slot_is = h; live = was ∙ ap Live is-n }))

          by-found : (r.by-block ≡ b → r.by-slot ≡ i → ⊥) → Dec (old ≡ At r.by-block r.by-slot) → ⊥
          by-found by-other (yes p) = true≢false (sym r.complete ∙ passing-not-complete _ (passing-old-E p))
          by-found by-other (no p) =
              let by-was = sym (own-other-E r.by-block r.by-slot r.block_of r.slot_is by-other p) ∙ r.by-live in
              let same = ready.sound.once r.number c r.by-block j r.by-slot l r.block_of h r.slot_is was by-was in
              true≢false (sym (ap₂ (λ (v w : ℕ). is_complete (entry geo after-E v w)) same.0 same.1 ∙ r.complete) ∙ r.outdated)

  not-old-here : old ≡ At b i → ⊥
  not-old-here e = free-not-live target.free (old-live e).live

  renewed-E : Renewed geo image (slot geo after-E) n b i
  renewed-E =
      record {
        here = slot-own geo after-E b i (others-current b i target.block target.slot_is not-old-here) ∙ own-here;
        old-gone = λ c j e. inr (superseded-slot geo after-E c j (old-superseded e));
        other = λ c j l h n' o. slot-own geo after-E c j (others-current c j l h o) ∙ own-other-E c j l h n' o;
      }

  done-E : Words32 after-E → During geo image after-E n ws b i
  done-E words =
      on-the-way after-E around-E
      (renewed-taken geo image (slot geo after-E) n b i ready.sound renewed-E)
      (unset-edges after-E (still-unset still-E))
      words
      (inr (record { kinds = renewed-E; contents-here = stored }))
    where
      stored : contents geo after-E b i ≡ ws
      stored =
          contents-are geo after-E b i ws (put.around-shaped geo image n ws b i ready target after-E around-E) target.block target.slot_is target.long
          (fill.stored-content geo image n ws b i ready target)

  -- ---- (f), and (g) where the block is full

  abbrev filled : Image
  filled = put.filled geo image n ws b i ready target

  -- whatever stands in words 1 and 2 of the block
  done-words : (now : Image) → put.Words geo image n ws b i ready target now → Edges now → Words32 now → During geo image now n ws b i
  done-words now left edges words =
      let p = put.placed geo image n ws b i ready target now left in
      let kinds = renewed p.changed in
      on-the-way now left.around (renewed-taken geo image (slot geo now) n b i ready.sound kinds) edges words
      (inr (record { kinds = kinds; contents-here = p.contents-here }))

  filled-edges : Edges filled
  unfolding least_mapped greatest_mapped
  filled-edges = unset-edges filled (put.least-blank geo image n ws b i ready target, put.greatest-blank geo image n ws b i ready target)

  done-filled : Words32 filled → During geo image filled n ws b i
  done-filled = done-words filled (put.filled-words geo image n ws b i ready target) filled-edges

  abbrev first_store : List Step
  first_store = put.first_store geo image n ws b i ready target

  abbrev second_store : List Step
  second_store = put.second_store geo image n ws b i ready target

  -- between the two words of (g): word 1 is the least live number
  abbrev half-closed : Image
  half-closed = run geo filled first_store

  half-exact : Exact geo filled first_store
  half-exact = put.first-exact geo image n ws b i ready target

  half-long : length half-closed ≡ length image
  half-long = half-exact.long ∙ (put.filled-words geo image n ws b i ready target).around.long

  half-kept : (q : ℕ) → put.NotBound geo image n ws b i ready target q → word half-closed q ≡ word filled q
  half-kept q other = half-exact.words q ∙ last-other _ (word filled q) (other least_word (omega arith) (omega arith))

  half-least : least_mapped geo half-closed b ≡ least_live geo filled b
  unfolding least_mapped
  half-least = half-exact.words (place geo b least_word) ∙ last-here (place geo b least_word) _ (word filled (place geo b least_word))

  half-greatest : greatest_mapped geo half-closed b ≡ ones
  unfolding greatest_mapped
  half-greatest =
      half-exact.words (place geo b greatest_word)
      ∙ last-other _ (word filled (place geo b greatest_word)) (put.low-apart geo image n ws b i ready target)
      ∙ put.greatest-blank geo image n ws b i ready target

  half-edges : full geo filled b ≡ true → Edges half-closed
  half-edges t =
      let same = put.full-apart geo image n ws b i ready target half-closed half-long half-kept in
      record {
        unset = λ f. absurd (true≢false (sym t ∙ sym same ∙ f));
        bound = λ j m h f e.
            let was = sym (put.slot_apart geo image n ws b i ready target half-closed half-long half-kept j h) ∙ e in (
              inr (rw half-least (live-between geo filled b j m h was).0),
              omega (arith, half-greatest, live-number geo half-closed b j e, logical-small geo within),
            );
      }

  done-half : full geo filled b ≡ true → Words32 half-closed → During geo image half-closed n ws b i
  done-half t =
      done-words half-closed (put.bounds-apart geo image n ws b i ready target half-closed half-long half-kept) (half-edges t)

  abbrev final : Image
  final = run geo image (placing geo image n ws b i)

  -- when all is done the image is sound
  done-final : Words32 final → During geo image final n ws b i
  done-final words =
      let p = put.placing-placed geo image n ws b i ready target in
      record {
        shaped = put.placing-shaped geo image n ws b i ready target;
        words = words;
        mendable = sound-mendable geo final (placed-sound geo image final n ws b i ready target p (put.placing-bounds geo image n ws b i ready target));
        counts = p.counts;
        contents-other = p.contents-other;
        stage = inr (inr (record { kinds = renewed p.changed; contents-here = p.contents-here }));
      }

  -- ---- the steps one after the other

  -- an image on the way, once it is known that its words are of 32 bits
  abbrev OnTheWay : Image → Type 0
  OnTheWay now = Words32 now → During geo image now n ws b i

  not-begun : OnTheWay image
  not-begun words =
      record {
        shaped = ready.shaped;
        words = words;
        mendable = sound-mendable geo image ready.sound;
        counts = λ c l. refl;
        contents-other = λ c j l h other. refl;
        stage = inl refl;
      }

  entry-short : (o : Found) (asked : ℕ) → length (programs_entry geo o asked) ≤ 1
  entry-short (At c j) asked = omega arith
  entry-short Nothing asked = omega arith

  along-contents : Along geo OnTheWay after-B (first sector_words)
  along-contents j =
      let most : min j sector_words ≤ sector_words = omega arith in
      rw (first-list j sector_words (λ m. Program (content-place m) (get_or ws m 0)))
      (during-begun (after_first (min j sector_words)) (early-first (min j sector_words) most))

  along-filling : Along geo OnTheWay image (fills_slot geo image old n ws b i)
  unfolding fills_slot
  along-filling =
      let P = OnTheWay in
      let A = takes_slot geo image b i in
      let C = first sector_words in
      let F = retires geo image old in
      let begun-C = during-begun after-C (early-first sector_words (omega arith)) in
      let last : OnTheWay (run geo after-E F) = rw (fill.last-image geo image n ws b i ready target) at done-filled in
      along-append geo P image A (B ++ (C ++ (D ++ (E ++ F)))) (along-short geo P image A (omega arith) not-begun (during-begun after-A early-A))
      (along-append geo P after-A B (C ++ (D ++ (E ++ F)))
      (along-short geo P after-A B (entry-short old outdated) (during-begun after-A early-A) (during-begun after-B early-B))
      (along-append geo P after-B C (D ++ (E ++ F)) along-contents
      (along-append geo P after-C D (E ++ F) (along-short geo P after-C D (omega arith) begun-C (during-begun after-D early-D))
      (along-append geo P after-D E F (along-short geo P after-D E (omega arith) (during-begun after-D early-D) done-E)
      (along-short geo P after-E F (entry-short old (cleared outdated valid_bit)) done-E last)))))

  along-closing : (f : Bool) → full geo filled b ≡ f → Along geo OnTheWay filled (closes_block geo filled b)
  along-closing true t =
      let closes = put.closes-full geo image n ws b i ready target t in
      let is_last : final ≡ run geo half-closed second_store =
      put.final-image geo image n ws b i ready target ∙ ap (run geo filled) closes ∙ run-append geo filled first_store second_store in
      let last : OnTheWay (run geo half-closed second_store) = rw is_last at done-final in
      rw closes
      (along-append geo OnTheWay filled first_store second_store
      (along-short geo OnTheWay filled first_store (omega arith) done-filled (done-half t))
      (along-short geo OnTheWay half-closed second_store (omega arith) (done-half t) last))
  along-closing false t = rw (put.closes-open geo image n ws b i ready target t) (along-none geo OnTheWay filled done-filled)

  -- wherever a placing is cut short, the image is as it was, begun or done, and can be mended
  pub during : Along geo (λ now. During geo image now n ws b i) image (placing geo image n ws b i)
  unfolding placing
  during j =
      let none = erases-none-first j (placing geo image n ws b i) (placing-erasures geo image n ws b i) in
      along-append geo OnTheWay image (fills_slot geo image old n ws b i) (closes_block geo filled b)
      along-filling
      (along-closing (full geo filled b) refl)
      j
      (run-words geo image (first_of j (placing geo image n ws b i)) none ready.words)
