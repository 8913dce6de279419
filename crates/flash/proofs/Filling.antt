-- (a) to (f) of a placing: each step leaves the asked word, and what every word of the image is afterwards. Assumes nothing.
use mathlib.Core.Path.{◌≡◌, refl, sym, ap, ap₂, ◌∙◌}
use mathlib.Core.Logic.{◌≢◌}
use mathlib.Core.Bool.{true, false, not}
use mathlib.Core.List.{List, ◌++◌}
use Prim.Native.Nat.{ℕ, ◌+◌, ◌/◌, ◌%◌, ◌^◌, ◌<◌, ◌≤◌}
use native.Mathlib.Omega.{arith}
use lib.ListN.{length, get_or}
use borrow.Author.Tests.{eqb-true}
use Rattle.ranges.specs.Range.{list_below}
use Rattle.ranges.proofs.Tests.{both-pass, any_of}
use Rattle.bits.specs.Word.{ones, bit, cleared, programmed}
use Rattle.bits.proofs.Clearing.{cleared-set, cleared-le}
use Rattle.bits.proofs.Programming.{clearing-leaves, ones-leave}
use Rattle.geometry.specs.declared.Geometry.{Geometry}
use Rattle.geometry.specs.Geometry.{Limits, d, k, block_length, sector_words}
use Rattle.geometry.specs.Places.{place, map_word, entry_word, content_word}
use Rattle.geometry.proofs.Laws.{logical-small, management-fits, map-word-inside, low-in-block, entry-in-block, map-covers, entry-word-inside, content-word-inside, content-word-after}
use Rattle.image.specs.declared.Slot.TheVariants.{Free, Live}
use Rattle.image.specs.Found.{Found}
use Rattle.image.specs.Found.{At, Nothing}
use Rattle.image.specs.Words.{Image, Shaped, Words32, word, free_map, entry}
use Rattle.image.specs.Slots.{valid_bit, current_bit, slot, is_free, find}
use Rattle.image.specs.Blocks.{full}
use Rattle.image.proofs.Own.{free-read}
use Rattle.image.proofs.Reading.{word-inside, entry-inside, map-inside}
use Rattle.image.proofs.Facts.{Sound}
use Rattle.image.proofs.Finding.{LiveAt, found-live}
use Rattle.image.proofs.Places.{apart, contents-at}
use Rattle.flash.specs.declared.Step.{Step}
use Rattle.flash.specs.declared.Step.TheVariants.{Program}
use Rattle.flash.specs.Steps.{run}
use Rattle.flash.specs.Placing.{entry_at, programs_entry, takes_slot, outdates, stores_contents, begins_entry, completes_entry, retires, fills_slot}
use Rattle.flash.proofs.Stores.{Exact, last_asked, run-append, last-here, last-other, last-list-here, last-list-other, exact_none, exact_one, exact-then, exact-list}

-- ---- an entry programmed anew where a number was found

-- the place is not the entry's
abbrev pub NotEntry : Geometry → Found → ℕ → Type 0
NotEntry geo o q = (b i : ℕ) → o ≡ At b i → q ≢ place geo b (entry_word geo i)

module _ (geo : Geometry) (asked : ℕ) where
  pub entry_other : (o : Found) {q : ℕ} (x : ℕ) → NotEntry geo o q → last_asked (programs_entry geo o asked) q x ≡ x
  unfolding last_asked
  entry_other (At b i) x n = last-other asked x (n b i refl)
  entry_other Nothing x n = refl

  pub entry_here : (o : Found) {c j : ℕ} (x : ℕ) → o ≡ At c j → last_asked (programs_entry geo o asked) (place geo c (entry_word geo j)) x ≡ asked
  entry_here o {c} {j} x e = rw e (last-here (place geo c (entry_word geo j)) asked x)

  pub entry-exact :
      (o : Found) (now : Image) →
      ((b i : ℕ) →
      o ≡ At b i →
      (place geo b (entry_word geo i) < length now) × (programmed (word now (place geo b (entry_word geo i))) asked ≡ asked)) →
      Exact geo now (programs_entry geo o asked)
  entry-exact (At b i) now fit = exact_one geo now (place geo b (entry_word geo i)) asked (fit b i refl).0 (fit b i refl).1
  entry-exact Nothing now fit = exact_none geo now

-- ---- what a placing starts from

pub record Ready (geo : Geometry) (image : Image) : Type 0 where
  pub shaped : Shaped geo image
  pub words : Words32 image
  pub sound : Sound geo image

pub record Target (geo : Geometry) (image : Image) (n : ℕ) (ws : List ℕ) (b i : ℕ) : Type 0 where
  pub number : n < geo.logical
  pub long : length ws ≡ sector_words
  pub words : Words32 ws
  pub block : b < geo.blocks
  pub slot_is : i < d geo
  pub free : slot geo image b i ≡ Free

-- a block with a free slot is not full
pub free-not-full : (geo : Geometry) (image : Image) (b : ℕ) {j : ℕ} → j < d geo → is_free (slot geo image b j) ≡ true → full geo image b ≡ false
unfolding full
free-not-full geo image b l e = ap not (any_of (d geo) (λ j. is_free (slot geo image b j)) l e)

module _ (geo : Geometry) (image : Image) (n : ℕ) (ws : List ℕ) (b i : ℕ) (ready : Ready geo image) (target : Target geo image n ws b i) where
  abbrev old : Found
  old = find geo image n

  -- the words that (b) and (f) ask for
  abbrev outdated : ℕ
  outdated = cleared (entry_at geo image old) current_bit

  abbrev retired : ℕ
  retired = cleared outdated valid_bit

  abbrev map-place : ℕ
  map-place = place geo b (map_word i)

  abbrev entry_place : ℕ
  entry_place = place geo b (entry_word geo i)

  abbrev content-place : ℕ → ℕ
  content-place j = place geo b (content_word geo i j)

  within : Limits geo
  within = ready.shaped.limits

  -- ---- the places are apart

  map-before : map_word i < 3 + k geo
  map-before = map-word-inside geo within {i = i} (omega (arith, map-covers geo within, target.slot_is))

  map-in : map_word i < block_length geo
  map-in = low-in-block geo within map-before

  pub map-not-entry : (c : ℕ) {j : ℕ} → j < d geo → map-place ≢ place geo c (entry_word geo j)
  map-not-entry c l = apart geo map-in (entry-in-block geo within l) (λ p e. omega (arith, map-before))

  pub map-not-content : (j : ℕ) → j < sector_words → map-place ≢ content-place j
  map-not-content j l =
      apart geo map-in (content-word-inside geo within target.slot_is l)
      (λ p e. omega (arith, map-before, management-fits geo within, content-word-after geo within i j))

  pub entry-not-content : (c : ℕ) {j : ℕ} → j < d geo → (m : ℕ) → m < sector_words → place geo c (entry_word geo j) ≢ content-place m
  entry-not-content c l m h =
      apart geo (entry-in-block geo within l) (content-word-inside geo within target.slot_is h)
      (λ p e. omega (arith, entry-word-inside geo within l, content-word-after geo within i m))

  content-own : (j m : ℕ) → j < sector_words → m < sector_words → content-place j ≡ content-place m → j ≡ m
  content-own j m l h e = omega arith

  -- the old slot is another one: this one is free
  old-live : {c j : ℕ} → old ≡ At c j → LiveAt geo image n c j
  old-live {c} {j} e = found-live geo image n c j e

  pub old-elsewhere : {c j : ℕ} → old ≡ At c j → entry_place ≢ place geo c (entry_word geo j)
  old-elsewhere {c} {j} e =
      apart geo (entry-in-block geo within target.slot_is) (entry-in-block geo within (old-live e).slot_is)
      (λ p q.
      let same : i ≡ j = omega arith in
      let clash : Free ≡ Live n = sym target.free ∙ ap₂ (slot geo image) p same ∙ (old-live e).live in
      let z : ◌≡◌ {A = ℕ} 0 1 = cc in
      omega arith)

  -- ---- the words that stood there

  pub entry_free : word image entry_place ≡ ones
  unfolding entry
  entry_free = eqb-true (entry geo image b i) ones (both-pass _ _ (sym (free-read geo image b i) ∙ ap is_free target.free)).0

  content-free : (j : ℕ) → j < sector_words → word image (content-place j) ≡ ones
  content-free j l =
      sym (contents-at geo image b i j l)
      ∙ ready.sound.clean b i target.block target.slot_is target.free j l

  -- ---- the six parts, and the image after each

  abbrev A : List Step
  A = takes_slot geo image b i

  abbrev B : List Step
  B = outdates geo image old

  abbrev C : List Step
  C = stores_contents geo b i ws

  abbrev D : List Step
  D = begins_entry geo b i n

  abbrev E : List Step
  E = completes_entry geo b i n

  abbrev F : List Step
  F = retires geo image old

  abbrev after-A : Image
  after-A = run geo image A

  abbrev after-B : Image
  after-B = run geo after-A B

  abbrev after-C : Image
  after-C = run geo after-B C

  abbrev after-D : Image
  after-D = run geo after-C D

  abbrev after-E : Image
  after-E = run geo after-D E

  -- a place that is neither the slot's map word, nor its entry, nor among its contents, nor the old entry
  pub record Elsewhere (q : ℕ) : Type 0 where
    pub map : q ≢ map-place
    pub entry : q ≢ entry_place
    pub contents : (j : ℕ) → j < sector_words → q ≢ content-place j
    pub old : NotEntry geo old q

  pub exact-A : Exact geo image A
  unfolding free_map
  exact-A =
      exact_one geo image map-place (cleared (free_map geo image b i) (i % 32))
      (map-inside geo image ready.shaped target.block (omega (arith, map-covers geo within, target.slot_is)))
      (clearing-leaves (free_map geo image b i) (i % 32) (ready.words.small map-place))

  pub untouched-A : {q : ℕ} → q ≢ map-place → word after-A q ≡ word image q
  untouched-A {q} m = exact-A.words q ∙ last-other (cleared (free_map geo image b i) (i % 32)) (word image q) m

  pub entry-small : (c j : ℕ) → entry geo image c j < 2 ^ 32
  unfolding entry
  entry-small c j = ready.words.small (place geo c (entry_word geo j))

  pub old-word : {c j : ℕ} → old ≡ At c j → word after-A (place geo c (entry_word geo j)) ≡ entry_at geo image old
  unfolding entry
  old-word {c} {j} e = untouched-A (λ q. map-not-entry c (old-live e).slot_is (sym q)) ∙ sym (ap (entry_at geo image) e)

  old-small : entry_at geo image old < 2 ^ 32
  old-small = go old
    where
      go : (o : Found) → entry_at geo image o < 2 ^ 32
      go (At c j) = entry-small c j
      go Nothing = omega arith

  pub exact-B : Exact geo after-A B
  exact-B =
      entry-exact geo outdated old after-A
      (λ c j e. (
        omega (arith, exact-A.long, entry-inside geo image ready.shaped (old-live e).block (old-live e).slot_is),
        ap (λ (w : ℕ). programmed w outdated) (old-word e)
            ∙ clearing-leaves (entry_at geo image old) current_bit old-small,
      ))

  pub untouched-B : {q : ℕ} → q ≢ map-place → NotEntry geo old q → word after-B q ≡ word image q
  untouched-B {q} m o =
      exact-B.words q ∙ entry_other geo outdated old (word after-A q) o ∙ untouched-A m

  long-B : length after-B ≡ length image
  long-B = exact-B.long ∙ exact-A.long

  -- the first words of the contents
  pub exact-first : (m : ℕ) → m ≤ sector_words → Exact geo after-B (list_below m (λ j. Program (content-place j) (get_or ws j 0)))
  exact-first m most =
      exact-list content-place (λ j. get_or ws j 0) geo after-B m (λ j k p q. content-own j k (omega arith) (omega arith))
      (λ j r.
      let l : j < sector_words = omega arith in (
        omega (arith, long-B, word-inside geo image ready.shaped target.block (content-word-inside geo within target.slot_is l)),
        ap (λ (w : ℕ). programmed w (get_or ws j 0))
            (untouched-B (λ e. map-not-content j l (sym e)) (λ c k e q. entry-not-content c (old-live e).slot_is j l (sym q)) ∙ content-free j l)
            ∙ ones-leave (get_or ws j 0) (target.words.small j),
      ))

  exact-C : Exact geo after-B C
  exact-C = exact-first sector_words (omega arith)

  untouched-C : {q : ℕ} → ((j : ℕ) → j < sector_words → q ≢ content-place j) → word after-C q ≡ word after-B q
  untouched-C {q} n = exact-C.words q ∙ last-list-other content-place (λ j. get_or ws j 0) sector_words (word after-B q) n

  long-C : length after-C ≡ length image
  long-C = exact-C.long ∙ long-B

  entry-fits : entry_place < length image
  entry-fits = entry-inside geo image ready.shaped target.block target.slot_is

  small : n < 2 ^ 29
  small = omega (arith, logical-small geo within, target.number)

  pub exact-D : Exact geo after-C D
  exact-D =
      exact_one geo after-C entry_place (0xE0000000 + n) (omega (arith, long-C, entry-fits))
      (ap (λ (w : ℕ). programmed w (0xE0000000 + n))
      (untouched-C (entry-not-content b target.slot_is)
      ∙ untouched-B (λ e. map-not-entry b target.slot_is (sym e)) (λ c j e. old-elsewhere e)
      ∙ entry_free)
      ∙ ones-leave (0xE0000000 + n) (omega (arith, small)))

  -- bit 29 is cleared
  completes : programmed (0xE0000000 + n) (0xC0000000 + n) ≡ 0xC0000000 + n
  unfolding bit
  completes =
      let set : (0xE0000000 + n) / 2 ^ 29 % 2 ≡ 1 = omega (arith, small) in
      let less : cleared (0xE0000000 + n) 29 ≡ 0xC0000000 + n = cleared-set (0xE0000000 + n) 29 set ∙ omega arith in
      ap (programmed (0xE0000000 + n)) (sym less) ∙ clearing-leaves (0xE0000000 + n) 29 (omega (arith, small)) ∙ less

  pub exact-E : Exact geo after-D E
  exact-E =
      exact_one geo after-D entry_place (0xC0000000 + n) (omega (arith, exact-D.long, long-C, entry-fits))
      (ap (λ (w : ℕ). programmed w (0xC0000000 + n)) (exact-D.words entry_place ∙ last-here entry_place (0xE0000000 + n) (word after-C entry_place))
      ∙ completes)

  untouched-E : {q : ℕ} → q ≢ entry_place → word after-E q ≡ word after-C q
  untouched-E {q} n' =
      exact-E.words q
      ∙ last-other (0xC0000000 + n) (word after-D q) n'
      ∙ exact-D.words q
      ∙ last-other (0xE0000000 + n) (word after-C q) n'

  pub old-outdated : {c j : ℕ} → old ≡ At c j → word after-E (place geo c (entry_word geo j)) ≡ outdated
  old-outdated {c} {j} e =
      untouched-E (λ q. old-elsewhere e (sym q))
      ∙ untouched-C (entry-not-content c (old-live e).slot_is)
      ∙ exact-B.words (place geo c (entry_word geo j))
      ∙ entry_here geo outdated old (word after-A (place geo c (entry_word geo j))) e

  long-E : length after-E ≡ length image
  long-E = exact-E.long ∙ exact-D.long ∙ long-C

  exact-F : Exact geo after-E F
  exact-F =
      entry-exact geo retired old after-E
      (λ c j e. (
        omega (arith, long-E, entry-inside geo image ready.shaped (old-live e).block (old-live e).slot_is),
        ap (λ (w : ℕ). programmed w retired) (old-outdated e)
            ∙ clearing-leaves outdated valid_bit (omega (arith, cleared-le (entry_at geo image old) current_bit, old-small)),
      ))

  -- ---- all six

  abbrev filled : Image
  filled = run geo image (fills_slot geo image old n ws b i)

  pub fills-exact : Exact geo image (fills_slot geo image old n ws b i)
  unfolding fills_slot
  fills-exact =
      exact-then geo image A (B ++ (C ++ (D ++ (E ++ F)))) exact-A
      (exact-then geo after-A B (C ++ (D ++ (E ++ F))) exact-B
      (exact-then geo after-B C (D ++ (E ++ F)) exact-C
      (exact-then geo after-C D (E ++ F) exact-D
      (exact-then geo after-D E F exact-E exact-F))))

  pub last-image : filled ≡ run geo after-E F
  unfolding fills_slot
  last-image =
      run-append geo image A (B ++ (C ++ (D ++ (E ++ F))))
      ∙ run-append geo after-A B (C ++ (D ++ (E ++ F)))
      ∙ run-append geo after-B C (D ++ (E ++ F))
      ∙ run-append geo after-C D (E ++ F)
      ∙ run-append geo after-D E F

  after-F : {q : ℕ} → NotEntry geo old q → word filled q ≡ word after-E q
  after-F {q} o =
      ap (λ (x : Image). word x q) last-image
      ∙ exact-F.words q
      ∙ entry_other geo retired old (word after-E q) o

  pub filled-map : word filled map-place ≡ cleared (free_map geo image b i) (i % 32)
  filled-map =
      after-F (λ c j e. map-not-entry c (old-live e).slot_is)
      ∙ untouched-E (map-not-entry b target.slot_is)
      ∙ untouched-C map-not-content
      ∙ exact-B.words map-place
      ∙ entry_other geo outdated old (word after-A map-place) (λ c j e. map-not-entry c (old-live e).slot_is)
      ∙ exact-A.words map-place
      ∙ last-here map-place (cleared (free_map geo image b i) (i % 32)) (word image map-place)

  pub filled-entry : word filled entry_place ≡ 0xC0000000 + n
  filled-entry =
      after-F (λ c j e. old-elsewhere e)
      ∙ exact-E.words entry_place
      ∙ last-here entry_place (0xC0000000 + n) (word after-D entry_place)

  pub stored-content : (j : ℕ) → j < sector_words → word after-E (content-place j) ≡ get_or ws j 0
  stored-content j l =
      untouched-E (λ q. entry-not-content b target.slot_is j l (sym q))
      ∙ exact-C.words (content-place j)
      ∙ last-list-here content-place (λ j. get_or ws j 0) sector_words (word after-B (content-place j)) content-own l

  pub filled-content : (j : ℕ) → j < sector_words → word filled (content-place j) ≡ get_or ws j 0
  filled-content j l = after-F (λ c m e q. entry-not-content c (old-live e).slot_is j l (sym q)) ∙ stored-content j l

  pub filled-old : {c j : ℕ} → old ≡ At c j → word filled (place geo c (entry_word geo j)) ≡ cleared (cleared (entry geo image c j) current_bit) valid_bit
  filled-old {c} {j} e =
      ap (λ (x : Image). word x (place geo c (entry_word geo j))) last-image
      ∙ exact-F.words (place geo c (entry_word geo j))
      ∙ entry_here geo retired old (word after-E (place geo c (entry_word geo j))) e
      ∙ ap (λ (o : Found). cleared (cleared (entry_at geo image o) current_bit) valid_bit) e

  pub filled-elsewhere : {q : ℕ} → Elsewhere q → word filled q ≡ word image q
  filled-elsewhere e =
      after-F e.old ∙ untouched-E e.entry ∙ untouched-C e.contents ∙ untouched-B e.map e.old
