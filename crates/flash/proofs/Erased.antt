-- The erasing of a block: what every reading of the image is afterwards, and that the image stays sound where the block had no
-- live slot, or can be mended while its count is not programmed. Assumes nothing.
use mathlib.Core.Path.{◌≡◌, refl, sym, ap, ap₂, ◌∙◌}
use mathlib.Core.Logic.{◌≢◌, ◌⊎◌, inl, inr, dite}
use mathlib.Core.Bool.{true, not, ◌&&◌, true≢false}
use mathlib.Core.List.{List, [], ◌∷◌, ◌++◌}
use Prim.Native.Nat.{ℕ, ◌+◌, ◌-◌, ◌*◌, ◌/◌, ◌%◌, ◌^◌, ◌<◌, ◌≤◌}
use native.Mathlib.Nat.{mul-le-mul_right}
use native.Mathlib.Decide.{dec_lt, ℕ_discrete}
use native.Mathlib.Omega.{arith}
use lib.Dec.{eqb}
use lib.ListN.{length, get_or, take, drop, replicate, length-append, length-take, length-drop, length-replicate, get_or-replicate, get_or-append}
use lib.Seq.{get_or-take, get_or-drop, get_or-append-add, length-take-le}
use borrow.Author.Tests.{eq-eqb}
use Rattle.ranges.proofs.Tests.{unless, all_of, any-ext}
use Rattle.bits.specs.Word.{ones, is_set, programmed}
use Rattle.bits.proofs.Bit.{set-bit, ones_bit}
use Rattle.bits.proofs.Programming.{ones-leave}
use Rattle.geometry.specs.declared.Geometry.{Geometry}
use Rattle.geometry.specs.Geometry.{Limits, d, k, block_length, sector_words}
use Rattle.geometry.specs.Places.{place, erase_word, least_word, greatest_word, map_word, entry_word, content_word}
use Rattle.geometry.proofs.Laws.{d-positive, place-block, low-in-block, map-in-block, entry-in-block, map-covers, content-word-inside, content-word-after}
use Rattle.image.specs.declared.Slot.TheVariants.{Free, Live}
use Rattle.image.specs.Words.{Image, Shaped, Words32, word, erase_count, least_mapped, greatest_mapped, free_map, map_bit, entry, contents}
use Rattle.image.specs.Slots.{slot_of, own_slot, slot, is_free, is_faulty, find, map_of}
use Rattle.image.specs.Blocks.{blank, full}
use Rattle.image.specs.WellFormed.{ceiling, NoneSuperseded}
use Rattle.image.specs.Mending.{count_unset}
use Rattle.image.proofs.Entries.{free-slot}
use Rattle.image.proofs.Own.{Once, none-superseded, each-own}
use Rattle.image.proofs.Reading.{block_room, word-inside}
use Rattle.image.proofs.Facts.{Sound}
use Rattle.image.proofs.Mending.{Mendable, unset-count, least-bounds, mendable-sound}
use Rattle.image.proofs.Finding.{find-same, map_same}
use Rattle.image.proofs.Places.{apart, contents-at, contents-are, contents-long}
use Rattle.flash.specs.declared.Step.{Step}
use Rattle.flash.specs.declared.Step.TheVariants.{Program, Erase}
use Rattle.flash.specs.Steps.{erased_block, applied, run, leaves_asked}
use Rattle.flash.proofs.Stores.{Exact, last_asked, counts-erasures, count-one, last-here, last-other, exact_one, run-words}
use Rattle.flash.proofs.Filling.{Ready, free-not-full}
use Rattle.flash.proofs.Changed.{free-not-live}

module _ (geo : Geometry) (image : Image) (v : ℕ) where
  abbrev before : List ℕ
  before = take (place geo v 0) image

  abbrev cleared-block : List ℕ
  cleared-block = replicate (block_length geo) ones

  abbrev behind : List ℕ
  behind = drop (place geo v (block_length geo)) image

  -- nothing is lost, whatever the image's length
  pub erased-at-least : length image ≤ length (erased_block geo image v)
  unfolding erased_block
  erased-at-least =
      simp (length-append, length-replicate, length-drop, length-take) (omega arith)

  -- the words before the block, and those behind it
  erased-before : (q : ℕ) → q < length image → q < place geo v 0 → word (erased_block geo image v) q ≡ word image q
  unfolding erased_block
  erased-before q inside l =
      get_or-append before (cleared-block ++ behind) 0 q (omega (arith, length-take (place geo v 0) image))
      ∙ get_or-take (place geo v 0) image q 0 l

  erased-behind : (q : ℕ) → place geo v (block_length geo) ≤ length image → place geo v (block_length geo) ≤ q → word (erased_block geo image v) q ≡ word image q
  unfolding erased_block
  erased-behind q room l =
      let rest : ℕ = q - place geo v (block_length geo) in
      let size = length-replicate (block_length geo) ones in
      let at : q ≡ length before + (length cleared-block + rest) = omega (arith, length-take (place geo v 0) image) in
      let back : place geo v (block_length geo) + rest ≡ q = omega arith in
      ap (λ (x : ℕ). get_or (before ++ (cleared-block ++ behind)) x 0) at
      ∙ get_or-append-add before (cleared-block ++ behind) (length cleared-block + rest) 0
      ∙ get_or-append-add cleared-block behind rest 0
      ∙ get_or-drop (place geo v (block_length geo)) image rest 0
      ∙ ap (word image) back

  -- a word of another block stays
  pub erased-elsewhere : (q : ℕ) → q < length image → q / block_length geo ≢ v → word (erased_block geo image v) q ≡ word image q
  erased-elsewhere q inside other = go (dec_lt q (place geo v 0)) (dec_lt q (place geo v (block_length geo)))
    where
      go : Dec (q < place geo v 0) → Dec (q < place geo v (block_length geo)) → word (erased_block geo image v) q ≡ word image q
      go (yes l) m = erased-before q inside l
      go (no l) (no m) = erased-behind q (omega arith) (omega arith)
      go (no l) (yes m) =
          let at : place geo v (q - place geo v 0) ≡ q = omega arith in
          absurd (other (ap (◌/ block_length geo) (sym at) ∙ place-block geo v (q - place geo v 0) (omega arith)))

module _ (geo : Geometry) (image : Image) (shaped : Shaped geo image) (v : ℕ) (block : v < geo.blocks) where
  room : place geo v (block_length geo) ≤ length image
  room = omega (arith, block_room geo image shaped v block)

  before-long : length (before geo image v) ≡ place geo v 0
  before-long = length-take-le (place geo v 0) image (omega (arith, room))

  pub erased-long : length (erased_block geo image v) ≡ length image
  unfolding erased_block
  erased-long =
      simp (length-append, length-replicate, length-drop) (omega (arith, before-long, room))

  -- in the block
  pub erased-inside : (j : ℕ) → j < block_length geo → word (erased_block geo image v) (place geo v j) ≡ ones
  unfolding erased_block
  erased-inside j l =
      let first = before geo image v in
      let middle = cleared-block geo image v in
      let last = behind geo image v in
      let at : place geo v j ≡ length first + j = omega (arith, before-long) in
      ap (λ (q : ℕ). get_or (first ++ (middle ++ last)) q 0) at
      ∙ get_or-append-add first (middle ++ last) j 0
      ∙ get_or-append middle last 0 j (omega (arith, length-replicate (block_length geo) ones))
      ∙ get_or-replicate (block_length geo) j ones 0 l

  pub erased-outside : (c j : ℕ) → c ≢ v → j < block_length geo → word (erased_block geo image v) (place geo c j) ≡ word image (place geo c j)
  erased-outside c j n l = go (dec_lt c v)
    where
      go : Dec (c < v) → word (erased_block geo image v) (place geo c j) ≡ word image (place geo c j)
      go (yes h) =
          let low : place geo c j < place geo v 0 = omega (arith, mul-le-mul_right (block_length geo) h) in
          erased-before geo image v (place geo c j) (omega (arith, room)) low
      go (no h) =
          let more : v < c = omega arith in
          erased-behind geo image v (place geo c j) room (omega (arith, mul-le-mul_right (block_length geo) more))

  -- every word is one of the old ones, or ones
  pub erased-words : Words32 image → Words32 (erased_block geo image v)
  erased-words h = record { small = λ q. go q (dec_lt q (place geo v 0)) (dec_lt q (place geo v (block_length geo))) }
    where
      go : (q : ℕ) → Dec (q < place geo v 0) → Dec (q < place geo v (block_length geo)) → word (erased_block geo image v) q < 2 ^ 32
      go q (yes l) m = rw (erased-before geo image v q (omega (arith, room)) l) (h.small q)
      go q (no l) (no m) = rw (erased-behind geo image v q room (omega arith)) (h.small q)
      go q (no l) (yes m) =
          let at : q ≡ place geo v (q - place geo v 0) = omega arith in
          rw (at, erased-inside (q - place geo v 0) (omega arith)) (omega arith)

-- ---- the block erased and its count programmed

module _ (geo : Geometry) (image : Image) (ready : Ready geo image) (v w : ℕ) (block : v < geo.blocks) (fits : w < 2 ^ 32) where
  within : Limits geo
  within = ready.shaped.limits

  abbrev steps : List Step
  steps = Erase v ∷ Program (place geo v erase_word) w ∷ []

  abbrev bare : Image
  bare = erased_block geo image v

  abbrev wiped : Image
  wiped = run geo image steps

  count-exact : Exact geo bare (Program (place geo v erase_word) w ∷ [])
  count-exact =
      exact_one geo bare (place geo v erase_word) w
      (omega (
        arith,
        erased-long geo image ready.shaped v block,
        word-inside geo image ready.shaped block (low-in-block geo within {j = 0} (omega arith)),
      ))
      (ap (λ (x : ℕ). programmed x w) (erased-inside geo image ready.shaped v block erase_word (low-in-block geo within (omega arith)))
      ∙ ones-leave w fits)

  last-image : wiped ≡ run geo bare (Program (place geo v erase_word) w ∷ [])
  unfolding run applied
  last-image = refl

  pub erasing-asked : leaves_asked geo image steps ≡ true
  unfolding leaves_asked applied
  erasing-asked = count-exact.asked

  pub wiped-long : length wiped ≡ length image
  wiped-long = ap length last-image ∙ count-exact.long ∙ erased-long geo image ready.shaped v block

  pub wiped-word : (q : ℕ) → word wiped q ≡ last_asked (Program (place geo v erase_word) w ∷ []) q (word bare q)
  wiped-word q = ap (λ (x : Image). word x q) last-image ∙ count-exact.words q

  wiped-inside : (j : ℕ) → j < block_length geo → j ≢ erase_word → word wiped (place geo v j) ≡ ones
  wiped-inside j l n =
      wiped-word (place geo v j)
      ∙ last-other w (word bare (place geo v j)) (apart geo l (low-in-block geo within (omega arith)) (λ p e. n e))
      ∙ erased-inside geo image ready.shaped v block j l

  wiped-outside : (c j : ℕ) → c ≢ v → j < block_length geo → word wiped (place geo c j) ≡ word image (place geo c j)
  wiped-outside c j n l =
      wiped-word (place geo c j)
      ∙ last-other w (word bare (place geo c j)) (apart geo l (low-in-block geo within (omega arith)) (λ p e. n p))
      ∙ erased-outside geo image ready.shaped v block c j n l

  pub wiped-shaped : Shaped geo wiped
  wiped-shaped = record { limits = within; long = wiped-long ∙ ready.shaped.long }

  pub wiped-words : Words32 wiped
  wiped-words =
      rw last-image
      (run-words geo bare (Program (place geo v erase_word) w ∷ []) (count-one counts-erasures (place geo v erase_word) w)
      (erased-words geo image ready.shaped v block ready.words))

  -- ---- each reading

  pub wiped-count : erase_count geo wiped v ≡ w
  unfolding erase_count
  wiped-count = wiped-word (place geo v erase_word) ∙ last-here (place geo v erase_word) w (word bare (place geo v erase_word))

  pub wiped-count-other : (c : ℕ) → c ≢ v → erase_count geo wiped c ≡ erase_count geo image c
  unfolding erase_count
  wiped-count-other c n = wiped-outside c erase_word n (low-in-block geo within (omega arith))

  pub wiped-entry : (c j : ℕ) → c ≢ v → j < d geo → entry geo wiped c j ≡ entry geo image c j
  unfolding entry
  wiped-entry c j n l = wiped-outside c (entry_word geo j) n (entry-in-block geo within l)

  map-of-v : (j : ℕ) → j < 32 * k geo → map_bit geo wiped v j ≡ true
  unfolding free_map
  map-of-v j l =
      ap (λ (x : ℕ). is_set x (j % 32)) (wiped-inside (map_word j) (map-in-block geo within {i = j} l) (λ e. omega arith))
      ∙ set-bit ones (j % 32) (ones_bit 32 (j % 32) (omega arith))

  map-of-other : (c j : ℕ) → c ≢ v → j < 32 * k geo → map_bit geo wiped c j ≡ map_bit geo image c j
  unfolding free_map
  map-of-other c j n l = ap (λ (x : ℕ). is_set x (j % 32)) (wiped-outside c (map_word j) n (map-in-block geo within {i = j} l))

  -- by their own entries and map bits the slots of the block are free, and all others as they were
  own-free : (j : ℕ) → j < d geo → own_slot geo wiped v j ≡ Free
  unfolding own_slot entry
  own-free j l =
      free-slot geo.logical (map_bit geo wiped v j) (entry geo wiped v j) (wiped-inside (entry_word geo j) (entry-in-block geo within l) (λ e. omega arith))
      ∙ rw (map-of-v j (omega (arith, map-covers geo within)))

  own-of-other : (c j : ℕ) → c < geo.blocks → c ≢ v → j < d geo → own_slot geo wiped c j ≡ slot geo image c j
  unfolding own_slot
  own-of-other c j l n h =
      ap₂ (slot_of geo.logical) (map-of-other c j n (omega (arith, map-covers geo within))) (wiped-entry c j n h)
      ∙ sym (each-own ready.sound.current l h)

  own-was : (c j n : ℕ) → c < geo.blocks → j < d geo → own_slot geo wiped c j ≡ Live n → slot geo image c j ≡ Live n
  own-was c j n l h e =
      let other : c ≢ v = λ p. free-not-live (ap (λ (x : ℕ). own_slot geo wiped x j) p ∙ own-free j h) e in
      sym (own-of-other c j l other h) ∙ e

  -- so no slot is superseded
  current : NoneSuperseded geo wiped
  current =
      none-superseded geo wiped
      (λ n c c' j j' l l' h h' e e'. ready.sound.once n c c' j j' l l' h h' (own-was c j n l h e) (own-was c' j' n l' h' e'))

  pub wiped-free : (j : ℕ) → j < d geo → slot geo wiped v j ≡ Free
  wiped-free j l = each-own current block l ∙ own-free j l

  pub wiped-blank : blank geo wiped v ≡ true
  unfolding blank
  wiped-blank = all_of (d geo) (λ j l. ap is_free (wiped-free j l))

  pub wiped-slot : (c j : ℕ) → c < geo.blocks → c ≢ v → j < d geo → slot geo wiped c j ≡ slot geo image c j
  wiped-slot c j l n h = each-own current l h ∙ own-of-other c j l n h

  pub wiped-contents : (c j : ℕ) → c < geo.blocks → c ≢ v → j < d geo → contents geo wiped c j ≡ contents geo image c j
  wiped-contents c j l n h =
      contents-are geo wiped c j (contents geo image c j) wiped-shaped l h (contents-long geo image ready.shaped l h)
      (λ m q. wiped-outside c (content_word geo j m) n (content-word-inside geo within h q) ∙ sym (contents-at geo image c j m q))

  full-of-other : (c : ℕ) → c < geo.blocks → c ≢ v → full geo wiped c ≡ full geo image c
  unfolding full
  full-of-other c l n = ap not (any-ext (d geo) (λ j h. ap is_free (wiped-slot c j l n h)))

  bounds-of-v : (least_mapped geo wiped v ≡ ones) × (greatest_mapped geo wiped v ≡ ones)
  unfolding least_mapped greatest_mapped
  bounds-of-v = (
    wiped-inside least_word (low-in-block geo within (omega arith)) (λ e. omega arith),
    wiped-inside greatest_word (low-in-block geo within (omega arith)) (λ e. omega arith),
  )

  bounds-of-other : (c : ℕ) → c ≢ v → (least_mapped geo wiped c ≡ least_mapped geo image c) × (greatest_mapped geo wiped c ≡ greatest_mapped geo image c)
  unfolding least_mapped greatest_mapped
  bounds-of-other c n = (
    wiped-outside c least_word n (low-in-block geo within (omega arith)),
    wiped-outside c greatest_word n (low-in-block geo within (omega arith)),
  )

  -- ---- the rules, where no slot of the block was live

  module _ (none-live : (j n : ℕ) → j < d geo → slot geo image v j ≡ Live n → ⊥) where
    -- a live slot is in another block, and was live before
    live-was : (c j n : ℕ) → c < geo.blocks → j < d geo → slot geo wiped c j ≡ Live n → (c ≢ v) × (slot geo image c j ≡ Live n)
    live-was c j n l h e =
        let other : c ≢ v = λ p. free-not-live (ap (λ (x : ℕ). slot geo wiped x j) p ∙ wiped-free j h) e in
        (other, sym (wiped-slot c j l other h) ∙ e)

    clean-v : (j m : ℕ) → j < d geo → m < sector_words → get_or (contents geo wiped v j) m 0 ≡ ones
    clean-v j m l h =
        contents-at geo wiped v j m h
        ∙ wiped-inside (content_word geo j m) (content-word-inside geo within l h) (λ e. omega (arith, content-word-after geo within j m))

    never-full : full geo wiped v ≡ true → ⊥
    never-full f =
        let first = d-positive geo within in
        true≢false (sym f ∙ free-not-full geo wiped v first (ap is_free (wiped-free 0 first)))

    -- a count that is not above the ceiling, or, until it is programmed, ones: K4 (iii)
    count_kept : (w ≤ ceiling) ⊎ (w ≡ ones) → (c : ℕ) → c < geo.blocks → (erase_count geo wiped c ≤ ceiling) ⊎ (count_unset geo wiped c ≡ true)
    unfolding count_unset
    count_kept known c l = dite (ℕ_discrete c v) (λ p. rw p (here known)) (λ n. inl (rw (wiped-count-other c n) (ready.sound.worn c l)))
      where
        here : (w ≤ ceiling) ⊎ (w ≡ ones) → (erase_count geo wiped v ≤ ceiling) ⊎ ((blank geo wiped v && eqb (erase_count geo wiped v) ones) ≡ true)
        here (inl low) = inl (rw wiped-count low)
        here (inr unset) = inr (rw (wiped-blank, wiped-count) (eq-eqb w ones unset))

    -- of the block's own count alone can it be said that it was not programmed
    unset-here : (c : ℕ) → c < geo.blocks → count_unset geo wiped c ≡ true → c ≡ v
    unset-here c l t =
        dite (ℕ_discrete c v) (λ p. p) (λ n. absurd (omega (arith, unset-count geo wiped c t, wiped-count-other c n, ready.sound.worn c l)))

    bounded-kept :
        (c j m : ℕ) →
        c < geo.blocks →
        j < d geo →
        full geo wiped c ≡ true →
        slot geo wiped c j ≡ Live m →
        (least_mapped geo wiped c ≤ m) × (m ≤ greatest_mapped geo wiped c)
    bounded-kept c j m l h f e =
        let was = live-was c j m l h e in
        let same = bounds-of-other c was.0 in
        let were = ready.sound.bounded c j m l h (sym (full-of-other c l was.0) ∙ f) was.1 in
        (rw same.0 were.0, rw same.1 were.1)

    wiped-once : Once geo (slot geo wiped)
    wiped-once n c c' j j' l l' h h' e e' = ready.sound.once n c c' j j' l l' h h' (live-was c j n l h e).1 (live-was c' j' n l' h' e').1

    pub wiped-mendable : (w ≤ ceiling) ⊎ (w ≡ ones) → Mendable geo wiped
    wiped-mendable known =
        let s = ready.sound in
        record {
          worn = count_kept known;
          single = λ c c' l l' t t'. unset-here c l t ∙ sym (unset-here c' l' t');
          map = λ c j l h.
              let covered : j < 32 * k geo = omega (arith, map-covers geo within) in
              dite (ℕ_discrete c v)
              (λ p. rw p (map-of-v j covered ∙ sym (ap is_free (wiped-free j h))))
              (λ n. map-of-other c j n covered ∙ s.map c j l h ∙ sym (ap is_free (wiped-slot c j l n h)));
          rest = λ c j l h m.
              dite (ℕ_discrete c v) (λ p. rw p (map-of-v j m)) (λ n. map-of-other c j n m ∙ s.rest c j l h m);
          clean = λ c j l h e m q.
              dite (ℕ_discrete c v)
              (λ p. rw p (clean-v j m h q))
              (λ n.
              ap (λ (x : List ℕ). get_or x m 0) (wiped-contents c j l n h)
              ∙ s.clean c j l h (sym (wiped-slot c j l n h) ∙ e) m q);
          proper = λ c j l h.
              dite (ℕ_discrete c v)
              (λ p. rw p (ap is_faulty (wiped-free j h)))
              (λ n. ap is_faulty (wiped-slot c j l n h) ∙ s.proper c j l h);
          once = wiped-once;
          unbounded = λ c l f.
              dite (ℕ_discrete c v)
              (λ p. rw p bounds-of-v)
              (λ n.
              let same = bounds-of-other c n in
              let were = s.unbounded c l (sym (full-of-other c l n) ∙ f) in
              (same.0 ∙ were.0, same.1 ∙ were.1));
          bounded = λ c j m l h f e. let both = bounded-kept c j m l h f e in (least-bounds geo wiped c m (inr both.0), both.1);
        }

    closed-kept : (c : ℕ) → c < geo.blocks → full geo wiped c ≡ true → (least_mapped geo wiped c ≢ ones) × (greatest_mapped geo wiped c ≢ ones)
    closed-kept c l f =
        dite (ℕ_discrete c v)
        (λ p. absurd (never-full (ap (full geo wiped) (sym p) ∙ f)))
        (λ n.
        let same = bounds-of-other c n in
        let were = ready.sound.closed c l (sym (full-of-other c l n) ∙ f) in
        (λ e. were.0 (sym same.0 ∙ e), λ e. were.1 (sym same.1 ∙ e)))

    -- with its count the image is sound
    pub wiped-sound : w ≤ ceiling → Sound geo wiped
    wiped-sound low =
        mendable-sound geo wiped (wiped-mendable (inl low)) current
        (λ c l. unless (count_unset geo wiped c) (λ t. omega (arith, low, wiped-count, unset-count geo wiped v (rw (unset-here c l t) at t))))
        closed-kept

    -- a slot that was live is in another block too
    in-another : {c j n : ℕ} → j < d geo → slot geo image c j ≡ Live n → c ≢ v
    in-another {c} {j} {n} l e p = none-live j n l (ap (λ (x : ℕ). slot geo image x j) (sym p) ∙ e)

    -- every number is found where it was, with its contents
    pub wiped-found : (n : ℕ) → find geo wiped n ≡ find geo image n
    wiped-found n =
        find-same geo image wiped n wiped-once
        (λ c j l h e. wiped-slot c j l (in-another h e) h ∙ e)
        (λ c j l h e. (live-was c j n l h e).1)

    pub wiped-map : (n : ℕ) → map_of geo wiped n ≡ map_of geo image n
    wiped-map n = map_same geo image wiped n (wiped-found n) (λ c j l h e. wiped-contents c j l (in-another h e) h)

    pub wiped-ready : w ≤ ceiling → Ready geo wiped
    wiped-ready low = record { shaped = wiped-shaped; words = wiped-words; sound = wiped-sound low }
