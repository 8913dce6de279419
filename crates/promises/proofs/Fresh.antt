-- What a format leaves: a well-formed image with an empty map, every slot free and no block erased. Assumes nothing.
use mathlib.Core.Path.{◌≡◌, sym, ap, ◌∙◌}
use mathlib.Core.Logic.{◌≢◌}
use mathlib.Core.Bool.{true, false, not, true≢false}
use mathlib.Core.Option.{none}
use Prim.Native.Nat.{ℕ, zero, suc, ◌*◌, ◌%◌, ◌^◌, ◌<◌, ◌≤◌}
use native.Mathlib.Decide.{dec_lt, ℕ_discrete}
use native.Mathlib.Omega.{arith}
use lib.ListN.{length, get_or, set, replicate, length-set, length-replicate, get_or-replicate, get_or-eq_default}
use lib.Seq.{get_or-set_same, get_or-set_other, set_out}
use Rattle.ranges.specs.Range.{sum_below}
use Rattle.ranges.proofs.Tests.{all_of, any_of}
use Rattle.ranges.proofs.Sums.{sum-ext, sum-const, sum-zero, count-every}
use Rattle.bits.specs.Word.{ones, is_set}
use Rattle.bits.proofs.Bit.{set-bit, ones_bit}
use Rattle.geometry.specs.declared.Geometry.{Geometry}
use Rattle.geometry.specs.Geometry.{Limits, d, k, block_length, image_length, sector_words}
use Rattle.geometry.specs.Places.{place, erase_word, least_word, greatest_word, map_word, entry_word, content_word}
use Rattle.geometry.proofs.Laws.{d-positive, place_inside, management-inside, management-fits, map-word-inside, map-covers, entry-word-inside, content-word-inside, content-word-after}
use Rattle.image.specs.declared.Slot.TheVariants.{Free}
use Rattle.image.specs.Words.{Image, Shaped, Words32, word, erase_count, least_mapped, greatest_mapped, free_map, map_bit, entry}
use Rattle.image.specs.Slots.{own_slot, slot, is_free, is_faulty, map_of}
use Rattle.image.specs.Blocks.{blank, full, free_slots}
use Rattle.image.specs.WellFormed.{R6, well_formed, NoneSuperseded}
use Rattle.image.proofs.Entries.{free-slot}
use Rattle.image.proofs.Own.{none-superseded, each-own}
use Rattle.image.proofs.Facts.{Sound, facts-formed}
use Rattle.image.proofs.Finding.{none_found, map-nothing}
use Rattle.image.proofs.Places.{apart, contents-at}
use Rattle.flash.proofs.Filling.{Ready}
use Rattle.flash.proofs.Changed.{free-not-live}
use Rattle.calls.specs.Calls.{counts_zeroed, fresh}

module _ (geo : Geometry) (within : Limits geo) where
  abbrev blank-words : Image
  blank-words = replicate (image_length geo) ones

  low-in : {j : ℕ} → j < sector_words → j < block_length geo
  low-in l = management-inside geo within (omega arith)

  -- ---- the words after the counts of m blocks are set to 0

  zeroed-long : (m : ℕ) → length (counts_zeroed geo blank-words m) ≡ image_length geo
  unfolding counts_zeroed
  zeroed-long zero = length-replicate (image_length geo) ones
  zeroed-long (suc m) = length-set (counts_zeroed geo blank-words m) (place geo m erase_word) 0 ∙ zeroed-long m

  zeroed-count : (m b : ℕ) → b < m → m ≤ geo.blocks → word (counts_zeroed geo blank-words m) (place geo b erase_word) ≡ 0
  unfolding counts_zeroed
  zeroed-count zero b l h = absurd (omega arith)
  zeroed-count (suc m) b l h = go (ℕ_discrete b m) (λ k. zeroed-count m b k (omega arith))
    where
      go : Dec (b ≡ m) → (b < m → word (counts_zeroed geo blank-words m) (place geo b erase_word) ≡ 0) → word (counts_zeroed geo blank-words (suc m)) (place geo b erase_word) ≡ 0
      go (yes e) ih =
          ap (λ (x : ℕ). word (counts_zeroed geo blank-words (suc m)) (place geo x erase_word)) e
          ∙ get_or-set_same (counts_zeroed geo blank-words m) (place geo m erase_word) 0 0
          (omega (arith, zeroed-long m, place_inside geo {b = m} h (low-in {j = 0} (omega arith))))
      go (no n) ih =
          get_or-set_other (counts_zeroed geo blank-words m) (place geo m erase_word) (place geo b erase_word) 0 0
          (apart geo (low-in (omega arith)) (low-in (omega arith)) (λ p e. n p))
          ∙ ih (omega arith)

  zeroed-other : (m b j : ℕ) → b < geo.blocks → j < block_length geo → j ≢ erase_word → word (counts_zeroed geo blank-words m) (place geo b j) ≡ ones
  unfolding counts_zeroed
  zeroed-other zero b j l h n = get_or-replicate (image_length geo) (place geo b j) ones 0 (place_inside geo l h)
  zeroed-other (suc m) b j l h n =
      get_or-set_other (counts_zeroed geo blank-words m) (place geo m erase_word) (place geo b j) 0 0
      (apart geo h (low-in (omega arith)) (λ p e. n e))
      ∙ zeroed-other m b j l h n

  -- ---- each reading

  abbrev made : Image
  made = fresh geo

  fresh-long : length made ≡ image_length geo
  unfolding fresh
  fresh-long = zeroed-long geo.blocks

  pub fresh-shaped : Shaped geo made
  fresh-shaped = record { limits = within; long = fresh-long }

  other_word : (b j : ℕ) → b < geo.blocks → j < block_length geo → j ≢ erase_word → word made (place geo b j) ≡ ones
  unfolding fresh
  other_word b j l h n = zeroed-other geo.blocks b j l h n

  pub fresh-count : (b : ℕ) → b < geo.blocks → erase_count geo made b ≡ 0
  unfolding fresh erase_count
  fresh-count b l = zeroed-count geo.blocks b l (omega arith)

  map-set : (b j : ℕ) → b < geo.blocks → j < 32 * k geo → map_bit geo made b j ≡ true
  unfolding free_map
  map-set b j l h =
      ap (λ (w : ℕ). is_set w (j % 32))
      (other_word b (map_word j) l
      (management-inside geo within (omega (arith, map-word-inside geo within {i = j} h, management-fits geo within)))
      (λ e. omega arith))
      ∙ set-bit ones (j % 32) (ones_bit 32 (j % 32) (omega arith))

  own-free : (b i : ℕ) → b < geo.blocks → i < d geo → own_slot geo made b i ≡ Free
  unfolding own_slot entry
  own-free b i l h =
      free-slot geo.logical (map_bit geo made b i) (entry geo made b i)
      (other_word b (entry_word geo i) l (management-inside geo within (entry-word-inside geo within h)) (λ e. omega arith))
      ∙ rw (map-set b i l (omega (arith, map-covers geo within)))

  current : NoneSuperseded geo made
  current = none-superseded geo made (λ n b c i j l l' h h' e e'. absurd (free-not-live (own-free b i l h) e))

  pub fresh-free : (b i : ℕ) → b < geo.blocks → i < d geo → slot geo made b i ≡ Free
  fresh-free b i l h = each-own current l h ∙ own-free b i l h

  not_full : (b : ℕ) → b < geo.blocks → full geo made b ≡ false
  unfolding full
  not_full b l =
      ap not (any_of (d geo) (λ j. is_free (slot geo made b j)) (d-positive geo within) (ap is_free (fresh-free b 0 l (d-positive geo within))))

  bounds : (b : ℕ) → b < geo.blocks → (least_mapped geo made b ≡ ones) × (greatest_mapped geo made b ≡ ones)
  unfolding least_mapped greatest_mapped
  bounds b l = (other_word b least_word l (low-in (omega arith)) (λ e. omega arith), other_word b greatest_word l (low-in (omega arith)) (λ e. omega arith))

  -- ---- the rules

  fresh-sound : Sound geo made
  fresh-sound =
      record {
        worn = λ b l. rw (fresh-count b l) (omega arith);
        map = λ b i l h. map-set b i l (omega (arith, map-covers geo within)) ∙ sym (ap is_free (fresh-free b i l h));
        rest = λ b i l h m. map-set b i l m;
        clean = λ b i l h e j q.
            contents-at geo made b i j q
            ∙ other_word b (content_word geo i j) l (content-word-inside geo within h q) (λ x. omega (arith, content-word-after geo within i j));
        proper = λ b i l h. ap is_faulty (fresh-free b i l h);
        once = λ n b c i j l l' h h' e e'. absurd (free-not-live (fresh-free b i l h) e);
        unbounded = λ b l f. bounds b l;
        bounded = λ b i n l h f e. absurd (free-not-live (fresh-free b i l h) e);
        closed = λ b l f. absurd (true≢false (sym f ∙ not_full b l));
        current = current;
      }

  -- words of 32 bits
  zeroed-words : (m : ℕ) → Words32 (counts_zeroed geo blank-words m)
  unfolding counts_zeroed
  zeroed-words zero = record { small = λ q. go q (dec_lt q (image_length geo)) }
    where
      go : (q : ℕ) → Dec (q < image_length geo) → get_or blank-words q 0 < 2 ^ 32
      go q (yes l) = rw (get_or-replicate (image_length geo) q ones 0 l) (omega arith)
      go q (no l) = rw (get_or-eq_default blank-words 0 {n = q} (omega (arith, length-replicate (image_length geo) ones))) (omega arith)
  zeroed-words (suc m) = record { small = λ q. go q (ℕ_discrete q (place geo m erase_word)) (dec_lt (place geo m erase_word) (length (counts_zeroed geo blank-words m))) (zeroed-words m) }
    where
      go :
          (q : ℕ) →
          Dec (q ≡ place geo m erase_word) →
          Dec (place geo m erase_word < length (counts_zeroed geo blank-words m)) →
          Words32 (counts_zeroed geo blank-words m) →
          get_or (set (counts_zeroed geo blank-words m) (place geo m erase_word) 0) q 0 < 2 ^ 32
      go q (no n) f h = rw (get_or-set_other (counts_zeroed geo blank-words m) (place geo m erase_word) q 0 0 n) (h.small q)
      go q (yes e) (yes l) h = rw (e, get_or-set_same (counts_zeroed geo blank-words m) (place geo m erase_word) 0 0 l) (omega arith)
      go q (yes e) (no l) h = rw (set_out (counts_zeroed geo blank-words m) (place geo m erase_word) 0 (omega arith)) (h.small q)

  fresh-words : Words32 made
  unfolding fresh
  fresh-words = zeroed-words geo.blocks

  pub fresh-ready : Ready geo made
  fresh-ready = record { shaped = fresh-shaped; words = fresh-words; sound = fresh-sound }

  pub fresh-blank : R6 geo made ≡ true
  unfolding R6 blank
  fresh-blank =
      let first : 0 < geo.blocks = omega (arith, within.blocks_low) in
      any_of geo.blocks (blank geo made) first (all_of (d geo) (λ i h. ap is_free (fresh-free 0 i first h)))

  pub fresh-formed : well_formed geo made ≡ true
  fresh-formed = facts-formed geo made fresh-sound fresh-blank

  -- an empty map, B·d free slots, no erasure
  pub fresh-map : (n : ℕ) → map_of geo made n ≡ none
  fresh-map n = map-nothing geo made n (none_found geo made n (λ b i l h e. free-not-live (fresh-free b i l h) e))

  pub fresh-frees : sum_below geo.blocks (free_slots geo made) ≡ geo.blocks * d geo
  fresh-frees =
      sum-ext geo.blocks (λ b l. count-every (d geo) (λ i h. ap is_free (fresh-free b i l h)))
      ∙ sum-const geo.blocks (d geo)

  pub fresh-worn : sum_below geo.blocks (erase_count geo made) ≡ 0
  fresh-worn = sum-zero geo.blocks fresh-count
