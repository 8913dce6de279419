-- Words 0, 1 and 2 of the blocks are no part of any slot: an image in which some of them were programmed has the same slots, and the same map.
-- Assumes nothing.
use mathlib.Core.Path.{◌≡◌, refl, sym, ap, ap₂, ◌∙◌}
use mathlib.Core.Logic.{◌⊎◌, inl, inr, ⊎_elim}
use mathlib.Core.Bool.{Bool, true, false, cond, ◌&&◌}
use mathlib.Core.List.{List, [], ◌∷◌}
use Prim.Native.Nat.{ℕ, ◌*◌, ◌%◌, ◌^◌, ◌<◌, ◌≤◌}
use native.Mathlib.Omega.{arith}
use lib.Dec.{eqb}
use lib.ListN.{get_or}
use Rattle.ranges.specs.Range.{any_below, first_below}
use Rattle.ranges.proofs.Tests.{any-ext}
use Rattle.ranges.proofs.Searches.{best-ext, best-any}
use Rattle.bits.specs.Word.{ones, is_set, programmed}
use Rattle.bits.proofs.Programming.{ones-leave}
use Rattle.geometry.specs.declared.Geometry.{Geometry}
use Rattle.geometry.specs.Geometry.{Limits, d, k, block_length}
use Rattle.geometry.specs.Places.{place, map_word, entry_word, content_word}
use Rattle.geometry.proofs.Laws.{low-in-block, map-in-block, entry-in-block, map-covers, content-word-inside, content-word-after}
use Rattle.image.specs.declared.Slot.TheVariants.{Live}
use Rattle.image.specs.Found.{At}
use Rattle.image.specs.Words.{Image, Shaped, Words32, word, erase_count, least_mapped, greatest_mapped, free_map, map_bit, entry, contents}
use Rattle.image.specs.Slots.{slot, is_free, is_live, is_faulty, is_live_for, live_in, find, map_of}
use Rattle.image.specs.Blocks.{blank, full, free_slots, live_slots}
use Rattle.image.specs.WellFormed.{ceiling, R2, NoneSuperseded}
use Rattle.image.specs.Mending.{count_unset, least_bound}
use Rattle.image.proofs.Reading.{word-inside}
use Rattle.image.proofs.Places.{apart, contents-at, contents-are, contents-long}
use Rattle.image.proofs.Facts.{map-agrees}
use Rattle.image.proofs.Finding.{map_same}
use Rattle.image.proofs.Alike.{superseded-alike, slot-alike, free-slots-alike, blank-alike, full-alike, live-slots-alike}
use Rattle.image.proofs.Mending.{Mendable, unset-count}
use Rattle.flash.specs.declared.Step.{Step}
use Rattle.flash.specs.declared.Step.TheVariants.{Program}
use Rattle.flash.specs.Steps.{run, leaves_asked}
use Rattle.flash.specs.Placing.{least_live, greatest_live}
use Rattle.flash.proofs.Stores.{Exact, counts-erasures, count-one, last-here, last-other, exact_none, exact_one, run_none, run-words}
use Rattle.flash.proofs.Along.{Along, along-none, along_one}
use Rattle.flash.proofs.CodeLaws.{still-shaped}

-- R2 of a block, as the code asks for it
pub mendable-map : (geo : Geometry) (image : Image) → Mendable geo image → (b : ℕ) → b < geo.blocks → R2 geo image b ≡ true
mendable-map geo image s b l = map-agrees geo image b (λ i h. s.map b i l h) (λ i h m. s.rest b i l h m)

-- `now` is the image, but for words 0 to 2 of its blocks
pub record LowOnly (geo : Geometry) (image now : Image) : Type 0 where
  pub shaped : Shaped geo now
  pub words : Words32 image → Words32 now
  pub entries : (c j : ℕ) → c < geo.blocks → j < d geo → entry geo now c j ≡ entry geo image c j
  pub maps : (c j : ℕ) → c < geo.blocks → j < 32 * k geo → map_bit geo now c j ≡ map_bit geo image c j
  pub slots : (c j : ℕ) → c < geo.blocks → j < d geo → slot geo now c j ≡ slot geo image c j
  pub contents-kept : (c j : ℕ) → c < geo.blocks → j < d geo → contents geo now c j ≡ contents geo image c j

pub low-none : {geo : Geometry} {image : Image} → Shaped geo image → LowOnly geo image image
low-none shaped =
    record {
      shaped = shaped;
      words = λ w. w;
      entries = λ c j l h. refl;
      maps = λ c j l h. refl;
      slots = λ c j l h. refl;
      contents-kept = λ c j l h. refl;
    }

pub low-then : {geo : Geometry} {image now after : Image} → LowOnly geo image now → LowOnly geo now after → LowOnly geo image after
low-then p q =
    record {
      shaped = q.shaped;
      words = λ w. q.words (p.words w);
      entries = λ c j l h. q.entries c j l h ∙ p.entries c j l h;
      maps = λ c j l h. q.maps c j l h ∙ p.maps c j l h;
      slots = λ c j l h. q.slots c j l h ∙ p.slots c j l h;
      contents-kept = λ c j l h. q.contents-kept c j l h ∙ p.contents-kept c j l h;
    }

-- ---- one of these words programmed

module _ (geo : Geometry) (image : Image) (shaped : Shaped geo image) (b w asked : ℕ) (block : b < geo.blocks) (small : w < 3) where
  within : Limits geo
  within = shaped.limits

  abbrev at : ℕ
  at = place geo b w

  abbrev programs : List Step
  programs = Program at asked ∷ []

  in_block : w < block_length geo
  in_block = low-in-block geo within (omega arith)

  module _ (unset : word image at ≡ ones) (fits : asked < 2 ^ 32) where
    exact : Exact geo image programs
    exact =
        exact_one geo image at asked
        (word-inside geo image shaped block in_block)
        (ap (λ (x : ℕ). programmed x asked) unset ∙ ones-leave asked fits)

    other_word :
        (c j : ℕ) → j < block_length geo → (c ≡ b → j ≡ w → ⊥) → word (run geo image programs) (place geo c j) ≡ word image (place geo c j)
    other_word c j l n = exact.words (place geo c j) ∙ last-other asked (word image (place geo c j)) (apart geo l in_block n)

    high_word : (c j : ℕ) → 3 ≤ j → j < block_length geo → word (run geo image programs) (place geo c j) ≡ word image (place geo c j)
    high_word c j h l = other_word c j l (λ p e. omega arith)

    shaped-after : Shaped geo (run geo image programs)
    shaped-after = still-shaped geo shaped exact.long

    entry_kept : (c j : ℕ) → c < geo.blocks → j < d geo → entry geo (run geo image programs) c j ≡ entry geo image c j
    unfolding entry
    entry_kept c j l h = high_word c (entry_word geo j) (omega arith) (entry-in-block geo within h)

    bit_kept : (c j : ℕ) → c < geo.blocks → j < 32 * k geo → map_bit geo (run geo image programs) c j ≡ map_bit geo image c j
    unfolding free_map
    bit_kept c j l h = ap (λ (x : ℕ). is_set x (j % 32)) (high_word c (map_word j) (omega arith) (map-in-block geo within {i = j} h))

    low-one : LowOnly geo image (run geo image programs)
    low-one =
        record {
          shaped = shaped-after;
          words = run-words geo image programs (count-one counts-erasures at asked);
          entries = entry_kept;
          maps = bit_kept;
          slots =
              slot-alike geo image (run geo image programs) entry_kept
              (λ c j l h. bit_kept c j l (omega (arith, map-covers geo within)));
          contents-kept = λ c j l h.
              contents-are geo (run geo image programs) c j (contents geo image c j) shaped-after l h (contents-long geo image shaped l h)
              (λ m q.
              high_word c (content_word geo j m) (omega (arith, content-word-after geo within j m)) (content-word-inside geo within h q)
              ∙ sym (contents-at geo image c j m q));
        }

-- the step that a test asks for, with word w of block b
abbrev pub programs_where : Geometry → Bool → ℕ → ℕ → ℕ → List Step
programs_where geo asks b w asked = cond asks (Program (place geo b w) asked ∷ []) []

-- the image after it: that word is the asked one where the test passes, every other word is as it was
pub record Programmed (geo : Geometry) (image : Image) (asks : Bool) (b w asked : ℕ) : Type 0 where
  pub low : LowOnly geo image (run geo image (programs_where geo asks b w asked))
  pub here : word (run geo image (programs_where geo asks b w asked)) (place geo b w) ≡ cond asks asked (word image (place geo b w))
  pub other :
      (c j : ℕ) →
      j < 3 →
      (c ≡ b → j ≡ w → ⊥) →
      word (run geo image (programs_where geo asks b w asked)) (place geo c j) ≡ word image (place geo c j)
  pub as-asked : leaves_asked geo image (programs_where geo asks b w asked) ≡ true

pub programmed-where :
    (geo : Geometry) (image : Image) (asks : Bool) (b w asked : ℕ) →
    Shaped geo image →
    b < geo.blocks →
    w < 3 →
    (asks ≡ true → word image (place geo b w) ≡ ones) →
    asked < 2 ^ 32 →
    Programmed geo image asks b w asked
programmed-where geo image true b w asked shaped l small unset fits =
    let e = exact geo image shaped b w asked l small (unset refl) fits in
    record {
      low = low-one geo image shaped b w asked l small (unset refl) fits;
      here = e.words (place geo b w) ∙ last-here (place geo b w) asked (word image (place geo b w));
      other = λ c j h n. other_word geo image shaped b w asked l small (unset refl) fits c j (low-in-block geo shaped.limits (omega arith)) n;
      as-asked = e.asked;
    }
programmed-where geo image false b w asked shaped l small unset fits =
    record {
      low = rw (run_none geo image) (low-none shaped);
      here = rw (run_none geo image);
      other = λ c j h n. rw (run_none geo image);
      as-asked = (exact_none geo image).asked;
    }

-- what holds before it and after it holds on the way
pub along-where :
    (geo : Geometry) (P : Image → Type 0) (image : Image) (asks : Bool) (b w asked : ℕ) →
    P image →
    P (run geo image (programs_where geo asks b w asked)) →
    Along geo P image (programs_where geo asks b w asked)
unfolding run
along-where geo P image true b w asked p q = along_one geo P image (Program (place geo b w) asked) p q
along-where geo P image false b w asked p q = along-none geo P image p

-- ---- what such an image has in common with the first

module _ (geo : Geometry) (image now : Image) (low : LowOnly geo image now) where
  frees : (c : ℕ) → c < geo.blocks → (j : ℕ) → j < d geo → is_free (slot geo now c j) ≡ is_free (slot geo image c j)
  frees c l j h = ap is_free (low.slots c j l h)

  pub full-kept : (c : ℕ) → c < geo.blocks → full geo now c ≡ full geo image c
  full-kept c l = full-alike geo image now c (frees c l)

  pub blank-kept : (c : ℕ) → c < geo.blocks → blank geo now c ≡ blank geo image c
  blank-kept c l = blank-alike geo image now c (frees c l)

  pub free-slots-kept : (c : ℕ) → c < geo.blocks → free_slots geo now c ≡ free_slots geo image c
  free-slots-kept c l = free-slots-alike geo image now c (frees c l)

  pub live-slots-kept : (c : ℕ) → c < geo.blocks → live_slots geo now c ≡ live_slots geo image c
  live-slots-kept c l = live-slots-alike geo image now c (λ j h. ap is_live (low.slots c j l h))

  pub current-kept : NoneSuperseded geo image → NoneSuperseded geo now
  current-kept none = record { none = λ c j l h. superseded-alike geo image now low.entries c j l h ∙ none.none c j l h }

  -- the numbers live in a block, the least and the greatest of them
  live-in-kept : (c n : ℕ) → c < geo.blocks → live_in geo now c n ≡ live_in geo image c n
  live-in-kept c n l = any-ext (d geo) (λ j h. ap (is_live_for n) (low.slots c j l h))

  pub least-live-kept : (c : ℕ) → c < geo.blocks → least_live geo now c ≡ least_live geo image c
  unfolding least_live
  least-live-kept c l = best-ext geo.logical (λ n m. live-in-kept c n l) (λ i r h m. refl)

  pub greatest-live-kept : (c : ℕ) → c < geo.blocks → greatest_live geo now c ≡ greatest_live geo image c
  unfolding greatest_live
  greatest-live-kept c l = best-ext geo.logical (λ n m. live-in-kept c n l) (λ i r h m. refl)

  -- each number is found where it was, and so the map is the same
  pub find-kept : (n : ℕ) → find geo now n ≡ find geo image n
  unfolding find
  find-kept n = go (any_below geo.blocks live) refl
    where
      live : ℕ → Bool
      live b = live_in geo image b n

      any : any_below geo.blocks (λ b. live_in geo now b n) ≡ any_below geo.blocks live
      any = any-ext geo.blocks (λ b l. live-in-kept b n l)

      first : first_below geo.blocks (λ b. live_in geo now b n) ≡ first_below geo.blocks live
      first = best-ext geo.blocks (λ b l. live-in-kept b n l) (λ i r l m. refl)

      go : (t : Bool) → any_below geo.blocks live ≡ t → find geo now n ≡ find geo image n
      go true t =
          let block = best-any (λ i r. false) geo.blocks live t in
          rw (any, first, t)
          (ap (At (first_below geo.blocks live)) (best-ext (d geo) (λ j h. ap (is_live_for n) (low.slots _ j block h)) (λ i r l m. refl)))
      go false t = rw (any, t)

  pub map-kept : (n : ℕ) → map_of geo now n ≡ map_of geo image n
  map-kept n = map_same geo image now n (find-kept n) (λ c j l h e. low.contents-kept c j l h)

  -- a block was not given its count where it was not before, if its count is as it was
  unset-kept : (c : ℕ) → c < geo.blocks → erase_count geo now c ≡ erase_count geo image c → count_unset geo now c ≡ count_unset geo image c
  unfolding count_unset
  unset-kept c l e = ap₂ ◌&&◌ (blank-kept c l) (ap (λ (x : ℕ). eqb x ones) e)

  -- Its faults can be mended where those of the first can: if each count is as it was or below the ceiling, words 1 and 2 are as they were in a block
  -- that is not full, and each that is programmed bounds the live numbers in a full one.
  pub still-mendable :
      Mendable geo image →
      ((c : ℕ) → c < geo.blocks → (erase_count geo now c ≡ erase_count geo image c) ⊎ (erase_count geo now c ≤ ceiling)) →
      ((c : ℕ) →
      c < geo.blocks →
      full geo image c ≡ false →
      (least_mapped geo now c ≡ least_mapped geo image c) × (greatest_mapped geo now c ≡ greatest_mapped geo image c)) →
      ((c i n : ℕ) →
      c < geo.blocks →
      i < d geo →
      full geo image c ≡ true →
      slot geo image c i ≡ Live n →
      (least_bound geo now c ≤ n) × (n ≤ greatest_mapped geo now c)) →
      Mendable geo now
  still-mendable s counts unset bounded =
      record {
        worn = λ c l.
            ⊎_elim
            (λ e. ⊎_elim (λ h. inl (rw e h)) (λ t. inr (unset-kept c l e ∙ t)) (s.worn c l))
            (λ h. inl h)
            (counts c l);
        single = λ b c l m t u. s.single b c l m (unset-before b l t) (unset-before c m u);
        map = λ c j l h.
            low.maps c j l (omega (arith, map-covers geo low.shaped.limits)) ∙ s.map c j l h ∙ sym (frees c l j h);
        rest = λ c j l h m. low.maps c j l m ∙ s.rest c j l h m;
        clean = λ c j l h e m q.
            ap (λ (x : List ℕ). get_or x m 0) (low.contents-kept c j l h) ∙ s.clean c j l h (sym (low.slots c j l h) ∙ e) m q;
        proper = λ c j l h. ap is_faulty (low.slots c j l h) ∙ s.proper c j l h;
        once = λ n b c i j l m h q e e'.
            s.once n b c i j l m h q (sym (low.slots b i l h) ∙ e) (sym (low.slots c j m q) ∙ e');
        unbounded = λ c l f.
            let same = unset c l (sym (full-kept c l) ∙ f) in
            let were = s.unbounded c l (sym (full-kept c l) ∙ f) in
            (same.0 ∙ were.0, same.1 ∙ were.1);
        bounded = λ c i n l h f e. bounded c i n l h (sym (full-kept c l) ∙ f) (sym (low.slots c i l h) ∙ e);
      }
    where
      unset-before : (c : ℕ) → c < geo.blocks → count_unset geo now c ≡ true → count_unset geo image c ≡ true
      unset-before c l t =
          ⊎_elim
          (λ e. sym (unset-kept c l e) ∙ t)
          (λ h. absurd (omega (arith, unset-count geo now c t)))
          (counts c l)
