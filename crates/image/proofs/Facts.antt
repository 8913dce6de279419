-- R1 to R5, R7 and R8 as facts about slots, and back: `sound` passes exactly where they hold. What a step keeps is shown of the facts.
-- Assumes nothing.
use mathlib.Core.Path.{◌≡◌, refl, sym, ap, ◌∙◌}
use mathlib.Core.Logic.{◌≢◌}
use mathlib.Core.Bool.{Bool, true, false, not, ◌&&◌, true≢false, false≢true}
use Prim.Native.Nat.{ℕ, ◌+◌, ◌*◌, ◌-◌, ◌<◌, ◌≤◌}
use native.Mathlib.Decide.{dec_lt}
use native.Mathlib.Omega.{arith}
use lib.ListN.{get_or}
use borrow.Author.Tests.{eq-eqb, ne_eqb, eqb-true, eqb-false, le-leb, leb-true, not-true, not-false}
use Rattle.ranges.specs.Range.{◌implies◌, any_below}
use Rattle.ranges.proofs.Tests.{unless, both-pass, neither-passes, all-at, all_of, none-at, none_of}
use Rattle.bits.specs.Word.{ones}
use Rattle.geometry.specs.declared.Geometry.{Geometry}
use Rattle.geometry.specs.Geometry.{d, k, sector_words}
use Rattle.image.specs.declared.Slot.{Slot}
use Rattle.image.specs.declared.Slot.TheVariants.{Free, Live, Dead, Faulty, Superseded}
use Rattle.image.specs.Words.{Image, erase_count, least_mapped, greatest_mapped, map_bit, contents}
use Rattle.image.specs.Slots.{slot, is_free, is_live, is_faulty, is_live_with, is_live_for}
use Rattle.image.specs.Blocks.{full}
use Rattle.image.specs.WellFormed.{ceiling, all_ones, map_agrees, rest_set, live_before, none_twice, none_with, outside, bounds_blank, bounds_set, R1, R2, R3, R4, R5, R6, R7, R8, sound_block, sound, well_formed, MapsAgree, NoneSuperseded}
use Rattle.image.proofs.Own.{Once, free-read}
use Rattle.image.proofs.Reading.{map-says, map-rest}

-- ---- a live slot's number

pub live-for : (n : ℕ) (s : Slot) → is_live_for n s ≡ true → s ≡ Live n
live-for n Free e = absurd (false≢true e)
live-for n (Live m) e = ap Live (eqb-true m n e)
live-for n Dead e = absurd (false≢true e)
live-for n Faulty e = absurd (false≢true e)
live-for n Superseded e = absurd (false≢true e)

-- a live slot is live for some number
pub live-is : (s : Slot) → is_live s ≡ true → (n : ℕ) × (s ≡ Live n)
live-is Free e = absurd (false≢true e)
live-is (Live n) e = (n, refl)
live-is Dead e = absurd (false≢true e)
live-is Faulty e = absurd (false≢true e)
live-is Superseded e = absurd (false≢true e)

pub live-is-for : {n : ℕ} {s : Slot} → s ≡ Live n → is_live_for n s ≡ true
live-is-for {n} e = rw e (eq-eqb n n refl)

-- no slot but a live one passes a test of its number
pub each_live : {f : ℕ → Bool} (s : Slot) → ((n : ℕ) → s ≡ Live n → f n ≡ false) → not (is_live_with f s) ≡ true
each_live Free h = refl
each_live (Live n) h = rw (h n refl)
each_live Dead h = refl
each_live Faulty h = refl
each_live Superseded h = refl

pub live-fails : (f : ℕ → Bool) {n : ℕ} {s : Slot} → not (is_live_with f s) ≡ true → s ≡ Live n → f n ≡ false
live-fails f {n} h e = not-true (f n) (rw e at h)

pub free-is : (s : Slot) → is_free s ≡ true → s ≡ Free
free-is Free e = refl
free-is (Live n) e = absurd (false≢true e)
free-is Dead e = absurd (false≢true e)
free-is Faulty e = absurd (false≢true e)
free-is Superseded e = absurd (false≢true e)

-- ---- no number is live twice

module _ (geo : Geometry) (kind : ℕ → ℕ → Slot) where
  -- a number that is live in slot i of block b is live in no earlier slot
  not-before : (b i n : ℕ) → none_twice geo kind b ≡ true → i < d geo → kind b i ≡ Live n → live_before geo kind b i n ≡ false
  not-before b i n r l e = live-fails (live_before geo kind b i) (all-at (d geo) _ r i l) e

  -- no slot of an earlier block, and no earlier slot of this one, is live for n
  none_before :
      (b i n : ℕ) →
      none_twice geo kind b ≡ true →
      i < d geo →
      kind b i ≡ Live n →
      (any_below b (λ c. any_below (d geo) (λ j. is_live_for n (kind c j))) ≡ false) × (any_below i (λ j. is_live_for n (kind b j)) ≡ false)
  none_before b i n r l e =
      neither-passes (any_below b (λ c. any_below (d geo) (λ j. is_live_for n (kind c j)))) (any_below i (λ j. is_live_for n (kind b j))) (not-before b i n r l e)

  earlier-block : (b c i j n : ℕ) → none_twice geo kind b ≡ true → c < b → i < d geo → j < d geo → kind b i ≡ Live n → kind c j ≡ Live n → ⊥
  earlier-block b c i j n r l p q e e' =
      let none = none-at (d geo) (λ j. is_live_for n (kind c j)) (none-at b (λ c. any_below (d geo) (λ j. is_live_for n (kind c j))) (none_before b i n r p e).0 c l) in
      true≢false (sym (live-is-for e') ∙ none j q)

  earlier-slot : (b i j n : ℕ) → none_twice geo kind b ≡ true → j < i → i < d geo → kind b i ≡ Live n → kind b j ≡ Live n → ⊥
  earlier-slot b i j n r l p e e' =
      true≢false (sym (live-is-for e') ∙ none-at i (λ j. is_live_for n (kind b j)) (none_before b i n r p e).1 j l)

  -- from the test of every block to the fact
  pub once-of : ((b : ℕ) → b < geo.blocks → none_twice geo kind b ≡ true) → Once geo kind
  once-of r n b c i j l m p q e e' = same (dec_lt c b) (dec_lt b c)
    where
      in_block : (j : ℕ) → j < d geo → kind b j ≡ Live n → Dec (j < i) → Dec (i < j) → i ≡ j
      in_block j q e' (yes h) k = absurd (earlier-slot b i j n (r b l) h p e e')
      in_block j q e' (no h) (yes k) = absurd (earlier-slot b j i n (r b l) k q e' e)
      in_block j q e' (no h) (no k) = omega arith

      same : Dec (c < b) → Dec (b < c) → (b ≡ c) × (i ≡ j)
      same (yes h) k = absurd (earlier-block b c i j n (r b l) h p q e e')
      same (no h) (yes k) = absurd (earlier-block c b j i n (r c m) k q p e' e)
      same (no h) (no k) =
          let s : b ≡ c = omega arith in
          (s, in_block j q (ap (λ (x : ℕ). kind x j) s ∙ e') (dec_lt j i) (dec_lt i j))

  -- and back
  pub once-tests : Once geo kind → (b : ℕ) → b < geo.blocks → none_twice geo kind b ≡ true
  once-tests once b l = all_of (d geo) (λ i h. each_live (kind b i) (λ n e. rw (blocks-before i n h e, slots-before i n h e)))
    where
      blocks-before : (i n : ℕ) → i < d geo → kind b i ≡ Live n → any_below b (λ c. any_below (d geo) (λ j. is_live_for n (kind c j))) ≡ false
      blocks-before i n h e =
          none_of b
          (λ c m. none_of (d geo)
          (λ j q. unless _ (λ t. let same = once n b c i j l (omega arith) h q e (live-for n _ t) in omega arith)))

      slots-before : (i n : ℕ) → i < d geo → kind b i ≡ Live n → any_below i (λ j. is_live_for n (kind b j)) ≡ false
      slots-before i n h e =
          none_of i (λ j q. unless _ (λ t. let same = once n b b i j l l h (omega arith) e (live-for n _ t) in omega arith))

-- ---- the facts

pub record Sound (geo : Geometry) (image : Image) : Type 0 where
  pub worn : (b : ℕ) → b < geo.blocks → erase_count geo image b ≤ ceiling
  pub map : (b i : ℕ) → b < geo.blocks → i < d geo → map_bit geo image b i ≡ is_free (slot geo image b i)
  pub rest : (b i : ℕ) → b < geo.blocks → d geo ≤ i → i < 32 * k geo → map_bit geo image b i ≡ true
  pub clean :
      (b i : ℕ) → b < geo.blocks → i < d geo → slot geo image b i ≡ Free → (j : ℕ) → j < sector_words → get_or (contents geo image b i) j 0 ≡ ones
  pub proper : (b i : ℕ) → b < geo.blocks → i < d geo → is_faulty (slot geo image b i) ≡ false
  pub once : Once geo (slot geo image)
  pub unbounded : (b : ℕ) → b < geo.blocks → full geo image b ≡ false → (least_mapped geo image b ≡ ones) × (greatest_mapped geo image b ≡ ones)
  pub bounded :
      (b i n : ℕ) →
      b < geo.blocks →
      i < d geo →
      full geo image b ≡ true →
      slot geo image b i ≡ Live n →
      (least_mapped geo image b ≤ n) × (n ≤ greatest_mapped geo image b)
  pub closed : (b : ℕ) → b < geo.blocks → full geo image b ≡ true → (least_mapped geo image b ≢ ones) × (greatest_mapped geo image b ≢ ones)
  pub current : NoneSuperseded geo image

-- ---- tests

-- a bit that says whether an entry is free and the bit set is set over no other
only-over : (m f : Bool) → m ≡ (f && m) → (m implies f) ≡ true
only-over true true e = refl
only-over true false e = sym e
only-over false f e = refl

-- a test that is asked only where another passes
asked : (a b : Bool) → (a implies b) ≡ true → a ≡ true → b ≡ true
asked true b h e = h
asked false b h e = absurd (false≢true e)

module _ (geo : Geometry) (image : Image) where
  -- ---- the rules of one block as facts, and back

  module _ (b : ℕ) where
    -- R2
    pub map-agrees :
        ((i : ℕ) → i < d geo → map_bit geo image b i ≡ is_free (slot geo image b i)) →
        ((i : ℕ) → d geo ≤ i → i < 32 * k geo → map_bit geo image b i ≡ true) →
        R2 geo image b ≡ true
    unfolding R2
    map-agrees says rest =
        let agrees : map_agrees geo image b ≡ true = all_of (d geo) (λ i h. only-over _ _ (says i h ∙ free-read geo image b i)) in
        let set : rest_set geo image b ≡ true = all_of (32 * k geo - d geo) (λ j h. rest (d geo + j) (omega arith) (omega arith)) in
        rw (agrees, set)

    -- R3
    abbrev pub Clean : Type 0
    Clean = (i : ℕ) → i < d geo → slot geo image b i ≡ Free → (j : ℕ) → j < sector_words → get_or (contents geo image b i) j 0 ≡ ones

    pub clean_of : R3 geo image b ≡ true → Clean
    unfolding R3
    clean_of t i h e j q = eqb-true _ _ (all-at sector_words _ (asked _ _ (all-at (d geo) _ t i h) (ap is_free e)) j q)

    pub clean-tests : Clean → R3 geo image b ≡ true
    unfolding R3
    clean-tests clean = all_of (d geo) (λ i h. go i h (is_free (slot geo image b i)) refl)
      where
        go : (i : ℕ) → i < d geo → (f : Bool) → is_free (slot geo image b i) ≡ f → (f implies all_ones (contents geo image b i)) ≡ true
        go i h true e = all_of sector_words (λ j q. eq-eqb _ _ (clean i h (free-is _ e) j q))
        go i h false e = refl

    -- R4
    pub proper-of : R4 geo image b ≡ true → (i : ℕ) → i < d geo → is_faulty (slot geo image b i) ≡ false
    unfolding R4
    proper-of t i h = not-true _ (all-at (d geo) _ t i h)

    pub proper-tests : ((i : ℕ) → i < d geo → is_faulty (slot geo image b i) ≡ false) → R4 geo image b ≡ true
    unfolding R4
    proper-tests proper = all_of (d geo) (λ i h. ap not (proper i h))

    -- R7, where the block is not full: words 1 and 2 are not programmed
    pub unbounded-of : bounds_blank geo image b ≡ true → (least_mapped geo image b ≡ ones) × (greatest_mapped geo image b ≡ ones)
    unbounded-of t = let both = both-pass _ _ t in (eqb-true _ _ both.0, eqb-true _ _ both.1)

    pub unbounded-tests : (least_mapped geo image b ≡ ones) × (greatest_mapped geo image b ≡ ones) → bounds_blank geo image b ≡ true
    unbounded-tests both = rw (eq-eqb _ _ both.0, eq-eqb _ _ both.1)

    -- R7, where it is: its live numbers lie between two words
    module _ (least greatest : ℕ) where
      abbrev pub Between : Type 0
      Between = (i n : ℕ) → i < d geo → slot geo image b i ≡ Live n → (least ≤ n) × (n ≤ greatest)

      pub between-of : none_with geo (slot geo image) (outside least greatest) b ≡ true → Between
      between-of t i n h e =
          let inside = both-pass _ _ (not-false _ (live-fails (outside least greatest) (all-at (d geo) _ t i h) e)) in
          (leb-true _ _ inside.0, leb-true _ _ inside.1)

      pub between-tests : Between → none_with geo (slot geo image) (outside least greatest) b ≡ true
      between-tests between =
          all_of (d geo)
          (λ i h. each_live (slot geo image b i)
          (λ n e. let inside = between i n h e in rw (le-leb _ _ inside.0, le-leb _ _ inside.1)))

  record Rules (b : ℕ) : Type 0 where
    r1 : R1 geo image b ≡ true
    r2 : R2 geo image b ≡ true
    r3 : R3 geo image b ≡ true
    r4 : R4 geo image b ≡ true
    r5 : R5 geo image b ≡ true
    r7 : R7 geo image b ≡ true
    r8 : R8 geo image b ≡ true

  rules : sound geo image ≡ true → (b : ℕ) → b < geo.blocks → Rules b
  unfolding sound sound_block
  rules t b l =
      let all = all-at geo.blocks (sound_block geo image) t b l in
      let s = both-pass _ (R8 geo image b) all in
      let s7 = both-pass _ (R7 geo image b) s.0 in
      let s5 = both-pass _ (R5 geo image b) s7.0 in
      let s4 = both-pass _ (R4 geo image b) s5.0 in
      let s3 = both-pass _ (R3 geo image b) s4.0 in
      let s2 = both-pass (R1 geo image b) (R2 geo image b) s3.0 in
      record { r1 = s2.0; r2 = s2.1; r3 = s3.1; r4 = s4.1; r5 = s5.1; r7 = s7.1; r8 = s.1 }

  unrules : ((b : ℕ) → b < geo.blocks → Rules b) → sound geo image ≡ true
  unfolding sound sound_block
  unrules h = all_of geo.blocks (λ b l. let r = h b l in rw (r.r1, r.r2, r.r3, r.r4, r.r5, r.r7, r.r8))

  -- ---- from the rules to the facts

  pub sound-facts : sound geo image ≡ true → Sound geo image
  unfolding R1 R5 R7 R8
  sound-facts t =
      record {
        worn = λ b l. leb-true _ _ (rules t b l).r1;
        map = λ b i l h. map-says geo image b (rules t b l).r2 i h;
        rest = λ b i l h m. map-rest geo image b (rules t b l).r2 i h m;
        clean = λ b i l h e j q. clean_of b (rules t b l).r3 i h e j q;
        proper = λ b i l h. proper-of b (rules t b l).r4 i h;
        once = once-of geo (slot geo image) (λ b l. (rules t b l).r5);
        unbounded = λ b l f. unbounded-of b (rw f at (rules t b l).r7);
        bounded = λ b i n l h f e. between-of b _ _ (both-pass (bounds_set geo image b) _ (rw f at (rules t b l).r7)).1 i n h e;
        closed = λ b l f.
            let set = neither-passes _ _ (not-true _ (both-pass (bounds_set geo image b) _ (rw f at (rules t b l).r7)).0) in
            (eqb-false _ _ set.0, eqb-false _ _ set.1);
        current = record { none = λ b i l h. none-at (d geo) _ (not-true _ (rules t b l).r8) i h };
      }

  -- ---- and back

  module _ (s : Sound geo image) (b : ℕ) (l : b < geo.blocks) where
    kept-1 : R1 geo image b ≡ true
    unfolding R1
    kept-1 = le-leb _ _ (s.worn b l)

    kept-2 : R2 geo image b ≡ true
    kept-2 = map-agrees b (λ i h. s.map b i l h) (λ i h m. s.rest b i l h m)

    kept-5 : R5 geo image b ≡ true
    unfolding R5
    kept-5 = once-tests geo (slot geo image) s.once b l

    kept-7 : (f : Bool) → full geo image b ≡ f → R7 geo image b ≡ true
    unfolding R7
    kept-7 true f =
        let set = s.closed b l f in
        rw (f, ne_eqb _ _ set.0, ne_eqb _ _ set.1) (between-tests b _ _ (λ i n h e. s.bounded b i n l h f e))
    kept-7 false f = rw f (unbounded-tests b (s.unbounded b l f))

    kept-8 : R8 geo image b ≡ true
    unfolding R8
    kept-8 = ap not (none_of (d geo) (λ i h. s.current.none b i l h))

  pub facts-sound : Sound geo image → sound geo image ≡ true
  facts-sound s =
      unrules
      (λ b l.
      record {
        r1 = kept-1 s b l;
        r2 = kept-2 s b l;
        r3 = clean-tests b (λ i h. s.clean b i l h);
        r4 = proper-tests b (λ i h. s.proper b i l h);
        r5 = kept-5 s b l;
        r7 = kept-7 s b l (full geo image b) refl;
        r8 = kept-8 s b l;
      })

  -- what the code asks of every block's map
  pub sound-maps : Sound geo image → MapsAgree geo image
  sound-maps s = record { agrees = λ b l. kept-2 s b l }

  -- a well-formed image: the rules of its blocks, and a blank one
  pub formed-sound : well_formed geo image ≡ true → sound geo image ≡ true
  unfolding well_formed
  formed-sound t = (both-pass (sound geo image) (R6 geo image) t).0

  pub formed-blank : well_formed geo image ≡ true → R6 geo image ≡ true
  unfolding well_formed
  formed-blank t = (both-pass (sound geo image) (R6 geo image) t).1

  pub facts-formed : Sound geo image → R6 geo image ≡ true → well_formed geo image ≡ true
  unfolding well_formed
  facts-formed s blank = rw (facts-sound s, blank)
