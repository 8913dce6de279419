-- A write goes by the 32 lowest bits of each word that it is handed: its steps leave the same image, and erase as often, as with these bits alone. So what
-- is shown of a write of 32-bit words tells of any other. Assumes nothing.
use mathlib.Core.Path.{◌≡◌, refl, sym, ap, ap₂, ◌∙◌}
use mathlib.Core.Bool.{Bool, true, false, cond}
use mathlib.Core.List.{List, [], ◌∷◌, ◌++◌, map}
use Prim.Native.Nat.{ℕ, zero, suc, ◌+◌}
use lib.ListN.{length, get_or, set, length-map, get_or-map}
use Rattle.ranges.specs.Range.{list_below}
use Rattle.bits.specs.Word.{ones, shared, programmed}
use Rattle.bits.proofs.Programming.{programmed-lt, over-ones-first}
use Rattle.geometry.specs.declared.Geometry.{Geometry}
use Rattle.geometry.specs.Geometry.{sector_words}
use Rattle.geometry.specs.Places.{place, content_word}
use Rattle.image.specs.Found.{Found}
use Rattle.image.specs.Found.{At, Nothing}
use Rattle.image.specs.Words.{Image, Words32, word}
use Rattle.image.specs.Slots.{find}
use Rattle.image.specs.Blocks.{least_worn_blank, victim}
use Rattle.flash.specs.declared.Step.{Step}
use Rattle.flash.specs.declared.Step.TheVariants.{Program}
use Rattle.flash.specs.Steps.{applied, run, erasures_in}
use Rattle.flash.specs.Placing.{takes_slot, outdates, stores_contents, closes_block, fills_slot, placing}
use Rattle.flash.specs.Writing.{next_slot, placing_at, filling, must_reclaim, reclaiming, reclaiming_first, writing}
use Rattle.flash.proofs.Stores.{run-append, erasures-append}

-- the words that programming over ones leaves of any words
abbrev pub low_bits : List ℕ → List ℕ
low_bits ws = map (programmed ones) ws

pub low-bits-length : (ws : List ℕ) → length (low_bits ws) ≡ length ws
low-bits-length ws = length-map ws (programmed ones)

low-bits-at : (ws : List ℕ) (j : ℕ) → get_or (low_bits ws) j 0 ≡ programmed ones (get_or ws j 0)
unfolding shared
low-bits-at ws j = get_or-map (programmed ones) ws j 0

pub low-bits-words : (ws : List ℕ) → Words32 (low_bits ws)
low-bits-words ws = record { small = λ j. rw (low-bits-at ws j) (programmed-lt ones (get_or ws j 0)) }

module _ (geo : Geometry) where
  -- steps that leave the same image, whatever it was, and erase as often
  pub record Alike (xs ys : List Step) : Type 0 where
    pub same-run : (image : Image) → run geo image xs ≡ run geo image ys
    pub same-erasures : erasures_in xs ≡ erasures_in ys

  alike_same : {xs ys : List Step} → xs ≡ ys → Alike xs ys
  alike_same e = record { same-run = λ image. ap (run geo image) e; same-erasures = ap erasures_in e }

  alike-append : {xs ys us vs : List Step} → Alike xs ys → Alike us vs → Alike (xs ++ us) (ys ++ vs)
  alike-append {xs} {ys} {us} {vs} a b =
      record {
        same-run = λ image.
            run-append geo image xs us
            ∙ b.same-run (run geo image xs)
            ∙ ap (λ (i : Image). run geo i vs) (a.same-run image)
            ∙ sym (run-append geo image ys vs);
        same-erasures = erasures-append xs us ∙ ap₂ ◌+◌ a.same-erasures b.same-erasures ∙ sym (erasures-append ys vs);
      }

  -- steps after the same ones
  alike-after : (xs : List Step) {us vs : List Step} → Alike us vs → Alike (xs ++ us) (xs ++ vs)
  alike-after xs b = alike-append (alike_same {xs = xs} refl) b

  -- a word programmed
  alike-one : (p w v : ℕ) → ((old : ℕ) → programmed old w ≡ programmed old v) → Alike (Program p w ∷ []) (Program p v ∷ [])
  unfolding run applied erasures_in
  alike-one p w v same = record { same-run = λ image. ap (set image p) (same (word image p)); same-erasures = refl }

  -- a word programmed for each index
  alike-list :
      (at w v : ℕ → ℕ) →
      ((j old : ℕ) → programmed old (w j) ≡ programmed old (v j)) →
      (m : ℕ) →
      Alike (list_below m (λ j. Program (at j) (w j))) (list_below m (λ j. Program (at j) (v j)))
  unfolding list_below
  alike-list at w v same zero = alike_same refl
  alike-list at w v same (suc m) = alike-append (alike-list at w v same m) (alike-one (at m) (w m) (v m) (same m))

  module _ (n : ℕ) (ws : List ℕ) where
    -- (c)
    stores-alike : (b i : ℕ) → Alike (stores_contents geo b i ws) (stores_contents geo b i (low_bits ws))
    stores-alike b i =
        alike-list (λ j. place geo b (content_word geo i j)) (λ j. get_or ws j 0) (λ j. get_or (low_bits ws) j 0)
        (λ j old. sym (over-ones-first old (get_or ws j 0)) ∙ ap (programmed old) (sym (low-bits-at ws j)))
        sector_words

    -- (a) to (f)
    fills_alike : (image : Image) (old : Found) (b i : ℕ) → Alike (fills_slot geo image old n ws b i) (fills_slot geo image old n (low_bits ws) b i)
    unfolding fills_slot
    fills_alike image old b i =
        alike-after (takes_slot geo image b i) (alike-after (outdates geo image old) (alike-append (stores-alike b i) (alike_same refl)))

    placing-alike : (image : Image) (b i : ℕ) → Alike (placing geo image n ws b i) (placing geo image n (low_bits ws) b i)
    unfolding placing
    placing-alike image b i =
        let filled = fills_alike image (find geo image n) b i in
        alike-append filled (alike_same (ap (λ (after : Image). closes_block geo after b) (filled.same-run image)))

    filling-alike : (image : Image) → Alike (filling geo image n ws) (filling geo image n (low_bits ws))
    unfolding filling
    filling-alike image = go (next_slot geo image)
      where
        go : (found : Found) → Alike (placing_at geo image n ws found) (placing_at geo image n (low_bits ws) found)
        go (At b i) = placing-alike image b i
        go Nothing = alike_same refl

    pub writing-alike : (image : Image) → Alike (writing geo image n ws) (writing geo image n (low_bits ws))
    unfolding writing reclaiming_first
    writing-alike image = go (must_reclaim geo image)
      where
        reclaimed : List Step
        reclaimed = reclaiming geo image (victim geo image) (least_worn_blank geo image)

        go :
            (b : Bool) →
            Alike (cond b (reclaimed ++ filling geo (run geo image reclaimed) n ws) (filling geo image n ws))
            (cond b (reclaimed ++ filling geo (run geo image reclaimed) n (low_bits ws)) (filling geo image n (low_bits ws)))
        go true = alike-after reclaimed (filling-alike (run geo image reclaimed))
        go false = filling-alike image
