-- Each step of a placing that is known beforehand, by its number: the cases that the code tells apart. Assumes nothing.
use mathlib.Core.Path.{◌≡◌, sym, ap, ◌∙◌}
use mathlib.Core.Bool.{true, false}
use mathlib.Core.List.{List, [], ◌∷◌, ◌++◌}
use Prim.Native.Nat.{ℕ, suc, ◌+◌, ◌^◌, ◌<◌, ◌≤◌}
use native.Mathlib.Omega.{arith}
use lib.ListN.{length, get_or}
use Rattle.bits.specs.Word.{cleared}
use Rattle.geometry.specs.declared.Geometry.{Geometry}
use Rattle.geometry.specs.Geometry.{d, sector_words, Limits}
use Rattle.geometry.specs.Places.{place, least_word, greatest_word, map_word, entry_word, content_word}
use Rattle.geometry.proofs.Laws.{place_inside, entry-in-block, length-small}
use Rattle.image.specs.Found.{Found}
use Rattle.image.specs.Found.{At, Nothing}
use Rattle.image.specs.Slots.{valid_bit, current_bit}
use Rattle.flash.specs.declared.NextStep.{NextStep}
use Rattle.flash.specs.declared.NextStep.TheVariants.{Next, Done}
use Rattle.flash.specs.declared.Placement.{Placement}
use Rattle.flash.specs.declared.Step.{Step}
use Rattle.flash.specs.declared.Step.TheVariants.{Program}
use Rattle.flash.specs.Steps.{step_at}
use Rattle.flash.specs.Placing.{InImage, programs_entry}
use Rattle.flash.specs.Ahead.{closes_with, behind_contents, from_contents, placement_steps}
use Rattle.flash.proofs.Parts.{step_past}
use Rattle.ahead.proofs.StepLaws.{step-on, step-in-list, step-behind-list}

-- ---- where the steps lie

module _ (geo : Geometry) (limits : Limits geo) where
  -- the place of an entry is a number of 32 bits
  pub entry-small : {b i : ℕ} → b < geo.blocks → i < d geo → place geo b (entry_word geo i) < 2 ^ 32
  entry-small l h = omega (arith, place_inside geo l (entry-in-block geo limits h), length-small geo limits)

  -- and so is that of the old one
  pub found-place-small : {old : Found} {b i : ℕ} → InImage geo old → old ≡ At b i → place geo b (entry_word geo i) < 2 ^ 32
  found-place-small {b = b} {i = i} inside e = entry-small (inside.block b i e) (inside.slot_is b i e)

-- ---- the old entry, (b) and (f): some steps, then this one if the number was found, then the rest

module _ (geo : Geometry) (old : Found) (w : ℕ) (xs rest : List Step) (s : ℕ) where
  abbrev around : List Step
  around = xs ++ (programs_entry geo old w ++ rest)

  -- the entry itself
  entry-step :
      (b i at asked : ℕ) →
      old ≡ At b i → s ≡ length xs → at ≡ place geo b (entry_word geo i) → asked ≡ w → Next (Program at asked) ≡ step_at around s
  unfolding step_at
  entry-step b i at asked found here e f =
      rw (e, f)
      (sym (step-on xs (programs_entry geo old w ++ rest) s 0 (omega arith) ∙ ap (λ (o : Found). step_at (programs_entry geo o w ++ rest) 0) found))

  -- the rest, behind it
  after-entry : (b i k : ℕ) {r : NextStep} → old ≡ At b i → r ≡ step_at rest k → s ≡ length xs + suc k → r ≡ step_at around s
  unfolding step_at
  after-entry b i k found same e =
      same ∙ sym (step-on xs (programs_entry geo old w ++ rest) s (suc k) e ∙ ap (λ (o : Found). step_at (programs_entry geo o w ++ rest) (suc k)) found)

  -- the rest, where there is none
  without-entry : (k : ℕ) {r : NextStep} → old ≡ Nothing → r ≡ step_at rest k → s ≡ length xs + k → r ≡ step_at around s
  without-entry k none same e =
      same ∙ sym (step-on xs (programs_entry geo old w ++ rest) s k e ∙ ap (λ (o : Found). step_at (programs_entry geo o w ++ rest) k) none)

module _ (geo : Geometry) (p : Placement) (s : ℕ) where
  -- ---- (g)

  -- word 1
  pub least_step :
      (at : ℕ) → p.closes ≡ true → s ≡ 0 → at ≡ place geo p.block least_word → Next (Program at p.bounds.least) ≡ step_at (closes_with geo p) s
  unfolding step_at
  least_step at full first e = rw (full, first, e)

  -- word 2
  pub greatest-step :
      (at : ℕ) →
      p.closes ≡ true → s ≡ 1 → at ≡ place geo p.block greatest_word → Next (Program at p.bounds.greatest) ≡ step_at (closes_with geo p) s
  unfolding step_at
  greatest-step at full second e = rw (full, second, e)

  -- no step is left behind those two
  pub closed-step : p.closes ≡ true → 2 ≤ s → Done ≡ step_at (closes_with geo p) s
  closed-step full l = rw full (sym (step_past _ s l))

  -- nor is there any where the block is not full then
  pub open_step : p.closes ≡ false → Done ≡ step_at (closes_with geo p) s
  open_step not_full = rw not_full (sym (step_past [] s (omega arith)))

  -- ---- (d) and (e), then the old entry

  abbrev entry_place : ℕ
  entry_place = place geo p.block (entry_word geo p.slot)

  abbrev twice : List Step
  twice = Program entry_place (0xE0000000 + p.number) ∷ Program entry_place (0xC0000000 + p.number) ∷ []

  abbrev invalid : ℕ
  invalid = cleared (cleared p.entry current_bit) valid_bit

  -- (d)
  pub begin-step : (at w : ℕ) → s ≡ 0 → at ≡ entry_place → w ≡ 0xE0000000 + p.number → Next (Program at w) ≡ step_at (behind_contents geo p) s
  unfolding step_at
  begin-step at w first e f = rw (first, e, f)

  -- (e)
  pub complete-step : (at w : ℕ) → s ≡ 1 → at ≡ entry_place → w ≡ 0xC0000000 + p.number → Next (Program at w) ≡ step_at (behind_contents geo p) s
  unfolding step_at
  complete-step at w second e f = rw (second, e, f)

  -- (f)
  pub retire-step :
      (b i at w : ℕ) →
      p.old ≡ At b i → s ≡ 2 → at ≡ place geo b (entry_word geo i) → w ≡ invalid → Next (Program at w) ≡ step_at (behind_contents geo p) s
  retire-step = entry-step geo p.old invalid twice (closes_with geo p) s

  -- and (g) behind them, whether there was an old entry or not
  pub after-retired :
      (b i k : ℕ) {r : NextStep} → p.old ≡ At b i → r ≡ step_at (closes_with geo p) k → s ≡ 2 + suc k → r ≡ step_at (behind_contents geo p) s
  after-retired b i k = after-entry geo p.old invalid twice (closes_with geo p) s b i k

  pub none-retired : (k : ℕ) {r : NextStep} → p.old ≡ Nothing → r ≡ step_at (closes_with geo p) k → s ≡ 2 + k → r ≡ step_at (behind_contents geo p) s
  none-retired k = without-entry geo p.old invalid twice (closes_with geo p) s k

  module _ (ws : List ℕ) where
    -- ---- (c)

    -- a word of the contents
    pub content-step :
        (at w : ℕ) →
        s < sector_words →
        at ≡ place geo p.block (content_word geo p.slot s) → w ≡ get_or ws s 0 → Next (Program at w) ≡ step_at (from_contents geo p ws) s
    content-step at w l e f = rw (e, f) (sym (step-in-list sector_words _ (behind_contents geo p) l))

    -- and what comes behind them
    pub after-contents :
        (k : ℕ) {r : NextStep} → r ≡ step_at (behind_contents geo p) k → s ≡ sector_words + k → r ≡ step_at (from_contents geo p ws) s
    after-contents k same e = same ∙ sym (step-behind-list sector_words _ (behind_contents geo p) s k e)

    -- ---- (a), then the old entry

    abbrev taking : List Step
    taking = Program (place geo p.block (map_word p.slot)) p.map ∷ []

    abbrev outdated : ℕ
    outdated = cleared p.entry current_bit

    -- (a)
    pub take_step :
        (at w : ℕ) → s ≡ 0 → at ≡ place geo p.block (map_word p.slot) → w ≡ p.map → Next (Program at w) ≡ step_at (placement_steps geo p ws) s
    unfolding step_at placement_steps
    take_step at w first e f = rw (first, e, f)

    -- (b)
    pub outdate-step :
        (b i at w : ℕ) →
        p.old ≡ At b i →
        s ≡ 1 → at ≡ place geo b (entry_word geo i) → w ≡ outdated → Next (Program at w) ≡ step_at (placement_steps geo p ws) s
    unfolding placement_steps
    outdate-step = entry-step geo p.old outdated taking (from_contents geo p ws) s

    -- and (c) to (g) behind them, whether there was an old entry or not
    pub after-outdated :
        (b i k : ℕ) {r : NextStep} →
        p.old ≡ At b i → r ≡ step_at (from_contents geo p ws) k → s ≡ 1 + suc k → r ≡ step_at (placement_steps geo p ws) s
    unfolding placement_steps
    after-outdated b i k = after-entry geo p.old outdated taking (from_contents geo p ws) s b i k

    pub none-outdated :
        (k : ℕ) {r : NextStep} → p.old ≡ Nothing → r ≡ step_at (from_contents geo p ws) k → s ≡ 1 + k → r ≡ step_at (placement_steps geo p ws) s
    unfolding placement_steps
    none-outdated k = without-entry geo p.old outdated taking (from_contents geo p ws) s k
