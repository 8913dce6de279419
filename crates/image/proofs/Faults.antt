-- The first failing pair is the one that its laws describe: each statement of specs/Faults.antt, and what the check goes by. Assumes nothing.
use mathlib.Core.Path.{◌≡◌, refl, sym, ap, ◌∙◌}
use mathlib.Core.Logic.{◌≢◌, ◌↔◌, inl, inr, ⊎_elim}
use mathlib.Core.Bool.{Bool, true, false, not, cond, beq, ◌&&◌, ◌||◌, or-true, true≢false, false≢true}
use Prim.Native.Nat.{ℕ, ◌<◌, ◌≤◌}
use native.Mathlib.Omega.{arith}
use lib.Dec.{eqb, leb}
use lib.ListN.{get_or-eq_default}
use borrow.Author.Tests.{eq-eqb, ne_eqb, lt-ltb, le-ltb, leb-true, not-true, not-false}
use Rattle.ranges.specs.Range.{◌implies◌, all_below, any_below}
use Rattle.ranges.proofs.Tests.{both-pass, all-at, all_of, not-all, all-fails, any_at, any_of, either-passes, passes-or-fails}
use Rattle.ranges.proofs.Searches.{first-is, first-before, best-passes, best_none, best-some}
use Rattle.geometry.specs.declared.Geometry.{Geometry}
use Rattle.geometry.specs.Geometry.{d}
use Rattle.image.specs.declared.Fault.{Fault}
use Rattle.image.specs.declared.Slot.{Slot}
use Rattle.image.specs.declared.Slot.TheVariants.{Free, Live, Dead, Faulty, Superseded}
use Rattle.image.specs.Words.{Image}
use Rattle.image.specs.Slots.{slot, is_live_with, is_live_for, live_in}
use Rattle.image.specs.WellFormed.{R1, R2, R3, R4, R5, R6, R7, R8, live_before, sound_block, sound, well_formed, broken_rule}
use Rattle.image.specs.Faults.{pair, is_bad, first_bad_block, first_fault, rules_of, rule_in, FaultExactlyWhenMalformed, NamedRuleIsBroken, EarlierBlocksAreSound, EarlierRulesHold, R6ComesLast, LiveBeforeToo, R5ChargesTheLaterSlot, NoOtherPairIsFirst}
use Rattle.image.proofs.Entries.{beq-true}
use Rattle.image.proofs.Facts.{live-for, live-is-for}

-- ---- one block

-- What x, the first rule that fails, says, where `kept` is whether all hold: it is 0 exactly there, and never 6; where it is a rule, that one
-- fails, and those before it hold; where it is none, all hold.
abbrev is_first_broken : Bool → ℕ → (ℕ → Bool) → Bool
is_first_broken kept x rule =
    beq kept (eqb x 0)
    && (not (eqb x 6) && (leb x 8 && ((not (eqb x 0) implies not (rule x)) && all_below (cond (eqb x 0) 9 x) (λ q. not (eqb q 6) implies rule q))))

pub record FirstBroken (kept : Bool) (x : ℕ) (rule : ℕ → Bool) : Type 0 where
  pub all : kept ≡ eqb x 0
  pub own : x ≢ 6
  pub small : x ≤ 8
  pub fails : x ≢ 0 → rule x ≡ false
  pub before : (q : ℕ) → q < cond (eqb x 0) 9 x → q ≢ 6 → rule q ≡ true

first-broken-facts : (kept : Bool) (x : ℕ) (rule : ℕ → Bool) → is_first_broken kept x rule ≡ true → FirstBroken kept x rule
first-broken-facts kept x rule t =
    let all = both-pass (beq kept (eqb x 0)) _ t in
    let own = both-pass (not (eqb x 6)) _ all.1 in
    let small = both-pass (leb x 8) _ own.1 in
    let last = both-pass (not (eqb x 0) implies not (rule x)) _ small.1 in
    record {
      all = beq-true kept (eqb x 0) all.0;
      own = λ e. true≢false (sym own.0 ∙ ap not (eq-eqb x 6 e));
      small = leb-true x 8 small.0;
      fails = λ n. not-true (rule x) (rw (ne_eqb x 0 n) at last.0);
      before = λ q l n. rw (ne_eqb q 6 n) at (all-at (cond (eqb x 0) 9 x) _ last.1 q l);
    }

module _ (geo : Geometry) (image : Image) (b : ℕ) where
  pub first-broken : FirstBroken (sound_block geo image b) (broken_rule geo image b) (rule_in geo image b)
  unfolding sound_block broken_rule all_below
  first-broken =
      first-broken-facts (sound_block geo image b) (broken_rule geo image b) (rule_in geo image b)
      (go (R1 geo image b) (R2 geo image b) (R3 geo image b) (R4 geo image b) (R5 geo image b) (R7 geo image b) (R8 geo image b) refl refl refl refl refl refl refl)
    where
      named :
          (x : ℕ) →
          broken_rule geo image b ≡ x →
          is_first_broken (sound_block geo image b) x (rule_in geo image b) ≡ true →
          is_first_broken (sound_block geo image b) (broken_rule geo image b) (rule_in geo image b) ≡ true
      named x e t = ap (λ (y : ℕ). is_first_broken (sound_block geo image b) y (rule_in geo image b)) e ∙ t

      go :
          (r₁ r₂ r₃ r₄ r₅ r₇ r₈ : Bool) →
          R1 geo image b ≡ r₁ →
          R2 geo image b ≡ r₂ →
          R3 geo image b ≡ r₃ →
          R4 geo image b ≡ r₄ →
          R5 geo image b ≡ r₅ →
          R7 geo image b ≡ r₇ →
          R8 geo image b ≡ r₈ →
          is_first_broken (sound_block geo image b) (broken_rule geo image b) (rule_in geo image b) ≡ true
      go false r₂ r₃ r₄ r₅ r₇ r₈ e₁ e₂ e₃ e₄ e₅ e₇ e₈ = named 1 (rw e₁) (rw e₁)
      go true false r₃ r₄ r₅ r₇ r₈ e₁ e₂ e₃ e₄ e₅ e₇ e₈ = named 2 (rw (e₁, e₂)) (rw (e₁, e₂))
      go true true false r₄ r₅ r₇ r₈ e₁ e₂ e₃ e₄ e₅ e₇ e₈ = named 3 (rw (e₁, e₂, e₃)) (rw (e₁, e₂, e₃))
      go true true true false r₅ r₇ r₈ e₁ e₂ e₃ e₄ e₅ e₇ e₈ = named 4 (rw (e₁, e₂, e₃, e₄)) (rw (e₁, e₂, e₃, e₄))
      go true true true true false r₇ r₈ e₁ e₂ e₃ e₄ e₅ e₇ e₈ = named 5 (rw (e₁, e₂, e₃, e₄, e₅)) (rw (e₁, e₂, e₃, e₄, e₅))
      go true true true true true false r₈ e₁ e₂ e₃ e₄ e₅ e₇ e₈ = named 7 (rw (e₁, e₂, e₃, e₄, e₅, e₇)) (rw (e₁, e₂, e₃, e₄, e₅, e₇))
      go true true true true true true false e₁ e₂ e₃ e₄ e₅ e₇ e₈ = named 8 (rw (e₁, e₂, e₃, e₄, e₅, e₇, e₈)) (rw (e₁, e₂, e₃, e₄, e₅, e₇, e₈))
      go true true true true true true true e₁ e₂ e₃ e₄ e₅ e₇ e₈ = named 0 (rw (e₁, e₂, e₃, e₄, e₅, e₇, e₈)) (rw (e₁, e₂, e₃, e₄, e₅, e₇, e₈))

-- ---- the three ways that a check can end
module _ (geo : Geometry) (image : Image) where
  -- a block is bad exactly where it is not sound
  bad-is : (b : ℕ) → is_bad geo image b ≡ not (sound_block geo image b)
  bad-is b = ap not (sym (first-broken geo image b).all)

  -- a block fails, and those before it do not
  pub fault-here :
      (b : ℕ) →
      b < geo.blocks →
      ((c : ℕ) → c < b → sound_block geo image c ≡ true) →
      broken_rule geo image b ≢ 0 →
      first_fault geo image ≡ pair b (broken_rule geo image b)
  unfolding first_fault
  fault-here b l sounds n =
      let here : first_bad_block geo image ≡ b =
      first-is geo.blocks (is_bad geo image) b (omega arith) (λ c k. bad-is c ∙ ap not (sounds c k)) (λ k. ap not (ne_eqb _ 0 n)) in
      rw (here, lt-ltb b geo.blocks l)

  -- none does: R6 decides
  none-bad : sound geo image ≡ true → first_bad_block geo image ≡ geo.blocks
  unfolding sound
  none-bad t = best_none _ geo.blocks (is_bad geo image) (λ b l. bad-is b ∙ ap not (all-at geo.blocks _ t b l))

  pub fault-last : sound geo image ≡ true → R6 geo image ≡ false → first_fault geo image ≡ pair geo.blocks 6
  unfolding first_fault
  fault-last t r = rw (none-bad t, le-ltb geo.blocks geo.blocks (omega arith), r)

  pub fault-none : sound geo image ≡ true → R6 geo image ≡ true → first_fault geo image ≡ pair 0 0
  unfolding first_fault
  fault-none t r = rw (none-bad t, le-ltb geo.blocks geo.blocks (omega arith), r)

  -- what either says of the whole image
  unsound-fails : (b : ℕ) → b < geo.blocks → broken_rule geo image b ≢ 0 → well_formed geo image ≡ false
  unfolding well_formed sound
  unsound-fails b l n =
      ap (◌&& R6 geo image) (not-all geo.blocks (sound_block geo image) l ((first-broken geo image b).all ∙ ne_eqb _ 0 n))

  sound-decides : sound geo image ≡ true → well_formed geo image ≡ R6 geo image
  unfolding well_formed
  sound-decides t = ap (◌&& R6 geo image) t

  -- so a check ends in a block, after all of them, or nowhere
  data Ends : Type 0 where
    in_block :
        (b : ℕ) →
        b < geo.blocks →
        ((c : ℕ) → c < b → sound_block geo image c ≡ true) →
        broken_rule geo image b ≢ 0 →
        first_fault geo image ≡ pair b (broken_rule geo image b) →
        well_formed geo image ≡ false →
        Ends
    in_image : sound geo image ≡ true → R6 geo image ≡ false → first_fault geo image ≡ pair geo.blocks 6 → well_formed geo image ≡ false → Ends
    nowhere : first_fault geo image ≡ pair 0 0 → well_formed geo image ≡ true → Ends

  ends : Ends
  unfolding sound
  ends = ⊎_elim all_sound not_sound (passes-or-fails (sound geo image))
    where
      all_sound : sound geo image ≡ true → Ends
      all_sound t =
          ⊎_elim
          (λ r. nowhere (fault-none t r) (sound-decides t ∙ r))
          (λ r. in_image t r (fault-last t r) (sound-decides t ∙ r))
          (passes-or-fails (R6 geo image))

      not_sound : sound geo image ≡ false → Ends
      not_sound t =
          let (b, l, fails) = all-fails geo.blocks (sound_block geo image) t in
          let first = best-some _ geo.blocks (is_bad geo image) l (bad-is b ∙ ap not fails) in
          let sounds : (c : ℕ) → c < first_bad_block geo image → sound_block geo image c ≡ true =
          λ c k. not-false _ (sym (bad-is c) ∙ first-before geo.blocks (is_bad geo image) k) in
          let breaks : broken_rule geo image (first_bad_block geo image) ≢ 0 =
          λ e. true≢false (sym (best-passes _ geo.blocks (is_bad geo image) first) ∙ ap not (eq-eqb _ 0 e)) in
          in_block (first_bad_block geo image) first sounds breaks (fault-here _ first sounds breaks) (unsound-fails _ first breaks)

-- ---- the statements

block_of : {f : Fault} {b r : ℕ} → f ≡ pair b r → f.block ≡ b
block_of e = ap (λ x. x.block) e

rule-of : {f : Fault} {b r : ℕ} → f ≡ pair b r → f.rule ≡ r
rule-of e = ap (λ x. x.rule) e

pub fault-exactly-when-malformed : FaultExactlyWhenMalformed
fault-exactly-when-malformed geo image = go (ends geo image)
  where
    go : Ends geo image → (((first_fault geo image).rule ≢ 0) ↔ (well_formed geo image ≡ false)) × (well_formed geo image ≡ true → first_fault geo image ≡ pair 0 0)
    go (in_block b l sounds breaks e w) =
        ((λ n. w, λ q. λ z. breaks (sym (rule-of e) ∙ z)), λ t. absurd (true≢false (sym t ∙ w)))
    go (in_image t r e w) = ((λ n. w, λ q. λ z. omega (arith, rule-of e)), λ t. absurd (true≢false (sym t ∙ w)))
    go (nowhere e w) = ((λ n. absurd (n (rule-of e)), λ q. absurd (true≢false (sym w ∙ q))), λ t. e)

pub named-rule-is-broken : NamedRuleIsBroken
named-rule-is-broken geo image q = go (ends geo image)
  where
    go :
        Ends geo image →
        (1 ≤ (first_fault geo image).rule)
        × ((first_fault geo image).rule ≤ 8)
        × (rule_in geo image (first_fault geo image).block (first_fault geo image).rule ≡ false)
    go (in_block b l sounds breaks e w) =
        let own = first-broken geo image b in
        rw e (omega (arith, breaks), own.small, own.fails breaks)
    go (in_image t r e w) = rw e (omega arith, omega arith, r)
    go (nowhere e w) = absurd (true≢false (sym w ∙ q))

pub earlier-blocks-are-sound : EarlierBlocksAreSound
unfolding sound
earlier-blocks-are-sound geo image c = go (ends geo image)
  where
    go : Ends geo image → c < (first_fault geo image).block → sound_block geo image c ≡ true
    go (in_block b l sounds breaks e w) k = sounds c (rw (block_of e) at k)
    go (in_image t r e w) k = all-at geo.blocks _ t c (rw (block_of e) at k)
    go (nowhere e w) k = absurd (omega (arith, block_of e))

pub earlier-rules-hold : EarlierRulesHold
earlier-rules-hold geo image q = go (ends geo image)
  where
    go :
        Ends geo image →
        (first_fault geo image).block < geo.blocks →
        q < (first_fault geo image).rule →
        q ≢ 6 →
        rule_in geo image (first_fault geo image).block q ≡ true
    go (in_block b l sounds breaks e w) there k n =
        ap (λ (c : ℕ). rule_in geo image c q) (block_of e)
        ∙ (first-broken geo image b).before q (rw (ne_eqb (broken_rule geo image b) 0 breaks) (rw (rule-of e) at k)) n
    go (in_image t r e w) there k n = absurd (omega (arith, block_of e))
    go (nowhere e w) there k n = absurd (omega (arith, rule-of e))

pub r6-comes-last : R6ComesLast
r6-comes-last geo image q = go (ends geo image)
  where
    go :
        Ends geo image →
        ((first_fault geo image).rule ≡ 6 → ((first_fault geo image).block ≡ geo.blocks) × (sound geo image ≡ true))
        × ((first_fault geo image).rule ≢ 6 → (first_fault geo image).block < geo.blocks)
    go (in_block b l sounds breaks e w) =
        (λ six. absurd ((first-broken geo image b).own (sym (rule-of e) ∙ six)), λ n. omega (arith, block_of e))
    go (in_image t r e w) = (λ six. (block_of e, t), λ n. absurd (n (rule-of e)))
    go (nowhere e w) = absurd (true≢false (sym w ∙ q))

pub r5-charges-the-later-slot : R5ChargesTheLaterSlot
unfolding R5
r5-charges-the-later-slot geo image b = (charged, breaks)
  where
    -- a slot whose number passes a test
    live-with : (f : ℕ → Bool) (s : Slot) → is_live_with f s ≡ true → (n : ℕ) × (s ≡ Live n) × (f n ≡ true)
    live-with f Free t = absurd (false≢true t)
    live-with f (Live n) t = (n, refl, t)
    live-with f Dead t = absurd (false≢true t)
    live-with f Faulty t = absurd (false≢true t)
    live-with f Superseded t = absurd (false≢true t)

    charged : R5 geo image b ≡ false → LiveBeforeToo geo image b
    charged r =
        let (i, l, fails) = all-fails (d geo) _ r in
        let (n, live, seen) = live-with (live_before geo (slot geo image) b i) (slot geo image b i) (not-false _ fails) in
        ⊎_elim
        (λ t.
        let (c, before, there) = any_at b _ t in
        let (j, k, same) = any_at (d geo) _ there in
        (n, i, c, j, l, k, live, live-for n _ same, inl before))
        (λ t.
        let (j, before, same) = any_at i _ t in
        (n, i, b, j, l, omega arith, live, live-for n _ same, inr (refl, before)))
        (either-passes (any_below b (λ c. live_in geo image c n)) _ seen)

    breaks : LiveBeforeToo geo image b → R5 geo image b ≡ false
    breaks (n, i, c, j, l, k, live, same, before) =
        not-all (d geo) (λ i. not (is_live_with (live_before geo (slot geo image) b i) (slot geo image b i))) l
        (rw live (ap not (⊎_elim earlier here before)))
      where
        earlier : c < b → live_before geo (slot geo image) b i n ≡ true
        earlier h =
            ap (◌|| any_below i (λ q. is_live_for n (slot geo image b q)))
            (any_of b (λ a. live_in geo image a n) h (any_of (d geo) (λ q. is_live_for n (slot geo image c q)) k (live-is-for same)))

        here : (c ≡ b) × (j < i) → live_before geo (slot geo image) b i n ≡ true
        here (e, h) =
            ap (any_below b (λ a. live_in geo image a n) ||◌) (any_of i (λ q. is_live_for n (slot geo image b q)) h (live-is-for (rw e at same)))
            ∙ or-true (any_below b (λ a. live_in geo image a n))

pub no-other-pair-is-first : NoOtherPairIsFirst
unfolding sound
no-other-pair-is-first geo image b r place fails sounds before = ⊎_elim of-block of_image place
  where
    of_image : (b ≡ geo.blocks) × (r ≡ 6) → first_fault geo image ≡ pair b r
    of_image (last, six) =
        let all : sound geo image ≡ true = all_of geo.blocks (λ c l. sounds c (omega arith)) in
        fault-last geo image all (rw six at fails) ∙ rw (last, six) refl

    -- the first rule that the block breaks does not come before r, nor r before it
    of-block : (b < geo.blocks) × (r ≢ 6) → first_fault geo image ≡ pair b r
    of-block (l, own) =
        let first = first-broken geo image b in
        let no-rule : 9 ≤ r → ⊥ = λ h. true≢false (sym (get_or-eq_default (rules_of geo image b) true h) ∙ fails) in
        let breaks : broken_rule geo image b ≢ 0 = λ z. true≢false (sym (first.before r (rw z (omega arith)) own) ∙ fails) in
        let not-before : broken_rule geo image b < r → ⊥ = λ h. true≢false (sym (before _ l h first.own) ∙ first.fails breaks) in
        let not_after : r < broken_rule geo image b → ⊥ =
        λ h. true≢false (sym (first.before r (rw (ne_eqb (broken_rule geo image b) 0 breaks) h) own) ∙ fails) in
        let same : broken_rule geo image b ≡ r = omega arith in
        fault-here geo image b l sounds breaks ∙ ap (pair b) same
