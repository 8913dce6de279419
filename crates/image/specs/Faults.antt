-- K1: the first failing pair, a block and a rule, and the laws that say which pair it is (FORMAT.md, The first failing pair).
use Rattle.std.specs.Prelude.{Bool, true, false, not, cond, List, [], ◌∷◌, ◌≢◌, ◌↔◌, ◌⊎◌, ◌≡◌, ℕ, ◌<◌, ◌≤◌, ltb, eqb, get_or}
use Rattle.ranges.specs.Range.{first_below}
use Rattle.geometry.specs.declared.Geometry.{Geometry}
use Rattle.geometry.specs.Geometry.{d}
use Rattle.image.specs.declared.Fault.{Fault}
use Rattle.image.specs.declared.Slot.TheVariants.{Live}
use Rattle.image.specs.Words.{Image}
use Rattle.image.specs.Slots.{slot}
use Rattle.image.specs.WellFormed.{R1, R2, R3, R4, R5, R6, R7, R8, sound_block, sound, well_formed, broken_rule}

-- a pair: a block, and a rule by its number
abbrev pub pair : ℕ → ℕ → Fault
pair b r = record { block = b; rule = r }

module _ (geo : Geometry) (image : Image) where
  -- a block that breaks a rule of its own, and the first such block; B where there is none
  abbrev pub is_bad : ℕ → Bool
  is_bad b = not (eqb (broken_rule geo image b) 0)

  abbrev pub first_bad_block : ℕ
  first_bad_block = first_below geo.blocks is_bad

  -- that block with the first rule that it breaks; where every block keeps its own rules and none is blank, B with R6; and two zeros where
  -- nothing fails
  unfoldable pub first_fault : Fault
  first_fault =
      cond (ltb first_bad_block geo.blocks) (pair first_bad_block (broken_rule geo image first_bad_block))
      (cond (not (R6 geo image)) (pair geo.blocks 6)
      (pair 0 0))

  -- the rules by their numbers, of block b: none has the number 0, and R6 is the whole image's, whatever b is
  abbrev pub rules_of : ℕ → List Bool
  rules_of b =
      true
      ∷ R1 geo image b
      ∷ R2 geo image b
      ∷ R3 geo image b
      ∷ R4 geo image b
      ∷ R5 geo image b
      ∷ R6 geo image
      ∷ R7 geo image b
      ∷ R8 geo image b
      ∷ []

  abbrev pub rule_in : ℕ → ℕ → Bool
  rule_in b r = get_or (rules_of b) r true

-- ---- What the pair is, as statements about any words of any geometry. proofs/Faults.antt proves each under the name in small letters.

-- There is a pair exactly where the image is not well formed; where it is well formed, block and rule are 0.
abbrev pub FaultExactlyWhenMalformed : Type 0
FaultExactlyWhenMalformed =
    (geo : Geometry) (image : Image) →
    (((first_fault geo image).rule ≢ 0) ↔ (well_formed geo image ≡ false)) × (well_formed geo image ≡ true → first_fault geo image ≡ pair 0 0)

-- The named rule is one of the eight, and it is broken in the named block.
abbrev pub NamedRuleIsBroken : Type 0
NamedRuleIsBroken =
    (geo : Geometry) (image : Image) →
    well_formed geo image ≡ false →
    (1 ≤ (first_fault geo image).rule)
    × ((first_fault geo image).rule ≤ 8)
    × (rule_in geo image (first_fault geo image).block (first_fault geo image).rule ≡ false)

-- Every block before the named one keeps all its rules.
abbrev pub EarlierBlocksAreSound : Type 0
EarlierBlocksAreSound = (geo : Geometry) (image : Image) (c : ℕ) → c < (first_fault geo image).block → sound_block geo image c ≡ true

-- In the named block every rule before the named one holds: blocks are asked for R1 to R5, R7 and R8, in the order of these numbers.
abbrev pub EarlierRulesHold : Type 0
EarlierRulesHold =
    (geo : Geometry) (image : Image) (q : ℕ) →
    (first_fault geo image).block < geo.blocks →
    q < (first_fault geo image).rule →
    q ≢ 6 →
    rule_in geo image (first_fault geo image).block q ≡ true

-- R6 is asked last: it is named exactly with B, and only where every block keeps its seven rules; any other rule is named with a block that is there.
abbrev pub R6ComesLast : Type 0
R6ComesLast =
    (geo : Geometry) (image : Image) →
    well_formed geo image ≡ false →
    ((first_fault geo image).rule ≡ 6 → ((first_fault geo image).block ≡ geo.blocks) × (sound geo image ≡ true))
    × ((first_fault geo image).rule ≢ 6 → (first_fault geo image).block < geo.blocks)

-- R5 is charged to the block of the later slot: a block breaks it exactly where one of its slots is live for a number for which a slot before it is
-- live too, in an earlier block or in this one.
abbrev pub LiveBeforeToo : Geometry → Image → ℕ → Type 0
LiveBeforeToo geo image b =
    (n : ℕ) × (i : ℕ) × (c : ℕ) × (j : ℕ)
    × (i < d geo)
    × (j < d geo)
    × (slot geo image b i ≡ Live n)
    × (slot geo image c j ≡ Live n)
    × ((c < b) ⊎ ((c ≡ b) × (j < i)))

abbrev pub R5ChargesTheLaterSlot : Type 0
R5ChargesTheLaterSlot = (geo : Geometry) (image : Image) (b : ℕ) → (R5 geo image b ≡ false) ↔ LiveBeforeToo geo image b

-- No other pair is the first: one whose rule is broken, while all that comes before it holds, is `first_fault`. So nothing of that definition
-- is left to be believed, only the rules themselves.
abbrev pub NoOtherPairIsFirst : Type 0
NoOtherPairIsFirst =
    (geo : Geometry) (image : Image) (b r : ℕ) →
    ((b < geo.blocks) × (r ≢ 6)) ⊎ ((b ≡ geo.blocks) × (r ≡ 6)) →
    rule_in geo image b r ≡ false →
    ((c : ℕ) → c < b → sound_block geo image c ≡ true) →
    ((q : ℕ) → b < geo.blocks → q < r → q ≢ 6 → rule_in geo image b q ≡ true) →
    first_fault geo image ≡ pair b r
