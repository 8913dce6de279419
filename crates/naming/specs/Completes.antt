-- The numbers for which some entry of the image is complete, as a bit each: who supersedes an entry in passing (K4). Internal to the check.
use Rattle.std.specs.Prelude.{cond, ◌&&◌, List, ◌≡◌, ℕ, ◌<◌, ltb, length}
use Rattle.geometry.specs.declared.Geometry.{Geometry}
use Rattle.image.specs.declared.Slot.{Slot}
use Rattle.image.specs.declared.Slot.TheVariants.{Live, Dead}
use Rattle.image.specs.Words.{Image, entry}
use Rattle.image.specs.Slots.{number_in, is_complete, has_complete}
use Rattle.rules.specs.Marks.{mark_words, seen}

-- slots as if only complete entries were live: the kinds by which the marks of these numbers are made (specs/Marks.antt of rules)
unfoldable pub complete_slot : Geometry → Image → ℕ → ℕ → Slot
complete_slot geo image b i =
    let e = entry geo image b i in
    cond (is_complete e && ltb (number_in e) geo.logical) (Live (number_in e)) Dead

-- marks that say of each number whether some entry of the image is complete for it
pub record Completes (geo : Geometry) (image : Image) (marks : List ℕ) : Type 0 where
  pub long : length marks ≡ mark_words
  pub says : (n : ℕ) → n < geo.logical → seen marks n ≡ has_complete geo image n
